-- What the handler and the flags of an action say. Source: sigaction(2).
use Rattle.std.specs.Prelude.{ℕ, ◌==◌, nat_lt, Bool}
use Rattle.linux_abi.specs.Flags.{has_flag}
use Rattle.linux_abi.specs.declared.signals.TheConstants.{SIG_DFL, SIG_IGN, SA_SIGINFO, SA_RESTORER, SA_ONSTACK, SA_RESTART, SA_NODEFER, SA_RESETHAND}

-- the handler is the default action
abbrev pub is_default : ℕ → Bool
is_default handler = handler == SIG_DFL

-- the handler is to ignore the signal
abbrev pub is_ignore : ℕ → Bool
is_ignore handler = handler == SIG_IGN

-- the handler is a function of the program
abbrev pub has_handler : ℕ → Bool
has_handler handler = nat_lt SIG_IGN handler

-- the handler gets the addresses of siginfo_t and ucontext
abbrev pub wants_info : ℕ → Bool
wants_info flags = has_flag SA_SIGINFO flags

-- the handler returns to the address that is given
abbrev pub has_restorer : ℕ → Bool
has_restorer flags = has_flag SA_RESTORER flags

-- the handler runs on the alternative stack
abbrev pub wants_stack : ℕ → Bool
wants_stack flags = has_flag SA_ONSTACK flags

-- a call that the handler interrupted starts again
abbrev pub restarts_calls : ℕ → Bool
restarts_calls flags = has_flag SA_RESTART flags

-- the signal is not blocked while its handler runs
abbrev pub is_not_deferred : ℕ → Bool
is_not_deferred flags = has_flag SA_NODEFER flags

-- the handler becomes the default one as it is taken
abbrev pub resets : ℕ → Bool
resets flags = has_flag SA_RESETHAND flags
