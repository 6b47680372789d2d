-- Linux's signals, by number.
-- Source: signal(7), the column of arm64, and sigprocmask(2). That SIGSTOP, SIGTSTP, SIGTTIN and SIGTTOU are
-- discarded by default in place of stopping is this project's own.
use Rattle.std.specs.Prelude.{ℕ, ◌-◌, ◌==◌, nat_le, Bool, true, false, List, [], ◌∷◌, find, Option}
use Rattle.linux_abi.specs.declared.signals.LinuxSig.{LinuxSig}
use Rattle.linux_abi.specs.declared.signals.LinuxSig.TheVariants as signal

-- the number of a signal
abbrev pub signal_number : LinuxSig → ℕ
signal_number signal.SIGHUP = 1
signal_number signal.SIGINT = 2
signal_number signal.SIGQUIT = 3
signal_number signal.SIGILL = 4
signal_number signal.SIGTRAP = 5
signal_number signal.SIGABRT = 6
signal_number signal.SIGBUS = 7
signal_number signal.SIGFPE = 8
signal_number signal.SIGKILL = 9
signal_number signal.SIGUSR1 = 10
signal_number signal.SIGSEGV = 11
signal_number signal.SIGUSR2 = 12
signal_number signal.SIGPIPE = 13
signal_number signal.SIGALRM = 14
signal_number signal.SIGTERM = 15
signal_number signal.SIGSTKFLT = 16
signal_number signal.SIGCHLD = 17
signal_number signal.SIGCONT = 18
signal_number signal.SIGSTOP = 19
signal_number signal.SIGTSTP = 20
signal_number signal.SIGTTIN = 21
signal_number signal.SIGTTOU = 22
signal_number signal.SIGURG = 23
signal_number signal.SIGXCPU = 24
signal_number signal.SIGXFSZ = 25
signal_number signal.SIGVTALRM = 26
signal_number signal.SIGPROF = 27
signal_number signal.SIGWINCH = 28
signal_number signal.SIGIO = 29
signal_number signal.SIGPWR = 30
signal_number signal.SIGSYS = 31
signal_number signal.SIGRT0 = 32
signal_number signal.SIGRT1 = 33
signal_number signal.SIGRT2 = 34
signal_number signal.SIGRT3 = 35
signal_number signal.SIGRT4 = 36
signal_number signal.SIGRT5 = 37
signal_number signal.SIGRT6 = 38
signal_number signal.SIGRT7 = 39
signal_number signal.SIGRT8 = 40
signal_number signal.SIGRT9 = 41
signal_number signal.SIGRT10 = 42
signal_number signal.SIGRT11 = 43
signal_number signal.SIGRT12 = 44
signal_number signal.SIGRT13 = 45
signal_number signal.SIGRT14 = 46
signal_number signal.SIGRT15 = 47
signal_number signal.SIGRT16 = 48
signal_number signal.SIGRT17 = 49
signal_number signal.SIGRT18 = 50
signal_number signal.SIGRT19 = 51
signal_number signal.SIGRT20 = 52
signal_number signal.SIGRT21 = 53
signal_number signal.SIGRT22 = 54
signal_number signal.SIGRT23 = 55
signal_number signal.SIGRT24 = 56
signal_number signal.SIGRT25 = 57
signal_number signal.SIGRT26 = 58
signal_number signal.SIGRT27 = 59
signal_number signal.SIGRT28 = 60
signal_number signal.SIGRT29 = 61
signal_number signal.SIGRT30 = 62
signal_number signal.SIGRT31 = 63
signal_number signal.SIGRT32 = 64

-- all signals, by rising number
abbrev pub linux_signals : List LinuxSig
linux_signals =
    signal.SIGHUP ∷ signal.SIGINT ∷ signal.SIGQUIT ∷ signal.SIGILL ∷ signal.SIGTRAP ∷
    signal.SIGABRT ∷ signal.SIGBUS ∷ signal.SIGFPE ∷ signal.SIGKILL ∷ signal.SIGUSR1 ∷
    signal.SIGSEGV ∷ signal.SIGUSR2 ∷ signal.SIGPIPE ∷ signal.SIGALRM ∷ signal.SIGTERM ∷
    signal.SIGSTKFLT ∷ signal.SIGCHLD ∷ signal.SIGCONT ∷ signal.SIGSTOP ∷ signal.SIGTSTP ∷
    signal.SIGTTIN ∷ signal.SIGTTOU ∷ signal.SIGURG ∷ signal.SIGXCPU ∷ signal.SIGXFSZ ∷
    signal.SIGVTALRM ∷ signal.SIGPROF ∷ signal.SIGWINCH ∷ signal.SIGIO ∷ signal.SIGPWR ∷
    signal.SIGSYS ∷ signal.SIGRT0 ∷ signal.SIGRT1 ∷ signal.SIGRT2 ∷ signal.SIGRT3 ∷ signal.SIGRT4 ∷
    signal.SIGRT5 ∷ signal.SIGRT6 ∷ signal.SIGRT7 ∷ signal.SIGRT8 ∷ signal.SIGRT9 ∷
    signal.SIGRT10 ∷ signal.SIGRT11 ∷ signal.SIGRT12 ∷ signal.SIGRT13 ∷ signal.SIGRT14 ∷
    signal.SIGRT15 ∷ signal.SIGRT16 ∷ signal.SIGRT17 ∷ signal.SIGRT18 ∷ signal.SIGRT19 ∷
    signal.SIGRT20 ∷ signal.SIGRT21 ∷ signal.SIGRT22 ∷ signal.SIGRT23 ∷ signal.SIGRT24 ∷
    signal.SIGRT25 ∷ signal.SIGRT26 ∷ signal.SIGRT27 ∷ signal.SIGRT28 ∷ signal.SIGRT29 ∷
    signal.SIGRT30 ∷ signal.SIGRT31 ∷ signal.SIGRT32 ∷ []

-- the signal of a number, if one has it
unfoldable pub linux_signal_of : ℕ → Option LinuxSig
linux_signal_of n = find (λ s. signal_number s == n) linux_signals

-- the bit of a signal in a set
abbrev pub linux_bit : LinuxSig → ℕ
linux_bit s = signal_number s - 1

-- whether it is a real-time signal, from SIGRT0 on
abbrev pub is_real_time : LinuxSig → Bool
is_real_time s = nat_le (signal_number signal.SIGRT0) (signal_number s)

-- whether the default action is to ignore or to discard it
abbrev pub is_dropped_by_default : LinuxSig → Bool
is_dropped_by_default signal.SIGCHLD = true
is_dropped_by_default signal.SIGCONT = true
is_dropped_by_default signal.SIGSTOP = true
is_dropped_by_default signal.SIGTSTP = true
is_dropped_by_default signal.SIGTTIN = true
is_dropped_by_default signal.SIGTTOU = true
is_dropped_by_default signal.SIGURG = true
is_dropped_by_default signal.SIGWINCH = true
is_dropped_by_default _ = false
