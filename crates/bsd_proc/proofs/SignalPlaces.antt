-- Signals by their places in the table.
use Rattle.std.proofs.Common.{◌≡◌, ℕ, ◌<◌, zero, suc, List, [], ◌∷◌, get_or, length, refl, sym, ap, ◌∙◌, arith}
use Rattle.std.specs.Prelude.{nat_le}
use Rattle.bsd_abi.specs.declared.signals.BsdSig.{BsdSig}
use Rattle.bsd_abi.specs.declared.signals.BsdSig.TheVariants as signal
use Rattle.bsd_abi.specs.BsdSig.{place_of, is_real_time, all_signals}
use Rattle.bsd_abi.proofs.SignalTable.{all_signals-place}

-- the real-time signals are those from place 31 on
pub real_time-place : (s : BsdSig) → is_real_time s ≡ nat_le 31 (place_of s)
real_time-place signal.SIGHUP = refl
real_time-place signal.SIGINT = refl
real_time-place signal.SIGQUIT = refl
real_time-place signal.SIGILL = refl
real_time-place signal.SIGTRAP = refl
real_time-place signal.SIGABRT = refl
real_time-place signal.SIGBUS = refl
real_time-place signal.SIGFPE = refl
real_time-place signal.SIGKILL = refl
real_time-place signal.SIGUSR1 = refl
real_time-place signal.SIGSEGV = refl
real_time-place signal.SIGUSR2 = refl
real_time-place signal.SIGPIPE = refl
real_time-place signal.SIGALRM = refl
real_time-place signal.SIGTERM = refl
real_time-place signal.SIGSTKFLT = refl
real_time-place signal.SIGCHLD = refl
real_time-place signal.SIGCONT = refl
real_time-place signal.SIGSTOP = refl
real_time-place signal.SIGTSTP = refl
real_time-place signal.SIGTTIN = refl
real_time-place signal.SIGTTOU = refl
real_time-place signal.SIGURG = refl
real_time-place signal.SIGXCPU = refl
real_time-place signal.SIGXFSZ = refl
real_time-place signal.SIGVTALRM = refl
real_time-place signal.SIGPROF = refl
real_time-place signal.SIGWINCH = refl
real_time-place signal.SIGIO = refl
real_time-place signal.SIGPWR = refl
real_time-place signal.SIGSYS = refl
real_time-place signal.SIGRT0 = refl
real_time-place signal.SIGRT1 = refl
real_time-place signal.SIGRT2 = refl
real_time-place signal.SIGRT3 = refl
real_time-place signal.SIGRT4 = refl
real_time-place signal.SIGRT5 = refl
real_time-place signal.SIGRT6 = refl
real_time-place signal.SIGRT7 = refl
real_time-place signal.SIGRT8 = refl
real_time-place signal.SIGRT9 = refl
real_time-place signal.SIGRT10 = refl
real_time-place signal.SIGRT11 = refl
real_time-place signal.SIGRT12 = refl
real_time-place signal.SIGRT13 = refl
real_time-place signal.SIGRT14 = refl
real_time-place signal.SIGRT15 = refl
real_time-place signal.SIGRT16 = refl
real_time-place signal.SIGRT17 = refl
real_time-place signal.SIGRT18 = refl
real_time-place signal.SIGRT19 = refl
real_time-place signal.SIGRT20 = refl
real_time-place signal.SIGRT21 = refl
real_time-place signal.SIGRT22 = refl
real_time-place signal.SIGRT23 = refl
real_time-place signal.SIGRT24 = refl
real_time-place signal.SIGRT25 = refl
real_time-place signal.SIGRT26 = refl
real_time-place signal.SIGRT27 = refl
real_time-place signal.SIGRT28 = refl
real_time-place signal.SIGRT29 = refl
real_time-place signal.SIGRT30 = refl
real_time-place signal.SIGRT31 = refl
real_time-place signal.SIGRT32 = refl

-- a default doesn't matter within a list
get_or-default : {X : Type 0} (xs : List X) (k : ℕ) (d e : X) → k < length xs → get_or xs k d ≡ get_or xs k e
get_or-default [] k d e h = absurd (omega arith)
get_or-default (x ∷ xs) zero d e h = refl
get_or-default (x ∷ xs) (suc k) d e h = get_or-default xs k d e (omega arith)

-- signals of one place are one signal
pub same_place : (s t : BsdSig) → place_of s ≡ place_of t → s ≡ t
same_place s t e =
    sym (all_signals-place s).1
    ∙ ap (λ k. get_or all_signals k s) e
    ∙ get_or-default all_signals (place_of t) s t (all_signals-place t).0
    ∙ (all_signals-place t).1
