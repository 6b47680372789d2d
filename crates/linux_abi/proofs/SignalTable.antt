-- The table of signals gives back each signal by its number and by its place.
use Rattle.std.proofs.Common.{◌≡◌, ◌∙◌, ℕ, ◌<◌, Bool, true, get_or, refl, ap, lit<}
use Rattle.std.specs.Prelude.{Some}
use Rattle.std.specs.List.{list_all, All}
use Rattle.std.proofs.lemmas.List.Elements.{All-contains}
use Rattle.std.proofs.lemmas.List.Sums.{AllPass-from_list_all}
use Rattle.linux_abi.specs.declared.signals.LinuxSig.{LinuxSig}
use Rattle.linux_abi.specs.declared.signals.LinuxSig.TheVariants as signal
use Rattle.linux_abi.specs.LinuxSig.{signal_number, linux_bit, linux_signals, linux_signal_of}

-- each signal is found by its number
pub linux_signal_of-number : (s : LinuxSig) → linux_signal_of (signal_number s) ≡ Some s
unfolding linux_signal_of
linux_signal_of-number signal.SIGHUP = refl
linux_signal_of-number signal.SIGINT = refl
linux_signal_of-number signal.SIGQUIT = refl
linux_signal_of-number signal.SIGILL = refl
linux_signal_of-number signal.SIGTRAP = refl
linux_signal_of-number signal.SIGABRT = refl
linux_signal_of-number signal.SIGBUS = refl
linux_signal_of-number signal.SIGFPE = refl
linux_signal_of-number signal.SIGKILL = refl
linux_signal_of-number signal.SIGUSR1 = refl
linux_signal_of-number signal.SIGSEGV = refl
linux_signal_of-number signal.SIGUSR2 = refl
linux_signal_of-number signal.SIGPIPE = refl
linux_signal_of-number signal.SIGALRM = refl
linux_signal_of-number signal.SIGTERM = refl
linux_signal_of-number signal.SIGSTKFLT = refl
linux_signal_of-number signal.SIGCHLD = refl
linux_signal_of-number signal.SIGCONT = refl
linux_signal_of-number signal.SIGSTOP = refl
linux_signal_of-number signal.SIGTSTP = refl
linux_signal_of-number signal.SIGTTIN = refl
linux_signal_of-number signal.SIGTTOU = refl
linux_signal_of-number signal.SIGURG = refl
linux_signal_of-number signal.SIGXCPU = refl
linux_signal_of-number signal.SIGXFSZ = refl
linux_signal_of-number signal.SIGVTALRM = refl
linux_signal_of-number signal.SIGPROF = refl
linux_signal_of-number signal.SIGWINCH = refl
linux_signal_of-number signal.SIGIO = refl
linux_signal_of-number signal.SIGPWR = refl
linux_signal_of-number signal.SIGSYS = refl
linux_signal_of-number signal.SIGRT0 = refl
linux_signal_of-number signal.SIGRT1 = refl
linux_signal_of-number signal.SIGRT2 = refl
linux_signal_of-number signal.SIGRT3 = refl
linux_signal_of-number signal.SIGRT4 = refl
linux_signal_of-number signal.SIGRT5 = refl
linux_signal_of-number signal.SIGRT6 = refl
linux_signal_of-number signal.SIGRT7 = refl
linux_signal_of-number signal.SIGRT8 = refl
linux_signal_of-number signal.SIGRT9 = refl
linux_signal_of-number signal.SIGRT10 = refl
linux_signal_of-number signal.SIGRT11 = refl
linux_signal_of-number signal.SIGRT12 = refl
linux_signal_of-number signal.SIGRT13 = refl
linux_signal_of-number signal.SIGRT14 = refl
linux_signal_of-number signal.SIGRT15 = refl
linux_signal_of-number signal.SIGRT16 = refl
linux_signal_of-number signal.SIGRT17 = refl
linux_signal_of-number signal.SIGRT18 = refl
linux_signal_of-number signal.SIGRT19 = refl
linux_signal_of-number signal.SIGRT20 = refl
linux_signal_of-number signal.SIGRT21 = refl
linux_signal_of-number signal.SIGRT22 = refl
linux_signal_of-number signal.SIGRT23 = refl
linux_signal_of-number signal.SIGRT24 = refl
linux_signal_of-number signal.SIGRT25 = refl
linux_signal_of-number signal.SIGRT26 = refl
linux_signal_of-number signal.SIGRT27 = refl
linux_signal_of-number signal.SIGRT28 = refl
linux_signal_of-number signal.SIGRT29 = refl
linux_signal_of-number signal.SIGRT30 = refl
linux_signal_of-number signal.SIGRT31 = refl
linux_signal_of-number signal.SIGRT32 = refl

pub linux_signal_of-is : (s : LinuxSig) (n : ℕ) → n ≡ signal_number s → linux_signal_of n ≡ Some s
linux_signal_of-is s n is = ap linux_signal_of is ∙ linux_signal_of-number s

-- each signal stands at the place of its bit
pub linux_signals-place : (s : LinuxSig) → (linux_bit s < 64) × (get_or linux_signals (linux_bit s) s ≡ s)
linux_signals-place signal.SIGHUP = (lit< tt, refl)
linux_signals-place signal.SIGINT = (lit< tt, refl)
linux_signals-place signal.SIGQUIT = (lit< tt, refl)
linux_signals-place signal.SIGILL = (lit< tt, refl)
linux_signals-place signal.SIGTRAP = (lit< tt, refl)
linux_signals-place signal.SIGABRT = (lit< tt, refl)
linux_signals-place signal.SIGBUS = (lit< tt, refl)
linux_signals-place signal.SIGFPE = (lit< tt, refl)
linux_signals-place signal.SIGKILL = (lit< tt, refl)
linux_signals-place signal.SIGUSR1 = (lit< tt, refl)
linux_signals-place signal.SIGSEGV = (lit< tt, refl)
linux_signals-place signal.SIGUSR2 = (lit< tt, refl)
linux_signals-place signal.SIGPIPE = (lit< tt, refl)
linux_signals-place signal.SIGALRM = (lit< tt, refl)
linux_signals-place signal.SIGTERM = (lit< tt, refl)
linux_signals-place signal.SIGSTKFLT = (lit< tt, refl)
linux_signals-place signal.SIGCHLD = (lit< tt, refl)
linux_signals-place signal.SIGCONT = (lit< tt, refl)
linux_signals-place signal.SIGSTOP = (lit< tt, refl)
linux_signals-place signal.SIGTSTP = (lit< tt, refl)
linux_signals-place signal.SIGTTIN = (lit< tt, refl)
linux_signals-place signal.SIGTTOU = (lit< tt, refl)
linux_signals-place signal.SIGURG = (lit< tt, refl)
linux_signals-place signal.SIGXCPU = (lit< tt, refl)
linux_signals-place signal.SIGXFSZ = (lit< tt, refl)
linux_signals-place signal.SIGVTALRM = (lit< tt, refl)
linux_signals-place signal.SIGPROF = (lit< tt, refl)
linux_signals-place signal.SIGWINCH = (lit< tt, refl)
linux_signals-place signal.SIGIO = (lit< tt, refl)
linux_signals-place signal.SIGPWR = (lit< tt, refl)
linux_signals-place signal.SIGSYS = (lit< tt, refl)
linux_signals-place signal.SIGRT0 = (lit< tt, refl)
linux_signals-place signal.SIGRT1 = (lit< tt, refl)
linux_signals-place signal.SIGRT2 = (lit< tt, refl)
linux_signals-place signal.SIGRT3 = (lit< tt, refl)
linux_signals-place signal.SIGRT4 = (lit< tt, refl)
linux_signals-place signal.SIGRT5 = (lit< tt, refl)
linux_signals-place signal.SIGRT6 = (lit< tt, refl)
linux_signals-place signal.SIGRT7 = (lit< tt, refl)
linux_signals-place signal.SIGRT8 = (lit< tt, refl)
linux_signals-place signal.SIGRT9 = (lit< tt, refl)
linux_signals-place signal.SIGRT10 = (lit< tt, refl)
linux_signals-place signal.SIGRT11 = (lit< tt, refl)
linux_signals-place signal.SIGRT12 = (lit< tt, refl)
linux_signals-place signal.SIGRT13 = (lit< tt, refl)
linux_signals-place signal.SIGRT14 = (lit< tt, refl)
linux_signals-place signal.SIGRT15 = (lit< tt, refl)
linux_signals-place signal.SIGRT16 = (lit< tt, refl)
linux_signals-place signal.SIGRT17 = (lit< tt, refl)
linux_signals-place signal.SIGRT18 = (lit< tt, refl)
linux_signals-place signal.SIGRT19 = (lit< tt, refl)
linux_signals-place signal.SIGRT20 = (lit< tt, refl)
linux_signals-place signal.SIGRT21 = (lit< tt, refl)
linux_signals-place signal.SIGRT22 = (lit< tt, refl)
linux_signals-place signal.SIGRT23 = (lit< tt, refl)
linux_signals-place signal.SIGRT24 = (lit< tt, refl)
linux_signals-place signal.SIGRT25 = (lit< tt, refl)
linux_signals-place signal.SIGRT26 = (lit< tt, refl)
linux_signals-place signal.SIGRT27 = (lit< tt, refl)
linux_signals-place signal.SIGRT28 = (lit< tt, refl)
linux_signals-place signal.SIGRT29 = (lit< tt, refl)
linux_signals-place signal.SIGRT30 = (lit< tt, refl)
linux_signals-place signal.SIGRT31 = (lit< tt, refl)
linux_signals-place signal.SIGRT32 = (lit< tt, refl)

-- what holds of each signal of the list holds of each signal
pub each_listed : (P : LinuxSig → Type 0) → All P linux_signals → (s : LinuxSig) → P s
each_listed P all s =
    let place = linux_signals-place s in
    All-contains P linux_signals s all (linux_bit s, place.0, place.1)

-- so a test that is true of the whole list is true of each signal
pub each_signal : (test : LinuxSig → Bool) → list_all test linux_signals ≡ true → (s : LinuxSig) → test s ≡ true
each_signal test passed = each_listed (λ s. test s ≡ true) (AllPass-from_list_all test linux_signals passed)
