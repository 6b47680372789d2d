-- The table of signals gives back each signal by its number and by its place.
use Rattle.std.proofs.Common.{◌≡◌, ◌≢◌, ℕ, zero, suc, ◌+◌, ◌<◌, ◌==◌, Bool, true, List, [], ◌∷◌, length, get_or, refl, ap, arith, lit<}
use Rattle.std.specs.List.{list_all, All}
use Rattle.std.proofs.lemmas.List.Elements.{All-contains}
use Rattle.std.proofs.lemmas.List.Sums.{AllPass-from_list_all}
use Rattle.std.specs.Prelude.{◌&&◌, Option, None, Some, IfNone}
use Rattle.bsd_abi.specs.declared.signals.BsdSig.{BsdSig}
use Rattle.bsd_abi.specs.declared.signals.BsdSig.TheVariants as signal
use Rattle.bsd_abi.specs.BsdSig.{linux_signal_number, bsd_signal_number, place_of, all_signals, bsd_signal_of}

-- each signal is found by its number
pub bsd_signal_of-number : (s : BsdSig) → bsd_signal_of (bsd_signal_number s) ≡ Some s
unfolding bsd_signal_of
bsd_signal_of-number signal.SIGHUP = refl
bsd_signal_of-number signal.SIGINT = refl
bsd_signal_of-number signal.SIGQUIT = refl
bsd_signal_of-number signal.SIGILL = refl
bsd_signal_of-number signal.SIGTRAP = refl
bsd_signal_of-number signal.SIGABRT = refl
bsd_signal_of-number signal.SIGBUS = refl
bsd_signal_of-number signal.SIGFPE = refl
bsd_signal_of-number signal.SIGKILL = refl
bsd_signal_of-number signal.SIGUSR1 = refl
bsd_signal_of-number signal.SIGSEGV = refl
bsd_signal_of-number signal.SIGUSR2 = refl
bsd_signal_of-number signal.SIGPIPE = refl
bsd_signal_of-number signal.SIGALRM = refl
bsd_signal_of-number signal.SIGTERM = refl
bsd_signal_of-number signal.SIGSTKFLT = refl
bsd_signal_of-number signal.SIGCHLD = refl
bsd_signal_of-number signal.SIGCONT = refl
bsd_signal_of-number signal.SIGSTOP = refl
bsd_signal_of-number signal.SIGTSTP = refl
bsd_signal_of-number signal.SIGTTIN = refl
bsd_signal_of-number signal.SIGTTOU = refl
bsd_signal_of-number signal.SIGURG = refl
bsd_signal_of-number signal.SIGXCPU = refl
bsd_signal_of-number signal.SIGXFSZ = refl
bsd_signal_of-number signal.SIGVTALRM = refl
bsd_signal_of-number signal.SIGPROF = refl
bsd_signal_of-number signal.SIGWINCH = refl
bsd_signal_of-number signal.SIGIO = refl
bsd_signal_of-number signal.SIGPWR = refl
bsd_signal_of-number signal.SIGSYS = refl
bsd_signal_of-number signal.SIGRT0 = refl
bsd_signal_of-number signal.SIGRT1 = refl
bsd_signal_of-number signal.SIGRT2 = refl
bsd_signal_of-number signal.SIGRT3 = refl
bsd_signal_of-number signal.SIGRT4 = refl
bsd_signal_of-number signal.SIGRT5 = refl
bsd_signal_of-number signal.SIGRT6 = refl
bsd_signal_of-number signal.SIGRT7 = refl
bsd_signal_of-number signal.SIGRT8 = refl
bsd_signal_of-number signal.SIGRT9 = refl
bsd_signal_of-number signal.SIGRT10 = refl
bsd_signal_of-number signal.SIGRT11 = refl
bsd_signal_of-number signal.SIGRT12 = refl
bsd_signal_of-number signal.SIGRT13 = refl
bsd_signal_of-number signal.SIGRT14 = refl
bsd_signal_of-number signal.SIGRT15 = refl
bsd_signal_of-number signal.SIGRT16 = refl
bsd_signal_of-number signal.SIGRT17 = refl
bsd_signal_of-number signal.SIGRT18 = refl
bsd_signal_of-number signal.SIGRT19 = refl
bsd_signal_of-number signal.SIGRT20 = refl
bsd_signal_of-number signal.SIGRT21 = refl
bsd_signal_of-number signal.SIGRT22 = refl
bsd_signal_of-number signal.SIGRT23 = refl
bsd_signal_of-number signal.SIGRT24 = refl
bsd_signal_of-number signal.SIGRT25 = refl
bsd_signal_of-number signal.SIGRT26 = refl
bsd_signal_of-number signal.SIGRT27 = refl
bsd_signal_of-number signal.SIGRT28 = refl
bsd_signal_of-number signal.SIGRT29 = refl
bsd_signal_of-number signal.SIGRT30 = refl
bsd_signal_of-number signal.SIGRT31 = refl
bsd_signal_of-number signal.SIGRT32 = refl

-- where none is found, no signal has the number
pub none_has : (found : Option BsdSig) (n : ℕ) → found ≡ bsd_signal_of n
    → IfNone found ((s : BsdSig) → bsd_signal_number s ≢ n)
none_has None n is = λ s has. (cc (bsd_signal_of-number s, ap bsd_signal_of has))
none_has (Some s) n is = tt

-- the Linux numbers of these signals rise by one from n on
abbrev pub is_counted : ℕ → List BsdSig → Bool
is_counted n [] = true
is_counted n (s ∷ signals) = (linux_signal_number s == n) && is_counted (n + 1) signals

-- so the one at place k has the number n + k
pub number-counted : (signals : List BsdSig) (n k : ℕ) (d : BsdSig) → is_counted n signals ≡ true → k < length signals
    → linux_signal_number (get_or signals k d) ≡ n + k
number-counted [] n k d is within = absurd (omega arith)
number-counted (s ∷ signals) n zero d is within = grind arith
number-counted (s ∷ signals) n (suc k) d is within =
    let rest : linux_signal_number (get_or signals k d) ≡ n + 1 + k = number-counted signals (n + 1) k d (grind arith) (omega arith) in
    omega arith

-- the signal at a place has the number that is one greater
pub number-at : (k : ℕ) (d : BsdSig) → k < 64 → linux_signal_number (get_or all_signals k d) ≡ k + 1
number-at k d within = omega (arith, number-counted all_signals 1 k d refl within)

-- each signal stands at its place
pub all_signals-place : (s : BsdSig) → (place_of s < 64) × (get_or all_signals (place_of s) s ≡ s)
all_signals-place signal.SIGHUP = (lit< tt, refl)
all_signals-place signal.SIGINT = (lit< tt, refl)
all_signals-place signal.SIGQUIT = (lit< tt, refl)
all_signals-place signal.SIGILL = (lit< tt, refl)
all_signals-place signal.SIGTRAP = (lit< tt, refl)
all_signals-place signal.SIGABRT = (lit< tt, refl)
all_signals-place signal.SIGBUS = (lit< tt, refl)
all_signals-place signal.SIGFPE = (lit< tt, refl)
all_signals-place signal.SIGKILL = (lit< tt, refl)
all_signals-place signal.SIGUSR1 = (lit< tt, refl)
all_signals-place signal.SIGSEGV = (lit< tt, refl)
all_signals-place signal.SIGUSR2 = (lit< tt, refl)
all_signals-place signal.SIGPIPE = (lit< tt, refl)
all_signals-place signal.SIGALRM = (lit< tt, refl)
all_signals-place signal.SIGTERM = (lit< tt, refl)
all_signals-place signal.SIGSTKFLT = (lit< tt, refl)
all_signals-place signal.SIGCHLD = (lit< tt, refl)
all_signals-place signal.SIGCONT = (lit< tt, refl)
all_signals-place signal.SIGSTOP = (lit< tt, refl)
all_signals-place signal.SIGTSTP = (lit< tt, refl)
all_signals-place signal.SIGTTIN = (lit< tt, refl)
all_signals-place signal.SIGTTOU = (lit< tt, refl)
all_signals-place signal.SIGURG = (lit< tt, refl)
all_signals-place signal.SIGXCPU = (lit< tt, refl)
all_signals-place signal.SIGXFSZ = (lit< tt, refl)
all_signals-place signal.SIGVTALRM = (lit< tt, refl)
all_signals-place signal.SIGPROF = (lit< tt, refl)
all_signals-place signal.SIGWINCH = (lit< tt, refl)
all_signals-place signal.SIGIO = (lit< tt, refl)
all_signals-place signal.SIGPWR = (lit< tt, refl)
all_signals-place signal.SIGSYS = (lit< tt, refl)
all_signals-place signal.SIGRT0 = (lit< tt, refl)
all_signals-place signal.SIGRT1 = (lit< tt, refl)
all_signals-place signal.SIGRT2 = (lit< tt, refl)
all_signals-place signal.SIGRT3 = (lit< tt, refl)
all_signals-place signal.SIGRT4 = (lit< tt, refl)
all_signals-place signal.SIGRT5 = (lit< tt, refl)
all_signals-place signal.SIGRT6 = (lit< tt, refl)
all_signals-place signal.SIGRT7 = (lit< tt, refl)
all_signals-place signal.SIGRT8 = (lit< tt, refl)
all_signals-place signal.SIGRT9 = (lit< tt, refl)
all_signals-place signal.SIGRT10 = (lit< tt, refl)
all_signals-place signal.SIGRT11 = (lit< tt, refl)
all_signals-place signal.SIGRT12 = (lit< tt, refl)
all_signals-place signal.SIGRT13 = (lit< tt, refl)
all_signals-place signal.SIGRT14 = (lit< tt, refl)
all_signals-place signal.SIGRT15 = (lit< tt, refl)
all_signals-place signal.SIGRT16 = (lit< tt, refl)
all_signals-place signal.SIGRT17 = (lit< tt, refl)
all_signals-place signal.SIGRT18 = (lit< tt, refl)
all_signals-place signal.SIGRT19 = (lit< tt, refl)
all_signals-place signal.SIGRT20 = (lit< tt, refl)
all_signals-place signal.SIGRT21 = (lit< tt, refl)
all_signals-place signal.SIGRT22 = (lit< tt, refl)
all_signals-place signal.SIGRT23 = (lit< tt, refl)
all_signals-place signal.SIGRT24 = (lit< tt, refl)
all_signals-place signal.SIGRT25 = (lit< tt, refl)
all_signals-place signal.SIGRT26 = (lit< tt, refl)
all_signals-place signal.SIGRT27 = (lit< tt, refl)
all_signals-place signal.SIGRT28 = (lit< tt, refl)
all_signals-place signal.SIGRT29 = (lit< tt, refl)
all_signals-place signal.SIGRT30 = (lit< tt, refl)
all_signals-place signal.SIGRT31 = (lit< tt, refl)
all_signals-place signal.SIGRT32 = (lit< tt, refl)

-- what holds of each signal of the list holds of each signal
pub each_listed : (P : BsdSig → Type 0) → All P all_signals → (s : BsdSig) → P s
each_listed P all s =
    let place = all_signals-place s in
    All-contains P all_signals s all (place_of s, place.0, place.1)

-- so a test that is true of the whole list is true of each signal
pub each_signal : (test : BsdSig → Bool) → list_all test all_signals ≡ true → (s : BsdSig) → test s ≡ true
each_signal test passed = each_listed (λ s. test s ≡ true) (AllPass-from_list_all test all_signals passed)
