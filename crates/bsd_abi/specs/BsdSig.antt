-- The signals, with their numbers on Linux and on FreeBSD.
-- Source: signal(7) of Linux and signal(3) of FreeBSD, translated as FreeBSD's linux(4) does it. Which FreeBSD
-- numbers the real-time signals, SIGSTKFLT and SIGPWR have is this project's own, and so is that SIGSTOP,
-- SIGTSTP, SIGTTIN and SIGTTOU are discarded by default in place of stopping.
use Rattle.std.specs.Prelude.{ℕ, ◌-◌, ◌==◌, nat_le, Bool, true, false, List, [], ◌∷◌, find, Option}
use Rattle.bsd_abi.specs.declared.signals.BsdSig.{BsdSig}
use Rattle.bsd_abi.specs.declared.signals.BsdSig.TheVariants as signal

-- the table: a signal's number on Linux, and its number on FreeBSD
abbrev pub signal_numbers : BsdSig → ℕ × ℕ
signal_numbers signal.SIGHUP = (1, 1)
signal_numbers signal.SIGINT = (2, 2)
signal_numbers signal.SIGQUIT = (3, 3)
signal_numbers signal.SIGILL = (4, 4)
signal_numbers signal.SIGTRAP = (5, 5)
signal_numbers signal.SIGABRT = (6, 6)
signal_numbers signal.SIGBUS = (7, 10)
signal_numbers signal.SIGFPE = (8, 8)
signal_numbers signal.SIGKILL = (9, 9)
signal_numbers signal.SIGUSR1 = (10, 30)
signal_numbers signal.SIGSEGV = (11, 11)
signal_numbers signal.SIGUSR2 = (12, 31)
signal_numbers signal.SIGPIPE = (13, 13)
signal_numbers signal.SIGALRM = (14, 14)
signal_numbers signal.SIGTERM = (15, 15)
signal_numbers signal.SIGSTKFLT = (16, 98)
signal_numbers signal.SIGCHLD = (17, 20)
signal_numbers signal.SIGCONT = (18, 19)
signal_numbers signal.SIGSTOP = (19, 17)
signal_numbers signal.SIGTSTP = (20, 18)
signal_numbers signal.SIGTTIN = (21, 21)
signal_numbers signal.SIGTTOU = (22, 22)
signal_numbers signal.SIGURG = (23, 16)
signal_numbers signal.SIGXCPU = (24, 24)
signal_numbers signal.SIGXFSZ = (25, 25)
signal_numbers signal.SIGVTALRM = (26, 26)
signal_numbers signal.SIGPROF = (27, 27)
signal_numbers signal.SIGWINCH = (28, 28)
signal_numbers signal.SIGIO = (29, 23)
signal_numbers signal.SIGPWR = (30, 99)
signal_numbers signal.SIGSYS = (31, 12)
signal_numbers signal.SIGRT0 = (32, 65)
signal_numbers signal.SIGRT1 = (33, 66)
signal_numbers signal.SIGRT2 = (34, 67)
signal_numbers signal.SIGRT3 = (35, 68)
signal_numbers signal.SIGRT4 = (36, 69)
signal_numbers signal.SIGRT5 = (37, 70)
signal_numbers signal.SIGRT6 = (38, 71)
signal_numbers signal.SIGRT7 = (39, 72)
signal_numbers signal.SIGRT8 = (40, 73)
signal_numbers signal.SIGRT9 = (41, 74)
signal_numbers signal.SIGRT10 = (42, 75)
signal_numbers signal.SIGRT11 = (43, 76)
signal_numbers signal.SIGRT12 = (44, 77)
signal_numbers signal.SIGRT13 = (45, 78)
signal_numbers signal.SIGRT14 = (46, 79)
signal_numbers signal.SIGRT15 = (47, 80)
signal_numbers signal.SIGRT16 = (48, 81)
signal_numbers signal.SIGRT17 = (49, 82)
signal_numbers signal.SIGRT18 = (50, 83)
signal_numbers signal.SIGRT19 = (51, 84)
signal_numbers signal.SIGRT20 = (52, 85)
signal_numbers signal.SIGRT21 = (53, 86)
signal_numbers signal.SIGRT22 = (54, 87)
signal_numbers signal.SIGRT23 = (55, 88)
signal_numbers signal.SIGRT24 = (56, 89)
signal_numbers signal.SIGRT25 = (57, 90)
signal_numbers signal.SIGRT26 = (58, 91)
signal_numbers signal.SIGRT27 = (59, 92)
signal_numbers signal.SIGRT28 = (60, 93)
signal_numbers signal.SIGRT29 = (61, 94)
signal_numbers signal.SIGRT30 = (62, 95)
signal_numbers signal.SIGRT31 = (63, 96)
signal_numbers signal.SIGRT32 = (64, 97)

-- all signals, in the order of their Linux numbers
abbrev pub all_signals : List BsdSig
all_signals =
    signal.SIGHUP ∷ signal.SIGINT ∷ signal.SIGQUIT ∷ signal.SIGILL ∷ signal.SIGTRAP ∷
    signal.SIGABRT ∷ signal.SIGBUS ∷ signal.SIGFPE ∷ signal.SIGKILL ∷ signal.SIGUSR1 ∷
    signal.SIGSEGV ∷ signal.SIGUSR2 ∷ signal.SIGPIPE ∷ signal.SIGALRM ∷ signal.SIGTERM ∷
    signal.SIGSTKFLT ∷ signal.SIGCHLD ∷ signal.SIGCONT ∷ signal.SIGSTOP ∷ signal.SIGTSTP ∷
    signal.SIGTTIN ∷ signal.SIGTTOU ∷ signal.SIGURG ∷ signal.SIGXCPU ∷ signal.SIGXFSZ ∷
    signal.SIGVTALRM ∷ signal.SIGPROF ∷ signal.SIGWINCH ∷ signal.SIGIO ∷ signal.SIGPWR ∷
    signal.SIGSYS ∷ signal.SIGRT0 ∷ signal.SIGRT1 ∷ signal.SIGRT2 ∷ signal.SIGRT3 ∷
    signal.SIGRT4 ∷ signal.SIGRT5 ∷ signal.SIGRT6 ∷ signal.SIGRT7 ∷ signal.SIGRT8 ∷
    signal.SIGRT9 ∷ signal.SIGRT10 ∷ signal.SIGRT11 ∷ signal.SIGRT12 ∷ signal.SIGRT13 ∷
    signal.SIGRT14 ∷ signal.SIGRT15 ∷ signal.SIGRT16 ∷ signal.SIGRT17 ∷ signal.SIGRT18 ∷
    signal.SIGRT19 ∷ signal.SIGRT20 ∷ signal.SIGRT21 ∷ signal.SIGRT22 ∷ signal.SIGRT23 ∷
    signal.SIGRT24 ∷ signal.SIGRT25 ∷ signal.SIGRT26 ∷ signal.SIGRT27 ∷ signal.SIGRT28 ∷
    signal.SIGRT29 ∷ signal.SIGRT30 ∷ signal.SIGRT31 ∷ signal.SIGRT32 ∷ []

-- the number on Linux
abbrev pub linux_signal_number : BsdSig → ℕ
linux_signal_number s = (signal_numbers s).0

-- the number on FreeBSD
abbrev pub bsd_signal_number : BsdSig → ℕ
bsd_signal_number s = (signal_numbers s).1

-- the signal of a FreeBSD number, if one has it
unfoldable pub bsd_signal_of : ℕ → Option BsdSig
bsd_signal_of n = find (λ s. bsd_signal_number s == n) all_signals

-- the place in the order, from 0
abbrev pub place_of : BsdSig → ℕ
place_of s = linux_signal_number s - 1

-- the bit of a signal in a FreeBSD set
abbrev pub bsd_bit : BsdSig → ℕ
bsd_bit s = bsd_signal_number s - 1

-- whether it is a real-time signal, from SIGRT0 on
abbrev pub is_real_time : BsdSig → Bool
is_real_time s = nat_le (linux_signal_number signal.SIGRT0) (linux_signal_number s)

-- whether the default action is to ignore or to discard it
abbrev pub is_dropped_by_default : BsdSig → Bool
is_dropped_by_default signal.SIGCHLD = true
is_dropped_by_default signal.SIGCONT = true
is_dropped_by_default signal.SIGSTOP = true
is_dropped_by_default signal.SIGTSTP = true
is_dropped_by_default signal.SIGTTIN = true
is_dropped_by_default signal.SIGTTOU = true
is_dropped_by_default signal.SIGURG = true
is_dropped_by_default signal.SIGWINCH = true
is_dropped_by_default _ = false
