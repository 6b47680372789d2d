-- The table of calls gives back each call by its number, so no call has a number at which it gives none.
use Rattle.std.proofs.Common.{◌≡◌, ◌≢◌, ℕ, refl, ap}
use Rattle.std.specs.Prelude.{Option, None, Some, IfNone}
use Rattle.linux_abi.specs.declared.calls.Call.{Call}
use Rattle.linux_abi.specs.declared.calls.Call.TheVariants as call
use Rattle.linux_abi.specs.Call.{call_number, call_of}

-- each call is found by its number
pub call_of-call_number : (c : Call) → call_of (call_number c) ≡ Some c
unfolding call_of
call_of-call_number call.Eventfd2 = refl
call_of-call_number call.EpollCreate1 = refl
call_of-call_number call.EpollCtl = refl
call_of-call_number call.EpollPwait = refl
call_of-call_number call.Dup = refl
call_of-call_number call.Dup3 = refl
call_of-call_number call.Fcntl = refl
call_of-call_number call.Ioctl = refl
call_of-call_number call.Close = refl
call_of-call_number call.Pipe2 = refl
call_of-call_number call.Lseek = refl
call_of-call_number call.Read = refl
call_of-call_number call.Write = refl
call_of-call_number call.Readv = refl
call_of-call_number call.Writev = refl
call_of-call_number call.Exit = refl
call_of-call_number call.ExitGroup = refl
call_of-call_number call.SetTidAddress = refl
call_of-call_number call.Futex = refl
call_of-call_number call.SetRobustList = refl
call_of-call_number call.GetRobustList = refl
call_of-call_number call.Nanosleep = refl
call_of-call_number call.ClockGettime = refl
call_of-call_number call.SchedYield = refl
call_of-call_number call.Kill = refl
call_of-call_number call.Tkill = refl
call_of-call_number call.Tgkill = refl
call_of-call_number call.Sigaltstack = refl
call_of-call_number call.RtSigsuspend = refl
call_of-call_number call.RtSigaction = refl
call_of-call_number call.RtSigprocmask = refl
call_of-call_number call.RtSigpending = refl
call_of-call_number call.RtSigreturn = refl
call_of-call_number call.Uname = refl
call_of-call_number call.Getpid = refl
call_of-call_number call.Getppid = refl
call_of-call_number call.Getuid = refl
call_of-call_number call.Geteuid = refl
call_of-call_number call.Getgid = refl
call_of-call_number call.Getegid = refl
call_of-call_number call.Gettid = refl
call_of-call_number call.Brk = refl
call_of-call_number call.Munmap = refl
call_of-call_number call.Clone = refl
call_of-call_number call.Mmap = refl
call_of-call_number call.Mprotect = refl
call_of-call_number call.Madvise = refl
call_of-call_number call.FutexWaitv = refl

-- where none is found, no call has the number
pub none_has : (found : Option Call) (n : ℕ) → found ≡ call_of n
    → IfNone found ((c : Call) → call_number c ≢ n)
none_has None n is = λ c has. (cc (call_of-call_number c, ap call_of has))
none_has (Some c) n is = tt
