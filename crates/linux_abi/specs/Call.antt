-- The Linux calls that are known: their numbers on arm64, and their names.
-- Source: asm-generic/unistd.h, which arm64 uses, and the manual page of each call in section 2.
use Rattle.std.specs.Prelude.{ℕ, ◌==◌, List, [], ◌∷◌, find, codes, Option}
use Rattle.linux_abi.specs.declared.calls.Call.{Call}
use Rattle.linux_abi.specs.declared.calls.Call.TheVariants as call

-- the number of a call, which a program puts into x8
abbrev pub call_number : Call → ℕ
call_number call.Eventfd2 = 19
call_number call.EpollCreate1 = 20
call_number call.EpollCtl = 21
call_number call.EpollPwait = 22
call_number call.Dup = 23
call_number call.Dup3 = 24
call_number call.Fcntl = 25
call_number call.Ioctl = 29
call_number call.Close = 57
call_number call.Pipe2 = 59
call_number call.Lseek = 62
call_number call.Read = 63
call_number call.Write = 64
call_number call.Readv = 65
call_number call.Writev = 66
call_number call.Exit = 93
call_number call.ExitGroup = 94
call_number call.SetTidAddress = 96
call_number call.Futex = 98
call_number call.SetRobustList = 99
call_number call.GetRobustList = 100
call_number call.Nanosleep = 101
call_number call.ClockGettime = 113
call_number call.SchedYield = 124
call_number call.Kill = 129
call_number call.Tkill = 130
call_number call.Tgkill = 131
call_number call.Sigaltstack = 132
call_number call.RtSigsuspend = 133
call_number call.RtSigaction = 134
call_number call.RtSigprocmask = 135
call_number call.RtSigpending = 136
call_number call.RtSigreturn = 139
call_number call.Uname = 160
call_number call.Getpid = 172
call_number call.Getppid = 173
call_number call.Getuid = 174
call_number call.Geteuid = 175
call_number call.Getgid = 176
call_number call.Getegid = 177
call_number call.Gettid = 178
call_number call.Brk = 214
call_number call.Munmap = 215
call_number call.Clone = 220
call_number call.Mmap = 222
call_number call.Mprotect = 226
call_number call.Madvise = 233
call_number call.FutexWaitv = 449

-- the name under which the manual has it
abbrev pub call_name : Call → List ℕ
call_name call.Eventfd2 = codes "eventfd2"
call_name call.EpollCreate1 = codes "epoll_create1"
call_name call.EpollCtl = codes "epoll_ctl"
call_name call.EpollPwait = codes "epoll_pwait"
call_name call.Dup = codes "dup"
call_name call.Dup3 = codes "dup3"
call_name call.Fcntl = codes "fcntl"
call_name call.Ioctl = codes "ioctl"
call_name call.Close = codes "close"
call_name call.Pipe2 = codes "pipe2"
call_name call.Lseek = codes "lseek"
call_name call.Read = codes "read"
call_name call.Write = codes "write"
call_name call.Readv = codes "readv"
call_name call.Writev = codes "writev"
call_name call.Exit = codes "exit"
call_name call.ExitGroup = codes "exit_group"
call_name call.SetTidAddress = codes "set_tid_address"
call_name call.Futex = codes "futex"
call_name call.SetRobustList = codes "set_robust_list"
call_name call.GetRobustList = codes "get_robust_list"
call_name call.Nanosleep = codes "nanosleep"
call_name call.ClockGettime = codes "clock_gettime"
call_name call.SchedYield = codes "sched_yield"
call_name call.Kill = codes "kill"
call_name call.Tkill = codes "tkill"
call_name call.Tgkill = codes "tgkill"
call_name call.Sigaltstack = codes "sigaltstack"
call_name call.RtSigsuspend = codes "rt_sigsuspend"
call_name call.RtSigaction = codes "rt_sigaction"
call_name call.RtSigprocmask = codes "rt_sigprocmask"
call_name call.RtSigpending = codes "rt_sigpending"
call_name call.RtSigreturn = codes "rt_sigreturn"
call_name call.Uname = codes "uname"
call_name call.Getpid = codes "getpid"
call_name call.Getppid = codes "getppid"
call_name call.Getuid = codes "getuid"
call_name call.Geteuid = codes "geteuid"
call_name call.Getgid = codes "getgid"
call_name call.Getegid = codes "getegid"
call_name call.Gettid = codes "gettid"
call_name call.Brk = codes "brk"
call_name call.Munmap = codes "munmap"
call_name call.Clone = codes "clone"
call_name call.Mmap = codes "mmap"
call_name call.Mprotect = codes "mprotect"
call_name call.Madvise = codes "madvise"
call_name call.FutexWaitv = codes "futex_waitv"

-- all of them, by rising number
abbrev pub calls : List Call
calls =
    call.Eventfd2 ∷ call.EpollCreate1 ∷ call.EpollCtl ∷ call.EpollPwait ∷ call.Dup ∷ call.Dup3 ∷
    call.Fcntl ∷ call.Ioctl ∷ call.Close ∷ call.Pipe2 ∷ call.Lseek ∷ call.Read ∷ call.Write ∷
    call.Readv ∷ call.Writev ∷ call.Exit ∷ call.ExitGroup ∷ call.SetTidAddress ∷ call.Futex ∷
    call.SetRobustList ∷ call.GetRobustList ∷ call.Nanosleep ∷ call.ClockGettime ∷
    call.SchedYield ∷ call.Kill ∷ call.Tkill ∷ call.Tgkill ∷ call.Sigaltstack ∷
    call.RtSigsuspend ∷ call.RtSigaction ∷ call.RtSigprocmask ∷ call.RtSigpending ∷
    call.RtSigreturn ∷ call.Uname ∷ call.Getpid ∷ call.Getppid ∷ call.Getuid ∷ call.Geteuid ∷
    call.Getgid ∷ call.Getegid ∷ call.Gettid ∷ call.Brk ∷ call.Munmap ∷ call.Clone ∷ call.Mmap ∷
    call.Mprotect ∷ call.Madvise ∷ call.FutexWaitv ∷ []

-- the call of a number, if one has it
unfoldable pub call_of : ℕ → Option Call
call_of n = find (λ c. call_number c == n) calls
