-- The errors of Linux calls, by number.
-- Source: errno(3); asm-generic/errno-base.h and asm-generic/errno.h, which arm64 uses; syscall(2) on what x0 has.
use Rattle.std.specs.Prelude.{ℕ, ◌-◌, ◌^◌}
use Rattle.linux_abi.specs.declared.errno.LinuxErrno.{LinuxErrno}
use Rattle.linux_abi.specs.declared.errno.LinuxErrno.TheVariants as linux

-- Linux's number of an error
abbrev pub linux_errno_number : LinuxErrno → ℕ
linux_errno_number linux.EPERM = 1
linux_errno_number linux.ENOENT = 2
linux_errno_number linux.ESRCH = 3
linux_errno_number linux.EINTR = 4
linux_errno_number linux.EIO = 5
linux_errno_number linux.EBADF = 9
linux_errno_number linux.EAGAIN = 11
linux_errno_number linux.ENOMEM = 12
linux_errno_number linux.EACCES = 13
linux_errno_number linux.EFAULT = 14
linux_errno_number linux.EEXIST = 17
linux_errno_number linux.ENODEV = 19
linux_errno_number linux.EINVAL = 22
linux_errno_number linux.ENFILE = 23
linux_errno_number linux.EMFILE = 24
linux_errno_number linux.ENOTTY = 25
linux_errno_number linux.ENOSPC = 28
linux_errno_number linux.ESPIPE = 29
linux_errno_number linux.EPIPE = 32
linux_errno_number linux.EDEADLK = 35
linux_errno_number linux.ENOSYS = 38
linux_errno_number linux.ELOOP = 40
linux_errno_number linux.ETIMEDOUT = 110

-- what a refused call leaves in x0: the negative of that number, as 64 bits
abbrev pub answer_of : LinuxErrno → ℕ
answer_of e = 2 ^ 64 - linux_errno_number e
