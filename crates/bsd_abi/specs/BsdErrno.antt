-- The errors of FreeBSD calls, by number.
-- Source: errno(2) of FreeBSD (sys/errno.h).
use Rattle.std.specs.Prelude.{ℕ}
use Rattle.bsd_abi.specs.declared.errno.BsdErrno.{BsdErrno}
use Rattle.bsd_abi.specs.declared.errno.BsdErrno.TheVariants as bsd

-- FreeBSD's number of an error
abbrev pub bsd_errno_number : BsdErrno → ℕ
bsd_errno_number bsd.EPERM = 1
bsd_errno_number bsd.ENOENT = 2
bsd_errno_number bsd.ESRCH = 3
bsd_errno_number bsd.EINTR = 4
bsd_errno_number bsd.EIO = 5
bsd_errno_number bsd.EBADF = 9
bsd_errno_number bsd.EAGAIN = 35
bsd_errno_number bsd.ENOMEM = 12
bsd_errno_number bsd.EACCES = 13
bsd_errno_number bsd.EFAULT = 14
bsd_errno_number bsd.EEXIST = 17
bsd_errno_number bsd.ENODEV = 19
bsd_errno_number bsd.EINVAL = 22
bsd_errno_number bsd.ENFILE = 23
bsd_errno_number bsd.EMFILE = 24
bsd_errno_number bsd.ENOTTY = 25
bsd_errno_number bsd.ENOSPC = 28
bsd_errno_number bsd.ESPIPE = 29
bsd_errno_number bsd.EPIPE = 32
bsd_errno_number bsd.EDEADLK = 11
bsd_errno_number bsd.ENOSYS = 78
bsd_errno_number bsd.ELOOP = 62
bsd_errno_number bsd.ETIMEDOUT = 60
