-- FreeBSD's errors as Linux's, by name and by number.
-- Source: errno(2) of FreeBSD and errno(3) of Linux, translated as FreeBSD's linux(4) does it.
use Rattle.std.specs.Prelude.{ℕ, ◌==◌, List, [], ◌∷◌, find, Option}
use Rattle.std.specs.Option.{option_map}
use Rattle.linux_abi.specs.declared.errno.LinuxErrno.{LinuxErrno}
use Rattle.linux_abi.specs.declared.errno.LinuxErrno.TheVariants as linux
use Rattle.bsd_abi.specs.declared.errno.BsdErrno.{BsdErrno}
use Rattle.bsd_abi.specs.declared.errno.BsdErrno.TheVariants as bsd

-- the Linux error of a FreeBSD error: that of the same name
abbrev pub errno_out_of : BsdErrno → LinuxErrno
errno_out_of bsd.EPERM = linux.EPERM
errno_out_of bsd.ENOENT = linux.ENOENT
errno_out_of bsd.ESRCH = linux.ESRCH
errno_out_of bsd.EINTR = linux.EINTR
errno_out_of bsd.EIO = linux.EIO
errno_out_of bsd.EBADF = linux.EBADF
errno_out_of bsd.EAGAIN = linux.EAGAIN
errno_out_of bsd.ENOMEM = linux.ENOMEM
errno_out_of bsd.EACCES = linux.EACCES
errno_out_of bsd.EFAULT = linux.EFAULT
errno_out_of bsd.EEXIST = linux.EEXIST
errno_out_of bsd.ENODEV = linux.ENODEV
errno_out_of bsd.EINVAL = linux.EINVAL
errno_out_of bsd.ENFILE = linux.ENFILE
errno_out_of bsd.EMFILE = linux.EMFILE
errno_out_of bsd.ENOTTY = linux.ENOTTY
errno_out_of bsd.ENOSPC = linux.ENOSPC
errno_out_of bsd.ESPIPE = linux.ESPIPE
errno_out_of bsd.EPIPE = linux.EPIPE
errno_out_of bsd.EDEADLK = linux.EDEADLK
errno_out_of bsd.ENOSYS = linux.ENOSYS
errno_out_of bsd.ELOOP = linux.ELOOP
errno_out_of bsd.ETIMEDOUT = linux.ETIMEDOUT

-- the FreeBSD error of a Linux error: that of the same name
abbrev pub errno_in_of : LinuxErrno → BsdErrno
errno_in_of linux.EPERM = bsd.EPERM
errno_in_of linux.ENOENT = bsd.ENOENT
errno_in_of linux.ESRCH = bsd.ESRCH
errno_in_of linux.EINTR = bsd.EINTR
errno_in_of linux.EIO = bsd.EIO
errno_in_of linux.EBADF = bsd.EBADF
errno_in_of linux.EAGAIN = bsd.EAGAIN
errno_in_of linux.ENOMEM = bsd.ENOMEM
errno_in_of linux.EACCES = bsd.EACCES
errno_in_of linux.EFAULT = bsd.EFAULT
errno_in_of linux.EEXIST = bsd.EEXIST
errno_in_of linux.ENODEV = bsd.ENODEV
errno_in_of linux.EINVAL = bsd.EINVAL
errno_in_of linux.ENFILE = bsd.ENFILE
errno_in_of linux.EMFILE = bsd.EMFILE
errno_in_of linux.ENOTTY = bsd.ENOTTY
errno_in_of linux.ENOSPC = bsd.ENOSPC
errno_in_of linux.ESPIPE = bsd.ESPIPE
errno_in_of linux.EPIPE = bsd.EPIPE
errno_in_of linux.EDEADLK = bsd.EDEADLK
errno_in_of linux.ENOSYS = bsd.ENOSYS
errno_in_of linux.ELOOP = bsd.ELOOP
errno_in_of linux.ETIMEDOUT = bsd.ETIMEDOUT

-- the table of numbers: an error's number on Linux, and its number on FreeBSD.
-- Linux's 1 to 10 and 12 to 34 are the same; 11, 35, 38, 40 and 110 are 35, 11, 78, 62 and 60
abbrev pub error_table : List (ℕ × ℕ)
error_table =
    (1, 1) ∷ (2, 2) ∷ (3, 3) ∷ (4, 4) ∷ (5, 5) ∷ (6, 6) ∷ (7, 7) ∷ (8, 8) ∷ (9, 9) ∷ (10, 10) ∷
    (11, 35) ∷ (12, 12) ∷ (13, 13) ∷ (14, 14) ∷ (15, 15) ∷ (16, 16) ∷ (17, 17) ∷ (18, 18) ∷
    (19, 19) ∷ (20, 20) ∷ (21, 21) ∷ (22, 22) ∷ (23, 23) ∷ (24, 24) ∷ (25, 25) ∷ (26, 26) ∷
    (27, 27) ∷ (28, 28) ∷ (29, 29) ∷ (30, 30) ∷ (31, 31) ∷ (32, 32) ∷ (33, 33) ∷ (34, 34) ∷
    (35, 11) ∷ (38, 78) ∷ (40, 62) ∷ (110, 60) ∷ []

-- the number on Linux of the FreeBSD error of number n, by the table
abbrev pub linux_number_of : ℕ → Option ℕ
linux_number_of n = option_map (λ row. row.0) (find (λ row. row.1 == n) error_table)
