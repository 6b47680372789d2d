-- A Linux error that is translated there and back is itself.
use Rattle.std.proofs.Common.{◌≡◌, refl}
use Rattle.linux_abi.specs.declared.errno.LinuxErrno.{LinuxErrno}
use Rattle.linux_abi.specs.declared.errno.LinuxErrno.TheVariants as linux
use Rattle.abi_map.specs.Errors.{errno_in_of, errno_out_of}

pub errno_back : (e : LinuxErrno) → errno_out_of (errno_in_of e) ≡ e
errno_back linux.EPERM = refl
errno_back linux.ENOENT = refl
errno_back linux.ESRCH = refl
errno_back linux.EINTR = refl
errno_back linux.EIO = refl
errno_back linux.EBADF = refl
errno_back linux.EAGAIN = refl
errno_back linux.ENOMEM = refl
errno_back linux.EACCES = refl
errno_back linux.EFAULT = refl
errno_back linux.EEXIST = refl
errno_back linux.ENODEV = refl
errno_back linux.EINVAL = refl
errno_back linux.ENFILE = refl
errno_back linux.EMFILE = refl
errno_back linux.ENOTTY = refl
errno_back linux.ENOSPC = refl
errno_back linux.ESPIPE = refl
errno_back linux.EPIPE = refl
errno_back linux.EDEADLK = refl
errno_back linux.ENOSYS = refl
errno_back linux.ELOOP = refl
errno_back linux.ETIMEDOUT = refl
