pub mod BsdErrno
pub mod BsdSig
