-- What the bits that an interest asks for say. Source: epoll_ctl(2).
use Rattle.std.specs.Prelude.{ℕ, ◌+◌, Bool, bit_or}
use Rattle.linux_abi.specs.Flags.{has_flag}
use Rattle.linux_abi.specs.declared.epoll.TheConstants.{EPOLLERR, EPOLLHUP, EPOLLEXCLUSIVE, EPOLLONESHOT, EPOLLET}

-- it reports on new activity alone
abbrev pub is_edge : ℕ → Bool
is_edge asked = has_flag EPOLLET asked

-- a report disables it
abbrev pub is_one_shot : ℕ → Bool
is_one_shot asked = has_flag EPOLLONESHOT asked

-- it wakes one waiter of several
abbrev pub is_exclusive : ℕ → Bool
is_exclusive asked = has_flag EPOLLEXCLUSIVE asked

-- what it is told of: what it asks for, and EPOLLERR and EPOLLHUP, which are reported unasked
abbrev pub wanted : ℕ → ℕ
wanted asked = bit_or asked (EPOLLERR + EPOLLHUP)
