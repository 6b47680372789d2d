-- Which events hold of an open file, as bits of epoll: EPOLLIN 1, EPOLLOUT 4, EPOLLERR 8, EPOLLHUP 16.
-- Source: epoll_ctl(2), poll(2), pipe(7) (PIPE_BUF and the capacity of a pipe), eventfd(2). That the input always has
-- EPOLLHUP, and a console room the capacity of a pipe, is this project's own.
use Rattle.std.specs.Prelude.{ℕ, ◌+◌, ◌-◌, ◌^◌, Bool, true, false, nat_lt, nat_le}
use Rattle.std.proofs.Math.Bool.{not}

-- an event, where it holds
abbrev pub if_so : Bool → ℕ → ℕ
if_so true event = event
if_so false event = 0

-- at least 4096 bytes (PIPE_BUF) are free in a room of 65536, of which so many are taken
abbrev pub has_space : ℕ → Bool
has_space held = nat_le 4096 (65536 - held)

-- the input, of which so many bytes are left: EPOLLIN where some are, and always EPOLLHUP, since nobody writes it
abbrev pub input_events : ℕ → ℕ
input_events left = if_so (nat_lt 0 left) 1 + 16

-- the read end of a pipe that holds so many bytes: EPOLLIN where it holds some, EPOLLHUP where no writer is left
abbrev pub read_end_events : ℕ → Bool → ℕ
read_end_events held has_writer = if_so (nat_lt 0 held) 1 + if_so (not has_writer) 16

-- the write end of a pipe that holds so many bytes: EPOLLOUT where there is space, EPOLLERR where no reader is left
abbrev pub write_end_events : ℕ → Bool → ℕ
write_end_events held has_reader = if_so (has_space held) 4 + if_so (not has_reader) 8

-- a console whose room holds so many bytes: EPOLLOUT where there is space
abbrev pub console_events : ℕ → ℕ
console_events held = if_so (has_space held) 4

-- a counter: EPOLLIN above 0, EPOLLOUT below 2^64 - 2
abbrev pub counter_events : ℕ → ℕ
counter_events value = if_so (nat_lt 0 value) 1 + if_so (nat_lt value (2 ^ 64 - 2)) 4
