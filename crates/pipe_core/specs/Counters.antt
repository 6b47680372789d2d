-- A counter of eventfd: what a read takes, and what an addition leaves. Source: eventfd(2) of Linux, which FreeBSD has too.
use Rattle.std.specs.Prelude.{ℕ, ◌+◌, ◌-◌, ◌^◌, ◌==◌, Bool, nat_le, if◌then◌else◌, Option, Some, None, unwrap_or}
use Rattle.pipe_core.specs.declared.counters.Counter.{Counter}

-- what a read takes: nothing at 0, in a semaphore 1, and else the whole value
abbrev pub read_of : Counter → Option ℕ
read_of c = if c.value == 0 then None else Some (if c.semaphore then 1 else c.value)

-- a read leaves the value without what was taken
abbrev pub after_read : Counter → Counter
after_read c = record c { value = c.value - unwrap_or (read_of c) 0 }

-- an addition succeeds where the sum is at most 2^64 - 2
abbrev pub can_add : ℕ → Counter → Bool
can_add n c = nat_le (c.value + n) (2 ^ 64 - 2)

-- the counter after an addition, which changes nothing where it doesn't succeed
abbrev pub after_add : ℕ → Counter → Counter
after_add n c = if can_add n c then record c { value = c.value + n } else c
