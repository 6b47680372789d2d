-- Times, timeouts, deadlines and the clock, in microseconds. Source: clock_nanosleep(2). That there is one clock, of
-- microseconds, is this project's own.
use Rattle.std.specs.Prelude.{Bool, List, None, Option, Some, [], false, if◌then◌else◌, length, min, nat_le, nat_lt, ℕ, ◌%◌, ◌*◌, ◌++◌, ◌+◌, ◌-◌, ◌/◌, ◌^◌, ◌||◌}
use Rattle.lx_machine.specs.Calls.{refused}
use Rattle.lx_machine.specs.declared.calls.LxCall.{LxCall}
use Rattle.places.specs.Places.{bytes_of, number_at}
use Rattle.linux_abi.specs.declared.errno.LinuxErrno.TheVariants as errno

-- ---- numbers in bytes

-- the number in the eight bytes from a place on, and 0 where they are not all there
abbrev pub field : List ℕ → ℕ → ℕ
field bytes at = if nat_lt (length bytes) (at + 8) then 0 else number_at bytes at 8

-- ---- times

-- the last time of the clock
abbrev pub latest : ℕ
latest = 2 ^ 64 - 1

-- a time later by so many microseconds, at most the last one
abbrev pub add_time : ℕ → ℕ → ℕ
add_time time micros = min (time + micros) latest

-- struct timespec: negative seconds, or nanoseconds outside 0 to 999,999,999
abbrev pub is_bad_time : List ℕ → Bool
is_bad_time bytes = nat_le (2 ^ 63) (field bytes 0) || nat_lt 999999999 (field bytes 8)

-- struct timespec in microseconds, rounded up, at most the last time
abbrev pub duration : List ℕ → ℕ
duration bytes = min (field bytes 0 * 1000000 + (field bytes 8 + 999) / 1000) latest

-- microseconds as struct timespec: seconds and nanoseconds
abbrev pub time_bytes : ℕ → List ℕ
time_bytes micros = bytes_of (micros / 1000000) 8 ++ bytes_of (micros % 1000000 * 1000) 8

-- the clock has come to the deadline
abbrev pub has_passed : ℕ → Option ℕ → Bool
has_passed clock None = false
has_passed clock (Some deadline) = nat_le deadline clock

-- how long it is to the deadline
abbrev pub rest_of : ℕ → Option ℕ → ℕ
rest_of clock None = 0
rest_of clock (Some deadline) = deadline - clock

-- ---- calls with a timeout

-- a call that has fetched its timeout, which refuses it where it is bad
abbrev pub timeout_fetched : LxCall → LxCall
timeout_fetched c = if is_bad_time c.bytes then refused c errno.EINVAL else c

-- the call has this deadline, and its timeout has been read
abbrev pub with_deadline : LxCall → ℕ → LxCall
with_deadline c deadline = record c { deadline = Some deadline; bytes = [] }
