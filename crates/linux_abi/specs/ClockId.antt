-- The clocks that can be read, by number (clock_gettime(2); linux/time.h).
use Rattle.std.specs.Prelude.{ℕ, ◌==◌, List, [], ◌∷◌, find, Option}
use Rattle.linux_abi.specs.declared.time.ClockId.{ClockId}
use Rattle.linux_abi.specs.declared.time.ClockId.TheVariants as clock

-- the number of a clock
abbrev pub clock_number : ClockId → ℕ
clock_number clock.Realtime = 0
clock_number clock.Monotonic = 1
clock_number clock.MonotonicRaw = 4
clock_number clock.RealtimeCoarse = 5
clock_number clock.MonotonicCoarse = 6
clock_number clock.Boottime = 7

-- all of them
abbrev pub clocks : List ClockId
clocks =
    clock.Realtime ∷ clock.Monotonic ∷ clock.MonotonicRaw ∷ clock.RealtimeCoarse ∷ clock.MonotonicCoarse ∷
    clock.Boottime ∷ []

-- the clock of a number, if one has it
unfoldable pub clock_of : ℕ → Option ClockId
clock_of n = find (λ c. clock_number c == n) clocks
