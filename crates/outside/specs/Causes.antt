-- When a call on an outside object may fail. This project's own.
use Rattle.std.specs.Prelude.{◌≡◌, ℕ, ◌+◌, ◌-◌, ◌^◌, ◌≤◌, min, Result, Ok, Err, OnOk, OnErr}
use Rattle.outside.specs.declared.traits.LoadFault.{LoadFault}
use Rattle.outside.specs.declared.traits.LoadFault.TheVariants.{Failed, NoMemory, TooLong}

-- the count rose, or stands at its type's end
abbrev pub Rose : ℕ → ℕ → Type 0
Rose before now = min (before + 1) (2 ^ 64 - 1) ≤ now

-- a failure has a fault of the object behind it, and every other answer has none
pub record HasCause {T E : Type 0} (before now : ℕ) (result : Result T E) : Type 0 where
  pub later : before ≤ now
  pub failed : OnErr result (Rose before now)
  pub kept : OnOk result (now ≡ before)

-- the same of a load, which can also be refused for another reason
abbrev pub LoadCause : {T : Type 0} → ℕ → ℕ → Result T LoadFault → Type 0
LoadCause before now (Ok value) = now ≡ before
LoadCause before now (Err Failed) = (before ≤ now) × Rose before now
LoadCause before now (Err NoMemory) = now ≡ before
LoadCause before now (Err (TooLong limit)) = now ≡ before
