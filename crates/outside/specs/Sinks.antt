-- What a sink tells, and what a call may have put into it. This project's own.
use Rattle.std.specs.Prelude.{◌≡◌, ℕ, ◌≤◌, ◌<◌, ◌-◌, ◌^◌, List, ◌++◌, take, ⊤, None, Some}
use Rattle.std.specs.declared.option.Option.{Option}
use Rattle.std.specs.Io.KnownBytes.{Appends, Keeps}

-- known bytes grow by the first of these, some number of them
abbrev pub AppendsSome : Option (List ℕ) → Option (List ℕ) → List ℕ → Type 0
AppendsSome None new bytes = ⊤
AppendsSome (Some xs) None bytes = ⊥
AppendsSome (Some xs) (Some ys) bytes = (n : ℕ) × (ys ≡ xs ++ take n bytes)

-- what a sink tells at one moment
pub record SinkView : Type 0 where
  pub taken : Option (List ℕ)
  pub faults : ℕ

abbrev pub sink_view : {S : Type 0} → (S → Option (List ℕ)) → (S → ℕ) → S → SinkView
sink_view taken faults sink = record { taken = taken sink; faults = faults sink }

-- the sink took all these bytes, and did not fail
pub record Took (before now : SinkView) (bytes : List ℕ) : Type 0 where
  pub bytes_taken : Appends before.taken now.taken bytes
  pub quiet : now.faults ≡ before.faults

-- the sink failed, and took a first part of these bytes
pub record TookPart (before now : SinkView) (bytes : List ℕ) : Type 0 where
  pub bytes_taken : AppendsSome before.taken now.taken bytes
  pub rose : before.faults < now.faults

-- the sink is as it was
pub record IsUntouched (before now : SinkView) : Type 0 where
  pub bytes_kept : Keeps before.taken now.taken
  pub quiet : now.faults ≡ before.faults

-- the sink took all these bytes where its count did not rise, and else a first part of them
pub record TookAsFaults (before now : SinkView) (bytes : List ℕ) : Type 0 where
  pub later : before.faults ≤ now.faults
  pub part : AppendsSome before.taken now.taken bytes
  pub whole : now.faults ≡ before.faults → before.faults < 2 ^ 64 - 1 → Appends before.taken now.taken bytes
