-- What comes of reading a source to its end. This project's own.
use Rattle.std.specs.Prelude.{◌≡◌, ℕ, ◌≤◌, ◌<◌, List, length, ⊤, Result, Ok, Err, IfSome}
use Rattle.std.specs.declared.option.Option.{Option}
use Rattle.outside.specs.declared.traits.LoadFault.{LoadFault}
use Rattle.outside.specs.declared.traits.LoadFault.TheVariants.{Failed, NoMemory, TooLong}

-- all the bytes that were left, where they are told, if these are at most as many as the limit; V is a `Vec`, of which
-- `bytes` are the items
abbrev pub ReadsWhole : {V : Type 0} → (V → List ℕ) → Option (List ℕ) → ℕ → Result V LoadFault → Type 0
ReadsWhole bytes left limit (Ok v) = (length (bytes v) ≤ limit) × IfSome left (λ xs. bytes v ≡ xs)
ReadsWhole bytes left limit (Err (TooLong passed)) = (passed ≡ limit) × IfSome left (λ xs. limit < length xs)
ReadsWhole bytes left limit (Err Failed) = ⊤
ReadsWhole bytes left limit (Err NoMemory) = ⊤
