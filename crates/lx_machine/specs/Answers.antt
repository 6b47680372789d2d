-- What a function that computes a step answers. This project's own.
use Rattle.std.specs.Prelude.{◌≡◌, None, Option, Some, Err, Ok, Result}
use Rattle.lx_machine.specs.declared.refusal.LxRefusal.{LxRefusal}
use Rattle.lx_machine.specs.declared.refusal.LxRefusal.TheVariants.{NoMemory, NoStep}

-- Ok exactly where there is a step, with what it leaves, `made` of the answer; no step exactly where there is none. After a refusal,
-- want of memory too, all is as it was
abbrev pub Goes : {A V : Type 0} → Option A → (V → A) → Type 0 → Result V LxRefusal → Type 0
Goes next made Unchanged (Ok v) = next ≡ Some (made v)
Goes next made Unchanged (Err NoStep) = (next ≡ None) × Unchanged
Goes next made Unchanged (Err NoMemory) = Unchanged
