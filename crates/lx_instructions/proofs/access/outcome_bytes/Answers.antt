use Rattle.std.proofs.Common.{ℕ, ap, ◌∙◌, arith}
use Rattle.places.specs.Places.{bytes_of}
use Rattle.places.proofs.Numbers.{bytes_of-mod}
use Rattle.a64_model.specs.Swaps.{outcome}
use Rattle.lx_instructions.proofs.access.outcome_bytes.Goals as goal

pub returns : goal.returns
returns c =
    c.to_le_bytes.ensures
    ∙ ap (λ (n : ℕ). bytes_of n 8) c.outcome_of.ensures
    ∙ bytes_of-mod 8 8 (outcome c.args.op c.args.old c.args.value) (omega arith)
