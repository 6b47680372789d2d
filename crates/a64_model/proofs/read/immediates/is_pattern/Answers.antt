use Rattle.std.proofs.Common.{ap, sym, ◌∙◌}
use Rattle.a64_model.specs.BitMasks.{may_have}
use Rattle.a64_model.proofs.Patterns.{two_bits}
use Rattle.a64_model.proofs.read.immediates.is_pattern.Goals as goal
use Rattle.a64_model.proofs.read.immediates.is_pattern.Goals.{in-W, in-X}

pub returns-then-may_have : goal.returns-then-may_have
returns-then-may_have c =
    two_bits c.args.width c.args.n c.args.imms c.requires.bit c.requires.six_bits (
    elim c.match-width.branch [
      | in-W w ↦ ap (λ width. may_have width c.args.n) w.in-W.is ∙ sym w.may_have-is ∙ c.if-may_have.true
      | in-X w ↦ ap (λ width. may_have width c.args.n) w.in-X.is
    ])
