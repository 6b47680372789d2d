use Rattle.std.proofs.Common.{take, ap, sym, ◌∙◌}
use Rattle.places.specs.Places.{number_of}
use Rattle.places.proofs.Numbers.{take-bytes_of}
use Rattle.a64_model.specs.Swaps.{outcome}
use Rattle.lx_instructions.proofs.Exchanged.{exchanged}
use Rattle.lx_instructions.proofs.access.exchange.Goals as goal

pub returns : goal.returns
returns c =
    exchanged c.args.memory.now c.writes.new.memory c.writes.result c.args.mark c.args.at c.args.len c.args.op c.number_in-old.result c.args.value c.args.expected _ _
    (c.number_in-old.ensures ∙ ap number_of c.bytes_in-bytes.ensures.taken)
    (sym c.has_outcome_of.ensures ∙ c.if-not-has_outcome_of.false)
    (ap (take c.args.len) c.outcome_bytes-new.ensures ∙ take-bytes_of (outcome c.args.op c.number_in-old.result c.args.value) 8 c.args.len c.requires.most)
    c.bytes_in-bytes.ensures.filled
    c.writes.ensures
