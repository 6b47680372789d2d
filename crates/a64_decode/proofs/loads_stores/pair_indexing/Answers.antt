use Rattle.std.proofs.Common.{ℕ, Option, None, slice_index_or, refl, rules, ◌∙◌, ap, sym}
use Rattle.std.specs.Option.{option_map}
use Rattle.a64_model.specs.declared.rows.Form.{Form}
use Rattle.a64_model.specs.declared.rows.Form.TheVariants.{LoadStorePair}
use Rattle.a64_decode.specs.declared.loads_stores.TheConstants.{PAIR_INDEXINGS}
use Rattle.a64_decode.proofs.Fields.{form_by_field}
use Rattle.a64_decode.proofs.loads_stores.pair_indexing.Goals as goal

-- the form of each value of the field
abbrev form : ℕ → Option Form
form n = option_map LoadStorePair (slice_index_or PAIR_INDEXINGS n None)

pub returns : goal.returns
returns c =
    form_by_field 0x3E00_0000 0x2800_0000 2 23 form c.args.word (search rules)
    ((refl, refl), ((refl, refl), ((refl, refl), ((refl, refl), tt))))
    ∙ ap form (sym c.bits.ensures)
