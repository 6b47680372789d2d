use Rattle.std.proofs.Common.{ℕ, Option, None, slice_index_or, refl, rules, ◌∙◌, ap, sym}
use Rattle.std.specs.Option.{option_map}
use Rattle.a64_model.specs.declared.rows.Form.{Form}
use Rattle.a64_model.specs.declared.rows.Form.TheVariants.{LoadStoreIndexed}
use Rattle.a64_decode.specs.declared.loads_stores.TheConstants.{INDEXINGS}
use Rattle.a64_decode.proofs.Fields.{form_by_field}
use Rattle.a64_decode.proofs.loads_stores.indexing.Goals as goal

-- the form of each value of the field
abbrev form : ℕ → Option Form
form n = option_map LoadStoreIndexed (slice_index_or INDEXINGS n None)

pub returns : goal.returns
returns c =
    form_by_field 0x3F20_0000 0x3800_0000 2 10 form c.args.word (search rules)
    ((refl, refl), ((refl, refl), ((refl, refl), ((refl, refl), tt))))
    ∙ ap form (sym c.bits.ensures)
