use Rattle.std.proofs.Common.{ℕ, Option, None, slice_index_or, refl, rules, ◌∙◌, ap, sym}
use Rattle.std.specs.Option.{option_map}
use Rattle.a64_model.specs.declared.rows.Form.{Form}
use Rattle.a64_model.specs.declared.rows.Form.TheVariants.{BranchRegister}
use Rattle.a64_decode.specs.declared.branches.TheConstants.{BRANCH_KINDS}
use Rattle.a64_decode.proofs.Fields.{form_by_field}
use Rattle.a64_decode.proofs.branches.branch_kind.Goals as goal

-- the form of each value of the field
abbrev form : ℕ → Option Form
form n = option_map BranchRegister (slice_index_or BRANCH_KINDS n None)

pub returns : goal.returns
returns c =
    form_by_field 0xFF9F_FC1F 0xD61F_0000 2 21 form c.args.word (search rules)
    ((refl, refl), ((refl, refl), ((refl, refl), ((refl, refl), tt))))
    ∙ ap form (sym c.bits.ensures)
