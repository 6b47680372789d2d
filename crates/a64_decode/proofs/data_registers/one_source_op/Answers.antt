use Rattle.std.proofs.Common.{refl, rules, [], ◌∷◌}
use Rattle.a64_model.specs.declared.rows.Form.TheVariants as form
use Rattle.a64_model.specs.declared.operands.OneSourceOp.TheVariants as sources
use Rattle.a64_decode.proofs.Rows.{form_at, no_form, Is, IsNone}
use Rattle.a64_decode.proofs.data_registers.one_source_op.Goals as goal

pub returns-in-1522532352 : goal.returns-in-1522532352
returns-in-1522532352 c = form_at 0x7FFF_FC00 0x5AC0_0000 c.args.word (form.OneSource sources.ReverseBits) (search rules) refl refl

pub returns-in-1522533376 : goal.returns-in-1522533376
returns-in-1522533376 c = form_at 0x7FFF_FC00 0x5AC0_0400 c.args.word (form.OneSource sources.ReverseBytesOfHalves) (search rules) refl refl

pub returns-in-1522534400 : goal.returns-in-1522534400
returns-in-1522534400 c = form_at 0x7FFF_FC00 0x5AC0_0800 c.args.word (form.OneSource sources.ReverseBytesOfWords) (search rules) refl refl

pub returns-in-1522536448 : goal.returns-in-1522536448
returns-in-1522536448 c = form_at 0x7FFF_FC00 0x5AC0_1000 c.args.word (form.OneSource sources.CountLeadingZeros) (search rules) refl refl

pub returns-in-1522537472 : goal.returns-in-1522537472
returns-in-1522537472 c = form_at 0x7FFF_FC00 0x5AC0_1400 c.args.word (form.OneSource sources.CountLeadingSigns) (search rules) refl refl

pub returns-in_default : goal.returns-in_default
returns-in_default c =
    no_form (Is 0x7FE0_0000 0x5AC0_0000 ∷ IsNone 0x7FFF_FC00 (0x5AC0_0C00 ∷ 0x5AC0_0000 ∷ 0x5AC0_0400 ∷ 0x5AC0_0800 ∷ 0x5AC0_1000 ∷ 0x5AC0_1400 ∷ []) ∷ []) c.args.word (search rules) refl
