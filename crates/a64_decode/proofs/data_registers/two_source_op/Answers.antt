use Rattle.std.proofs.Common.{refl, rules, [], ◌∷◌}
use Rattle.a64_model.specs.declared.rows.Form.TheVariants as form
use Rattle.a64_model.specs.declared.operands.TwoSourceOp.TheVariants as sources
use Rattle.a64_decode.proofs.Rows.{form_at, no_form, Is, IsNone}
use Rattle.a64_decode.proofs.data_registers.two_source_op.Goals as goal

pub returns-in-448792576 : goal.returns-in-448792576
returns-in-448792576 c = form_at 0x7FE0_FC00 0x1AC0_0800 c.args.word (form.TwoSource sources.UnsignedDivide) (search rules) refl refl

pub returns-in-448793600 : goal.returns-in-448793600
returns-in-448793600 c = form_at 0x7FE0_FC00 0x1AC0_0C00 c.args.word (form.TwoSource sources.SignedDivide) (search rules) refl refl

pub returns-in-448798720 : goal.returns-in-448798720
returns-in-448798720 c = form_at 0x7FE0_FC00 0x1AC0_2000 c.args.word (form.TwoSource sources.ShiftLeft) (search rules) refl refl

pub returns-in-448799744 : goal.returns-in-448799744
returns-in-448799744 c = form_at 0x7FE0_FC00 0x1AC0_2400 c.args.word (form.TwoSource sources.ShiftRight) (search rules) refl refl

pub returns-in-448800768 : goal.returns-in-448800768
returns-in-448800768 c = form_at 0x7FE0_FC00 0x1AC0_2800 c.args.word (form.TwoSource sources.ShiftRightSigned) (search rules) refl refl

pub returns-in-448801792 : goal.returns-in-448801792
returns-in-448801792 c = form_at 0x7FE0_FC00 0x1AC0_2C00 c.args.word (form.TwoSource sources.RotateRight) (search rules) refl refl

pub returns-in_default : goal.returns-in_default
returns-in_default c =
    no_form (Is 0x7FE0_0000 0x1AC0_0000 ∷ IsNone 0x7FE0_FC00 (0x1AC0_0800 ∷ 0x1AC0_0C00 ∷ 0x1AC0_2000 ∷ 0x1AC0_2400 ∷ 0x1AC0_2800 ∷ 0x1AC0_2C00 ∷ []) ∷ []) c.args.word (search rules) refl
