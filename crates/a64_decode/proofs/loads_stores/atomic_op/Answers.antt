use Rattle.std.proofs.Common.{refl, rules, [], ◌∷◌}
use Rattle.a64_model.specs.declared.rows.Form.TheVariants as form
use Rattle.a64_model.specs.declared.operands.AtomicOp.TheVariants as atomics
use Rattle.a64_decode.proofs.Rows.{form_at, no_form, Is, IsNone}
use Rattle.a64_decode.proofs.loads_stores.atomic_op.Goals as goal

pub returns-in-941621248 : goal.returns-in-941621248
returns-in-941621248 c = form_at 0x3F20_FC00 0x3820_0000 c.args.word (form.Atomic atomics.Add) (search rules) refl refl

pub returns-in-941625344 : goal.returns-in-941625344
returns-in-941625344 c = form_at 0x3F20_FC00 0x3820_1000 c.args.word (form.Atomic atomics.Clear) (search rules) refl refl

pub returns-in-941629440 : goal.returns-in-941629440
returns-in-941629440 c = form_at 0x3F20_FC00 0x3820_2000 c.args.word (form.Atomic atomics.ExclusiveOr) (search rules) refl refl

pub returns-in-941633536 : goal.returns-in-941633536
returns-in-941633536 c = form_at 0x3F20_FC00 0x3820_3000 c.args.word (form.Atomic atomics.Set) (search rules) refl refl

pub returns-in-941654016 : goal.returns-in-941654016
returns-in-941654016 c = form_at 0x3F20_FC00 0x3820_8000 c.args.word (form.Atomic atomics.Swap) (search rules) refl refl

pub returns-in_default : goal.returns-in_default
returns-in_default c =
    no_form (Is 0x3F20_0C00 0x3820_0000 ∷ IsNone 0x3F20_FC00 (0x3820_0000 ∷ 0x3820_1000 ∷ 0x3820_2000 ∷ 0x3820_3000 ∷ 0x3820_8000 ∷ []) ∷ []) c.args.word (search rules) refl
