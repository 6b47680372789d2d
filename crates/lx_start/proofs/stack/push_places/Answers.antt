use Rattle.std.proofs.Common.{◌+◌, [], ◌∷◌, string_bytes, arith, sym, ap}
use Rattle.std.specs.Prelude.{ℕ}
use Rattle.lx_start.proofs.Pushed.{pushed_place, pushed_length, first_length, behind}
use Rattle.lx_start.proofs.stack.push_places.Goals as goal

pub overflow_add-next-in-loop-text : goal.overflow_add-next-in-loop-text
overflow_add-next-in-loop-text c =
    let more = pushed_length string_bytes c.args.texts.now c.loop-text.text-index c.text-item.result c.loop-text-test.true (sym c.text-item.is) in
    let all = first_length string_bytes c.args.texts.now (c.loop-text.text-index + 1) in
    omega (arith, more, all, c.loop-text.invariant.next)

pub loop-text-preserved : goal.loop-text-preserved
loop-text-preserved c =
    let more = pushed_length string_bytes c.args.texts.now c.loop-text.text-index c.text-item.result c.loop-text-test.true (sym c.text-item.is) in
    record {
      next = omega (arith, more, c.loop-text.invariant.next);
      places = behind _ _ _ _ _ _ _ c.loop-text.invariant.places c.in_ok-push.ensures.items (ap (λ (at : ℕ). at ∷ []) c.loop-text.invariant.next)
          (pushed_place string_bytes c.args.at c.args.texts.now c.loop-text.text-index c.text-item.result c.loop-text-test.true (sym c.text-item.is));
    }
