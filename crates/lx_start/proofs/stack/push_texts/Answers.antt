use Rattle.std.proofs.Common.{[], ◌∷◌, ◌++◌, string_bytes, sym, ap}
use Rattle.std.specs.Prelude.{List, ℕ}
use Rattle.lx_start.proofs.Pushed.{pushed_text, behind}
use Rattle.lx_start.proofs.stack.push_texts.Goals as goal

pub loop-text-preserved : goal.loop-text-preserved
loop-text-preserved c =
    behind _ _ _ _ _ _ _ c.loop-text.invariant c.in_ok-push_text.ensures (ap (λ (text : List ℕ). text ++ 0 ∷ []) c.as_bytes.ensures.value)
    (pushed_text string_bytes c.args.texts.now c.loop-text.text-index c.text-item.result c.loop-text-test.true (sym c.text-item.is))
