use Rattle.lx_start.proofs.Pushed.{pushed_word, behind}
use Rattle.lx_start.proofs.stack.push_words.Goals as goal

pub loop-word-preserved : goal.loop-word-preserved
loop-word-preserved c =
    behind _ _ _ _ _ _ _ c.loop-word.invariant c.in_ok-extend_from_slice.ensures.items c.to_le_bytes.ensures
    (pushed_word c.args.words.now c.loop-word.word-index c.loop-word-test.true)
