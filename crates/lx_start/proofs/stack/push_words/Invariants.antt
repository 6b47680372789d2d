use Rattle.std.proofs.Common.{◌≡◌, ◌++◌, take}
use Rattle.lx_machine.specs.Stack.{stack_words}
use Rattle.lx_start.proofs.stack.push_words.Given as goal

abbrev pub invariant-loop-word : goal.invariant-loop-word
invariant-loop-word l = l.bytes.items ≡ l.initial.bytes.items ++ stack_words (take l.word-index l.words)
