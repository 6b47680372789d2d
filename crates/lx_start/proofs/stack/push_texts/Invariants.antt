use Rattle.std.proofs.Common.{◌≡◌, ◌++◌, map, take, string_bytes}
use Rattle.lx_machine.specs.Stack.{ended_texts}
use Rattle.lx_start.proofs.stack.push_texts.Given as goal

abbrev pub invariant-loop-text : goal.invariant-loop-text
invariant-loop-text l = l.bytes.items ≡ l.initial.bytes.items ++ ended_texts (map string_bytes (take l.text-index l.texts))
