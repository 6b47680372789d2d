use Rattle.std.proofs.Common.{◌≡◌, ◌+◌, ◌++◌, length, map, take, string_bytes}
use Rattle.lx_machine.specs.Stack.{argument_places, ended_texts}
use Rattle.lx_start.proofs.stack.push_places.Given as goal

abbrev pub invariant-loop-text : goal.invariant-loop-text
invariant-loop-text l = record {
  next : l.next ≡ l.fn.at + length (ended_texts (map string_bytes (take l.text-index l.texts)));
  places : l.words.items ≡ l.initial.words.items ++ argument_places l.fn.at (map string_bytes (take l.text-index l.texts));
}
