-- What is copied of the two slices of the ring is what is copied of the bytes.
use Rattle.std.proofs.Common.{◌∙◌, ◌+◌, ap, arith, take, drop, ◌++◌, List, ℕ}
use Rattle.circular_buffer.proofs.Items.{copied_out}
use Rattle.pipe_core.proofs.pipes.Pipe.copy_front.Goals as goal

pub returns-clause-copied : goal.returns-clause-copied
returns-clause-copied c =
    let front = c.as_slices.result.0.now in
    let back = c.as_slices.result.1.now in
    let first = c.min-from_front.ensures in
    let second = c.min-from_back.ensures in
    let count = c.min-from_front.result + c.min-from_back.result in
    copied_out front back c.args.into.now c.copy_from_slice.new.self c.copy_from_slice-2.new.self c.min-from_front.result c.min-from_back.result
    (omega arith) (λ some. omega arith) c.copy_from_slice.ensures.after c.copy_from_slice-2.ensures.after
    ∙ ap (λ (bytes : List ℕ). take count bytes ++ drop count c.args.into.now) (c.as_slices.ensures ∙ cc)
