-- What is left is what was copied, and then the rest.
use Rattle.std.proofs.Common.{◌≡◌, take, drop, min, length}
use Rattle.outside.proofs.ReadsFromTheFront.{left-after_copy, end-after_copy, rest-from}
use Rattle.outside.proofs.memory_source.MemSourceSource.read.Goals as goal

pub returns-clause-bytes : goal.returns-clause-bytes
returns-clause-bytes c =
    let all = c.self.inside.bytes.items in
    let into = c.copy_front-count.new.into in
    let place = c.self.inside.place in
    let n = c.copy_front-count.result in
    let copied : take n into ≡ take n (drop place all) = rw (c.deref.ensures.value, rest-from all place) at c.copy_front-count.ensures.copied in
    let count : n ≡ min (length into) (length (drop place all)) = rw (c.deref.ensures.value, rest-from all place) at c.copy_front-count.ensures.count in
    rw (← c.self.view_is) (left-after_copy all into place n copied, λ none room. end-after_copy all into place n count none room)
