-- What has been read so far, and what comes of the next read.
use Rattle.std.proofs.Common.{◌≡◌, ◌<◌, ◌+◌, ℕ, [], arith, rules, length, take, ap}
use Rattle.std.proofs.lemmas.Grind.{common_steps}
use Rattle.outside.proofs.Wholes.{read-nothing, read-all, read-too_much}
use Rattle.outside.proofs.pieces.read_rest.Goals as goal

pub loop-count-init : goal.loop-count-init
loop-count-init g c = record {
  within = omega (arith, c.new-bytes.ensures.len);
  read = read-nothing _ _ c.new-bytes.ensures.items;
  quiet = search rules;
}

pub returns-then-count-eq0-clause-bytes : goal.returns-then-count-eq0-clause-bytes
returns-then-count-eq0-clause-bytes g c =
    let read = c.in-Ok.ensures.bytes in
    let some : 0 < length c.read.new.buf = omega (arith, c.loop-count.auto.room, c.read.auto.buf, c.requires) in
    let none : take c.in-Ok.count c.read.new.buf ≡ [] = ap (λ (n : ℕ). take n c.read.new.buf) c.if-count-eq0.true in
    (c.loop-count.invariant.within, read-all _ _ _ _ _ c.loop-count.invariant.read read.0 none (read.1 c.if-count-eq0.true some))

pub returns-then-count-limit-clause-bytes : goal.returns-then-count-limit-clause-bytes
returns-then-count-limit-clause-bytes g c =
    let piece : length (take c.in-Ok.count c.read.new.buf) ≡ c.in-Ok.count = grind (arith, common_steps, c.in-Ok.ensures.bound) in
    let much : c.args.limit < length c.loop-count.bytes.items + length (take c.in-Ok.count c.read.new.buf) =
    omega (arith, piece, c.if-count-limit.true, c.len.ensures, c.loop-count.invariant.within) in
    (search rules, read-too_much _ _ _ _ _ _ c.loop-count.invariant.read c.in-Ok.ensures.bytes.0 much)
