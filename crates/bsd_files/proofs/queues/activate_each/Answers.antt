use Rattle.std.proofs.Common.{◌≡◌, ◌<◌, arith, ap, sym, ◌∙◌, length}
use Rattle.open_files.specs.Kinds.{kind_out}
use Rattle.lx_machine.specs.Interests.{is_open_of}
use Rattle.bsd_files.proofs.Arming.{place_is, walk_begins, walk_ends, walk_passes, walk_takes}
use Rattle.bsd_files.specs.Ops.{is_this}
use Rattle.bsd_files.proofs.queues.activate_each.Goals as goal
use Rattle.bsd_files.proofs.queues.activate_each.Goals.{then-is_open_of, else-is_open_of}

pub loop-at-init : goal.loop-at-init
loop-at-init c = walk_begins (kind_out c.args.kind) c.args.filter c.args.files.now c.args.places.now

pub loop-at-preserved : goal.loop-at-preserved
loop-at-preserved c =
    let k = kind_out c.args.kind in
    let files = c.args.files.now in
    let at = c.loop-at.at in
    let within : at < length files = grind (arith, c.loop-at-test.true, c.min-count.ensures) in
    let here : is_this k files at ≡ c.is_open_of.result = ap (is_open_of k) (place_is files at c.index-files-at.result within (sym c.index-files-at.is)) ∙ sym c.is_open_of.ensures in
    elim c.if-is_open_of.branch [
      | then-is_open_of w ↦ rw w.places-is (w.activate_file.ensures ∙ walk_takes k c.args.filter files c.args.places.now at c.loop-at.places c.loop-at.invariant (here ∙ w.if-is_open_of.true))
      | else-is_open_of w ↦ rw w.places-is (walk_passes k c.args.filter files c.args.places.now at c.loop-at.places c.loop-at.invariant (here ∙ w.if-is_open_of.false))
    ]

pub returns : goal.returns
returns c =
    let end : c.loop-at.at ≡ c.min-count.result = omega (arith, c.loop-at-test.false, c.loop-at.auto.at-end) in
    c.loop-at.invariant
    ∙ walk_ends (kind_out c.args.kind) c.args.filter c.args.files.now c.args.places.now c.last_watched-last.result c.loop-at.at c.last_watched-last.ensures (end ∙ c.min-count.ensures)
