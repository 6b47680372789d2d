use Rattle.std.proofs.Common.{◌≡◌, ◌∙◌, Bool, true, false, refl, sym, arith, None}
use Rattle.std.specs.Prelude.{if◌then◌else◌}
use Rattle.kqueue_core.specs.declared.knotes.Watch.{Watch}
use Rattle.kqueue_core.specs.Watches.{changed_watch}
use Rattle.kqueue_core.proofs.Steps.{changed_more, kept_more}
use Rattle.kqueue_core.proofs.changes.change_each.Goals as goal
use Rattle.kqueue_core.proofs.changes.change_each.Goals.{then-is_of, else-is_of}

abbrev nobody : Watch
nobody = record { file = 0; descriptor = 0; read = None; write = None }

other : (b : Bool) (v w : Watch) → b ≡ false → (if b then v else w) ≡ w
other true v w e = absurd (cc)
other false v w e = refl

pub loop-at-preserved : goal.loop-at-preserved
loop-at-preserved c =
    let old = c.args.watches.now in
    let now = c.loop-at.watches in
    let at = c.loop-at.at in
    let change : Watch → Watch = changed_watch c.args.change.ident.file c.args.change.ident.fd c.args.change.filter c.args.change.flags.bits c.args.change.asked c.args.change.user c.args.change.ready in
    let far = c.loop-at.invariant in
    elim c.if-is_of.branch [
      | then-is_of w ↦ rw w.watches-is (changed_more change old now at nobody (omega arith) (omega arith) far w.changed-changed.result w.changed-changed.ensures)
      | else-is_of w ↦ rw w.watches-is (kept_more change old now at nobody (omega arith) (omega arith) far (other _ _ _ (sym c.is_of.ensures ∙ w.if-is_of.false)))
    ]
