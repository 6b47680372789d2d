use Rattle.std.proofs.Common.{◌≡◌, ◌∙◌, ℕ, Bool, true, false, refl, sym, arith, None}
use Rattle.std.specs.Prelude.{◌==◌, if◌then◌else◌}
use Rattle.kqueue_core.specs.declared.knotes.Watch.{Watch}
use Rattle.kqueue_core.specs.Changes.{activated_where}
use Rattle.kqueue_core.proofs.Steps.{changed_more, kept_more}
use Rattle.kqueue_core.proofs.changes.activate_each.Goals as goal
use Rattle.kqueue_core.proofs.changes.activate_each.Goals.{then-watches-at, else-watches-at}

abbrev nobody : Watch
nobody = record { file = 0; descriptor = 0; read = None; write = None }

one : (b : Bool) (v w : Watch) → b ≡ true → (if b then v else w) ≡ v
one true v w e = refl
one false v w e = absurd (cc)

other : (b : Bool) (v w : Watch) → b ≡ false → (if b then v else w) ≡ w
other true v w e = absurd (cc)
other false v w e = refl

is_eq : (n m : ℕ) → n ≡ m → (n == m) ≡ true
is_eq n m e = grind arith

no_eq : (n m : ℕ) → (n ≡ m → ⊥) → (n == m) ≡ false
no_eq n m h = by (n == m) refl
  where
    by : (b : Bool) → (n == m) ≡ b → (n == m) ≡ false
    by false e = e
    by true e = absurd (h (grind arith))

pub loop-at-preserved : goal.loop-at-preserved
loop-at-preserved c =
    let old = c.args.watches.now in
    let now = c.loop-at.watches in
    let at = c.loop-at.at in
    let active : Watch → Watch = activated_where (λ i. i == c.args.file) c.args.filter in
    let far = c.loop-at.invariant in
    elim c.if-watches-at.branch [
      | then-watches-at w ↦ rw w.watches-is (changed_more active old now at nobody (omega arith) (omega arith) far w.activated-active.result (w.activated-active.ensures ∙ sym (one _ _ _ (is_eq _ _ w.if-watches-at.true))))
      | else-watches-at w ↦ rw w.watches-is (kept_more active old now at nobody (omega arith) (omega arith) far (other _ _ _ (no_eq _ _ w.if-watches-at.false)))
    ]
