use Rattle.std.proofs.Common.{◌≡◌, ◌+◌, ◌<◌, ◌&&◌, ◌++◌, ◌∷◌, [], nat_lt, length, None, ℕ, List, Bool, true, false, slice_set, arith, ap, ap₂, refl, sym, ◌∙◌, subst, get_or}
use Rattle.std.proofs.lemmas.Grind.{common_steps}
use Rattle.kqueue_core.specs.declared.knotes.Filter.{Filter}
use Rattle.kqueue_core.specs.declared.knotes.Event.{Event}
use Rattle.kqueue_core.specs.declared.knotes.Watch.{Watch}
use Rattle.kqueue_core.specs.Watches.{told_watch}
use Rattle.kqueue_core.specs.Reports.{is_reported, watch_bits, event_of}
use Rattle.kqueue_core.proofs.Sorting.{IsSortedOut, begun, with_report, with_other, some_next, none_next}
use Rattle.kqueue_core.proofs.scans.sort_out.Goals as goal
use Rattle.kqueue_core.proofs.scans.sort_out.Goals.{in-Some, in-None}

abbrev nobody : Watch
nobody = record { file = 0; descriptor = 0; read = None; write = None }

pushed : (xs ys : List Watch) (x y : Watch) → ys ≡ xs ++ x ∷ [] → x ≡ y → ys ≡ xs ++ y ∷ []
pushed xs ys x y e f = e ∙ ap (λ (z : Watch). xs ++ z ∷ []) f

before : (n m : ℕ) (b : Bool) → (nat_lt n m && b) ≡ true → n < m
before n m b h = grind (arith, common_steps)

pub loop-at-init : goal.loop-at-init
loop-at-init g c = record {
  sorted = subst (λ (rs : List Watch). IsSortedOut (g.R.Readiness.told c.args.ready.now) c.args.most c.args.watches.now c.args.into.now 0 0 c.args.watches.now rs c.args.into.now) (sym c.requires.empty) (begun (g.R.Readiness.told c.args.ready.now) c.args.most c.args.watches.now c.args.into.now);
  capacity = refl;
}

pub loop-at-preserved : goal.loop-at-preserved
loop-at-preserved g c =
    let R : ℕ → Filter → ℕ = g.R.Readiness.told c.args.ready.now in
    let w = get_or c.loop-at.watches c.loop-at.at nobody in
    let sorted = c.loop-at.invariant.sorted in
    let long = c.loop-at.reported.ok.0 in
    elim c.match-next_bits.branch [
      | in-Some v ↦
          let told = some_next _ v.in-Some.bits (watch_bits R w) v.in-Some.ensures in
          let reported : (nat_lt (length c.loop-at.reported.items) c.args.most && is_reported R w) ≡ true = ap (λ n. nat_lt n c.args.most && is_reported R w) (sym long ∙ sym c.len.ensures) ∙ told.0 in
          let items : v.push_reserved.new.self.items ≡ c.loop-at.reported.items ++ told_watch w ∷ [] = pushed _ _ _ _ v.push_reserved.ensures.items v.told.ensures in
          let at_end : v.len-in-Some.result ≡ length c.loop-at.reported.items = v.len-in-Some.ensures ∙ long in
          let event : record { bits = v.in-Some.bits; user = v.user.result } ≡ event_of R w = ap₂ (λ b u. let e : Event = record { bits = b; user = u } in e) told.1 v.user.ensures in
          let into = ap₂ (λ n (e : Event). slice_set c.loop-at.into n e) at_end event in
          let room : length c.loop-at.reported.items < c.args.most = before _ _ _ reported in
          rw (v.watches-is, v.reported-is, v.into-is, v.kept-is) record {
            sorted = rw (items, into) (with_report R c.args.most c.args.watches.now c.args.into.now c.loop-at.at c.loop-at.kept c.loop-at.watches c.loop-at.reported.items c.loop-at.into w nobody sorted (omega arith) refl reported (omega (arith, room, c.requires.into)));
            capacity = v.push_reserved.ensures.capacity ∙ c.loop-at.invariant.capacity;
          }
      | in-None v ↦
          let other : (nat_lt (length c.loop-at.reported.items) c.args.most && is_reported R w) ≡ false = ap (λ n. nat_lt n c.args.most && is_reported R w) (sym long ∙ sym c.len.ensures) ∙ none_next _ (watch_bits R w) v.in-None.ensures in
          rw (v.watches-is, v.reported-is, v.into-is, v.kept-is) record {
            sorted = subst (λ (vs : List Watch). IsSortedOut R c.args.most c.args.watches.now c.args.into.now (c.loop-at.at + 1) (c.loop-at.kept + 1) vs c.loop-at.reported.items c.loop-at.into) (sym (v.move_up.ensures nobody)) (with_other R c.args.most c.args.watches.now c.args.into.now c.loop-at.at c.loop-at.kept c.loop-at.watches c.loop-at.reported.items c.loop-at.into w nobody sorted (omega arith) refl other (omega (arith, sorted.count)));
            capacity = c.loop-at.invariant.capacity;
          }
    ]
