use Rattle.std.specs.Prelude.{◌==◌}
use Rattle.std.proofs.Common.{◌≡◌, false, sym, ap, ◌∙◌, subst}
use Rattle.std.specs.List.{list_any}
use Rattle.umtx_queue.specs.PiLines.{PiLine, pi_is_queued, pi_finds, ArePiWaiters}
use Rattle.umtx_queue.proofs.PiFacts.{are_pi_waiters, pi_finds_woken, pi_finds_nothing}
use Rattle.umtx_queue.proofs.pi.PiLine.look.Goals as goal

pub returns-then-was_woken-clause-found : goal.returns-then-was_woken-clause-found
returns-then-was_woken-clause-found c =
    let none : pi_is_queued c.args.slot c.self.inside.waiters.items ≡ false = ap (pi_is_queued c.args.slot) (sym c.deref.ensures.value) ∙ sym c.waits.ensures ∙ c.if-waits.false in
    let woken = ap (list_any (λ x. x == c.args.slot)) (sym c.deref-else-waits.ensures.value) ∙ sym c.was_woken.ensures ∙ c.if-was_woken.true in
    pi_finds_woken c.self.inside.waiters.items c.self.inside.woken.items c.args.slot none woken ∙ ap (λ (l : PiLine). pi_finds l c.args.slot) c.self.view_is

pub returns-else-was_woken-clause-found : goal.returns-else-was_woken-clause-found
returns-else-was_woken-clause-found c =
    let none : pi_is_queued c.args.slot c.self.inside.waiters.items ≡ false = ap (pi_is_queued c.args.slot) (sym c.deref.ensures.value) ∙ sym c.waits.ensures ∙ c.if-waits.false in
    let woken = ap (list_any (λ x. x == c.args.slot)) (sym c.deref-else-waits.ensures.value) ∙ sym c.was_woken.ensures ∙ c.if-was_woken.false in
    pi_finds_nothing c.self.inside.waiters.items c.self.inside.woken.items c.args.slot none woken ∙ ap (λ (l : PiLine). pi_finds l c.args.slot) c.self.view_is

pub returns-then-waits-clause-waiters : goal.returns-then-waits-clause-waiters
returns-then-waits-clause-waiters c = subst (λ (l : PiLine). ArePiWaiters l.waiters) c.self.view_is (are_pi_waiters c.self.inside.waiters.items c.self.inside.woken.items c.self.invariant.waiters c.self.invariant.once)

pub returns-then-was_woken-clause-waiters : goal.returns-then-was_woken-clause-waiters
returns-then-was_woken-clause-waiters c = subst (λ (l : PiLine). ArePiWaiters l.waiters) c.self.view_is (are_pi_waiters c.self.inside.waiters.items c.self.inside.woken.items c.self.invariant.waiters c.self.invariant.once)

pub returns-else-was_woken-clause-waiters : goal.returns-else-was_woken-clause-waiters
returns-else-was_woken-clause-waiters c = subst (λ (l : PiLine). ArePiWaiters l.waiters) c.self.view_is (are_pi_waiters c.self.inside.waiters.items c.self.inside.woken.items c.self.invariant.waiters c.self.invariant.once)
