use Rattle.std.proofs.Common.{◌≡◌, ◌<◌, ◌+◌, Bool, true, cond, length, get_or, is_some, ap, sym, ◌∙◌, subst, arith, None}
use Rattle.std.specs.Prelude.{option_map}
use Rattle.std.proofs.Math.ListN.{length-set}
use Rattle.std.proofs.lemmas.List.{get_or_default}
use Rattle.bsd_abi.specs.BsdSig.{is_real_time}
use Rattle.bsd_proc.specs.declared.signals.Target.{Target}
use Rattle.bsd_proc.specs.declared.signals.Target.TheVariants.{All, One}
use Rattle.bsd_proc.specs.ProcessFields.{state_in}
use Rattle.bsd_proc.specs.Sending.{IsTarget, queued}
use Rattle.bsd_proc.specs.Signals.{first_of}
use Rattle.bsd_proc.specs.Slots.{ProcessState}
use Rattle.bsd_proc.specs.Taking.{pending_for, without_first, without_for}
use Rattle.bsd_proc.proofs.Queues.{byte-one, queued-taken}
use Rattle.bsd_proc.proofs.process.Process.take_from.Goals as goal

pub overflow_sub-self : goal.overflow_sub-self
overflow_sub-self c =
    let p = state_in c.self.inside in
    let one : c.from.result ≡ cond (is_real_time c.args.sig) 1 0 = c.from.ensures ∙ byte-one c.is_real_time.result ∙ ap (λ (b : Bool). cond b 1 0) c.is_real_time.ensures in
    let there : is_some (first_of c.args.sig (pending_for p c.args.target)) ≡ true = subst (λ (q : ProcessState). is_some (first_of c.args.sig (pending_for q c.args.target)) ≡ true) (sym c.self.view_is) c.requires.there in
    let taken : queued (without_for p c.args.target c.args.sig) + cond (is_real_time c.args.sig) 1 0 ≡ queued p = queued-taken p c.args.target c.args.sig c.requires.target c.self.invariant.slots there in
    omega (arith, one, taken, c.self.invariant.counted)

pub invariant_of-self : goal.invariant_of-self
invariant_of-self c =
    let p = state_in c.self.inside in
    let one : c.from.result ≡ cond (is_real_time c.args.sig) 1 0 = c.from.ensures ∙ byte-one c.is_real_time.result ∙ ap (λ (b : Bool). cond b 1 0) c.is_real_time.ensures in
    let there-so : is_some (first_of c.args.sig (pending_for p c.args.target)) ≡ true = subst (λ (q : ProcessState). is_some (first_of c.args.sig (pending_for q c.args.target)) ≡ true) (sym c.self.view_is) c.requires.there in
    let there : is_some (first_of c.args.sig (pending_for p All)) ≡ true = subst (λ (t : Target). is_some (first_of c.args.sig (pending_for p t)) ≡ true) c.in-All.is there-so in
    let taken : queued (without_for p All c.args.sig) + cond (is_real_time c.args.sig) 1 0 ≡ queued p = queued-taken p All c.args.sig tt c.self.invariant.slots there in
    record {
      slots = c.self.invariant.slots;
      actions = c.self.invariant.actions;
      counted = rw c.take.ensures.left (omega (arith, one, taken, c.self.invariant.counted));
      few = omega (arith, c.self.invariant.few);
    }

pub invariant_of-self-in-One : goal.invariant_of-self-in-One
invariant_of-self-in-One c =
    let p = state_in c.self.inside in
    let items = c.self.inside.slots.items in
    let one : c.from.result ≡ cond (is_real_time c.args.sig) 1 0 = c.from.ensures ∙ byte-one c.is_real_time.result ∙ ap (λ (b : Bool). cond b 1 0) c.is_real_time.ensures in
    let within : c.in-One.slot < 128 = subst (λ (t : Target). IsTarget t) c.in-One.is c.requires.target in
    let inside : c.in-One.slot < length items = omega (arith, within, c.self.invariant.slots) in
    let there-so : is_some (first_of c.args.sig (pending_for p c.args.target)) ≡ true = subst (λ (q : ProcessState). is_some (first_of c.args.sig (pending_for q c.args.target)) ≡ true) (sym c.self.view_is) c.requires.there in
    let there : is_some (first_of c.args.sig (pending_for p (One c.in-One.slot))) ≡ true = subst (λ (t : Target). is_some (first_of c.args.sig (pending_for p t)) ≡ true) c.in-One.is there-so in
    let taken : queued (without_for p (One c.in-One.slot) c.args.sig) + cond (is_real_time c.args.sig) 1 0 ≡ queued p = queued-taken p (One c.in-One.slot) c.args.sig within c.self.invariant.slots there in
    let left : c.take-in-One.new.self ≡ option_map (without_first c.args.sig) (get_or items c.in-One.slot None) = c.take-in-One.ensures.left ∙ ap (option_map (without_first c.args.sig)) (c.index_mut.ensures.value ∙ get_or_default _ _ _ _ inside) in
    record {
      slots = simp length-set c.self.invariant.slots;
      actions = c.self.invariant.actions;
      counted = rw left (omega (arith, one, taken, c.self.invariant.counted));
      few = omega (arith, c.self.invariant.few);
    }
