use Rattle.std.proofs.Common.{◌≡◌, ◌≤◌, ◌<◌, List, length, false, true, ap, sym, ◌∙◌, subst, arith}
use Rattle.bsd_abi.specs.BsdSig.{is_real_time}
use Rattle.bsd_proc.specs.declared.signals.Signal.{Signal}
use Rattle.bsd_proc.specs.Signals.{real_time_count}
use Rattle.bsd_proc.specs.Sending.{is_there}
use Rattle.bsd_proc.proofs.Counts.{IsOnce_push, length-room}
use Rattle.bsd_proc.proofs.pending.Pending.add.Goals as goal

pub push_reserved-requires : goal.push_reserved-requires
push_reserved-requires c =
    let items = c.self.inside.signals.items in
    let absent : is_there c.args.signal items ≡ false = ap (λ xs. is_there c.args.signal xs) (sym c.deref.ensures.value) ∙ sym c.is_there.ensures ∙ c.if-not-is_there.true in
    let few : real_time_count items ≤ 64 = subst (λ (xs : List Signal). real_time_count xs ≤ 64) (sym c.self.view_is) c.requires.few in
    let room : is_real_time c.args.signal.sig ≡ true → real_time_count items < 64 = subst (λ (xs : List Signal). is_real_time c.args.signal.sig ≡ true → real_time_count xs < 64) (sym c.self.view_is) c.requires.room in
    let fits : length items < 95 = length-room c.args.signal items c.self.invariant.once absent few room in
    let len : length c.deref.result.now ≡ length items = ap length c.deref.ensures.value in
    omega (arith, fits, len, c.deref.ensures.len, c.self.invariant.room)

pub invariant_of-self : goal.invariant_of-self
invariant_of-self c =
    let absent : is_there c.args.signal c.self.inside.signals.items ≡ false = ap (λ xs. is_there c.args.signal xs) (sym c.deref.ensures.value) ∙ sym c.is_there.ensures ∙ c.if-not-is_there.true in
    record {
      once = rw c.push_reserved.ensures.items (IsOnce_push c.args.signal c.self.inside.signals.items absent c.self.invariant.once);
      room = rw c.push_reserved.ensures.capacity c.self.invariant.room;
    }
