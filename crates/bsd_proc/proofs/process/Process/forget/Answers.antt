use Rattle.std.proofs.Common.{◌≡◌, ◌≤◌, ◌+◌, map, length, ap, sym, ◌∙◌, arith}
use Rattle.std.specs.Prelude.{option_map, sum_by}
use Rattle.std.specs.Vec.{with_items}
use Rattle.std.proofs.lemmas.List.{length-map}
use Rattle.std.proofs.lemmas.Grind.{common_steps}
use Rattle.bsd_proc.specs.Actions.{without_sig}
use Rattle.bsd_proc.specs.Sending.{queued_at}
use Rattle.bsd_proc.specs.Signals.{real_time_count, without_all}
use Rattle.bsd_proc.proofs.Queues.{queued_forgotten, slots_forgotten}
use Rattle.bsd_proc.proofs.process.Process.forget.Goals as goal

pub count_queued-requires : goal.count_queued-requires
count_queued-requires c =
    let items = c.self.inside.slots.items in
    let flat : c.deref.result.now ≡ c.forget_each.new.slots = grind (arith, common_steps) in
    let slots : c.deref.result.now ≡ map (option_map (without_sig c.args.sig)) items = flat ∙ c.forget_each.ensures ∙ ap (λ xs. map (option_map (without_sig c.args.sig)) xs) c.deref_mut.ensures.value in
    rw slots (omega (arith, slots_forgotten c.args.sig items, c.self.invariant.counted, c.self.invariant.few))

pub overflow_add-self : goal.overflow_add-self
overflow_add-self c =
    let items = c.self.inside.slots.items in
    let flat : c.deref.result.now ≡ c.forget_each.new.slots = grind (arith, common_steps) in
    let slots : c.deref.result.now ≡ map (option_map (without_sig c.args.sig)) items = flat ∙ c.forget_each.ensures ∙ ap (λ xs. map (option_map (without_sig c.args.sig)) xs) c.deref_mut.ensures.value in
    let own : c.count_queued.result ≡ sum_by queued_at (map (option_map (without_sig c.args.sig)) items) = c.count_queued.ensures ∙ ap (sum_by queued_at) slots in
    let shared : c.real_time_count.result ≡ real_time_count (without_all c.args.sig c.self.inside.pending) = c.real_time_count.ensures ∙ ap real_time_count c.forget.ensures in
    let few : c.count_queued.result + c.real_time_count.result ≤ 64 = omega (arith, own, shared, queued_forgotten c.args.sig items c.self.inside.pending, c.self.invariant.counted, c.self.invariant.few) in
    omega (arith, few)

pub invariant_of-self : goal.invariant_of-self
invariant_of-self c =
    let items = c.self.inside.slots.items in
    let flat : c.deref.result.now ≡ c.forget_each.new.slots = grind (arith, common_steps) in
    let changed : c.deref.result.now ≡ map (option_map (without_sig c.args.sig)) items = flat ∙ c.forget_each.ensures ∙ ap (λ xs. map (option_map (without_sig c.args.sig)) xs) c.deref_mut.ensures.value in
    let own : c.count_queued.result ≡ sum_by queued_at (map (option_map (without_sig c.args.sig)) items) = c.count_queued.ensures ∙ ap (sum_by queued_at) changed in
    let shared : c.real_time_count.result ≡ real_time_count (without_all c.args.sig c.self.inside.pending) = c.real_time_count.ensures ∙ ap real_time_count c.forget.ensures in
    record {
      slots = ap length (sym c.deref.ensures.value ∙ changed) ∙ simp length-map c.self.invariant.slots;
      actions = c.self.invariant.actions;
      counted = ap (λ n. n + c.real_time_count.result) (c.count_queued.ensures ∙ ap (sum_by queued_at) c.deref.ensures.value) ∙ ap (λ n. sum_by queued_at (with_items c.self.inside.slots c.forget_each.new.slots).items + n) c.real_time_count.ensures;
      few = omega (arith, own, shared, queued_forgotten c.args.sig items c.self.inside.pending, c.self.invariant.counted, c.self.invariant.few);
    }
