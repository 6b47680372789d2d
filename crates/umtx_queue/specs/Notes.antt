-- The notes of a chain: what became of a slot and place that has left it, by their number. This project's own: where FreeBSD's
-- kernel changes the sleeping thread's own entry (UMUTEX, UMTX_OP_WAKE of _umtx_op(2)), the chain keeps a note until the thread looks.
use Rattle.std.specs.Prelude.{ℕ, not, ◌==◌, List, [], ◌∷◌}
use Rattle.std.specs.Ordering.{nat_cmp}
use Rattle.std.specs.FinMap as map
use Rattle.std.specs.FinMap.{FinMap}
use Rattle.umtx_queue.specs.declared.waiter.Waiter.{Waiter}
use Rattle.umtx_queue.specs.declared.waiter.Note.{Note}
use Rattle.umtx_queue.specs.declared.waiter.Note.TheVariants as notes
use Rattle.umtx_queue.specs.declared.waiter.Looked.{Looked}
use Rattle.umtx_queue.specs.declared.waiter.Looked.TheVariants as looked
use Rattle.umtx_queue.specs.Waiters.{who, is_queued, slot_of}

-- notes by the number of a slot and place
abbrev pub Notes : Type 0
Notes = FinMap nat_cmp Note

-- the notes once each of these waiters has left with this one
abbrev pub noted : Note → List Waiter → Notes → Notes
noted note [] ns = ns
noted note (w ∷ ws) ns = map.insert (noted note ws ns) (who w) note

-- the notes without those of these waiters
abbrev pub without_notes : List Waiter → Notes → Notes
without_notes ws ns = map.retain_keys ns (λ i. not (is_queued i ws))

-- the notes of all other slots
abbrev pub without_notes_of : ℕ → Notes → Notes
without_notes_of slot ns = map.retain_keys ns (λ i. not (slot_of i == slot))

-- what a note tells who looks
abbrev pub told : Note → Looked
told notes.Woken = looked.Woken
told (notes.Moved key) = looked.Moved key
