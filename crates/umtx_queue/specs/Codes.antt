-- How these values are told apart, as every model's value is. This project's own.
use Rattle.std.specs.Prelude.{◌≡◌, ℕ, Bool, List, Option, Some, None, refl}
use Rattle.std.specs.Ordering.{nat_cmp}
use Rattle.std.specs.Coded.{Coded, code_by, coded×, coded_ℕ, coded_bool, coded_list, coded_option}
use Rattle.std.specs.FinMap as map
use Rattle.std.specs.FinSet as set
use Rattle.std.specs.FinSet.{FinSet}
use Rattle.umtx_queue.specs.declared.waiter.Waiter.{Waiter}
use Rattle.umtx_queue.specs.declared.waiter.Note.{Note}
use Rattle.umtx_queue.specs.declared.waiter.Note.TheVariants.{Woken, Moved}
use Rattle.umtx_queue.specs.declared.pi.PiWaiter.{PiWaiter}
use Rattle.umtx_queue.specs.Notes.{Notes}
use Rattle.umtx_queue.specs.Lines.{Line}
use Rattle.umtx_queue.specs.PiLines.{PiLine}
use Rattle.umtx_queue.specs.Chains.{ChainState}

abbrev pub coded_waiter : Coded Waiter
coded_waiter = code_by (ℕ × (ℕ × (Bool × (ℕ × ℕ)))) (coded× coded_ℕ (coded× coded_ℕ (coded× coded_bool (coded× coded_ℕ coded_ℕ)))) (λ w. (w.slot, (w.place, (w.many, (w.key, w.bits))))) (λ p. record { slot = p.0; place = p.1.0; many = p.1.1.0; key = p.1.1.1.0; bits = p.1.1.1.1 }) (λ _. refl)

abbrev pub coded_pi_waiter : Coded PiWaiter
coded_pi_waiter = code_by (ℕ × (ℕ × ℕ)) (coded× coded_ℕ (coded× coded_ℕ coded_ℕ)) (λ w. (w.slot, (w.tid, w.key))) (λ p. record { slot = p.0; tid = p.1.0; key = p.1.1 }) (λ _. refl)

-- the key of a note, where it has one, and the note again
abbrev pub key_of : Note → Option ℕ
key_of Woken = None
key_of (Moved key) = Some key

abbrev pub note_with : Option ℕ → Note
note_with None = Woken
note_with (Some key) = Moved key

pub same_note : (note : Note) → note_with (key_of note) ≡ note
same_note Woken = refl
same_note (Moved key) = refl

abbrev pub coded_note : Coded Note
coded_note = code_by (Option ℕ) (coded_option coded_ℕ) key_of note_with same_note

abbrev pub coded_line : Coded Line
coded_line = code_by (List Waiter × Notes) (coded× (coded_list coded_waiter) (map.code coded_ℕ coded_note)) (λ l. (l.waiters, l.notes)) (λ p. record { waiters = p.0; notes = p.1 }) (λ _. refl)

abbrev pub coded_pi_line : Coded PiLine
coded_pi_line = code_by (List PiWaiter × FinSet nat_cmp) (coded× (coded_list coded_pi_waiter) (set.code coded_ℕ)) (λ l. (l.waiters, l.woken)) (λ p. record { waiters = p.0; woken = p.1 }) (λ _. refl)

abbrev pub coded_chain : Coded ChainState
coded_chain = code_by (Option ℕ × (Line × PiLine)) (coded× (coded_option coded_ℕ) (coded× coded_line coded_pi_line)) (λ c. (c.marked, (c.line, c.pi))) (λ p. record { marked = p.0; line = p.1.0; pi = p.1.1 }) (λ _. refl)
