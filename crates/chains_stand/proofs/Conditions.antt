-- What the calls of a chain ask, where a thread does what it owes: nobody who is to come stands there already, and who is to get a lock
-- is there.
use Rattle.std.proofs.Common.{◌≡◌, ℕ, ◌<◌, Bool, true, false, Some, List, [], ◌∷◌, ◌++◌, refl, sym, ap, ◌∙◌, arith, subst, ◌≢◌, ◌||◌}
use Rattle.std.specs.Prelude.{is_some}
use Rattle.std.specs.List.{AllByRecursion, list_any}
use Rattle.std.proofs.lemmas.List.Elements.{All-from_recursion, recursion_from_All}
use Rattle.umtx_queue.specs.declared.waiter.Waiter.{Waiter}
use Rattle.umtx_queue.specs.declared.pi.PiWaiter.{PiWaiter}
use Rattle.std.proofs.lemmas.List.Folds.{list_any-append}
use Rattle.umtx_queue.specs.declared.waiter.Looked.TheVariants as looked
use Rattle.umtx_queue.specs.Waiters.{is_of, is_queued, who, AreWaiters, IsWaiter}
use Rattle.umtx_queue.specs.Carries.{AreApart}
use Rattle.umtx_queue.specs.Lines.{joined}
use Rattle.umtx_queue.specs.PiLines.{pi_first_of, pi_has_key, pi_is_of, pi_is_queued, pi_joined, ArePiWaiters}
use Rattle.umtx_queue.specs.Chains.{ChainState}
use Rattle.umtx_queue.proofs.LineLaws.{always, stays_a_line}
use Rattle.umtx_queue.proofs.Tallies.{tally-append}
use Rattle.umtx_queue.proofs.PiLaws.{stays_a_pi_line, tells_of_first}
use Rattle.places.specs.Places.{chain}
use Rattle.chains_stand.specs.Owed.{chain_of_op, done, EachAt, Enter, EnterPi, Join, Op, run}
use Rattle.chains_stand.specs.Chains.{lines_of}
use Rattle.chains_stand.specs.Notes.{finds_in}
use Rattle.chains_stand.specs.Board.{Board, ChainsSound, Told, bare, settle, settled, sleepers_of, work_of}
use Rattle.chains_stand.proofs.Numbers.{at_same}
use Rattle.chains_stand.proofs.Looks.{is_found}
use Rattle.chains_stand.proofs.Ends.{one_chain}

-- a part of a line is one
each_left : {X : Type 0} (P : X → Type 0) (xs ys : List X) → AllByRecursion P (xs ++ ys) → AllByRecursion P xs
each_left P [] ys e = tt
each_left P (x ∷ xs) ys e = (e.0, each_left P xs ys e.1)

are_left : (xs ys : List Waiter) → AreWaiters (xs ++ ys) → AreWaiters xs
are_left xs ys are = record {
  each = All-from_recursion IsWaiter xs (each_left IsWaiter xs ys (recursion_from_All IsWaiter (xs ++ ys) are.each));
  once = λ i. (let a = tally-append (is_of i) xs ys in let o = are.once i in omega arith);
}

pi_are_left : (xs ys : List PiWaiter) → ArePiWaiters (xs ++ ys) → ArePiWaiters xs
pi_are_left xs ys are = record {
  each = All-from_recursion (λ w. w.slot < 128) xs (each_left (λ w. w.slot < 128) xs ys (recursion_from_All (λ w. w.slot < 128) (xs ++ ys) are.each));
  once = λ i. (let a = tally-append (pi_is_of i) xs ys in let o = are.once i in omega arith);
}

-- a chain whose slot owes it one thing
module _ (B : Board) (snd : ChainsSound B) (s : ℕ) (o : Op) (one : (B.owes s).ops ≡ o ∷ []) where
  has_mark : (B.chains (chain_of_op o)).marked ≡ Some s
  has_mark = snd.marks.own s (chain_of_op o) (subst (EachAt (λ c. (B.owes s).marks c ≡ true)) one (snd.marks.within s)).0

  owed_there : settled B (chain_of_op o) ≡ done o (B.owes s).carry (bare B (chain_of_op o))
  owed_there =
      ap (settle B (chain_of_op o)) has_mark ∙ ap (λ (os : List Op). (run os (work_of B (B.owes s))).chains (chain_of_op o)) one
      ∙ at_same (chain_of_op o) (done o (B.owes s).carry) (bare B) (chain_of_op o) refl

module _ (B : Board) (snd : ChainsSound B) (s : ℕ) where
  -- the waiter that queues may be inserted
  pub enter_may : (x : Waiter) → (B.owes s).ops ≡ Enter x ∷ [] → IsWaiter x × (is_queued (who x) (B.chains (chain x.key)).line.waiters ≡ false)
  enter_may x one = (stays_a_line (B.chains (chain x.key)).line (are_left (B.chains (chain x.key)).line.waiters (x ∷ []) joins)).insert_may x joins
    where
      joins : AreWaiters (joined (B.chains (chain x.key)).line (x ∷ [])).waiters
      joins = subst (λ (z : ChainState). AreWaiters z.line.waiters) (owed_there B snd s (Enter x) one) (snd.notes.waiters (chain x.key))

  -- the carry may be put in
  pub join_may : (b : ℕ) → (B.owes s).ops ≡ Join b ∷ [] → AreApart (B.owes s).carry (B.chains (chain b)).line.waiters
  join_may b one = (stays_a_line (B.chains (chain b)).line (are_left (B.chains (chain b)).line.waiters (B.owes s).carry joins)).requeue_may (B.owes s).carry joins
    where
      joins : AreWaiters (joined (B.chains (chain b)).line (B.owes s).carry).waiters
      joins = subst (λ (z : ChainState). AreWaiters z.line.waiters) (owed_there B snd s (Join b) one) (snd.notes.waiters (chain b))

  -- the waiter for a lock may be inserted
  pub enter_pi_may : (x : PiWaiter) → (B.owes s).ops ≡ EnterPi x ∷ [] → (x.slot < 128) × (pi_is_queued x.slot (B.chains (chain x.key)).pi.waiters ≡ false)
  enter_pi_may x one = (stays_a_pi_line (B.chains (chain x.key)).pi (pi_are_left (B.chains (chain x.key)).pi.waiters (x ∷ []) joins)).insert_may x joins
    where
      joins : ArePiWaiters (pi_joined (B.chains (chain x.key)).pi x).waiters
      joins = subst (λ (z : ChainState). ArePiWaiters z.pi.waiters) (owed_there B snd s (EnterPi x) one) (snd.locks.waiters (chain x.key))

  -- where the slot was told of a waiter for the lock there is one
  pub hand_may : (told : Told) (first : ℕ × Bool) → (B.owes s).told ≡ Some told → told.first ≡ Some first → list_any (pi_has_key told.at) (B.chains (chain told.at)).pi.waiters ≡ true
  hand_may told first is some =
      let t = snd.told s told is in
      sym (tells_of_first told.at (B.chains (chain told.at)).pi.waiters).there ∙ ap is_some (t.first ∙ some)

  -- and what it was told holds of the settled chain too, as long as it owes nothing
  pub told_settled : (told : Told) → (B.owes s).told ≡ Some told → (B.owes s).ops ≡ [] → pi_first_of told.at (settled B (chain told.at)).pi.waiters ≡ told.first
  told_settled told is none =
      let t = snd.told s told is in
      ap (λ (z : ChainState). pi_first_of told.at z.pi.waiters)
      (ap (settle B (chain told.at)) (snd.marks.own s (chain told.at) t.busy) ∙ ap (λ (os : List Op). (run os (work_of B (B.owes s))).chains (chain told.at)) none)
      ∙ t.first

-- who is carried by one thread is carried by no other
module _ (B : Board) (snd : ChainsSound B) (i : ℕ) where
  carried_stands : (s b : ℕ) → (B.owes s).ops ≡ Join b ∷ [] → is_queued i (B.owes s).carry ≡ true → finds_in (lines_of (settled B)) i (chain b) ≡ Some looked.Queued
  carried_stands s b one q =
      is_found (settled B (chain b)).line i
      (ap (λ (z : ChainState). is_queued i z.line.waiters) (owed_there B snd s (Join b) one)
      ∙ list_any-append (is_of i) (B.chains (chain b)).line.waiters (B.owes s).carry ∙ ap (λ t. is_queued i (B.chains (chain b)).line.waiters || t) q ∙ always (is_queued i (B.chains (chain b)).line.waiters))

  pub one_carry : (s x b d : ℕ) → x ≢ s → (B.owes s).ops ≡ Join b ∷ [] → (B.owes x).ops ≡ Join d ∷ [] → is_queued i (B.owes s).carry ≡ true → is_queued i (B.owes x).carry ≡ true → ⊥
  one_carry s x b d ne one other q r =
      let e = one_chain (sleepers_of B) (lines_of (settled B)) snd.notes i (chain b) (chain d) (carried_stands s b one q) (carried_stands x d other r) in
      let f : Some s ≡ Some x = sym (has_mark B snd s (Join b) one) ∙ ap (λ (c : ℕ). (B.chains c).marked) e ∙ has_mark B snd x (Join d) other in
      ne (let g : s ≡ x = cc in sym g)
