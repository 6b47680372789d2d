-- What the second line is, and what each slot finds in it, after each call.
use Rattle.std.proofs.Common.{◌≡◌, ℕ, ◌≤◌, Bool, true, false, not, ◌&&◌, ◌||◌, List, [], ◌∷◌, ◌++◌, Option, Some, None, refl, sym, ap, ◌∙◌, arith, cond}
use Rattle.std.specs.Prelude.{◌==◌, if◌then◌else◌, is_some}
use Rattle.std.specs.Ordering.{nat_cmp}
use Rattle.std.specs.Cmp.{nat_cmp_total}
use Rattle.std.specs.FinSet as set
use Rattle.std.specs.FinSet.{FinSet}
use Rattle.std.specs.List.{AllByRecursion, filter, list_any}
use Rattle.std.proofs.lemmas.Bool.Decides.{nat_tests}
use Rattle.std.proofs.lemmas.Grind.{common_steps}
use Rattle.std.proofs.lemmas.List.Elements.{All-from_recursion, recursion_from_All}
use Rattle.umtx_queue.specs.declared.pi.PiWaiter.{PiWaiter}
use Rattle.umtx_queue.specs.declared.waiter.Looked.{Looked}
use Rattle.umtx_queue.specs.declared.waiter.Looked.TheVariants as looked
use Rattle.umtx_queue.specs.Lists.{first_of, without_first, tally}
use Rattle.umtx_queue.specs.PiLines.{PiLine, pi_is_of, pi_is_queued, pi_has_key, pi_first_of, pi_woken, pi_finds, pi_joined, pi_handed, pi_removed, ArePiWaiters}
use Rattle.umtx_queue.specs.Laws.{StaysAPiLine, PiFindsAfter, HandsToFirst, TellsOfFirst}
use Rattle.umtx_queue.proofs.NoteMaps.{tied, same_number}
use Rattle.umtx_queue.proofs.Picking.{all_left, none_first}
use Rattle.umtx_queue.proofs.Tallies.{tally-append, tally_split, tally-filter, tally_any, none_tally, Each-without_first, Each-filter, Each-append}
use Rattle.umtx_queue.proofs.LineLaws.{each_right, any_left, any_append, always, never, itself}
use Rattle.umtx_queue.proofs.PiFacts.{HasSlot, PiOnce, pi_joins}

none_woken : (ws : List PiWaiter) → ((slot : ℕ) → tally (pi_is_of slot) ws ≤ 1) → PiOnce ws []
none_woken ws once slot = let o = once slot in omega arith

pub stays_a_pi_line : (line : PiLine) → ArePiWaiters line.waiters → StaysAPiLine line
stays_a_pi_line line are = record {
  joined = λ w low apart. record {
    each = All-from_recursion HasSlot _ (Each-append HasSlot line.waiters (w ∷ []) each (low, tt));
    once = λ slot. (let o = pi_joins line.waiters [] w (none_woken line.waiters are.once) apart slot in omega arith);
  };
  insert_may = λ w both. (
    (each_right HasSlot line.waiters (w ∷ []) (recursion_from_All HasSlot _ both.each)).0,
    none_tally (pi_is_of w.slot) line.waiters (let a = tally-append (pi_is_of w.slot) line.waiters (w ∷ []) in let o = both.once w.slot in let one : ◌≡◌ {A = ℕ} (cond (pi_is_of w.slot w) 1 0) 1 = ap (λ b. let n : ℕ = cond b 1 0 in n) (itself w.slot) in omega arith),
  );
  handed = λ key. record {
    each = All-from_recursion HasSlot _ (Each-without_first HasSlot (pi_has_key key) 1 line.waiters each);
    once = λ slot. (let a = tally_split (pi_has_key key) (pi_is_of slot) 1 line.waiters in let o = are.once slot in omega arith);
  };
  removed = λ slot. record {
    each = All-from_recursion HasSlot _ (Each-filter HasSlot _ line.waiters each);
    once = λ other. (let a = tally-filter (pi_is_of other) (λ w. not (pi_is_of slot w)) line.waiters in let o = are.once other in omega arith);
  };
}
  where
    each : AllByRecursion HasSlot line.waiters
    each = recursion_from_All HasSlot line.waiters are.each

-- ---- what each finds

-- what a slot finds, of whether it waits and whether it was woken
abbrev found : Bool → Bool → Option Looked
found waits woken = if waits then Some looked.Queued else if woken then Some looked.Woken else None

has_less : (slots : FinSet nat_cmp) (slot q : ℕ) → set.contains (set.remove slots slot) q ≡ (not (slot == q) && set.contains slots q)
has_less slots slot q = set.contains-remove nat_cmp_total slots slot q ∙ ap (λ b. not b && set.contains {R = nat_cmp} slots q) (tied q slot)

has_woken_all : (ws : List PiWaiter) (slots : FinSet nat_cmp) (q : ℕ) → set.contains (pi_woken ws slots) q ≡ (pi_is_queued q ws || set.contains slots q)
has_woken_all [] slots q = refl
has_woken_all (w ∷ ws) slots q =
    set.contains-insert nat_cmp_total (pi_woken ws slots) w.slot q ∙ ap (λ b. b || set.contains {R = nat_cmp} (pi_woken ws slots) q) (tied q w.slot) ∙ ap (λ b. pi_is_of q w || b) (has_woken_all ws slots q) ∙ grouped (pi_is_of q w) (pi_is_queued q ws) (set.contains slots q)
  where
    grouped : (a b c : Bool) → (a || (b || c)) ≡ ((a || b) || c)
    grouped true b c = refl
    grouped false b c = refl

joined_finds : (line : PiLine) (slot : ℕ) (w : PiWaiter) (b : Bool) → (w.slot == slot) ≡ b → pi_finds (pi_joined line w) slot ≡ cond b (Some looked.Queued) (pi_finds line slot)
joined_finds line slot w true h =
    let all : pi_is_queued slot (line.waiters ++ w ∷ []) ≡ true = any_append (pi_is_of slot) line.waiters (w ∷ []) ∙ ap (λ b. pi_is_queued slot line.waiters || (b || false)) h ∙ always (pi_is_queued slot line.waiters) in
    rw all refl
joined_finds line slot w false h =
    let same : pi_is_queued slot (line.waiters ++ w ∷ []) ≡ pi_is_queued slot line.waiters = any_append (pi_is_of slot) line.waiters (w ∷ []) ∙ ap (λ b. pi_is_queued slot line.waiters || (b || false)) h ∙ never (pi_is_queued slot line.waiters) in
    let had : set.contains (set.remove line.woken w.slot) slot ≡ set.contains line.woken slot = has_less line.woken w.slot slot ∙ ap (λ b. not b && set.contains {R = nat_cmp} line.woken slot) h in
    ap (λ b. found b (set.contains {R = nat_cmp} (set.remove line.woken w.slot) slot)) same ∙ ap (found (pi_is_queued slot line.waiters)) had

handed_finds : (line : PiLine) (slot : ℕ) → ArePiWaiters line.waiters → (key : ℕ) (b : Bool) → pi_is_queued slot (first_of (pi_has_key key) 1 line.waiters) ≡ b → pi_finds (pi_handed line key) slot ≡ cond b (Some looked.Woken) (pi_finds line slot)
handed_finds line slot are key true h =
    let a = tally_any (pi_is_of slot) (first_of (pi_has_key key) 1 line.waiters) h in
    let s = tally_split (pi_has_key key) (pi_is_of slot) 1 line.waiters in
    let o = are.once slot in
    let none : pi_is_queued slot (without_first (pi_has_key key) 1 line.waiters) ≡ false = none_tally (pi_is_of slot) (without_first (pi_has_key key) 1 line.waiters) (omega arith) in
    let had : set.contains (pi_woken (first_of (pi_has_key key) 1 line.waiters) line.woken) slot ≡ true = has_woken_all (first_of (pi_has_key key) 1 line.waiters) line.woken slot ∙ ap (λ b. b || set.contains {R = nat_cmp} line.woken slot) h in
    ap (λ b. found b (set.contains {R = nat_cmp} (pi_woken (first_of (pi_has_key key) 1 line.waiters) line.woken) slot)) none ∙ ap (found false) had
handed_finds line slot are key false h =
    let same : pi_is_queued slot (without_first (pi_has_key key) 1 line.waiters) ≡ pi_is_queued slot line.waiters = any_left (pi_has_key key) (pi_is_of slot) 1 line.waiters h in
    let had : set.contains (pi_woken (first_of (pi_has_key key) 1 line.waiters) line.woken) slot ≡ set.contains line.woken slot = has_woken_all (first_of (pi_has_key key) 1 line.waiters) line.woken slot ∙ ap (λ b. b || set.contains {R = nat_cmp} line.woken slot) h in
    ap (λ b. found b (set.contains {R = nat_cmp} (pi_woken (first_of (pi_has_key key) 1 line.waiters) line.woken) slot)) same ∙ ap (found (pi_is_queued slot line.waiters)) had

any_less : (slot other : ℕ) (ws : List PiWaiter) → pi_is_queued slot (filter (λ w. not (pi_is_of other w)) ws) ≡ (not (other == slot) && pi_is_queued slot ws)
any_less slot other [] = none (not (other == slot))
  where
    none : (b : Bool) → false ≡ (b && false)
    none true = refl
    none false = refl
any_less slot other (w ∷ ws) = let a = any_less slot other ws in let b = same_number w.slot other in grind (arith, nat_tests, common_steps)

removed_finds : (line : PiLine) (slot other : ℕ) (b : Bool) → (other == slot) ≡ b → pi_finds (pi_removed line other) slot ≡ cond b None (pi_finds line slot)
removed_finds line slot other true h =
    let none : pi_is_queued slot (filter (λ w. not (pi_is_of other w)) line.waiters) ≡ false = any_less slot other line.waiters ∙ ap (λ b. not b && pi_is_queued slot line.waiters) h in
    let had : set.contains (set.remove line.woken other) slot ≡ false = has_less line.woken other slot ∙ ap (λ b. not b && set.contains {R = nat_cmp} line.woken slot) h in
    ap (λ b. found b (set.contains {R = nat_cmp} (set.remove line.woken other) slot)) none ∙ ap (found false) had
removed_finds line slot other false h =
    let same : pi_is_queued slot (filter (λ w. not (pi_is_of other w)) line.waiters) ≡ pi_is_queued slot line.waiters = any_less slot other line.waiters ∙ ap (λ b. not b && pi_is_queued slot line.waiters) h in
    let had : set.contains (set.remove line.woken other) slot ≡ set.contains line.woken slot = has_less line.woken other slot ∙ ap (λ b. not b && set.contains {R = nat_cmp} line.woken slot) h in
    ap (λ b. found b (set.contains {R = nat_cmp} (set.remove line.woken other) slot)) same ∙ ap (found (pi_is_queued slot line.waiters)) had

pub pi_finds_after : (line : PiLine) (slot : ℕ) → ArePiWaiters line.waiters → PiFindsAfter line slot
pi_finds_after line slot are = record {
  joined = λ w. joined_finds line slot w _ refl;
  handed = λ key. handed_finds line slot are key _ refl;
  removed = λ other. removed_finds line slot other _ refl;
}

-- ---- the first with a key

is_there : (key : ℕ) (ws : List PiWaiter) → is_some (pi_first_of key ws) ≡ list_any (pi_has_key key) ws
is_there key [] = refl
is_there key (w ∷ ws) = by (pi_has_key key w) (is_there key ws)
  where
    by : (b : Bool) → is_some (pi_first_of key ws) ≡ list_any (pi_has_key key) ws → is_some (let o : Option (ℕ × Bool) = cond b (Some (w.tid, list_any (pi_has_key key) ws)) (pi_first_of key ws) in o) ≡ (b || list_any (pi_has_key key) ws)
    by true rest = refl
    by false rest = rest

abbrev tid_in : Option (ℕ × Bool) → ℕ
tid_in None = 0
tid_in (Some told) = told.0

abbrev more_in : Option (ℕ × Bool) → Bool
more_in None = false
more_in (Some told) = told.1

hands_to : (key : ℕ) (ws : List PiWaiter) (tid : ℕ) (more : Bool) → pi_first_of key ws ≡ Some (tid, more) → HandsToFirst key ws tid more
hands_to key [] tid more e = absurd (let z : ⊥ = cc in z)
hands_to key (w ∷ ws) tid more e = by (pi_has_key key w) refl (hands_to key ws tid more)
  where
    by : (b : Bool) → pi_has_key key w ≡ b → (pi_first_of key ws ≡ Some (tid, more) → HandsToFirst key ws tid more) → HandsToFirst key (w ∷ ws) tid more
    by true h rest =
        let told : Some (w.tid, list_any (pi_has_key key) ws) ≡ Some (tid, more) = sym (ap (λ b. let o : Option (ℕ × Bool) = cond b (Some (w.tid, list_any (pi_has_key key) ws)) (pi_first_of key ws) in o) h) ∙ e in
        record {
          w = w;
          first = rw h (ap (λ l. w ∷ l) (none_first (pi_has_key key) ws));
          its_tid = ap tid_in told;
          others = rw h (ap (list_any (pi_has_key key)) (all_left (pi_has_key key) ws) ∙ ap more_in told);
        }
    by false h rest =
        let told : pi_first_of key ws ≡ Some (tid, more) = sym (ap (λ b. let o : Option (ℕ × Bool) = cond b (Some (w.tid, list_any (pi_has_key key) ws)) (pi_first_of key ws) in o) h) ∙ e in
        let there = rest told in
        record {
          w = there.w;
          first = ap (λ b. let l : List PiWaiter = cond b (w ∷ first_of (pi_has_key key) 0 ws) (first_of (pi_has_key key) 1 ws) in l) h ∙ there.first;
          its_tid = there.its_tid;
          others = ap (λ b. list_any (pi_has_key key) (let l : List PiWaiter = cond b (without_first (pi_has_key key) 0 ws) (w ∷ without_first (pi_has_key key) 1 ws) in l)) h ∙ ap (λ b. b || list_any (pi_has_key key) (without_first (pi_has_key key) 1 ws)) h ∙ there.others;
        }

pub tells_of_first : (key : ℕ) (ws : List PiWaiter) → TellsOfFirst key ws
tells_of_first key ws = record { there = is_there key ws; hands = hands_to key ws }
