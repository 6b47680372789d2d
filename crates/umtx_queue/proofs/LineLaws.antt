-- What a line is, and what each slot and place finds in it, after each call.
use Rattle.std.proofs.Common.{◌≡◌, ℕ, zero, suc, ◌<◌, ◌≤◌, Bool, true, false, not, ◌&&◌, ◌||◌, List, [], ◌∷◌, ◌++◌, length, take, drop, slice_index_or, Option, Some, None, refl, sym, ap, ◌∙◌, arith, cond}
use Rattle.std.specs.Prelude.{◌==◌, if◌then◌else◌, option_map}
use Rattle.std.specs.FinMap as finite
use Rattle.std.specs.List.{AllByRecursion, filter, list_any}
use Rattle.std.proofs.lemmas.Bool.Decides.{nat_tests}
use Rattle.std.proofs.lemmas.Grind.{common_steps}
use Rattle.std.proofs.lemmas.List.Elements.{All-from_recursion, recursion_from_All}
use Rattle.umtx_queue.specs.declared.waiter.Waiter.{Waiter}
use Rattle.umtx_queue.specs.declared.waiter.Note.{Note}
use Rattle.umtx_queue.specs.declared.waiter.Looked.{Looked}
use Rattle.umtx_queue.specs.declared.waiter.Looked.TheVariants as looked
use Rattle.umtx_queue.specs.Lists.{first_of, without_first, tally}
use Rattle.umtx_queue.specs.Waiters.{who, slot_of, is_of, is_of_slot, is_queued, without_slot, AreWaiters, IsWaiter}
use Rattle.umtx_queue.specs.Notes.{noted, without_notes, without_notes_of, told}
use Rattle.umtx_queue.specs.Lines.{Line, finds, left, joined, removed}
use Rattle.umtx_queue.specs.Laws.{InPlainWords, StaysALine, FindsAfter}
use Rattle.umtx_queue.proofs.NoteMaps.{get_noted, get_without, get_without_of, same_number, slot_is}
use Rattle.umtx_queue.proofs.Tallies.{tally-append, tally_split, tally-filter, length-filter, tally_any, none_tally, Each-without_first, Each-filter, Each-append}
use Rattle.umtx_queue.proofs.LineFacts.{Once, one_joins, carry_joins, carry_is}

-- ---- the first that pass, and the rest

first_is : {X : Type 0} (p : X → Bool) (n : ℕ) (xs : List X) → first_of p n xs ≡ take n (filter p xs)
first_is p n [] = grind (arith, common_steps)
first_is p zero (x ∷ xs) = grind (arith, common_steps)
first_is p (suc n) (x ∷ xs) = let a = first_is p n xs in let b = first_is p (suc n) xs in grind (arith, common_steps)

passing_is : {X : Type 0} (p : X → Bool) (n : ℕ) (xs : List X) → filter p (without_first p n xs) ≡ drop n (filter p xs)
passing_is p n [] = grind (arith, common_steps)
passing_is p zero (x ∷ xs) = grind (arith, common_steps)
passing_is p (suc n) (x ∷ xs) = let a = passing_is p n xs in let b = passing_is p (suc n) xs in grind (arith, common_steps)

failing_is : {X : Type 0} (p : X → Bool) (n : ℕ) (xs : List X) → filter (λ x. not (p x)) (without_first p n xs) ≡ filter (λ x. not (p x)) xs
failing_is p n [] = refl
failing_is p zero (x ∷ xs) = refl
failing_is p (suc n) (x ∷ xs) = let a = failing_is p n xs in let b = failing_is p (suc n) xs in grind (arith, common_steps)

pub in_plain_words : (p : Waiter → Bool) (n : ℕ) (ws : List Waiter) → InPlainWords p n ws
in_plain_words p n ws = record { first = first_is p n ws; passing = passing_is p n ws; failing = failing_is p n ws; count = sym (length-filter p ws) }

-- ---- a line stays a line

pub each_right : {X : Type 0} (P : X → Type 0) (xs ys : List X) → AllByRecursion P (xs ++ ys) → AllByRecursion P ys
each_right P [] ys e = e
each_right P (x ∷ xs) ys e = each_right P xs ys e.1

tally_at : {X : Type 0} (p : X → Bool) (xs : List X) (k : ℕ) (d : X) → k < length xs → p (slice_index_or xs k d) ≡ true → 1 ≤ tally p xs
tally_at p [] k d h is = absurd (omega arith)
tally_at p (x ∷ xs) zero d h is = let one : ◌≡◌ {A = ℕ} (cond (p x) 1 0) 1 = ap (λ b. let n : ℕ = cond b 1 0 in n) is in omega arith
tally_at p (x ∷ xs) (suc k) d h is = let a = tally_at p xs k d (omega arith) is in omega arith

pub itself : (i : ℕ) → (i == i) ≡ true
itself i = grind (arith, nat_tests)

no_notes : (ws : List Waiter) → ((i : ℕ) → tally (is_of i) ws ≤ 1) → Once ws []
no_notes ws once i = let o = once i in omega arith

pub stays_a_line : (line : Line) → AreWaiters line.waiters → StaysALine line
stays_a_line line are = record {
  left = λ p n note. record {
    each = All-from_recursion IsWaiter _ (Each-without_first IsWaiter p n line.waiters each);
    once = λ i. (let a = tally_split p (is_of i) n line.waiters in let o = are.once i in omega arith);
  };
  carried = λ key n to. carry_is key n to line.waiters each are.once;
  inserted = λ w is apart. record {
    each = All-from_recursion IsWaiter _ (Each-append IsWaiter line.waiters (w ∷ []) each (is, tt));
    once = one_joins line.waiters [] w (no_notes line.waiters are.once) apart;
  };
  insert_may = λ w both. (
    (each_right IsWaiter line.waiters (w ∷ []) (recursion_from_All IsWaiter _ both.each)).0,
    none_tally (is_of (who w)) line.waiters (let a = tally-append (is_of (who w)) line.waiters (w ∷ []) in let o = both.once (who w) in let one : ◌≡◌ {A = ℕ} (cond (is_of (who w) w) 1 0) 1 = ap (λ b. let n : ℕ = cond b 1 0 in n) (itself (who w)) in omega arith),
  );
  requeued = λ carry is apart. record {
    each = All-from_recursion IsWaiter _ (Each-append IsWaiter line.waiters carry each (recursion_from_All IsWaiter carry is.each));
    once = carry_joins line.waiters carry [] (no_notes line.waiters are.once) is apart;
  };
  requeue_may = λ carry both k d h.
      none_tally (is_of (who (slice_index_or carry k d))) line.waiters (let w = slice_index_or carry k d in let a = tally-append (is_of (who w)) line.waiters carry in let o = both.once (who w) in let one = tally_at (is_of (who w)) carry k d h (itself (who w)) in omega arith);
  removed = λ slot. record {
    each = All-from_recursion IsWaiter _ (Each-filter IsWaiter _ line.waiters each);
    once = λ i. (let a = tally-filter (is_of i) (λ w. not (is_of_slot slot w)) line.waiters in let o = are.once i in omega arith);
  };
}
  where
    each : AllByRecursion IsWaiter line.waiters
    each = recursion_from_All IsWaiter line.waiters are.each

-- ---- what each finds

pub any_left : {X : Type 0} (p q : X → Bool) (n : ℕ) (xs : List X) → list_any q (first_of p n xs) ≡ false → list_any q (without_first p n xs) ≡ list_any q xs
any_left p q n [] h = refl
any_left p q zero (x ∷ xs) h = refl
any_left p q (suc n) (x ∷ xs) h = let a = any_left p q n xs in let b = any_left p q (suc n) xs in grind (arith, common_steps)

pub any_append : {X : Type 0} (q : X → Bool) (xs ys : List X) → list_any q (xs ++ ys) ≡ (list_any q xs || list_any q ys)
any_append q [] ys = refl
any_append q (x ∷ xs) ys = let a = any_append q xs ys in grind (arith, common_steps)

pub always : (b : Bool) → (b || true) ≡ true
always true = refl
always false = refl

pub never : (b : Bool) → (b || false) ≡ b
never true = refl
never false = refl

left_finds : (line : Line) (i : ℕ) → AreWaiters line.waiters → (p : Waiter → Bool) (n : ℕ) (note : Note) (b : Bool) → is_queued i (first_of p n line.waiters) ≡ b → finds (left line p n note) i ≡ cond b (Some (told note)) (finds line i)
left_finds line i are p n note true h =
    let a = tally_any (is_of i) (first_of p n line.waiters) h in
    let s = tally_split p (is_of i) n line.waiters in
    let o = are.once i in
    let none : is_queued i (without_first p n line.waiters) ≡ false = none_tally (is_of i) (without_first p n line.waiters) (omega arith) in
    let g = get_noted note (first_of p n line.waiters) line.notes i ∙ ap (λ b. cond b (Some note) (finite.get line.notes i)) h in
    rw none (ap (option_map told) g)
left_finds line i are p n note false h =
    let same : is_queued i (without_first p n line.waiters) ≡ is_queued i line.waiters = any_left p (is_of i) n line.waiters h in
    let g = get_noted note (first_of p n line.waiters) line.notes i ∙ ap (λ b. cond b (Some note) (finite.get line.notes i)) h in
    ap (λ b. let o : Option Looked = if b then Some looked.Queued else option_map told (finite.get (noted note (first_of p n line.waiters) line.notes) i) in o) same
    ∙ ap (λ m. let o : Option Looked = if is_queued i line.waiters then Some looked.Queued else option_map told m in o) g

joined_finds : (line : Line) (i : ℕ) (ws : List Waiter) (b : Bool) → is_queued i ws ≡ b → finds (joined line ws) i ≡ cond b (Some looked.Queued) (finds line i)
joined_finds line i ws true h =
    let all : is_queued i (line.waiters ++ ws) ≡ true = any_append (is_of i) line.waiters ws ∙ ap (λ b. is_queued i line.waiters || b) h ∙ always (is_queued i line.waiters) in
    rw all refl
joined_finds line i ws false h =
    let same : is_queued i (line.waiters ++ ws) ≡ is_queued i line.waiters = any_append (is_of i) line.waiters ws ∙ ap (λ b. is_queued i line.waiters || b) h ∙ never (is_queued i line.waiters) in
    let g = get_without ws line.notes i ∙ ap (λ b. cond b None (finite.get line.notes i)) h in
    ap (λ b. let o : Option Looked = if b then Some looked.Queued else option_map told (finite.get (without_notes ws line.notes) i) in o) same
    ∙ ap (λ m. let o : Option Looked = if is_queued i line.waiters then Some looked.Queued else option_map told m in o) g

any_elsewhere : (slot i : ℕ) (ws : List Waiter) → AllByRecursion IsWaiter ws → is_queued i (without_slot slot ws) ≡ (not (slot_of i == slot) && is_queued i ws)
any_elsewhere slot i [] e = none (not (slot_of i == slot))
  where
    none : (b : Bool) → false ≡ (b && false)
    none true = refl
    none false = refl
any_elsewhere slot i (w ∷ ws) e =
    let rest = any_elsewhere slot i ws e.1 in
    let small = e.0.place in
    let own = slot_is w.slot w.place (omega arith) in
    let same : is_of i w ≡ true → w.slot ≡ slot_of i = λ is. sym own ∙ ap slot_of (same_number (who w) i is) in
    by rest (is_of_slot slot w) refl (is_of i w) refl same
  where
    both : (a b : Bool) → (a && b) ≡ (a && (false || b))
    both a b = refl

    gone : (c r : Bool) → c ≡ true → (not c && r) ≡ false
    gone true r e = refl
    gone false r e = cc

    kept : (c r : Bool) → c ≡ false → true ≡ (not c && (true || r))
    kept true r e = cc
    kept false r e = refl

    by : is_queued i (without_slot slot ws) ≡ (not (slot_of i == slot) && is_queued i ws) → (a : Bool) → is_of_slot slot w ≡ a → (b : Bool) → is_of i w ≡ b → (is_of i w ≡ true → w.slot ≡ slot_of i) → is_queued i (cond (not a) (w ∷ without_slot slot ws) (without_slot slot ws)) ≡ (not (slot_of i == slot) && (b || is_queued i ws))
    by rest true at true is same = rest ∙ gone (slot_of i == slot) (is_queued i ws) (ap (λ s. s == slot) (sym (same is)) ∙ at) ∙ sym (gone (slot_of i == slot) true (ap (λ s. s == slot) (sym (same is)) ∙ at))
    by rest true at false is same = rest
    by rest false at true is same = ap (λ b. b || is_queued i (without_slot slot ws)) is ∙ kept (slot_of i == slot) (is_queued i ws) (ap (λ s. s == slot) (sym (same is)) ∙ at)
    by rest false at false is same = ap (λ b. b || is_queued i (without_slot slot ws)) is ∙ rest

removed_finds : (line : Line) (i : ℕ) → AreWaiters line.waiters → (slot : ℕ) (b : Bool) → (slot_of i == slot) ≡ b → finds (removed line slot) i ≡ cond b None (finds line i)
removed_finds line i are slot true h =
    let none : is_queued i (without_slot slot line.waiters) ≡ false = any_elsewhere slot i line.waiters (recursion_from_All IsWaiter _ are.each) ∙ ap (λ b. not b && is_queued i line.waiters) h in
    let g = get_without_of slot line.notes i ∙ ap (λ b. cond b None (finite.get line.notes i)) h in
    rw none (ap (option_map told) g)
removed_finds line i are slot false h =
    let same : is_queued i (without_slot slot line.waiters) ≡ is_queued i line.waiters = any_elsewhere slot i line.waiters (recursion_from_All IsWaiter _ are.each) ∙ ap (λ b. not b && is_queued i line.waiters) h in
    let g = get_without_of slot line.notes i ∙ ap (λ b. cond b None (finite.get line.notes i)) h in
    ap (λ b. let o : Option Looked = if b then Some looked.Queued else option_map told (finite.get (without_notes_of slot line.notes) i) in o) same
    ∙ ap (λ m. let o : Option Looked = if is_queued i line.waiters then Some looked.Queued else option_map told m in o) g

pub finds_after : (line : Line) (i : ℕ) → AreWaiters line.waiters → FindsAfter line i
finds_after line i are = record {
  left = λ p n note. left_finds line i are p n note _ refl;
  joined = λ ws. joined_finds line i ws _ refl;
  removed = λ slot. removed_finds line i are slot _ refl;
}
