-- Each slot and place waits once or has one note: what calls keep of it, and that there is room for all.
use Rattle.std.proofs.Common.{◌≡◌, ℕ, zero, suc, ◌+◌, ◌*◌, ◌<◌, ◌≤◌, Bool, true, false, not, ◌&&◌, ◌||◌, List, [], ◌∷◌, ◌++◌, length, map, None, refl, sym, ap, ◌∙◌, arith, cond, length-append}
use Rattle.std.specs.Prelude.{◌==◌}
use Rattle.std.specs.List.{AllByRecursion, filter}
use Rattle.std.proofs.lemmas.Bool.Decides.{nat_tests}
use Rattle.std.proofs.lemmas.Grind.{common_steps}
use Rattle.std.proofs.lemmas.List.Elements.{All-from_recursion, recursion_from_All}
use Rattle.umtx_queue.specs.declared.waiter.Waiter.{Waiter}
use Rattle.umtx_queue.specs.declared.waiter.Note.{Note}
use Rattle.umtx_queue.specs.declared.waiter.Note.TheVariants as note
use Rattle.umtx_queue.specs.declared.waiter.Noted.{Noted}
use Rattle.umtx_queue.specs.Lists.{first_of, without_first, tally}
use Rattle.umtx_queue.specs.Waiters.{who, who_at, slot_of, is_of, is_queued, is_of_slot, is_plain_at, with_key, rekeyed, without_slot, IsWaiter}
use Rattle.umtx_queue.specs.Carries.{IsCarry, AreApart}
use Rattle.umtx_queue.specs.Kept.{is_note_of, noted_as, note_at, notes_apart, notes_elsewhere, IsNoted}
use Rattle.umtx_queue.proofs.NoteMaps.{none_at, same_number, slot_is}
use Rattle.umtx_queue.proofs.Tallies.{tally-append, tally-map, tally_split, tally-filter, length-filter, tally_any, tally_none, tally_within, Each-first_of, Each-filter, Each-append, Each-map, grouped}

-- each slot and place stands once among waiters and notes together
abbrev pub Once : List Waiter → List Noted → Type 0
Once ws ns = (i : ℕ) → tally (is_of i) ws + tally (is_note_of i) ns ≤ 1

pub noted_tally : (note : Note) (i : ℕ) (ws : List Waiter) → tally (is_note_of i) (map (noted_as note) ws) ≡ tally (is_of i) ws
noted_tally note i ws = tally-map (noted_as note) (is_note_of i) ws

pub noted_each : (note : Note) (ws : List Waiter) → AllByRecursion IsWaiter ws → AllByRecursion IsNoted (map (noted_as note) ws)
noted_each note ws e = Each-map IsWaiter IsNoted (noted_as note) (λ w h. record { slot = h.slot; place = h.place }) ws e

-- ---- who leaves with a note

pub once_left : (p : Waiter → Bool) (n : ℕ) (note : Note) (ws : List Waiter) (ns : List Noted) → Once ws ns → Once (without_first p n ws) (ns ++ map (noted_as note) (first_of p n ws))
once_left p n note ws ns once i =
    let a = tally_split p (is_of i) n ws in
    let b = tally-append (is_note_of i) ns (map (noted_as note) (first_of p n ws)) in
    let c = noted_tally note i (first_of p n ws) in
    let o = once i in
    omega arith

-- who leaves had no note
pub left_unnoted : (p : Waiter → Bool) (n : ℕ) (ws : List Waiter) (ns : List Noted) → Once ws ns → (i : ℕ) → is_queued i (first_of p n ws) ≡ true → note_at i ns ≡ None
left_unnoted p n ws ns once i h =
    let a = tally_any (is_of i) (first_of p n ws) h in
    let b = tally_split p (is_of i) n ws in
    let o = once i in
    none_at i ns (omega arith)

-- ---- who joins, and has no note any more

-- among waiters together with those that join each slot and place stands once
abbrev pub OnceWith : List Waiter → List Waiter → Type 0
OnceWith ws more = (i : ℕ) → tally (is_of i) (ws ++ more) ≤ 1

apart_tally : (more : List Waiter) (i : ℕ) (ns : List Noted) → is_queued i more ≡ true → tally (is_note_of i) (notes_apart more ns) ≡ 0
apart_tally more i [] h = refl
apart_tally more i (n ∷ ns) h = by (apart_tally more i ns h) (is_queued (who_at n.slot n.place) more) refl
  where
    other : is_queued (who_at n.slot n.place) more ≡ false → is_note_of i n ≡ true → true ≡ false
    other f is = sym h ∙ ap (λ k. is_queued k more) (sym (same_number (who_at n.slot n.place) i is)) ∙ f

    counted : (b : Bool) → (b ≡ true → true ≡ false) → ◌≡◌ {A = ℕ} (cond b 1 0) 0
    counted true never = let z : true ≡ false = never refl in cc
    counted false never = refl

    by : tally (is_note_of i) (notes_apart more ns) ≡ 0 → (b : Bool) → is_queued (who_at n.slot n.place) more ≡ b → tally (is_note_of i) (cond (not b) (n ∷ notes_apart more ns) (notes_apart more ns)) ≡ 0
    by rest true e = rest
    by rest false e = let z : ◌≡◌ {A = ℕ} (cond (is_note_of i n) 1 0) 0 = counted (is_note_of i n) (other e) in omega arith

pub once_joined : (ws more : List Waiter) (ns : List Noted) → Once ws ns → OnceWith ws more → Once (ws ++ more) (notes_apart more ns)
once_joined ws more ns once with_more i = by (is_queued i more) refl
  where
    by : (b : Bool) → is_queued i more ≡ b → tally (is_of i) (ws ++ more) + tally (is_note_of i) (notes_apart more ns) ≤ 1
    by true h = let a = apart_tally more i ns h in let b = with_more i in omega arith
    by false h =
        let a = tally_none (is_of i) more h in
        let b = tally-append (is_of i) ws more in
        let c = tally-filter (is_note_of i) (λ (n : Noted). not (is_queued (who_at n.slot n.place) more)) ns in
        let o = once i in
        omega arith

-- one waiter that isn't queued
pub one_joins : (ws : List Waiter) (ns : List Noted) (w : Waiter) → Once ws ns → is_queued (who w) ws ≡ false → OnceWith ws (w ∷ [])
one_joins ws ns w once apart i = by (is_of i w) refl
  where
    by : (b : Bool) → is_of i w ≡ b → tally (is_of i) (ws ++ w ∷ []) ≤ 1
    by true h =
        let a = tally_none (is_of (who w)) ws apart in
        let z : tally (is_of i) ws ≡ 0 = ap (λ k. tally (is_of k) ws) (sym (same_number (who w) i h)) ∙ a in
        let b = tally-append (is_of i) ws (w ∷ []) in
        let one : ◌≡◌ {A = ℕ} (cond (is_of i w) 1 0) 1 = ap (λ b. cond b 1 0) h in
        omega arith
    by false h =
        let b = tally-append (is_of i) ws (w ∷ []) in
        let none : ◌≡◌ {A = ℕ} (cond (is_of i w) 1 0) 0 = ap (λ b. cond b 1 0) h in
        let o = once i in
        omega arith

-- the waiters of a carry, none of which is queued
apart_one : (i : ℕ) (ws more : List Waiter) → AllByRecursion (λ w. is_queued (who w) ws ≡ false) more → is_queued i more ≡ true → is_queued i ws ≡ false
apart_one i ws [] e h = cc
apart_one i ws (w ∷ more) e h = by (is_of i w) refl (apart_one i ws more e.1)
  where
    by : (b : Bool) → is_of i w ≡ b → (is_queued i more ≡ true → is_queued i ws ≡ false) → is_queued i ws ≡ false
    by true is rest = ap (λ k. is_queued k ws) (sym (same_number (who w) i is)) ∙ e.0
    by false is rest = rest (sym (ap (λ b. b || is_queued i more) is) ∙ h)

-- whoever is of this slot and place is of this slot
slot_tally : (i : ℕ) (ws : List Waiter) → AllByRecursion IsWaiter ws → tally (is_of i) ws ≤ tally (is_of_slot (slot_of i)) ws
slot_tally i [] e = omega arith
slot_tally i (w ∷ ws) e = by (slot_tally i ws e.1) (is_of i w) refl
  where
    same : is_of i w ≡ true → w.slot ≡ slot_of i
    same is = sym (slot_is w.slot w.place (let low = e.0.place in omega arith)) ∙ ap slot_of (same_number (who w) i is)

    by : tally (is_of i) ws ≤ tally (is_of_slot (slot_of i)) ws → (b : Bool) → is_of i w ≡ b → cond b 1 0 + tally (is_of i) ws ≤ cond (is_of_slot (slot_of i) w) 1 0 + tally (is_of_slot (slot_of i)) ws
    by rest true is = let s = same is in let one : is_of_slot (slot_of i) w ≡ true = grind (arith, nat_tests) in rw one (omega arith)
    by rest false is = omega arith

pub carry_joins : (ws carry : List Waiter) (ns : List Noted) → Once ws ns → IsCarry carry → AreApart carry ws → OnceWith ws carry
carry_joins ws carry ns once carries apart i = by (is_queued i carry) refl
  where
    by : (b : Bool) → is_queued i carry ≡ b → tally (is_of i) (ws ++ carry) ≤ 1
    by true h =
        let z = tally_none (is_of i) ws (apart_one i ws carry (recursion_from_All _ carry apart) h) in
        let a = slot_tally i carry (recursion_from_All IsWaiter carry carries.each) in
        let s = carries.once (slot_of i) in
        let b = tally-append (is_of i) ws carry in
        omega arith
    by false h =
        let z = tally_none (is_of i) carry h in
        let b = tally-append (is_of i) ws carry in
        let o = once i in
        omega arith

-- ---- a slot that is removed

pub once_removed : (slot : ℕ) (ws : List Waiter) (ns : List Noted) → Once ws ns → Once (without_slot slot ws) (notes_elsewhere slot ns)
once_removed slot ws ns once i =
    let a = tally-filter (is_of i) (λ w. not (is_of_slot slot w)) ws in
    let b = tally-filter (is_note_of i) (λ (n : Noted). not (n.slot == slot)) ns in
    let o = once i in
    omega arith

-- ---- room

both_filter : {X : Type 0} (p q : X → Bool) (xs : List X) → tally p (filter q xs) ≡ tally (λ x. q x && p x) xs
both_filter p q [] = refl
both_filter p q (x ∷ xs) = let a = both_filter p q xs in grind (arith, common_steps)

both_number : (j k : ℕ) (n : Noted) → (n.slot == j && n.place == k) ≡ true → is_note_of (who_at j k) n ≡ true
both_number j k n h = grind (arith, nat_tests)

slots_of_each : (ns : List Noted) → AllByRecursion IsNoted ns → AllByRecursion (λ n. n.slot < 128) ns
slots_of_each [] e = tt
slots_of_each (n ∷ ns) e = (e.0.slot, slots_of_each ns e.1)

places_of_each : (ns : List Noted) → AllByRecursion IsNoted ns → AllByRecursion (λ n. n.place < 32) ns
places_of_each [] e = tt
places_of_each (n ∷ ns) e = (e.0.place, places_of_each ns e.1)

one_place : (ns : List Noted) → ((i : ℕ) → tally (is_note_of i) ns ≤ 1) → (j k : ℕ) → tally (λ (n : Noted). n.place == k) (filter (λ (n : Noted). n.slot == j) ns) ≤ 1
one_place ns once j k =
    let a = both_filter (λ (n : Noted). n.place == k) (λ (n : Noted). n.slot == j) ns in
    let b = tally_within (λ (n : Noted). n.slot == j && n.place == k) (is_note_of (who_at j k)) ns (both_number j k) in
    let o = once (who_at j k) in
    omega arith

one_slot : (ns : List Noted) → AllByRecursion IsNoted ns → ((i : ℕ) → tally (is_note_of i) ns ≤ 1) → (j : ℕ) → tally (λ (n : Noted). n.slot == j) ns ≤ 32
one_slot ns e once j =
    let a = length-filter (λ (n : Noted). n.slot == j) ns in
    let b : length (filter (λ (n : Noted). n.slot == j) ns) ≤ 32 * 1 = grouped (λ (n : Noted). n.place) 32 1 (filter (λ (n : Noted). n.slot == j) ns) (places_of_each _ (Each-filter IsNoted (λ (n : Noted). n.slot == j) ns e)) (one_place ns once j) in
    omega arith

-- slots and places that differ are at most 4096
places_fit : (ns : List Noted) → AllByRecursion IsNoted ns → ((i : ℕ) → tally (is_note_of i) ns ≤ 1) → length ns ≤ 4096
places_fit ns e once =
    let a : length ns ≤ 128 * 32 = grouped (λ (n : Noted). n.slot) 128 32 ns (slots_of_each ns e) (one_slot ns e once) in
    omega arith

pub same_length : {X Y : Type 0} (f : X → Y) (xs : List X) → length (map f xs) ≡ length xs
same_length f [] = refl
same_length f (x ∷ xs) = let a = same_length f xs in grind arith

pub line_fits : (ws : List Waiter) (ns : List Noted) → AllByRecursion IsWaiter ws → AllByRecursion IsNoted ns → Once ws ns → length ws + length ns ≤ 4096
line_fits ws ns e f once =
    let all = places_fit (ns ++ map (noted_as note.Woken) ws) (Each-append IsNoted ns _ f (noted_each note.Woken ws e)) (λ i. (let a = tally-append (is_note_of i) ns (map (noted_as note.Woken) ws) in let b = noted_tally note.Woken i ws in let o = once i in omega arith)) in
    let l = length-append ns (map (noted_as note.Woken) ws) in
    let m = same_length (noted_as note.Woken) ws in
    omega arith

pub waiters_fit : (ws : List Waiter) → AllByRecursion IsWaiter ws → ((i : ℕ) → tally (is_of i) ws ≤ 1) → length ws ≤ 4096
waiters_fit ws e once = let a = line_fits ws [] e tt (λ i. (let o = once i in omega arith)) in let z : length {A = Noted} [] ≡ 0 = refl in omega arith

-- ---- the waiters of plain waits, of slots that differ

plain_many : (key : ℕ) (w : Waiter) → is_plain_at key w ≡ true → w.many ≡ false
plain_many key w h = grind (arith, common_steps)

-- of a list of plain waiters each slot stands as often as its place 0
plain_tally : (slot : ℕ) (ws : List Waiter) → AllByRecursion IsWaiter ws → AllByRecursion (λ w. w.many ≡ false) ws → tally (is_of_slot slot) ws ≤ tally (is_of (who_at slot 0)) ws
plain_tally slot [] e f = omega arith
plain_tally slot (w ∷ ws) e f = by (plain_tally slot ws e.1 f.1) (is_of_slot slot w) refl
  where
    by : tally (is_of_slot slot) ws ≤ tally (is_of (who_at slot 0)) ws → (b : Bool) → is_of_slot slot w ≡ b → cond b 1 0 + tally (is_of_slot slot) ws ≤ cond (is_of (who_at slot 0) w) 1 0 + tally (is_of (who_at slot 0)) ws
    by rest true is = let p = e.0.plain f.0 in let s = same_number w.slot slot is in let one : is_of (who_at slot 0) w ≡ true = grind (arith, nat_tests) in rw one (omega arith)
    by rest false is = omega arith

passes_first : {X : Type 0} (p : X → Bool) (n : ℕ) (xs : List X) → AllByRecursion (λ x. p x ≡ true) (first_of p n xs)
passes_first p n [] = tt
passes_first p zero (x ∷ xs) = tt
passes_first p (suc n) (x ∷ xs) = by (p x) refl (passes_first p n xs) (passes_first p (suc n) xs)
  where
    by : (b : Bool) → p x ≡ b → AllByRecursion (λ y. p y ≡ true) (first_of p n xs) → AllByRecursion (λ y. p y ≡ true) (first_of p (suc n) xs) → AllByRecursion (λ y. p y ≡ true) (cond b (x ∷ first_of p n xs) (first_of p (suc n) xs))
    by true h fewer same = (h, fewer)
    by false h fewer same = same

passes_filter : {X : Type 0} (p : X → Bool) (xs : List X) → AllByRecursion (λ x. p x ≡ true) (filter p xs)
passes_filter p [] = tt
passes_filter p (x ∷ xs) = by (p x) refl (passes_filter p xs)
  where
    by : (b : Bool) → p x ≡ b → AllByRecursion (λ y. p y ≡ true) (filter p xs) → AllByRecursion (λ y. p y ≡ true) (cond b (x ∷ filter p xs) (filter p xs))
    by true h rest = (h, rest)
    by false h rest = rest

all_plain : (key : ℕ) (ws : List Waiter) → AllByRecursion (λ w. is_plain_at key w ≡ true) ws → AllByRecursion (λ w. w.many ≡ false) ws
all_plain key [] e = tt
all_plain key (w ∷ ws) e = (plain_many key w e.0, all_plain key ws e.1)

slots_of_waiters : (ws : List Waiter) → AllByRecursion IsWaiter ws → AllByRecursion (λ w. w.slot < 128) ws
slots_of_waiters [] e = tt
slots_of_waiters (w ∷ ws) e = (e.0.slot, slots_of_waiters ws e.1)

-- they are at most 128
pub plain_fit : (key : ℕ) (ws : List Waiter) → AllByRecursion IsWaiter ws → ((i : ℕ) → tally (is_of i) ws ≤ 1) → tally (is_plain_at key) ws ≤ 128
plain_fit key ws e once =
    let those = Each-filter IsWaiter (is_plain_at key) ws e in
    let a = length-filter (is_plain_at key) ws in
    let b : length (filter (is_plain_at key) ws) ≤ 128 * 1 = grouped (λ (w : Waiter). w.slot) 128 1 (filter (is_plain_at key) ws) (slots_of_waiters _ those)
    (λ j. (let c = plain_tally j (filter (is_plain_at key) ws) those (all_plain key _ (passes_filter (is_plain_at key) ws)) in let d = tally-filter (is_of (who_at j 0)) (is_plain_at key) ws in let o = once (who_at j 0) in omega arith)) in
    omega arith

-- what requeue_out leaves in the carry
pub carry_is : (key n to : ℕ) (ws : List Waiter) → AllByRecursion IsWaiter ws → ((i : ℕ) → tally (is_of i) ws ≤ 1) → IsCarry (rekeyed to (first_of (is_plain_at key) n ws))
carry_is key n to ws e once =
    let those = Each-first_of IsWaiter (is_plain_at key) n ws e in
    let plain = all_plain key _ (passes_first (is_plain_at key) n ws) in
    record {
      each = All-from_recursion IsWaiter _ (Each-map IsWaiter IsWaiter (with_key to) (λ w h. record { slot = h.slot; place = h.place; plain = h.plain }) _ those);
      plain = All-from_recursion (λ (w : Waiter). w.many ≡ false) _ (Each-map (λ (w : Waiter). w.many ≡ false) (λ (w : Waiter). w.many ≡ false) (with_key to) (λ w h. h) _ plain);
      once = λ slot.
          (let a : tally (is_of_slot slot) (rekeyed to (first_of (is_plain_at key) n ws)) ≡ tally (is_of_slot slot) (first_of (is_plain_at key) n ws) = tally-map (with_key to) (is_of_slot slot) (first_of (is_plain_at key) n ws) in
          let b = plain_tally slot (first_of (is_plain_at key) n ws) those plain in
          let c = tally_split (is_plain_at key) (is_of (who_at slot 0)) n ws in
          let o = once (who_at slot 0) in
          omega arith);
    }
