-- The notes as a map, and what a call does to it.
use Rattle.std.proofs.Common.{◌≡◌, ℕ, ◌+◌, ◌<◌, Bool, true, false, not, ◌||◌, List, [], ◌∷◌, ◌++◌, map, Option, Some, None, refl, sym, ap, ◌∙◌, arith, cond, inl, inr}
use Rattle.std.specs.Prelude.{◌==◌, if◌then◌else◌}
use Rattle.std.specs.Ordering.{nat_cmp, is_eq}
use Rattle.std.specs.Cmp.{nat_cmp_total}
use Rattle.std.specs.FinMap as finite
use Rattle.std.specs.FinMap.{find, same_map, nat_cmp-IsAntisymmetric}
use Rattle.std.specs.List.{AllByRecursion, filter}
use Rattle.std.proofs.lemmas.Bool.{cases_eq}
use Rattle.std.proofs.lemmas.Bool.Decides.{nat_tests}
use Rattle.umtx_queue.specs.declared.waiter.Waiter.{Waiter}
use Rattle.umtx_queue.specs.declared.waiter.Note.{Note}
use Rattle.umtx_queue.specs.declared.waiter.Noted.{Noted}
use Rattle.umtx_queue.specs.Lists.{tally}
use Rattle.umtx_queue.specs.Waiters.{who, who_at, slot_of, is_of, is_queued}
use Rattle.umtx_queue.specs.Notes.{Notes, noted, without_notes, without_notes_of}
use Rattle.umtx_queue.specs.Kept.{is_note_of, noted_as, note_at, notes_of, notes_apart, notes_elsewhere, IsNoted}

-- two numbers tie where they are one
pub tied : (q k : ℕ) → is_eq (nat_cmp q k) ≡ (k == q)
tied q k = elim (cases_eq q k) [ inl same ↦ grind (arith, nat_tests) | inr other ↦ grind (arith, nat_tests) ]

pub same_number : (k i : ℕ) → (k == i) ≡ true → k ≡ i
same_number k i h = grind (arith, nat_tests)

either : (a b : Bool) (x y : Option Note) → cond a x (cond b x y) ≡ cond (a || b) x y
either true b x y = refl
either false b x y = refl

turned : (b : Bool) (x y : Option Note) → cond (not b) x y ≡ cond b y x
turned true x y = refl
turned false x y = refl

-- what the notes say of a slot and place
find_note : (i : ℕ) (ns : List Noted) → find nat_cmp i (map (λ (n : Noted). (who_at n.slot n.place, n.note)) ns) ≡ note_at i ns
find_note i [] = refl
find_note i (n ∷ ns) =
    ap (λ b. cond b (Some n.note) (find nat_cmp i (map (λ (m : Noted). (who_at m.slot m.place, m.note)) ns))) (tied i (who_at n.slot n.place))
    ∙ ap (cond (is_note_of i n) (Some n.note)) (find_note i ns)

pub get_note : (ns : List Noted) (i : ℕ) → finite.get (notes_of ns) i ≡ note_at i ns
get_note ns i = finite.get-from_entries nat_cmp_total (map (λ (n : Noted). (who_at n.slot n.place, n.note)) ns) i ∙ find_note i ns

-- who leaves has the note, and all others have what they had
pub get_noted : (note : Note) (ws : List Waiter) (m : Notes) (i : ℕ) → finite.get (noted note ws m) i ≡ (if is_queued i ws then Some note else finite.get m i)
get_noted note [] m i = refl
get_noted note (w ∷ ws) m i =
    finite.get-insert nat_cmp_total (noted note ws m) (who w) note i
    ∙ ap (λ b. cond b (Some note) (finite.get (noted note ws m) i)) (tied i (who w))
    ∙ ap (cond (is_of i w) (Some note)) (get_noted note ws m i)
    ∙ either (is_of i w) (is_queued i ws) (Some note) (finite.get m i)

-- who joins has none, and all others have what they had
pub get_without : (ws : List Waiter) (m : Notes) (i : ℕ) → finite.get (without_notes ws m) i ≡ (if is_queued i ws then None else finite.get m i)
get_without ws m i =
    finite.get-retain_keys m (λ k. not (is_queued k ws)) i (λ x t. ap (λ k. not (is_queued k ws)) (sym (nat_cmp-IsAntisymmetric i x t)))
    ∙ turned (is_queued i ws) (finite.get m i) None

-- of a slot that is removed there is none, and all others have what they had
pub get_without_of : (slot : ℕ) (m : Notes) (i : ℕ) → finite.get (without_notes_of slot m) i ≡ (if slot_of i == slot then None else finite.get m i)
get_without_of slot m i =
    finite.get-retain_keys m (λ k. not (slot_of k == slot)) i (λ x t. ap (λ k. not (slot_of k == slot)) (sym (nat_cmp-IsAntisymmetric i x t)))
    ∙ turned (slot_of i == slot) (finite.get m i) None

-- the same of the notes in the order made
noted_new : (i : ℕ) (note : Note) (ws : List Waiter) → note_at i (map (noted_as note) ws) ≡ (if is_queued i ws then Some note else None)
noted_new i note [] = refl
noted_new i note (w ∷ ws) = ap (cond (is_of i w) (Some note)) (noted_new i note ws) ∙ either (is_of i w) (is_queued i ws) (Some note) None

noted_at : (i : ℕ) (note : Note) (ns : List Noted) (ws : List Waiter) → (is_queued i ws ≡ true → note_at i ns ≡ None) → note_at i (ns ++ map (noted_as note) ws) ≡ (if is_queued i ws then Some note else note_at i ns)
noted_at i note [] ws none = noted_new i note ws
noted_at i note (n ∷ ns) ws none = by (noted_at i note ns ws) (is_note_of i n) refl
  where
    had : (b : Bool) → is_queued i ws ≡ b → is_note_of i n ≡ true → Some n.note ≡ cond b (Some note) (Some n.note)
    had true q e = let gone : Some n.note ≡ None = sym (ap (λ b. cond b (Some n.note) (note_at i ns)) e) ∙ none q in cc
    had false q e = refl

    by : ((is_queued i ws ≡ true → note_at i ns ≡ None) → note_at i (ns ++ map (noted_as note) ws) ≡ cond (is_queued i ws) (Some note) (note_at i ns)) → (b : Bool) → is_note_of i n ≡ b → cond b (Some n.note) (note_at i (ns ++ map (noted_as note) ws)) ≡ cond (is_queued i ws) (Some note) (cond b (Some n.note) (note_at i ns))
    by rest true e = had (is_queued i ws) refl e
    by rest false e = rest (λ q. sym (ap (λ b. cond b (Some n.note) (note_at i ns)) e) ∙ none q)

pub noted_is : (note : Note) (ns : List Noted) (ws : List Waiter) → ((i : ℕ) → is_queued i ws ≡ true → note_at i ns ≡ None) → notes_of (ns ++ map (noted_as note) ws) ≡ noted note ws (notes_of ns)
noted_is note ns ws none =
    same_map nat_cmp_total nat_cmp-IsAntisymmetric _ _ (λ i. get_note (ns ++ map (noted_as note) ws) i ∙ noted_at i note ns ws (none i) ∙ sym (get_noted note ws (notes_of ns) i ∙ ap (cond (is_queued i ws) (Some note)) (get_note ns i)))

-- the notes that a test lets go
goes : (is gone : Bool) (x r s : Option Note) → (is ≡ true → true ≡ gone) → r ≡ cond gone None s → r ≡ cond gone None (cond is x s)
goes true true x r s h e = e
goes true false x r s h e = let z = h refl in cc
goes false gone x r s h e = e

stays : (is gone : Bool) (x r s : Option Note) → (is ≡ true → false ≡ gone) → r ≡ cond gone None s → cond is x r ≡ cond gone None (cond is x s)
stays true true x r s h e = let z = h refl in cc
stays true false x r s h e = refl
stays false gone x r s h e = e

nothing : (gone : Bool) (x : Option Note) → x ≡ None → x ≡ cond gone None x
nothing true x e = e
nothing false x e = refl

filtered_at : (test : Noted → Bool) (i : ℕ) (gone : Bool) (ns : List Noted) → AllByRecursion (λ n. is_note_of i n ≡ true → test n ≡ gone) ns → note_at i (filter (λ n. not (test n)) ns) ≡ cond gone None (note_at i ns)
filtered_at test i gone [] e = nothing gone None refl
filtered_at test i gone (n ∷ ns) e = by (filtered_at test i gone ns e.1) (test n) refl
  where
    by : note_at i (filter (λ m. not (test m)) ns) ≡ cond gone None (note_at i ns) → (b : Bool) → test n ≡ b → note_at i (cond (not b) (n ∷ filter (λ m. not (test m)) ns) (filter (λ m. not (test m)) ns)) ≡ cond gone None (cond (is_note_of i n) (Some n.note) (note_at i ns))
    by rest true t = goes (is_note_of i n) gone (Some n.note) (note_at i (filter (λ m. not (test m)) ns)) (note_at i ns) (λ is. sym t ∙ e.0 is) rest
    by rest false t = stays (is_note_of i n) gone (Some n.note) (note_at i (filter (λ m. not (test m)) ns)) (note_at i ns) (λ is. sym t ∙ e.0 is) rest

-- a fact of all, for each of a list
each_is : (P : Noted → Type 0) → ((n : Noted) → P n) → (ns : List Noted) → AllByRecursion P ns
each_is P all [] = tt
each_is P all (n ∷ ns) = (all n, each_is P all ns)

pub apart_is : (ws : List Waiter) (ns : List Noted) → notes_of (notes_apart ws ns) ≡ without_notes ws (notes_of ns)
apart_is ws ns =
    same_map nat_cmp_total nat_cmp-IsAntisymmetric _ _ (λ i. get_note (notes_apart ws ns) i
    ∙ filtered_at (λ n. is_queued (who_at n.slot n.place) ws) i (is_queued i ws) ns (each_is _ (λ n is. ap (λ k. is_queued k ws) (same_number (who_at n.slot n.place) i is)) ns)
    ∙ sym (get_without ws (notes_of ns) i ∙ ap (cond (is_queued i ws) None) (get_note ns i)))

pub slot_is : (slot place : ℕ) → place < 256 → slot_of (who_at slot place) ≡ slot
slot_is slot place small = omega arith

same_slot : (slot i : ℕ) (ns : List Noted) → AllByRecursion IsNoted ns → AllByRecursion (λ n. is_note_of i n ≡ true → (n.slot == slot) ≡ (slot_of i == slot)) ns
same_slot slot i [] e = tt
same_slot slot i (n ∷ ns) e =
    ((λ is. ap (λ s. s == slot) (sym (slot_is n.slot n.place (let low = e.0.place in omega arith)) ∙ ap slot_of (same_number (who_at n.slot n.place) i is))), same_slot slot i ns e.1)

pub elsewhere_is : (slot : ℕ) (ns : List Noted) → AllByRecursion IsNoted ns → notes_of (notes_elsewhere slot ns) ≡ without_notes_of slot (notes_of ns)
elsewhere_is slot ns e =
    same_map nat_cmp_total nat_cmp-IsAntisymmetric _ _ (λ i. get_note (notes_elsewhere slot ns) i
    ∙ filtered_at (λ n. n.slot == slot) i (slot_of i == slot) ns (same_slot slot i ns e)
    ∙ sym (get_without_of slot (notes_of ns) i ∙ ap (cond (slot_of i == slot) None) (get_note ns i)))

-- what does not stand among the notes
pub none_at : (i : ℕ) (ns : List Noted) → tally (is_note_of i) ns ≡ 0 → note_at i ns ≡ None
none_at i [] h = refl
none_at i (n ∷ ns) h = by (none_at i ns) (is_note_of i n) refl
  where
    by : (tally (is_note_of i) ns ≡ 0 → note_at i ns ≡ None) → (b : Bool) → is_note_of i n ≡ b → cond b (Some n.note) (note_at i ns) ≡ None
    by rest true e = absurd (let z : cond true 1 0 + tally (is_note_of i) ns ≡ 0 = sym (ap (λ b. cond b 1 0 + tally (is_note_of i) ns) e) ∙ h in omega arith)
    by rest false e = rest (let z : cond false 1 0 + tally (is_note_of i) ns ≡ 0 = sym (ap (λ b. cond b 1 0 + tally (is_note_of i) ns) e) ∙ h in omega arith)
