-- Files of version 1: the text of a tape has no fault, and bytes without a fault are the text of the tape that stands in them.
use Rattle.std.proofs.Common.{◌≡◌, ℕ, zero, suc, ◌+◌, ◌*◌, ◌/◌, ◌^◌, ◌<◌, ◌≤◌, Bool, true, false, eqb, ltb, List, [], ◌∷◌, ◌++◌, length, map, take, drop, Option, Some, None, refl, sym, ap, ◌∙◌, subst, append_assoc, add-zero, arith, inl, inr, length-append, length-drop}
use Rattle.std.specs.Prelude.{IsTrue, not, position, slice_index, ◌||◌, option_map}
use Rattle.std.specs.List.{flat_map, range_with_len, AllByRecursion, position_or_len}
use Rattle.std.specs.Cmp.Lexicographic.{same_text}
use Rattle.std.specs.Simd.{first_chunks}
use Rattle.std.proofs.lemmas.Bool.{cases_Bool, ltb-false, le-ltb, eqb-true, eqb-false, eq-eqb, ne_eqb, or_parts}
use Rattle.std.proofs.lemmas.List.{drop_more, drop-drop, take-append-drop, drop_all, get_or_at, length_push, get_or-take, get_or-drop, length-map}
use Rattle.std.proofs.lemmas.List.FromFn.{length-map-range_with_len}
use Rattle.places.specs.Places.{bytes_of, number_at}
use Rattle.places.proofs.Numbers.{number_at-bytes_of, number_at-lt}
use Rattle.tape.specs.declared.entry.Entry.{Entry}
use Rattle.tape.specs.declared.fault.TapeFault.TheVariants.{Torn, TooLong, BadPages, BadActor, NoMemory}
use Rattle.tape.specs.Entry.{is_actor, entry_text, FitsEntry}
use Rattle.tape.specs.TapeText.{magic_1, tape_text_1, FitsFile}
use Rattle.tape.specs.TapeFile.{seed_in, pages_in, count_in_1, entry_at_1, entries_in_1, header_in_1, is_version_1}
use Rattle.tape.specs.TapeFault.{header_fault_1, actor_fault_1, fault_1}
use Rattle.tape.proofs.Tests.{passes, ends, neither, no_fault, no_last, no_either}
use Rattle.tape.proofs.Places.{IsBytes, number_text-at, number-taken}

-- ---- the text, read again

length-entries_text : (entries : List Entry) → length (flat_map entry_text entries) ≡ 9 * length entries
length-entries_text [] = refl
length-entries_text (e ∷ entries) = omega (arith, length-entries_text entries)

length-tape_text_1 : (seed pages : ℕ) (entries : List Entry) → length (tape_text_1 seed pages entries) ≡ 32 + 9 * length entries
unfolding tape_text_1
length-tape_text_1 seed pages entries = omega (arith, length-entries_text entries)

seed_in-text_1 : (seed pages : ℕ) (entries : List Entry) → seed < 2 ^ 64 → seed_in (tape_text_1 seed pages entries) ≡ seed
unfolding seed_in tape_text_1
seed_in-text_1 seed pages entries lt =
    number_at-bytes_of magic_1 (bytes_of pages 8 ++ (bytes_of (length entries) 8 ++ flat_map entry_text entries)) seed 8 8 refl lt

pages_in-text_1 : (seed pages : ℕ) (entries : List Entry) → pages < 2 ^ 64 → pages_in (tape_text_1 seed pages entries) ≡ pages
unfolding pages_in tape_text_1
pages_in-text_1 seed pages entries lt =
    number_at-bytes_of (magic_1 ++ bytes_of seed 8) (bytes_of (length entries) 8 ++ flat_map entry_text entries) pages 16 8 refl lt

count_in_1-text : (seed pages : ℕ) (entries : List Entry) → length entries < 2 ^ 64 → count_in_1 (tape_text_1 seed pages entries) ≡ length entries
unfolding count_in_1 tape_text_1
count_in_1-text seed pages entries lt =
    number_at-bytes_of (magic_1 ++ bytes_of seed 8 ++ bytes_of pages 8) (flat_map entry_text entries) (length entries) 24 8 refl lt

-- an entry among other bytes
entry_at_1-text : (front : List ℕ) (e : Entry) (rest : List ℕ) (at : ℕ) → length front ≡ at → FitsEntry e → entry_at_1 (front ++ (entry_text e ++ rest)) at ≡ e
entry_at_1-text front e rest at len fits =
    let actor : slice_index (front ++ (entry_text e ++ rest)) at ≡ e.actor = get_or_at front e.actor (bytes_of e.amount 8 ++ rest) 0 at len in
    let next : length (front ++ e.actor ∷ []) ≡ at + 1 = omega (arith, length_push front e.actor) in
    let amount : number_at (front ++ (entry_text e ++ rest)) (at + 1) 8 ≡ e.amount =
    subst (λ (bytes : List ℕ). number_at bytes (at + 1) 8 ≡ e.amount) (append_assoc front (e.actor ∷ []) (bytes_of e.amount 8 ++ rest))
    (number_at-bytes_of (front ++ e.actor ∷ []) rest e.amount (at + 1) 8 next fits.amount_fits) in
    λ i. record { actor = actor i; amount = amount i }

-- the entries behind other bytes
entries_at-text : (front : List ℕ) (entries : List Entry) (first : ℕ) → length front ≡ 32 + 9 * first → AllByRecursion FitsEntry entries
    → map (λ i. entry_at_1 (front ++ flat_map entry_text entries) (32 + 9 * i)) (range_with_len first (length entries)) ≡ entries
entries_at-text front [] first len fits = refl
entries_at-text front (e ∷ entries) first len fits =
    let rest = flat_map entry_text entries in
    let head : entry_at_1 (front ++ (entry_text e ++ rest)) (32 + 9 * first) ≡ e = entry_at_1-text front e rest (32 + 9 * first) len fits.0 in
    let longer : length (front ++ entry_text e) ≡ 32 + 9 * (first + 1) = omega (arith, length-append front (entry_text e)) in
    let tail : map (λ i. entry_at_1 (front ++ (entry_text e ++ rest)) (32 + 9 * i)) (range_with_len (first + 1) (length entries)) ≡ entries =
    subst (λ (bytes : List ℕ). map (λ i. entry_at_1 bytes (32 + 9 * i)) (range_with_len (first + 1) (length entries)) ≡ entries)
    (append_assoc front (entry_text e) rest) (entries_at-text (front ++ entry_text e) entries (first + 1) longer fits.1) in
    λ i. head i ∷ tail i

pub entries_in_1-text : (seed pages : ℕ) (entries : List Entry) → FitsFile seed pages 1 entries → entries_in_1 (tape_text_1 seed pages entries) ≡ entries
unfolding entries_in_1 tape_text_1
entries_in_1-text seed pages entries fits =
    rw (count_in_1-text seed pages entries (omega (arith, fits.allowed.few_entries)))
    (entries_at-text (magic_1 ++ bytes_of seed 8 ++ bytes_of pages 8 ++ bytes_of (length entries) 8) entries 0 refl fits.entries_fit)

pub header_in_1-text : (seed pages : ℕ) (entries : List Entry) → FitsFile seed pages 1 entries
    → header_in_1 (tape_text_1 seed pages entries) ≡ record { seed = seed; pages = pages; rules = 1; count = length entries }
header_in_1-text seed pages entries fits =
    let its_seed = seed_in-text_1 seed pages entries fits.seed_fits in
    let its_pages = pages_in-text_1 seed pages entries (omega (arith, fits.allowed.few_pages)) in
    let its_count = count_in_1-text seed pages entries (omega (arith, fits.allowed.few_entries)) in
    λ i. record { seed = its_seed i; pages = its_pages i; rules = 1; count = its_count i }

none_bad : (entries : List Entry) → AllByRecursion (λ entry. IsTrue (is_actor 1 entry.actor)) entries → position_or_len (λ entry. not (is_actor 1 entry.actor)) entries ≡ length entries
none_bad [] known = refl
none_bad (e ∷ entries) known = let first : is_actor 1 e.actor ≡ true = known.0 in rw (first, none_bad entries known.1) (omega arith)

actor_fault-text : (seed pages : ℕ) (entries : List Entry) → FitsFile seed pages 1 entries → actor_fault_1 (tape_text_1 seed pages entries) ≡ None
unfolding actor_fault_1
actor_fault-text seed pages entries fits =
    let at_end : ltb (length entries) (length entries) ≡ false = le-ltb (length entries) (length entries) (omega arith) in
    rw (entries_in_1-text seed pages entries fits, none_bad entries fits.allowed.known_actors, at_end) refl

header_fault-text : (seed pages : ℕ) (entries : List Entry) → FitsFile seed pages 1 entries → header_fault_1 (tape_text_1 seed pages entries) ≡ None
unfolding header_fault_1
header_fault-text seed pages entries fits =
    let whole = length-tape_text_1 seed pages entries in
    let long : ltb (length (tape_text_1 seed pages entries)) 32 ≡ false = le-ltb _ 32 (omega arith) in
    let some : eqb pages 0 ≡ false = ne_eqb pages 0 (λ (none : pages ≡ 0). omega (arith, fits.allowed.some_pages)) in
    let few : ltb 65536 pages ≡ false = le-ltb 65536 pages fits.allowed.few_pages in
    let few_entries : ltb 20000000 (length entries) ≡ false = le-ltb 20000000 (length entries) fits.allowed.few_entries in
    let exact : eqb (length (tape_text_1 seed pages entries)) (32 + 9 * length entries) ≡ true = eq-eqb _ _ whole in
    rw (long, pages_in-text_1 seed pages entries (omega (arith, fits.allowed.few_pages)), some, few, count_in_1-text seed pages entries (omega (arith, fits.allowed.few_entries)), few_entries, exact) refl

pub fault_1-text : (seed pages : ℕ) (entries : List Entry) → FitsFile seed pages 1 entries → fault_1 (tape_text_1 seed pages entries) ≡ None
unfolding fault_1
fault_1-text seed pages entries fits = rw (header_fault-text seed pages entries fits) (actor_fault-text seed pages entries fits)

-- ---- bytes without a fault

-- what a header without a fault says
record IsHeader (bytes : List ℕ) : Type 0 where
  some_pages : 1 ≤ pages_in bytes
  few_pages : pages_in bytes ≤ 65536
  few_entries : count_in_1 bytes ≤ 20000000
  exact : length bytes ≡ 32 + 9 * count_in_1 bytes

header_from_none : (bytes : List ℕ) → header_fault_1 bytes ≡ None → IsHeader bytes
unfolding header_fault_1
header_from_none bytes e =
    let a = passes (ltb (length bytes) 32) _ _ e in
    let b = passes (eqb (pages_in bytes) 0 || ltb 65536 (pages_in bytes)) _ _ a.1 in
    let c = passes (ltb 20000000 (count_in_1 bytes)) _ _ b.1 in
    let d = ends (eqb (length bytes) (32 + 9 * count_in_1 bytes)) _ c.1 in
    let range = or_parts (eqb (pages_in bytes) 0) (ltb 65536 (pages_in bytes)) b.0 in
    let no_zero = eqb-false (pages_in bytes) 0 range.0 in
    record {
      some_pages = omega (arith, no_zero);
      few_pages = ltb-false 65536 (pages_in bytes) range.1;
      few_entries = ltb-false 20000000 (count_in_1 bytes) c.0;
      exact = eqb-true _ _ d;
    }

-- the nine bytes of an entry, in front of the bytes after it
entry_text-at : (bytes : List ℕ) (at next : ℕ) → at + 9 ≡ next → next ≤ length bytes → IsBytes bytes → entry_text (entry_at_1 bytes at) ++ drop next bytes ≡ drop at bytes
entry_text-at bytes at next e long fits =
    ap (λ (rest : List ℕ). slice_index bytes at ∷ rest) (number_text-at bytes (at + 1) 8 next (omega arith) long fits) ∙ sym (drop_more bytes at 0 (omega arith))

entries_text-at : (bytes : List ℕ) (count first : ℕ) → 32 + 9 * (first + count) ≡ length bytes → IsBytes bytes
    → flat_map entry_text (map (λ i. entry_at_1 bytes (32 + 9 * i)) (range_with_len first count)) ≡ drop (32 + 9 * first) bytes
entries_text-at bytes zero first exact fits = sym (drop_all (32 + 9 * first) bytes (omega arith))
entries_text-at bytes (suc count) first exact fits =
    ap (λ (rest : List ℕ). entry_text (entry_at_1 bytes (32 + 9 * first)) ++ rest) (entries_text-at bytes count (first + 1) (omega arith) fits)
    ∙ entry_text-at bytes (32 + 9 * first) (32 + 9 * (first + 1)) (omega arith) (omega arith) fits

pub length-entries_in_1 : (bytes : List ℕ) → length (entries_in_1 bytes) ≡ count_in_1 bytes
unfolding entries_in_1
length-entries_in_1 bytes = length-map-range_with_len (λ i. entry_at_1 bytes (32 + 9 * i)) 0 (count_in_1 bytes)

-- the eight bytes of the count
count_text : (bytes : List ℕ) → IsHeader bytes → IsBytes bytes → bytes_of (length (entries_in_1 bytes)) 8 ++ drop 32 bytes ≡ drop 24 bytes
unfolding count_in_1
count_text bytes header fits =
    ap (λ (n : ℕ). bytes_of n 8 ++ drop 32 bytes) (length-entries_in_1 bytes) ∙ number_text-at bytes 24 8 32 refl (omega (arith, header.exact)) fits

entries_text : (bytes : List ℕ) → IsHeader bytes → IsBytes bytes → flat_map entry_text (entries_in_1 bytes) ≡ drop 32 bytes
unfolding entries_in_1
entries_text bytes header fits = entries_text-at bytes (count_in_1 bytes) 0 (omega (arith, header.exact)) fits

is_spelled : (bytes : List ℕ) → magic_1 ≡ take 8 bytes → IsHeader bytes → IsBytes bytes → bytes ≡ tape_text_1 (seed_in bytes) (pages_in bytes) (entries_in_1 bytes)
unfolding tape_text_1 seed_in pages_in
is_spelled bytes begins header fits =
    let long : 32 ≤ length bytes = omega (arith, header.exact) in
    let entries = entries_text bytes header fits in
    let count : bytes_of (length (entries_in_1 bytes)) 8 ++ flat_map entry_text (entries_in_1 bytes) ≡ drop 24 bytes =
    ap (λ (rest : List ℕ). bytes_of (length (entries_in_1 bytes)) 8 ++ rest) entries ∙ count_text bytes header fits in
    let pages = ap (λ (rest : List ℕ). bytes_of (number_at bytes 16 8) 8 ++ rest) count ∙ number_text-at bytes 16 8 24 refl (omega arith) fits in
    let seed = ap (λ (rest : List ℕ). bytes_of (number_at bytes 8 8) 8 ++ rest) pages ∙ number_text-at bytes 8 8 16 refl (omega arith) fits in
    sym (ap (λ (rest : List ℕ). magic_1 ++ rest) seed ∙ ap (λ (front : List ℕ). front ++ drop 8 bytes) begins ∙ take-append-drop 8 bytes)

entries_fit : (bytes : List ℕ) (count first : ℕ) → IsBytes bytes → AllByRecursion FitsEntry (map (λ i. entry_at_1 bytes (32 + 9 * i)) (range_with_len first count))
entries_fit bytes zero first fits = tt
entries_fit bytes (suc count) first fits =
    (record { actor_fits = fits (32 + 9 * first); amount_fits = number_at-lt bytes (32 + 9 * first + 1) 8 fits }, entries_fit bytes count (first + 1) fits)

-- where the search for a bad actor passed every entry
all_known : (entries : List Entry) → length entries ≤ position_or_len (λ entry. not (is_actor 1 entry.actor)) entries → AllByRecursion (λ entry. IsTrue (is_actor 1 entry.actor)) entries
all_known [] passed = tt
all_known (e ∷ entries) passed = elim (cases_Bool (is_actor 1 e.actor)) [
  | inl known ↦ let rest = rw known at passed in (known, all_known entries (omega (arith, rest)))
  | inr bad ↦ let none = rw bad at passed in absurd (omega (arith, none))
]

-- no bad actor was found
no_actor_fault : (found : Option ℕ) → option_map BadActor found ≡ None → found ≡ None
no_actor_fault None e = refl
no_actor_fault (Some at) e = absurd cc

known_from_none : (bytes : List ℕ) → actor_fault_1 bytes ≡ None → length (entries_in_1 bytes) ≤ position_or_len (λ entry. not (is_actor 1 entry.actor)) (entries_in_1 bytes)
unfolding actor_fault_1
known_from_none bytes e =
    let is_bad : Entry → Bool = λ entry. not (is_actor 1 entry.actor) in
    let none = no_actor_fault (position is_bad (entries_in_1 bytes)) e in
    let past = passes (ltb (position_or_len is_bad (entries_in_1 bytes)) (length (entries_in_1 bytes))) _ _ none in
    ltb-false _ _ past.0

fits_from_none : (bytes : List ℕ) → IsHeader bytes → IsBytes bytes → actor_fault_1 bytes ≡ None → FitsFile (seed_in bytes) (pages_in bytes) 1 (entries_in_1 bytes)
unfolding seed_in entries_in_1
fits_from_none bytes header fits e = record {
  allowed = record {
    some_pages = header.some_pages;
    few_pages = header.few_pages;
    known_rules = record { first = omega arith; last = omega arith };
    few_entries = omega (arith, length-entries_in_1 bytes, header.few_entries);
    known_actors = all_known (entries_in_1 bytes) (known_from_none bytes e);
  };
  seed_fits = number_at-lt bytes 8 8 fits;
  entries_fit = entries_fit bytes (count_in_1 bytes) 0 fits;
}

pub spelled_1 : (bytes : List ℕ) → IsBytes bytes → is_version_1 bytes ≡ true → fault_1 bytes ≡ None
    → FitsFile (seed_in bytes) (pages_in bytes) 1 (entries_in_1 bytes) × (bytes ≡ tape_text_1 (seed_in bytes) (pages_in bytes) (entries_in_1 bytes))
unfolding fault_1 is_version_1
spelled_1 bytes fits begins e =
    let none = neither (header_fault_1 bytes) (actor_fault_1 bytes) e in
    let header = header_from_none bytes none.0 in
    (fits_from_none bytes header fits none.1, is_spelled bytes (same_text magic_1 (take 8 bytes) (sym begins)) header fits)

pub exact_1 : (bytes : List ℕ) → fault_1 bytes ≡ None → length bytes ≡ 32 + 9 * count_in_1 bytes
unfolding fault_1
exact_1 bytes e = (header_from_none bytes (neither (header_fault_1 bytes) (actor_fault_1 bytes) e).0).exact

-- ---- no fault is want of memory

header_fault-other : (bytes : List ℕ) → header_fault_1 bytes ≡ Some NoMemory → ⊥
unfolding header_fault_1
header_fault-other bytes =
    let torn : Torn (length bytes) ≡ NoMemory → ⊥ = λ e. cc in
    let many : TooLong (count_in_1 bytes) ≡ NoMemory → ⊥ = λ e. cc in
    let pages : BadPages (pages_in bytes) ≡ NoMemory → ⊥ = λ e. cc in
    no_fault _ _ _ _ torn (no_fault _ _ _ _ pages (no_fault _ _ _ _ many (no_last _ _ _ torn)))

actor_fault-other : (found : Option ℕ) → option_map BadActor found ≡ Some NoMemory → ⊥
actor_fault-other None e = cc
actor_fault-other (Some at) e = cc

pub fault_1-other : (bytes : List ℕ) → fault_1 bytes ≡ Some NoMemory → ⊥
unfolding fault_1 actor_fault_1
fault_1-other bytes = no_either (header_fault_1 bytes) (actor_fault_1 bytes) NoMemory (header_fault-other bytes) (actor_fault-other _)

-- ---- the bytes of each entry

-- an entry by itself, and where it stands
entry_at_1-take : (bytes : List ℕ) (at : ℕ) → entry_at_1 (take 9 (drop at bytes)) 0 ≡ entry_at_1 bytes at
entry_at_1-take bytes at =
    let actor : slice_index (take 9 (drop at bytes)) 0 ≡ slice_index bytes at = get_or-take 9 (drop at bytes) 0 0 (omega arith) ∙ get_or-drop at bytes 0 0 ∙ ap (slice_index bytes) (add-zero at) in
    let amount : number_at (take 9 (drop at bytes)) 1 8 ≡ number_at bytes (at + 1) 8 = number-taken bytes at 1 8 8 (omega arith) in
    λ i. record { actor = actor i; amount = amount i }

entries_at-chunks : (bytes : List ℕ) (count first : ℕ) → map (λ bytes. entry_at_1 bytes 0) (first_chunks 9 count (drop (32 + 9 * first) bytes)) ≡ map (λ i. entry_at_1 bytes (32 + 9 * i)) (range_with_len first count)
entries_at-chunks bytes zero first = refl
entries_at-chunks bytes (suc count) first =
    let next : 32 + 9 * first + 9 ≡ 32 + 9 * (first + 1) = omega arith in
    let rest : drop 9 (drop (32 + 9 * first) bytes) ≡ drop (32 + 9 * (first + 1)) bytes = drop-drop 9 (32 + 9 * first) bytes ∙ ap (λ (n : ℕ). drop n bytes) next in
    let head = entry_at_1-take bytes (32 + 9 * first) in
    let tail = ap (λ (part : List ℕ). map (λ bytes. entry_at_1 bytes 0) (first_chunks 9 count part)) rest ∙ entries_at-chunks bytes count (first + 1) in
    λ i. head i ∷ tail i

pub entries_in_1-chunks : (bytes : List ℕ) (records : List (List ℕ)) → length bytes ≡ 32 + 9 * count_in_1 bytes → records ≡ first_chunks 9 (length (drop 32 bytes) / 9) (drop 32 bytes)
    → map (λ bytes. entry_at_1 bytes 0) records ≡ entries_in_1 bytes
unfolding entries_in_1
entries_in_1-chunks bytes records exact e =
    let count : length (drop 32 bytes) / 9 ≡ count_in_1 bytes = omega (arith, length-drop 32 bytes) in
    rw (e, count) (entries_at-chunks bytes (count_in_1 bytes) 0)

position_or_len-map : {X Y : Type 0} (p : Y → Bool) (f : X → Y) (xs : List X) → position_or_len p (map f xs) ≡ position_or_len (λ x. p (f x)) xs
position_or_len-map p f [] = refl
position_or_len-map p f (x ∷ xs) = rw (position_or_len-map p f xs) refl

position-map : {X Y : Type 0} (p : Y → Bool) (f : X → Y) (xs : List X) → position p (map f xs) ≡ position (λ x. p (f x)) xs
position-map p f xs = rw (position_or_len-map p f xs, length-map xs f) refl

-- the fault of the entries, from a search of their bytes
pub actor_fault_1-records : (bytes : List ℕ) (records : List (List ℕ)) (found : Option ℕ) → map (λ bytes. entry_at_1 bytes 0) records ≡ entries_in_1 bytes
    → found ≡ position (λ bytes. not (is_actor 1 (slice_index bytes 0))) records → actor_fault_1 bytes ≡ option_map BadActor found
unfolding actor_fault_1
actor_fault_1-records bytes records found entries e =
    ap (option_map BadActor) (ap (position (λ entry. not (is_actor 1 entry.actor))) (sym entries) ∙ position-map (λ entry. not (is_actor 1 entry.actor)) (λ bytes. entry_at_1 bytes 0) records ∙ sym e)
