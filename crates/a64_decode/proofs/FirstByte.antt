-- What the first byte of a word, bits 31 to 24, tells of the rows that the word can fit.
use Rattle.std.proofs.Common.{◌≡◌, ℕ, zero, suc, ◌*◌, ◌/◌, ◌%◌, ◌^◌, ◌-◌, ◌<◌, Bool, true, false, ◌||◌, ◌&&◌, ◌⊎◌, bit_and, eqb, List, [], ◌∷◌, option_and_then, Some, None, cond, refl, ap, ◌∙◌, sym, inl, inr, arith}
use Rattle.std.specs.List.{list_all, list_any, find}
use Rattle.std.specs.Option.{option_map}
use Rattle.std.specs.Int.Bits.{and_zero_r}
use Rattle.std.proofs.Math.Bool.{not}
use Rattle.std.proofs.lemmas.Nat.{and_assoc, and_mask, and_shr}
use Rattle.std.proofs.lemmas.Bool.{eqb-true, eqb-false, ne_eqb, or_cases, not-true, and_parts, both_ways}
use Rattle.std.proofs.lemmas.Bool.Decides.{eqb_tells}
use Rattle.a64_model.specs.declared.rows.Row.{Row}
use Rattle.a64_model.specs.declared.rows.TheConstants.{ROWS}
use Rattle.a64_model.specs.Fields.{fields}
use Rattle.a64_model.specs.Rows.{fits, form_of, row}

-- under a mask of the first byte a word has that byte's bits
by_first_byte : (word m : ℕ) → m % 2 ^ 24 ≡ 0 → bit_and word m ≡ bit_and (word / 2 ^ 24) (m / 2 ^ 24) * 2 ^ 24
by_first_byte word m whole =
    let upper : bit_and word m / 2 ^ 24 ≡ bit_and (word / 2 ^ 24) (m / 2 ^ 24) = and_shr word m 24 in
    let lower : bit_and word m % 2 ^ 24 ≡ 0 =
    sym (and_mask (bit_and word m) 24) ∙ and_assoc (2 ^ 24 - 1) word m
    ∙ ap (bit_and word) (and_mask m 24 ∙ whole) ∙ and_zero_r word in
    omega (arith, upper, lower)

-- the number is k or one of these
abbrev IsAmong : ℕ → List ℕ → ℕ → Type 0
IsAmong k [] n = n ≡ k
IsAmong k (l ∷ ks) n = (n ≡ k) ⊎ IsAmong l ks n

-- the number is one of these, as a test of several values tells it
abbrev pub IsOneOf : List ℕ → ℕ → Type 0
IsOneOf [] n = ⊥
IsOneOf (k ∷ ks) n = IsAmong k ks n

-- and it is in none of these lists
abbrev pub IsInNone : List (List ℕ) → ℕ → Type 0
IsInNone [] n = Unit {0}
IsInNone (ks ∷ lists) n = (IsOneOf ks n → ⊥) × IsInNone lists n

of_each_among : (P : ℕ → Bool) (k : ℕ) (ks : List ℕ) (n : ℕ) → list_all P (k ∷ ks) ≡ true → IsAmong k ks n → P n ≡ true
of_each_among P k [] n all is = ap P is ∙ (and_parts (P k) true all).0
of_each_among P k (l ∷ ks) n all is =
    let parts : (P k ≡ true) × (list_all P (l ∷ ks) ≡ true) = and_parts (P k) (list_all P (l ∷ ks)) all in
    elim is [
      | inl here ↦ ap P here ∙ parts.0
      | inr later ↦ of_each_among P l ks n parts.1 later
    ]

-- what holds of each of these numbers holds of one that is among them
of_each : (P : ℕ → Bool) (ks : List ℕ) (n : ℕ) → list_all P ks ≡ true → IsOneOf ks n → P n ≡ true
of_each P [] n all is = absurd is
of_each P (k ∷ ks) n all is = of_each_among P k ks n all is

-- a number that is found among these is one of them
found_among : (k : ℕ) (ks : List ℕ) (n : ℕ) → list_any (eqb n) (k ∷ ks) ≡ true → IsAmong k ks n
found_among k [] n any =
    elim (or_cases (eqb n k) false any) [
      | inl here ↦ eqb-true n k here
      | inr later ↦ absurd (both_ways false refl later)
    ]
found_among k (l ∷ ks) n any =
    elim (or_cases (eqb n k) (list_any (eqb n) (l ∷ ks)) any) [
      | inl here ↦ inl (eqb-true n k here)
      | inr later ↦ inr (found_among l ks n later)
    ]

found : (ks : List ℕ) (n : ℕ) → list_any (eqb n) ks ≡ true → IsOneOf ks n
found [] n any = absurd (both_ways false refl any)
found (k ∷ ks) n any = found_among k ks n any

abbrev pub is_in : List (List ℕ) → ℕ → Bool
is_in lists n = list_any (λ ks. list_any (eqb n) ks) lists

not_found : (lists : List (List ℕ)) (n : ℕ) → IsInNone lists n → is_in lists n ≡ true → ⊥
not_found [] n none any = both_ways false refl any
not_found (ks ∷ lists) n none any =
    elim (or_cases (list_any (eqb n) ks) (is_in lists n) any) [
      | inl here ↦ none.0 (found ks n here)
      | inr later ↦ not_found lists n none.1 later
    ]

-- a word whose first byte is one of these has the value v under the mask m
pub under : (m v : ℕ) (ks : List ℕ) (word : ℕ) → m % 2 ^ 24 ≡ 0 → list_all (λ b. eqb (bit_and b (m / 2 ^ 24) * 2 ^ 24) v) ks ≡ true →
    IsOneOf ks (word / 2 ^ 24) → bit_and word m ≡ v
under m v ks word whole all is =
    by_first_byte word m whole
    ∙ eqb-true (bit_and (word / 2 ^ 24) (m / 2 ^ 24) * 2 ^ 24) v (of_each (λ b. eqb (bit_and b (m / 2 ^ 24) * 2 ^ 24) v) ks (word / 2 ^ 24) all is)

-- each number below n passes
abbrev pub all_below : (ℕ → Bool) → ℕ → Bool
all_below P zero = true
all_below P (suc n) = P n && all_below P n

below : (P : ℕ → Bool) (n k : ℕ) → all_below P n ≡ true → k < n → P k ≡ true
below P zero k all lt = absurd (omega (arith, lt))
below P (suc n) k all lt =
    let parts : (P n ≡ true) × (all_below P n ≡ true) = and_parts (P n) (all_below P n) all in
    elim (eqb_tells k n) [
      | inl same ↦ ap P same.1 ∙ parts.0
      | inr other ↦ below P n k parts.1 (omega (arith, lt, other.1))
    ]

-- no word with this first byte fits the row
abbrev is_refused_above : ℕ → Row → Bool
is_refused_above b r = not (eqb (bit_and b (r.mask / 2 ^ 24)) (r.value / 2 ^ 24))

refused_above : (word : ℕ) (r : Row) → is_refused_above (word / 2 ^ 24) r ≡ true → bit_and word r.mask ≡ r.value → ⊥
refused_above word r h fit =
    eqb-false (bit_and (word / 2 ^ 24) (r.mask / 2 ^ 24)) (r.value / 2 ^ 24)
    (not-true (eqb (bit_and (word / 2 ^ 24) (r.mask / 2 ^ 24)) (r.value / 2 ^ 24)) h)
    (sym (and_shr word r.mask 24) ∙ ap (λ n. n / 2 ^ 24) fit)

none_above : (word : ℕ) (rows : List Row) → list_all (is_refused_above (word / 2 ^ 24)) rows ≡ true → find (fits word) rows ≡ None
none_above word [] all = refl
none_above word (r ∷ rows) all =
    let parts : (is_refused_above (word / 2 ^ 24) r ≡ true) × (list_all (is_refused_above (word / 2 ^ 24)) rows ≡ true) =
    and_parts (is_refused_above (word / 2 ^ 24) r) (list_all (is_refused_above (word / 2 ^ 24)) rows) all in
    ap (λ b. cond b (Some r) (find (fits word) rows)) (ne_eqb (bit_and word r.mask) r.value (refused_above word r parts.0))
    ∙ none_above word rows parts.1

-- the byte is in one of these lists, or it refuses each row of the table
abbrev pub is_known_byte : List (List ℕ) → ℕ → Bool
is_known_byte lists b = is_in lists b || list_all (is_refused_above b) ROWS

-- a word has no row where its first byte is in none of these lists, and each byte that is in none refuses each row of the table
pub no_row_above : (lists : List (List ℕ)) (word : ℕ) → word < 2 ^ 32 → IsInNone lists (word / 2 ^ 24) → all_below (is_known_byte lists) 256 ≡ true →
    None ≡ row word
unfolding form_of
no_row_above lists word fits_word other all =
    let byte : ℕ = word / 2 ^ 24 in
    let known : is_known_byte lists byte ≡ true = below (is_known_byte lists) 256 byte all (omega (arith, fits_word)) in
    let refusing : list_all (is_refused_above byte) ROWS ≡ true =
    elim (or_cases (is_in lists byte) (list_all (is_refused_above byte) ROWS) known) [
      | inl one ↦ absurd (not_found lists byte other one)
      | inr all_refuse ↦ all_refuse
    ] in
    sym (ap (λ found. option_and_then (λ f. fields f word) (option_map (λ r. r.form) found)) (none_above word ROWS refusing))
