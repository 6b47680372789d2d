-- What the tests of a decoder tell about the rows that a word can fit.
use Rattle.std.proofs.Common.{◌≡◌, ℕ, Bool, true, false, ◌||◌, ◌&&◌, bit_and, eqb, List, [], ◌∷◌, Option, option_and_then, Some, None, cond, refl, ap, ◌∙◌, sym, inl, inr}
use Rattle.std.specs.List.{list_all, list_any, find}
use Rattle.std.specs.Option.{option_map}
use Rattle.std.specs.Int.Bits.{and_self}
use Rattle.std.proofs.Math.Bool.{not}
use Rattle.std.proofs.lemmas.Nat.{and_assoc, and_comm}
use Rattle.std.proofs.lemmas.Bool.{eqb-true, eqb-false, ne_eqb, or_cases, not-true, and_parts, both_ways}
use Rattle.a64_model.specs.declared.rows.Row.{Row}
use Rattle.a64_model.specs.declared.rows.Form.{Form}
use Rattle.a64_model.specs.declared.rows.TheConstants.{ROWS}
use Rattle.a64_model.specs.declared.instr.Instr.{Instr}
use Rattle.a64_model.specs.Fields.{fields}
use Rattle.a64_model.specs.Rows.{fits, form_among, form_of, row}

-- the order of two masks is free
and_swap : (a b c : ℕ) → bit_and (bit_and a b) c ≡ bit_and (bit_and a c) b
and_swap a b c = and_assoc c a b ∙ ap (bit_and a) (and_comm b c) ∙ sym (and_assoc b a c)

-- a mask that lies within another keeps what both keep
and_within : (n m k : ℕ) → bit_and m k ≡ k → bit_and (bit_and n m) k ≡ bit_and n k
and_within n m k within = and_assoc k n m ∙ ap (bit_and n) within

-- what a test tells of a word: the value of the bits under a mask, or some values that they do not have
pub data Known : Type 0 where
  Is : ℕ → ℕ → Known
  IsNone : ℕ → List ℕ → Known

abbrev pub Holds : ℕ → Known → Type 0
Holds word (Is m v) = bit_and word m ≡ v
Holds word (IsNone m vs) = list_any (eqb (bit_and word m)) vs ≡ false

abbrev pub HoldAll : ℕ → List Known → Type 0
HoldAll word [] = Unit {0}
HoldAll word (k ∷ ks) = Holds word k × HoldAll word ks

-- no word of which this is known fits the row
abbrev pub is_refused_by : Row → Known → Bool
is_refused_by r (Is m v) = not (eqb (bit_and v r.mask) (bit_and r.value m))
is_refused_by r (IsNone m vs) = eqb (bit_and r.mask m) m && list_any (eqb (bit_and r.value m)) vs

abbrev pub is_refused : List Known → Row → Bool
is_refused known r = list_any (is_refused_by r) known

refused_by : (word : ℕ) (r : Row) (k : Known) → Holds word k → is_refused_by r k ≡ true → bit_and word r.mask ≡ r.value → ⊥
refused_by word r (Is m v) e h fit =
    eqb-false (bit_and v r.mask) (bit_and r.value m) (not-true (eqb (bit_and v r.mask) (bit_and r.value m)) h)
    (ap (λ n. bit_and n r.mask) (sym e) ∙ and_swap word m r.mask ∙ ap (λ n. bit_and n m) fit)
refused_by word r (IsNone m vs) e h fit =
    let parts : (eqb (bit_and r.mask m) m ≡ true) × (list_any (eqb (bit_and r.value m)) vs ≡ true) = and_parts (eqb (bit_and r.mask m) m) (list_any (eqb (bit_and r.value m)) vs) h in
    let same : bit_and r.value m ≡ bit_and word m =
    ap (λ n. bit_and n m) (sym fit) ∙ and_within word r.mask m (eqb-true (bit_and r.mask m) m parts.0) in
    both_ways (list_any (eqb (bit_and word m)) vs) e (ap (λ n. list_any (eqb n) vs) (sym same) ∙ parts.1)

refused : (word : ℕ) (r : Row) (known : List Known) → HoldAll word known → is_refused known r ≡ true → bit_and word r.mask ≡ r.value → ⊥
refused word r [] all h fit = absurd (both_ways false refl h)
refused word r (k ∷ known) all h fit =
    elim (or_cases (is_refused_by r k) (is_refused known r) h) [
      | inl here ↦ refused_by word r k all.0 here fit
      | inr later ↦ refused word r known all.1 later fit
    ]

no_row_among : (known : List Known) (word : ℕ) (rows : List Row) → HoldAll word known → list_all (is_refused known) rows ≡ true → find (fits word) rows ≡ None
no_row_among known word [] all h = refl
no_row_among known word (r ∷ rows) all h =
    let parts : (is_refused known r ≡ true) × (list_all (is_refused known) rows ≡ true) = and_parts (is_refused known r) (list_all (is_refused known) rows) h in
    ap (λ b. cond b (Some r) (find (fits word) rows)) (ne_eqb (bit_and word r.mask) r.value (refused word r known all parts.0))
    ∙ no_row_among known word rows all parts.1

-- a word has no form where what is known of it refuses each row of the table
pub no_form : (known : List Known) (word : ℕ) → HoldAll word known → list_all (is_refused known) ROWS ≡ true → form_of word ≡ None
unfolding form_of
no_form known word all h = ap (option_map (λ r. r.form)) (no_row_among known word ROWS all h)

-- and then no row
pub no_row : (known : List Known) (word : ℕ) → HoldAll word known → list_all (is_refused known) ROWS ≡ true → None ≡ row word
no_row known word all h = sym (ap (option_and_then (λ f. fields f word)) (no_form known word all h))

-- the bits under the mask m decide whether a word with the value v there fits the row
abbrev pub is_decided : ℕ → ℕ → Row → Bool
is_decided m v r = eqb (bit_and m r.mask) r.mask || not (eqb (bit_and v r.mask) (bit_and r.value m))

decided_row : (m v word : ℕ) (r : Row) → bit_and word m ≡ v → is_decided m v r ≡ true → fits word r ≡ fits v r
decided_row m v word r e h =
    elim (or_cases (eqb (bit_and m r.mask) r.mask) (not (eqb (bit_and v r.mask) (bit_and r.value m))) h) [
      | inl covered ↦
          ap (λ n. eqb n r.value)
          (sym (and_within word m r.mask (eqb-true (bit_and m r.mask) r.mask covered)) ∙ ap (λ n. bit_and n r.mask) e)
      | inr apart ↦
          ne_eqb (bit_and word r.mask) r.value (refused_by word r (Is m v) e apart)
          ∙ sym (ne_eqb (bit_and v r.mask) r.value (refused_by v r (Is m v) (ap (λ n. bit_and n m) (sym e) ∙ and_within word m m (and_self m) ∙ e) apart))
    ]

decided : (m v word : ℕ) (rows : List Row) → bit_and word m ≡ v → list_all (is_decided m v) rows ≡ true → find (fits word) rows ≡ find (fits v) rows
decided m v word [] e h = refl
decided m v word (r ∷ rows) e h =
    let parts : (is_decided m v r ≡ true) × (list_all (is_decided m v) rows ≡ true) = and_parts (is_decided m v r) (list_all (is_decided m v) rows) h in
    ap (λ b. cond b (Some r) (find (fits word) rows)) (decided_row m v word r e parts.0)
    ∙ ap (λ o. cond (fits v r) (Some r) o) (decided m v word rows e parts.1)

-- where the bits under m decide each row of the table, a word with the value v there has the form of v, if it has one
pub form_under : (m v word : ℕ) → bit_and word m ≡ v → list_all (is_decided m v) ROWS ≡ true → form_of word ≡ form_among ROWS v
unfolding form_of
form_under m v word e h = ap (option_map (λ r. r.form)) (decided m v word ROWS e h)

pub form_at : (m v word : ℕ) (f : Form) → bit_and word m ≡ v → list_all (is_decided m v) ROWS ≡ true → form_among ROWS v ≡ Some f → form_of word ≡ Some f
form_at m v word f e h at = form_under m v word e h ∙ at

-- and the fields of that form
pub row_at : (m v word : ℕ) (f : Form) {i : Option Instr} → bit_and word m ≡ v → list_all (is_decided m v) ROWS ≡ true →
    form_among ROWS v ≡ Some f → i ≡ fields f word → i ≡ row word
row_at m v word f e h at read = read ∙ sym (ap (option_and_then (λ f. fields f word)) (form_at m v word f e h at))

-- under a mask that lies within another a word has the bits that its value under the other has
pub narrowed : (m v k word : ℕ) → bit_and word m ≡ v → bit_and m k ≡ k → bit_and word k ≡ bit_and v k
narrowed m v k word e within = sym (and_within word m k within) ∙ ap (λ n. bit_and n k) e
