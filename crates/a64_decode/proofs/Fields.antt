-- What the value of a field tells of the rows that a word can fit.
use Rattle.std.proofs.Common.{◌≡◌, ℕ, zero, suc, ◌+◌, ◌-◌, ◌*◌, ◌/◌, ◌%◌, ◌^◌, ◌<◌, min, max, Bool, true, bit_and, bit_or, Option, Some, option_and_then, ◌==◌, if◌then◌else◌, ap, ◌∙◌, sym, inl, inr, pow_pos, arith}
use Rattle.std.specs.List.{list_all}
use Rattle.std.specs.Int.{bit_at}
use Rattle.std.proofs.Math.Path.{transport}
use Rattle.std.proofs.lemmas.Nat.{mod_below}
use Rattle.std.proofs.lemmas.Nat.Bits.{bit_at_and, bit_at_or, same_from_bits, and_high}
use Rattle.std.proofs.lemmas.Bool.Decides.{eqb_tells}
use Rattle.a64_model.specs.Bits.{bit}
use Rattle.a64_model.specs.declared.rows.Form.{Form}
use Rattle.a64_model.specs.declared.rows.TheConstants.{ROWS}
use Rattle.a64_model.specs.declared.instr.Instr.{Instr}
use Rattle.a64_model.specs.Fields.{fields}
use Rattle.a64_model.specs.Rows.{form_among, form_of, row}
use Rattle.a64_decode.proofs.Rows.{is_decided, form_under}

min_over_max : (x y z : ℕ) → min x (max y z) ≡ max (min x y) (min x z)
min_over_max x y z = grind arith

-- two masks together keep what each keeps
and_over_or : (a b c : ℕ) → bit_and a (bit_or b c) ≡ bit_or (bit_and a b) (bit_and a c)
and_over_or a b c =
    same_from_bits (bit_and a (bit_or b c)) (bit_or (bit_and a b) (bit_and a c))
    (λ i.
    bit_at_and a (bit_or b c) i
    ∙ ap (min (bit_at a i)) (bit_at_or b c i)
    ∙ min_over_max (bit_at a i) (bit_at b i) (bit_at c i)
    ∙ ap (max (min (bit_at a i) (bit_at b i))) (sym (bit_at_and a c i))
    ∙ ap (λ n. max n (bit_at (bit_and a c) i)) (sym (bit_at_and a b i))
    ∙ sym (bit_at_or (bit_and a b) (bit_and a c) i))

-- what is known under each of two masks is known under both together
pub joined : (m v k w word : ℕ) → bit_and word m ≡ v → bit_and word k ≡ w → bit_and word (bit_or m k) ≡ bit_or v w
joined m v k w word e f = and_over_or word m k ∙ ap (λ n. bit_or n (bit_and word k)) e ∙ ap (bit_or v) f

-- the field of so many bits from bit `low` up: its value in a word, its mask, and a value at its place
abbrev pub value : ℕ → ℕ → ℕ → ℕ
value width low word = word / 2 ^ low % 2 ^ width

abbrev pub with_mask : ℕ → ℕ → ℕ → ℕ
with_mask width low m = bit_or m (2 ^ (width + low) - 2 ^ low)

abbrev pub with_value : ℕ → ℕ → ℕ → ℕ
with_value low v n = bit_or v (n * 2 ^ low)

-- what is known under a mask, and the value of a field, are one value under both
with_field : (m v width low word : ℕ) → bit_and word m ≡ v → bit_and word (with_mask width low m) ≡ with_value low v (value width low word)
with_field m v width low word e = joined m v (2 ^ (width + low) - 2 ^ low) (value width low word * 2 ^ low) word e (and_high word width low)

-- something of each number below n
abbrev pub EachBelow : (ℕ → Type 0) → ℕ → Type 0
EachBelow P zero = Unit {0}
EachBelow P (suc n) = P n × EachBelow P n

below : (P : ℕ → Type 0) (n k : ℕ) → EachBelow P n → k < n → P k
below P zero k each lt = absurd (omega (arith, lt))
below P (suc n) k each lt =
    elim (eqb_tells k n) [
      | inl same ↦ transport (ap P (sym same.1)) each.0
      | inr other ↦ below P n k each.1 (omega (arith, lt, other.1))
    ]

-- where the field is n, what is known under both decides each row of the table, and the form is the one told
abbrev pub TellsForm : ℕ → ℕ → ℕ → ℕ → (ℕ → Option Form) → ℕ → Type 0
TellsForm m v width low form n =
    (list_all (is_decided (with_mask width low m) (with_value low v n)) ROWS ≡ true) × (form_among ROWS (with_value low v n) ≡ form n)

-- the form of a word that a field tells
pub form_by_field : (m v width low : ℕ) (form : ℕ → Option Form) (word : ℕ) → bit_and word m ≡ v →
    EachBelow (TellsForm m v width low form) (2 ^ width) → form_of word ≡ form (value width low word)
form_by_field m v width low form word e tells =
    let n = value width low word in
    let told : TellsForm m v width low form n = below (TellsForm m v width low form) (2 ^ width) n tells (mod_below (word / 2 ^ low) (2 ^ width) (pow_pos width)) in
    form_under (with_mask width low m) (with_value low v n) word (with_field m v width low word e) told.0 ∙ told.1

-- and its row
pub row_by_field : (m v width low : ℕ) (form : ℕ → Option Form) (word : ℕ) {i : Option Instr} → bit_and word m ≡ v →
    EachBelow (TellsForm m v width low form) (2 ^ width) → i ≡ option_and_then (λ f. fields f word) (form (value width low word)) → i ≡ row word
row_by_field m v width low form word e tells read =
    read ∙ sym (ap (option_and_then (λ f. fields f word)) (form_by_field m v width low form word e tells))

-- the row of a word that is one of two by a bit
pub row_by_bit : (m v at word : ℕ) (set clear : Form) (b : Bool) {i : Option Instr} → bit_and word m ≡ v →
    EachBelow (TellsForm m v 1 at (λ n. Some (if n == 1 then set else clear))) 2 → bit word at ≡ b → i ≡ fields (if b then set else clear) word → i ≡ row word
row_by_bit m v at word set clear b e tells is read =
    row_by_field m v 1 at (λ n. Some (if n == 1 then set else clear)) word e tells (read ∙ ap (λ b. fields (if b then set else clear) word) (sym is))

-- the row of a word that two fields tell
abbrev pub TellsFormWith : ℕ → ℕ → ℕ → ℕ → ℕ → ℕ → (ℕ → ℕ → Option Form) → ℕ → Type 0
TellsFormWith m v width low wide at form n = EachBelow (TellsForm (with_mask width low m) (with_value low v n) wide at (form n)) (2 ^ wide)

pub row_by_two_fields : (m v width low wide at : ℕ) (form : ℕ → ℕ → Option Form) (word : ℕ) {i : Option Instr} → bit_and word m ≡ v →
    EachBelow (TellsFormWith m v width low wide at form) (2 ^ width) →
    i ≡ option_and_then (λ f. fields f word) (form (value width low word) (value wide at word)) → i ≡ row word
row_by_two_fields m v width low wide at form word e tells read =
    let n = value width low word in
    row_by_field (with_mask width low m) (with_value low v n) wide at (form n) word (with_field m v width low word e)
    (below (TellsFormWith m v width low wide at form) (2 ^ width) n tells (mod_below (word / 2 ^ low) (2 ^ width) (pow_pos width))) read
