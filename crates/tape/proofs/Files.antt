-- Files of either version.
use Rattle.std.proofs.Common.{◌≡◌, ℕ, Bool, true, false, cond, List, length, Option, Some, None, refl, sym, ap, ◌∙◌, inl, inr}
use Rattle.std.specs.Prelude.{nat_eq}
use Rattle.std.specs.List.{starts_with, flat_map}
use Rattle.std.proofs.lemmas.Bool.{cases_Bool}
use Rattle.tape.specs.declared.entry.Entry.{Entry}
use Rattle.tape.specs.declared.header.Header.{Header}
use Rattle.tape.specs.declared.fault.TapeFault.{TapeFault}
use Rattle.tape.specs.declared.fault.TapeFault.TheVariants.{BadMagic, Torn, TooLong, BadPages, BadRules, BadRun, BadActor, NoMemory}
use Rattle.tape.specs.Tape.{Recording}
use Rattle.tape.specs.Entry.{IsRules}
use Rattle.tape.specs.Runs.{entries_of}
use Rattle.tape.specs.TapeText.{magic, tape_text, tape_text_1, IsTextOf, FitsFile}
use Rattle.tape.specs.TapeFile.{runs_in, entries_in_1, entries_in, header_in_1, header_in_2, header_in, is_version_1}
use Rattle.tape.specs.TapeFault.{fault_1, fault_2, tape_fault, IsCause}
use Rattle.tape.proofs.Places.{IsBytes}
use Rattle.tape.proofs.Runs.{runs_stand}
use Rattle.tape.proofs.Version1.{header_in_1-text, entries_in_1-text, fault_1-text, spelled_1, length-entries_in_1, fault_1-other}
use Rattle.tape.proofs.Version2.{header_in_2-text, runs_in-text, fault_2-text, spelled_2, total_2, fault_2-other}

-- what bytes without a fault are
pub record IsFile (bytes : List ℕ) (header : Header) (entries : List Entry) : Type 0 where
  pub fits : FitsFile header.seed header.pages header.rules entries
  pub text : IsTextOf bytes header.seed header.pages header.rules entries
  pub count : length entries ≡ header.count

file_1 : (bytes : List ℕ) → IsBytes bytes → is_version_1 bytes ≡ true → fault_1 bytes ≡ None → IsFile bytes (header_in_1 bytes) (entries_in_1 bytes)
file_1 bytes fits begins e =
    let found = spelled_1 bytes fits begins e in
    record { fits = found.0; text = inr (refl, found.1); count = length-entries_in_1 bytes }

file_2 : (bytes : List ℕ) → IsBytes bytes → starts_with nat_eq bytes magic ≡ true → fault_2 bytes ≡ None → IsFile bytes (header_in_2 bytes) (flat_map entries_of (runs_in bytes))
file_2 bytes fits begins e =
    let found = spelled_2 bytes fits begins e in
    record { fits = found.0; text = inl found.1; count = total_2 bytes e }

-- it begins as a file of version 2
begins_2 : (begins : Bool) (fault : Option TapeFault) → cond begins fault (Some BadMagic) ≡ None → (begins ≡ true) × (fault ≡ None)
begins_2 true fault e = (refl, e)
begins_2 false fault e = absurd cc

pub file_from_none : (bytes : List ℕ) → IsBytes bytes → tape_fault bytes ≡ None → IsFile bytes (header_in bytes) (entries_in bytes)
unfolding tape_fault header_in entries_in
file_from_none bytes fits e = elim (cases_Bool (is_version_1 bytes)) [
  | inl first ↦ rw first (file_1 bytes fits first (rw first at e))
  | inr second ↦
      let found = begins_2 (starts_with nat_eq bytes magic) (fault_2 bytes) (rw second at e) in
      rw second (file_2 bytes fits found.0 found.1)
]

pub known_rules : (bytes : List ℕ) (header : Header) → IsBytes bytes → tape_fault bytes ≡ None → header ≡ header_in bytes → IsRules header.rules
known_rules bytes header fits e is = rw is (file_from_none bytes fits e).fits.allowed.known_rules

pub count_read : (bytes : List ℕ) (header : Header) → IsBytes bytes → tape_fault bytes ≡ None → header ≡ header_in bytes → length (entries_in bytes) ≡ header.count
count_read bytes header fits e is = rw is (file_from_none bytes fits e).count

-- what is read again of a text
pub record IsReadAgain (bytes : List ℕ) (seed pages rules : ℕ) (entries : List Entry) : Type 0 where
  pub no_fault : tape_fault bytes ≡ None
  pub header : header_in bytes ≡ record { seed = seed; pages = pages; rules = rules; count = length entries }
  pub entries_read : entries_in bytes ≡ entries

text_is_1 : (seed pages : ℕ) (entries : List Entry) → is_version_1 (tape_text_1 seed pages entries) ≡ true
unfolding is_version_1 tape_text_1
text_is_1 seed pages entries = refl

text_is_2 : (seed pages rules : ℕ) (entries : List Entry) → is_version_1 (tape_text seed pages rules entries) ≡ false
unfolding is_version_1 tape_text
text_is_2 seed pages rules entries = refl

text_begins_2 : (seed pages rules : ℕ) (entries : List Entry) → starts_with nat_eq (tape_text seed pages rules entries) magic ≡ true
unfolding tape_text
text_begins_2 seed pages rules entries = refl

again_1 : (seed pages : ℕ) (entries : List Entry) → FitsFile seed pages 1 entries → IsReadAgain (tape_text_1 seed pages entries) seed pages 1 entries
unfolding tape_fault header_in entries_in
again_1 seed pages entries fits =
    let first = text_is_1 seed pages entries in
    record {
      no_fault = rw first (fault_1-text seed pages entries fits);
      header = rw first (header_in_1-text seed pages entries fits);
      entries_read = rw first (entries_in_1-text seed pages entries fits);
    }

again_2 : (seed pages rules : ℕ) (entries : List Entry) → FitsFile seed pages rules entries → IsReadAgain (tape_text seed pages rules entries) seed pages rules entries
unfolding tape_fault header_in entries_in
again_2 seed pages rules entries fits =
    let second = text_is_2 seed pages rules entries in
    record {
      no_fault = rw (second, text_begins_2 seed pages rules entries) (fault_2-text seed pages rules entries fits);
      header = rw second (header_in_2-text seed pages rules entries fits);
      entries_read = rw second (ap (flat_map entries_of) (runs_in-text seed pages rules entries fits) ∙ runs_stand entries);
    }

pub read_again : (bytes : List ℕ) (seed pages rules : ℕ) (entries : List Entry) → FitsFile seed pages rules entries → IsTextOf bytes seed pages rules entries → IsReadAgain bytes seed pages rules entries
read_again bytes seed pages rules entries fits (inl e) = rw e (again_2 seed pages rules entries fits)
read_again bytes seed pages rules entries fits (inr e) =
    let its_rules : rules ≡ 1 = e.0 in
    let first = rw its_rules at fits in
    rw (e.1, its_rules) (again_1 seed pages entries first)

pub text_is_one : (bytes : List ℕ) (seed pages rules other_seed other_pages other_rules : ℕ) (entries other_entries : List Entry)
    → FitsFile seed pages rules entries → FitsFile other_seed other_pages other_rules other_entries
    → IsTextOf bytes seed pages rules entries → IsTextOf bytes other_seed other_pages other_rules other_entries
    → (seed ≡ other_seed) × (pages ≡ other_pages) × (rules ≡ other_rules) × (entries ≡ other_entries)
text_is_one bytes seed pages rules other_seed other_pages other_rules entries other_entries fits other_fits text other_text =
    let one = read_again bytes seed pages rules entries fits text in
    let other = read_again bytes other_seed other_pages other_rules other_entries other_fits other_text in
    let header = sym one.header ∙ other.header in
    (ap (λ (h : Header). h.seed) header, ap (λ (h : Header). h.pages) header, ap (λ (h : Header). h.rules) header, sym one.entries_read ∙ other.entries_read)

-- the tape that stands in bytes
abbrev pub tape_in : List ℕ → Recording
tape_in bytes =
    let header = header_in bytes in
    record { seed = header.seed; pages = header.pages; rules = header.rules; room = header.count; entries = entries_in bytes }

pub tape_in-text : (bytes : List ℕ) (seed pages rules : ℕ) (entries : List Entry) → FitsFile seed pages rules entries → IsTextOf bytes seed pages rules entries
    → tape_in bytes ≡ record { seed = seed; pages = pages; rules = rules; room = length entries; entries = entries }
tape_in-text bytes seed pages rules entries fits text =
    let again = read_again bytes seed pages rules entries fits text in
    λ i.
    let header = again.header i in
    record { seed = header.seed; pages = header.pages; rules = header.rules; room = header.count; entries = again.entries_read i }

-- ---- the answers of reading

tape_fault-other : (bytes : List ℕ) → tape_fault bytes ≡ Some NoMemory → ⊥
unfolding tape_fault
tape_fault-other bytes e = elim (cases_Bool (is_version_1 bytes)) [
  | inl first ↦ fault_1-other bytes (rw first at e)
  | inr second ↦ elim (cases_Bool (starts_with nat_eq bytes magic)) [
    | inl begins ↦ fault_2-other bytes (rw (second, begins) at e)
    | inr other ↦ let none = rw (second, other) at e in cc
  ]
]

pub is_cause : (bytes : List ℕ) (fault : TapeFault) → tape_fault bytes ≡ Some fault → IsCause bytes fault
is_cause bytes BadMagic e = e
is_cause bytes (Torn at) e = e
is_cause bytes (TooLong count) e = e
is_cause bytes (BadPages pages) e = e
is_cause bytes (BadRules rules) e = e
is_cause bytes (BadRun at) e = e
is_cause bytes (BadActor at) e = e
is_cause bytes NoMemory e = absurd (tape_fault-other bytes e)

-- no text of a tape has a fault
pub no_text : (bytes : List ℕ) (fault : TapeFault) (seed pages rules : ℕ) (entries : List Entry) → tape_fault bytes ≡ Some fault → FitsFile seed pages rules entries → IsTextOf bytes seed pages rules entries → ⊥
no_text bytes fault seed pages rules entries found fits text =
    let none = (read_again bytes seed pages rules entries fits text).no_fault in
    cc
