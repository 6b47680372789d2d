-- The runs of entries: what they stand for, that they are the longest, and that no others are.
use Rattle.std.proofs.Common.{◌≡◌, ℕ, zero, suc, ◌+◌, ◌-◌, ◌^◌, ◌<◌, ◌≤◌, Bool, true, false, cond, ltb, List, [], ◌∷◌, ◌++◌, length, drop, replicate, Option, Some, None, refl, sym, ap, ◌∙◌, add-one, arith, inl, inr, length-append}
use Rattle.std.specs.Prelude.{not, position}
use Rattle.std.specs.Option.{unwrap_or}
use Rattle.std.specs.List.{flat_map, prefix_len, position_or_len, AllByRecursion}
use Rattle.std.proofs.lemmas.Bool.{cases_Bool, and_parts, and_from, eqb-true, eq-eqb, ltb-false}
use Rattle.std.proofs.lemmas.List.{length-replicate}
use Rattle.std.proofs.lemmas.List.Sums.{prefix_len-le-length}
use Rattle.tape.specs.declared.entry.Entry.{Entry}
use Rattle.tape.specs.declared.run.Run.{Run}
use Rattle.tape.specs.Entry.{same_entry, FitsEntry}
use Rattle.tape.specs.Runs.{entries_of, single, joined, runs_of, AreLongestAfter, AreLongest, FitsRun}

same_entry-refl : (e : Entry) → same_entry e e ≡ true
same_entry-refl e = and_from _ _ (eq-eqb e.actor e.actor refl) (eq-eqb e.amount e.amount refl)

pub same_entry-true : (a b : Entry) → same_entry a b ≡ true → a ≡ b
same_entry-true a b same =
    let parts = and_parts _ _ same in
    let actor : a.actor ≡ b.actor = eqb-true _ _ parts.0 in
    let amount : a.amount ≡ b.amount = eqb-true _ _ parts.1 in
    λ i. record { actor = actor i; amount = amount i }

-- ---- they stand for the entries

joined_stands : (e : Entry) (runs : List Run) → flat_map entries_of (joined e runs) ≡ e ∷ flat_map entries_of runs
joined_stands e [] = refl
joined_stands e (run ∷ runs) = elim (cases_Bool (same_entry e run.entry)) [
  | inl same ↦ let front : e ≡ run.entry = same_entry-true e run.entry same in rw (same, add-one) (ap (λ x. x ∷ (replicate run.length run.entry ++ flat_map entries_of runs)) (sym front))
  | inr other ↦ rw other refl
]

pub runs_stand : (entries : List Entry) → flat_map entries_of (runs_of entries) ≡ entries
runs_stand [] = refl
runs_stand (e ∷ es) = joined_stands e (runs_of es) ∙ ap (λ (rest : List Entry). e ∷ rest) (runs_stand es)

-- ---- they are the longest

joined_longest : (e : Entry) (runs : List Run) → AreLongest runs → AreLongest (joined e runs)
joined_longest e [] longest = (omega arith, refl, tt)
joined_longest e (run ∷ runs) longest = elim (cases_Bool (same_entry e run.entry)) [
  | inl same ↦ rw same (omega arith, refl, longest.2)
  | inr other ↦ rw other (omega arith, refl, (longest.0, other, longest.2))
]

pub runs_longest : (entries : List Entry) → AreLongest (runs_of entries)
runs_longest [] = tt
runs_longest (e ∷ es) = joined_longest e (runs_of es) (runs_longest es)

-- ---- no others are

in_front : (e : Entry) (runs : List Run) → AreLongestAfter (Some e) runs → joined e runs ≡ single e ∷ runs
in_front e [] longest = refl
in_front e (run ∷ runs) longest = rw longest.1 refl

repeated : (n : ℕ) (e : Entry) (rest : List Entry) (runs : List Run) → runs_of rest ≡ runs → AreLongestAfter (Some e) runs
    → runs_of (replicate (suc n) e ++ rest) ≡ record { entry = e; length = suc n } ∷ runs
repeated zero e rest runs is longest = ap (joined e) is ∙ in_front e runs longest
repeated (suc n) e rest runs is longest = ap (joined e) (repeated n e rest runs is longest) ∙ rw (same_entry-refl e, add-one) refl

counted : (n m : ℕ) (e : Entry) (rest : List Entry) (runs : List Run) → m ≡ suc n → runs_of rest ≡ runs → AreLongestAfter (Some e) runs
    → runs_of (replicate m e ++ rest) ≡ record { entry = e; length = m } ∷ runs
counted n m e rest runs number is longest = rw number (repeated n e rest runs is longest)

pub one_after : (before : Option Entry) (runs : List Run) → AreLongestAfter before runs → runs_of (flat_map entries_of runs) ≡ runs
one_after before [] longest = refl
one_after before (run ∷ runs) longest =
    counted (run.length - 1) run.length run.entry (flat_map entries_of runs) runs (omega (arith, longest.0)) (one_after (Some run.entry) runs longest.2) longest.2

-- ---- the first one

-- the first run has the entries at the front that are equal to the first
pub first_run : (e : Entry) (es : List Entry) → runs_of (e ∷ es) ≡ record { entry = e; length = prefix_len (same_entry e) es + 1 } ∷ runs_of (drop (prefix_len (same_entry e) es) es)
first_run e [] = refl
first_run e (x ∷ xs) = elim (cases_Bool (same_entry e x)) [
  | inl same ↦
      let rest = ap (λ (y : Entry). runs_of (y ∷ xs)) (sym (same_entry-true e x same)) ∙ first_run e xs in
      let number : 1 + prefix_len (same_entry e) xs ≡ suc (prefix_len (same_entry e) xs) = omega arith in
      ap (joined e) rest ∙ rw (same_entry-refl e, same, number, add-one (prefix_len (same_entry e) xs)) refl
  | inr other ↦
      let rest = first_run x xs in
      rw other (ap (joined e) rest ∙ rw other (ap (λ (runs : List Run). single e ∷ runs) (sym rest)))
]

-- how many entries at the front pass, from the place of the first that doesn't
passing : (p : Entry → Bool) (xs : List Entry) → position_or_len (λ x. not (p x)) xs ≡ prefix_len p xs
passing p [] = refl
passing p (x ∷ xs) = elim (cases_Bool (p x)) [
  | inl holds ↦ rw holds (ap (λ (n : ℕ). 1 + n) (passing p xs))
  | inr fails ↦ rw fails refl
]

found : (b : Bool) (place size answer : ℕ) → (b ≡ false → place ≡ size) → answer ≡ unwrap_or (cond b (Some place) None) size → answer ≡ place
found true place size answer end is = is
found false place size answer end is = is ∙ sym (end refl)

pub place_or_length : (p : Entry → Bool) (xs : List Entry) (at : Option ℕ) (answer : ℕ) → at ≡ position (λ x. not (p x)) xs → answer ≡ unwrap_or at (length xs) → answer ≡ prefix_len p xs
place_or_length p xs at answer e is =
    let place = passing p xs in
    let within = prefix_len-le-length p xs in
    let real = rw e at is in
    found (ltb (position_or_len (λ x. not (p x)) xs) (length xs)) (position_or_len (λ x. not (p x)) xs) (length xs) answer (λ none. omega (arith, ltb-false _ _ none)) real ∙ place

-- ---- what holds of each run and of each entry

all_behind : (P : Entry → Type 0) (n : ℕ) (e : Entry) (rest : List Entry) → AllByRecursion P (replicate n e ++ rest) → AllByRecursion P rest
all_behind P zero e rest all = all
all_behind P (suc n) e rest all = all_behind P n e rest all.1

all_first : (P : Entry → Type 0) (n : ℕ) (e : Entry) (rest : List Entry) → 1 ≤ n → AllByRecursion P (replicate n e ++ rest) → P e
all_first P zero e rest some all = absurd (omega arith)
all_first P (suc n) e rest some all = all.0

all_in_front : (P : Entry → Type 0) (n : ℕ) (e : Entry) (rest : List Entry) → P e → AllByRecursion P rest → AllByRecursion P (replicate n e ++ rest)
all_in_front P zero e rest p all = all
all_in_front P (suc n) e rest p all = (p, all_in_front P n e rest p all)

pub each_run : (P : Entry → Type 0) (before : Option Entry) (runs : List Run) → AreLongestAfter before runs → AllByRecursion P (flat_map entries_of runs) → AllByRecursion (λ run. P run.entry) runs
each_run P before [] longest all = tt
each_run P before (run ∷ runs) longest all =
    (all_first P run.length run.entry (flat_map entries_of runs) longest.0 all, each_run P (Some run.entry) runs longest.2 (all_behind P run.length run.entry (flat_map entries_of runs) all))

pub each_entry : (P : Entry → Type 0) (runs : List Run) → AllByRecursion (λ run. P run.entry) runs → AllByRecursion P (flat_map entries_of runs)
each_entry P [] all = tt
each_entry P (run ∷ runs) all = all_in_front P run.length run.entry (flat_map entries_of runs) all.0 (each_entry P runs all.1)

pub length-entries : (run : Run) (runs : List Run) → length (flat_map entries_of (run ∷ runs)) ≡ run.length + length (flat_map entries_of runs)
length-entries run runs = omega (arith, length-append (entries_of run) (flat_map entries_of runs), length-replicate run.length run.entry)

runs_fit_after : (before : Option Entry) (runs : List Run) → AreLongestAfter before runs → AllByRecursion (λ run. FitsEntry run.entry) runs → length (flat_map entries_of runs) < 2 ^ 32 → AllByRecursion FitsRun runs
runs_fit_after before [] longest all few = tt
runs_fit_after before (run ∷ runs) longest all few =
    let number = length-entries run runs in
    (record { entry_fits = all.0; length_fits = omega arith }, runs_fit_after (Some run.entry) runs longest.2 all.1 (omega arith))

-- the runs of entries fit, where these do and aren't too many
pub runs_fit : (entries : List Entry) → AllByRecursion FitsEntry entries → length entries < 2 ^ 32 → AllByRecursion FitsRun (runs_of entries)
runs_fit entries all few =
    let stand = runs_stand entries in
    let longest = runs_longest entries in
    runs_fit_after None (runs_of entries) longest (each_run FitsEntry None (runs_of entries) longest (rw stand all)) (rw stand few)

entry_fits_each : (runs : List Run) → AllByRecursion FitsRun runs → AllByRecursion (λ run. FitsEntry run.entry) runs
entry_fits_each [] all = tt
entry_fits_each (run ∷ runs) all = (all.0.entry_fits, entry_fits_each runs all.1)

pub entries_fit_each : (runs : List Run) → AllByRecursion FitsRun runs → AllByRecursion FitsEntry (flat_map entries_of runs)
entries_fit_each runs all = each_entry FitsEntry runs (entry_fits_each runs all)

-- entries fit, where their runs do
pub entries_fit : (entries : List Entry) → AllByRecursion FitsRun (runs_of entries) → AllByRecursion FitsEntry entries
entries_fit entries all = rw runs_stand at (entries_fit_each (runs_of entries) all)
