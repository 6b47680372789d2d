-- That places for open files and counters are free where each open file is named.
use Rattle.std.specs.Prelude.{◌≡◌, refl, ℕ, zero, suc, ◌+◌, ◌≤◌, ◌==◌, Bool, true, false, ◌||◌, ◌&&◌, cond, List, [], ◌∷◌, map, Option, Some, None, is_some, is_none, count_by, sum_by, drop, if◌then◌else◌}
use Rattle.std.proofs.Math.Bool.{not}
use Rattle.std.specs.List.{list_any}
use Rattle.std.proofs.Common.{arith, ap, sym, ◌∙◌, subst}
use Rattle.std.proofs.lemmas.List.Sums.{sum_by-cons}
use Rattle.lx_machine.specs.Files.{names}
use Rattle.lx_machine.specs.Lists.{at_place, bind, first_free, first_free_from}
use Rattle.open_files.specs.Making.{numbers_in, pipe_numbers}
use Rattle.open_files.specs.Named.{AllNamed, IsKept, counter_of, holds_in, holds_of, tells}
use Rattle.lx_machine.specs.Descriptors.{second_free}
use Rattle.lx_machine.specs.declared.files.Descriptor.{Descriptor}
use Rattle.lx_machine.specs.declared.files.OpenFile.{OpenFile}
use Rattle.lx_machine.specs.declared.files.Files.{Files}
use Rattle.open_files.proofs.Pigeons.{another_free, count-cons, no_yes, one_free, taken_and_free, told_of}

-- ---- an open file that no call holds

abbrev unheld : Option OpenFile → Option OpenFile
unheld None = None
unheld (Some f) = if f.holds == 0 then Some f else None

at_unheld : (fs : List (Option OpenFile)) (i : ℕ) → at_place (map unheld fs) i ≡ unheld (at_place fs i)
at_unheld [] i = refl
at_unheld (f ∷ fs) zero = refl
at_unheld (f ∷ fs) (suc i) = at_unheld fs i

one_held : (f : OpenFile) (n : ℕ) → 1 ≤ cond (is_some (if n == 0 then Some f else None)) 1 0 + n
one_held f zero = omega arith
one_held f (suc n) = omega arith

one_counts : (o : Option OpenFile) → cond (is_some o) 1 0 ≤ cond (is_some (unheld o)) 1 0 + holds_of o
one_counts None = omega arith
one_counts (Some f) = one_held f f.holds

all_count : (fs : List (Option OpenFile)) → count_by is_some fs ≤ count_by is_some (map unheld fs) + sum_by holds_of fs
all_count [] = omega arith
all_count (f ∷ fs) =
    let a = count-cons is_some f fs in
    let b = count-cons is_some (unheld f) (map unheld fs) in
    let c = sum_by-cons holds_of f fs in
    let d = one_counts f in
    let h = all_count fs in
    omega (arith, a, b, c, d, h)

-- ---- who is named by a descriptor

abbrev file_of : Option Descriptor → Option ℕ
file_of None = None
file_of (Some d) = Some d.file

same_name : (n : ℕ) (d : Option Descriptor) → names n d ≡ tells (file_of d) n
same_name n None = refl
same_name n (Some d) = refl

same_names : (n : ℕ) (ds : List (Option Descriptor)) → list_any (names n) ds ≡ list_any (λ d. tells (file_of d) n) ds
same_names n [] = refl
same_names n (d ∷ ds) = rw (same_name n d) (ap (λ b. tells (file_of d) n || b) (same_names n ds))

open_counts : (ds : List (Option Descriptor)) → count_by (λ d. is_some (file_of d)) ds ≡ count_by is_some ds
open_counts [] = refl
open_counts (None ∷ ds) = count-cons (λ d. is_some (file_of d)) None ds ∙ ap (λ n. 0 + n) (open_counts ds) ∙ sym (count-cons is_some None ds)
open_counts (Some d ∷ ds) = count-cons (λ d. is_some (file_of d)) (Some d) ds ∙ ap (λ n. 1 + n) (open_counts ds) ∙ sym (count-cons is_some (Some d) ds)

named_by_test : (b c : Bool) → b ≡ true → (b && not c) ≡ false → c ≡ true
named_by_test true true e h = refl
named_by_test true false e h = absurd (no_yes (sym h))
named_by_test false c e h = absurd (no_yes e)

held_test : (F : Files) (n : ℕ) (f : OpenFile) → at_place F.files n ≡ Some f → AllNamed F → (b : Bool) → (f.holds == 0) ≡ b → is_some (if b then Some f else None) ≡ true
    → list_any (names n) F.descriptors ≡ true
held_test F n f e all true k h = named_by_test (f.holds == 0) (list_any (names n) F.descriptors) k (all n f e)
held_test F n f e all false k h = absurd (no_yes h)

unheld_named : (F : Files) (n : ℕ) (o : Option OpenFile) → at_place F.files n ≡ o → AllNamed F → is_some (unheld o) ≡ true → list_any (names n) F.descriptors ≡ true
unheld_named F n None e all h = absurd (no_yes h)
unheld_named F n (Some f) e all h = held_test F n f e all (f.holds == 0) refl h

-- ---- how many live

few_files : (F : Files) → AllNamed F → count_by is_some F.files ≤ holds_in F + count_by is_some F.descriptors
few_files F all =
    let told = told_of file_of (map unheld F.files) F.descriptors (λ n h.
    sym (same_names n F.descriptors) ∙ unheld_named F n (at_place F.files n) refl all (sym (ap is_some (at_unheld F.files n)) ∙ h)) in
    let living = open_counts F.descriptors in
    let a = all_count F.files in
    omega (arith, told, living, a)

at_most_one : (b : Bool) → cond b 1 0 ≤ 1
at_most_one true = omega arith
at_most_one false = omega arith

counter_counts : (o : Option OpenFile) → cond (is_some (counter_of o)) 1 0 ≤ cond (is_some o) 1 0
counter_counts None = omega arith
counter_counts (Some f) = at_most_one (is_some (counter_of (Some f)))

counters_count : (fs : List (Option OpenFile)) → count_by (λ f. is_some (counter_of f)) fs ≤ count_by is_some fs
counters_count [] = omega arith
counters_count (f ∷ fs) =
    let a = count-cons (λ f. is_some (counter_of f)) f fs in
    let b = count-cons is_some f fs in
    let c = counter_counts f in
    let h = counters_count fs in
    omega (arith, a, b, c, h)

few_counters : (F : Files) → IsKept F → count_by is_some F.counters ≤ count_by is_some F.files
few_counters F kept =
    let a = told_of counter_of F.counters F.files kept.counted in
    let b = counters_count F.files in
    omega (arith, a, b)

-- fewer living open files than places, by so many as descriptors are free
room_left : (F : Files) → IsKept F → AllNamed F → count_by is_some F.files + count_by is_none F.descriptors ≤ 384
room_left F kept all =
    let a = few_files F all in
    let b = taken_and_free F.descriptors in
    omega (arith, a, b, kept.descriptors, kept.holds)

-- ---- what is free

some_by : {X Y : Type 0} (o : Option X) (f : X → Option Y) → is_some o ≡ true → ((x : X) → o ≡ Some x → is_some (f x) ≡ true) → is_some (bind o f) ≡ true
some_by None f h k = absurd (no_yes h)
some_by (Some x) f h k = k x refl

pub file_free : (F : Files) → IsKept F → AllNamed F → 1 ≤ count_by is_none F.descriptors → is_some (first_free F.files) ≡ true
file_free F kept all h =
    let a = room_left F kept all in one_free 0 F.files (omega (arith, a, h, kept.files))

pub counter_free : (F : Files) → IsKept F → AllNamed F → 1 ≤ count_by is_none F.descriptors → is_some (numbers_in F F.counters) ≡ true
counter_free F kept all h =
    let a = room_left F kept all in
    let b = few_counters F kept in
    let c = one_free 0 F.counters (omega (arith, a, b, h, kept.counters)) in
    some_by (first_free F.files) _ (file_free F kept all h) (λ file e. some_by (first_free F.counters) _ c (λ n k. refl))

by_first : {A X Y : Type 0} (f : A → X → Y) (o : Option A) (p : Option X) → is_some o ≡ true → is_some (bind o (λ a. bind p (λ b. Some (f a b)))) ≡ is_some p
by_first f None p h = absurd (no_yes h)
by_first f (Some a) None h = refl
by_first f (Some a) (Some b) h = refl

-- a place for an open file is free: what decides is whether one of these is
pub numbers_free : {X : Type 0} (F : Files) (places : List (Option X)) → IsKept F → AllNamed F → 1 ≤ count_by is_none F.descriptors
    → is_some (numbers_in F places) ≡ is_some (first_free places)
numbers_free F places kept all h = by_first _ (first_free F.files) (first_free places) (file_free F kept all h)

second_there : (F : Files) → IsKept F → AllNamed F → 2 ≤ count_by is_none F.descriptors → (r : ℕ) → first_free F.files ≡ Some r → is_some (second_free F.files r) ≡ true
second_there F kept all h r e =
    let a = room_left F kept all in
    let same : 0 + r ≡ r = omega arith in
    subst (λ m. is_some (first_free_from (suc m) (drop (suc r) F.files)) ≡ true) same (another_free 0 r F.files (omega (arith, a, h, kept.files)) (e ∙ ap Some (sym same)))

by_pipe : {Y : Type 0} (F : Files) (f : ℕ → ℕ → ℕ → Y) (o p : Option ℕ) → is_some o ≡ true → ((r : ℕ) → o ≡ Some r → is_some (second_free F.files r) ≡ true)
    → is_some (bind o (λ r. bind p (λ n. bind (second_free F.files r) (λ w. Some (f r n w))))) ≡ is_some p
by_pipe F f None p h k = absurd (no_yes h)
by_pipe F f (Some r) None h k = refl
by_pipe F f (Some r) (Some n) h k = some_by (second_free F.files r) (λ w. Some (f r n w)) (k r refl) (λ w e. refl)

pub pipe_free : (F : Files) → IsKept F → AllNamed F → 2 ≤ count_by is_none F.descriptors → is_some (pipe_numbers F) ≡ is_some (first_free F.pipes)
pipe_free F kept all h =
    by_pipe F _ (first_free F.files) (first_free F.pipes) (file_free F kept all (omega (arith, h))) (second_there F kept all h)
