-- What holds of the files at all times is kept by each change.
use Rattle.std.specs.Prelude.{◌≡◌, refl, ℕ, ◌+◌, ◌-◌, ◌<◌, ◌≤◌, ◌⊎◌, ◌==◌, Bool, true, false, ◌||◌, List, [], length, Option, Some, None, is_some, slice_set, if◌then◌else◌}
use Rattle.std.specs.List.{list_any}
use Rattle.std.specs.Option.{option_map}
use Rattle.std.proofs.Common.{arith, ap, sym, ◌∙◌, subst, inl, inr}
use Rattle.std.proofs.lemmas.Bool.{eqb-true}
use Rattle.std.proofs.lemmas.List.{length-set}
use Rattle.lx_machine.specs.Files.{after_end_of, closed, closed_as, closed_if_unnamed, closed_if_unnamed_as, ended_if_unnamed, given_back, given_back_as, has_reader, has_writer, held_once_less, is_unnamed, numbered, with_file, without_file, without_pipe}
use Rattle.lx_machine.specs.Interests.{armed_on, without_interests}
use Rattle.lx_machine.specs.Lists.{at_place, bind, first_free, with_place, without_place}
use Rattle.open_files.specs.Making.{numbers_in, pipe_numbers, with_counter_at, with_pipe_at}
use Rattle.open_files.specs.Named.{AllCounted, AreKept, IsKept, counter_in, counter_of, holds_in, holds_of, tells}
use Rattle.lx_machine.specs.Descriptors.{second_free}
use Rattle.lx_machine.specs.declared.files.Counter.{Counter}
use Rattle.lx_machine.specs.declared.files.Descriptor.{Descriptor}
use Rattle.lx_machine.specs.declared.files.OpenFile.{OpenFile}
use Rattle.lx_machine.specs.declared.files.FileKind.{FileKind}
use Rattle.lx_machine.specs.declared.files.FileKind.TheVariants as kind
use Rattle.open_files.specs.declared.making.FileNumbers.{FileNumbers}
use Rattle.open_files.specs.declared.making.PipeNumbers.{PipeNumbers}
use Rattle.lx_machine.specs.declared.files.Files.{Files}
use Rattle.open_files.proofs.Edits.{any_edit, any_new, first_there, second_there, set_or_other, still_some, sum_edit}
use Rattle.open_files.proofs.Pigeons.{gone_here, no_yes, others_here}

-- ---- descriptors

pub descriptor_set : (F : Files) (fd : ℕ) (d : Option Descriptor) → IsKept F → IsKept (record F { descriptors = slice_set F.descriptors fd d })
descriptor_set F fd d k = record {
  descriptors = length-set F.descriptors fd d ∙ k.descriptors;
  files = k.files;
  counters = k.counters;
  holds = k.holds;
  counted = k.counted;
}

-- ---- open files

-- an open file is set that holds at most so many more, and is the counter that stood there
pub file_set : (F : Files) (i more : ℕ) (y : Option OpenFile) → IsKept F → holds_of y ≤ holds_of (at_place F.files i) + more → holds_in F + more ≤ 128
    → ((n : ℕ) → tells (counter_of (at_place F.files i)) n ≡ true → tells (counter_of y) n ≡ true) → IsKept (record F { files = slice_set F.files i y })
file_set F i more y k h few same = record {
  descriptors = k.descriptors;
  files = length-set F.files i y ∙ k.files;
  counters = k.counters;
  holds = let a = sum_edit holds_of more F.files i y h in omega (arith, a, few);
  counted = λ n c. any_edit (λ f. tells (counter_of f) n) F.files i y (same n) (k.counted n c);
}

-- a new open file at a free place
pub file_new : (F : Files) (i : ℕ) (f : FileKind) → IsKept F → at_place F.files i ≡ None → IsKept (with_file F i f false)
file_new F i f k e =
    let few = k.holds in
    file_set F i 0 _ k (omega arith) (omega (arith, few)) (λ n c. absurd (no_yes (ap (λ o. tells (counter_of o) n) (sym e) ∙ c)))

-- the same open file, with a hold more or less, or nonblocking or not
pub file_changed : (F : Files) (i more : ℕ) (f g : OpenFile) → IsKept F → at_place F.files i ≡ Some f → g.kind ≡ f.kind → g.holds ≤ f.holds + more → holds_in F + more ≤ 128
    → IsKept (record F { files = with_place F.files i g })
file_changed F i more f g k e same h few =
    file_set F i more (Some g) k
    (subst (λ o. g.holds ≤ holds_of o + more) (sym e) h) few
    (λ n c. ap (λ o. tells (counter_in o) n) same ∙ ap (λ o. tells (counter_of o) n) (sym e) ∙ c)

-- ---- the end of an open file

abbrev left : Option ℕ → List (Option Counter) → List (Option Counter)
left None cs = cs
left (Some n) cs = without_place cs n

left_counted : (cs : List (Option Counter)) (fs : List (Option OpenFile)) (i : ℕ) (o : Option ℕ) → counter_of (at_place fs i) ≡ o → AllCounted cs fs
    → AllCounted (left o cs) (without_place fs i)
left_counted cs fs i None e all n c =
    any_edit (λ f. tells (counter_of f) n) fs i None (λ t. absurd (no_yes (ap (λ o. tells o n) (sym e) ∙ t))) (all n c)
left_counted cs fs i (Some m) e all n c =
    any_edit (λ f. tells (counter_of f) n) fs i None (λ t.
    let same : m ≡ n = eqb-true m n (ap (λ o. tells o n) (sym e) ∙ t) in
    absurd (no_yes (sym (gone_here cs m) ∙ ap (λ j. is_some (at_place (without_place cs m) j)) same ∙ c)))
    (all n (others_here cs m n c))

left_length : (o : Option ℕ) (cs : List (Option Counter)) → length (left o cs) ≡ length cs
left_length None cs = refl
left_length (Some n) cs = length-set cs n None

file_gone : (F : Files) (i : ℕ) (f : OpenFile) → at_place F.files i ≡ Some f → IsKept F → AreKept F.descriptors (without_place F.files i) (left (counter_in f.kind) F.counters)
file_gone F i f e k = record {
  descriptors = k.descriptors;
  files = length-set F.files i None ∙ k.files;
  counters = left_length (counter_in f.kind) F.counters ∙ k.counters;
  holds = let a = sum_edit holds_of 0 F.files i None (omega arith) in let b = k.holds in omega (arith, a, b);
  counted = left_counted F.counters F.files i (counter_in f.kind) (ap counter_of e) k.counted;
}

-- whichever it is
by_test : (P : Files → Type 0) (b : Bool) (F G : Files) → P F → P G → P (if b then F else G)
by_test P true F G f g = f
by_test P false F G f g = g

pipe_gone : (F : Files) (p : ℕ) → IsKept F → IsKept (without_pipe F p)
pipe_gone F p k = by_test IsKept (has_reader F p || has_writer F p) F (record F { pipes = without_place F.pipes p }) k k

kind_gone : (F : Files) (f : FileKind) → AreKept F.descriptors F.files (left (counter_in f) F.counters) → IsKept (after_end_of f F)
kind_gone F (kind.PipeRead p) k = pipe_gone (armed_on (kind.PipeWrite p) F) p k
kind_gone F (kind.PipeWrite p) k = pipe_gone (armed_on (kind.PipeRead p) F) p k
kind_gone F (kind.Counter n) k = k
kind_gone F (kind.Epoll n) k = k
kind_gone F kind.Input k = k
kind_gone F (kind.Console which) k = k

ended : (F : Files) (i : ℕ) (f : OpenFile) → at_place F.files i ≡ Some f → IsKept F → IsKept (ended_if_unnamed F (numbered i f))
ended F i f e k =
    by_test IsKept (is_unnamed F (numbered i f)) (without_file F i f.kind) F
    (kind_gone (without_interests i (record F { files = without_place F.files i })) f.kind (file_gone F i f e k)) k

settled_as : (F : Files) (i : ℕ) (o : Option OpenFile) → at_place F.files i ≡ o → IsKept F → IsKept (closed_if_unnamed_as F (option_map (numbered i) o))
settled_as F i None e k = k
settled_as F i (Some f) e k = ended F i f e k

settled : (F : Files) (i : ℕ) → IsKept F → IsKept (closed_if_unnamed F i)
settled F i k = settled_as F i (at_place F.files i) refl k

close_at : (F : Files) (fd : ℕ) (o : Option Descriptor) → IsKept F → IsKept (closed_as F fd o)
close_at F fd None k = k
close_at F fd (Some d) k = settled (record F { descriptors = without_place F.descriptors fd }) d.file (descriptor_set F fd None k)

pub closed_kept : (F : Files) (fd : ℕ) → IsKept F → IsKept (closed F fd)
closed_kept F fd k = close_at F fd (at_place F.descriptors fd) k

give_at : (F : Files) (i : ℕ) (o : Option OpenFile) → at_place F.files i ≡ o → IsKept F → IsKept (given_back_as F i o)
give_at F i None e k = k
give_at F i (Some f) e k =
    let few = k.holds in
    settled (record F { files = with_place F.files i (held_once_less f) }) i (file_changed F i 0 f (held_once_less f) k e refl (omega arith) (omega (arith, few)))

pub given_kept : (F : Files) (i : ℕ) → IsKept F → IsKept (given_back F i)
given_kept F i k = give_at F i (at_place F.files i) refl k

-- ---- new ones

none_from_some : {X : Type 0} (x : X) → ◌≡◌ {A = Option X} None (Some x) → ⊥
none_from_some x e = no_yes (ap is_some e)

first_is_free : {X : Type 0} (xs : List (Option X)) (m : ℕ) → first_free xs ≡ Some m → (m < length xs) × (at_place xs m ≡ None)
first_is_free xs m e =
    let h = first_there 0 m xs e in
    let same : m - 0 ≡ m = omega arith in
    (subst (λ i. i < length xs) same h.1.0, subst (λ i. at_place xs i ≡ None) same h.1.1)

-- what the numbers are of
file_of_numbers : {X : Type 0} (F : Files) (places : List (Option X)) (o p : Option ℕ) (at : FileNumbers)
    → bind o (λ file. bind p (λ n. Some (record { number = n; file = file }))) ≡ Some at → o ≡ Some at.file
file_of_numbers F places None p at e = absurd (none_from_some at e)
file_of_numbers F places (Some file) None at e = absurd (none_from_some at e)
file_of_numbers F places (Some file) (Some n) at e = ap (λ o. option_map (λ (a : FileNumbers). a.file) o) e

pub numbers_file : {X : Type 0} (F : Files) (places : List (Option X)) (at : FileNumbers) → numbers_in F places ≡ Some at → first_free F.files ≡ Some at.file
numbers_file F places at e = file_of_numbers F places (first_free F.files) (first_free places) at e

-- a queue or another open file that is no counter
pub queue_kept : {X : Type 0} (F : Files) (places : List (Option X)) (at : FileNumbers) (f : FileKind) → numbers_in F places ≡ Some at → IsKept F → IsKept (with_file F at.file f false)
queue_kept F places at f e k = file_new F at.file f k (first_is_free F.files at.file (numbers_file F places at e)).1

eq_same : (n : ℕ) → (n == n) ≡ true
eq_same n = grind (arith)

-- a counter is set, where one lives or its open file is new
counter_of_numbers : (fs : List (Option OpenFile)) (i n m : ℕ) (f : OpenFile) → i < length fs → at_place fs i ≡ None → f.kind ≡ kind.Counter n → (n ≡ m) ⊎ (list_any (λ f. tells (counter_of f) m) fs ≡ true)
    → list_any (λ f. tells (counter_of f) m) (with_place fs i f) ≡ true
counter_of_numbers fs i n m f fits e is (inl same) = any_new (λ f. tells (counter_of f) m) fs i (Some f) fits (ap (λ k. tells (counter_in k) m) is ∙ ap (λ j. j == m) same ∙ eq_same m)
counter_of_numbers fs i n m f fits e is (inr h) = any_edit (λ f. tells (counter_of f) m) fs i (Some f) (λ t. absurd (no_yes (ap (λ o. tells (counter_of o) m) (sym e) ∙ t))) h

told_where : (cs : List (Option Counter)) (fs : List (Option OpenFile)) (n m : ℕ) → AllCounted cs fs → (n ≡ m) ⊎ (is_some (at_place cs m) ≡ true) → (n ≡ m) ⊎ (list_any (λ f. tells (counter_of f) m) fs ≡ true)
told_where cs fs n m all (inl e) = inl e
told_where cs fs n m all (inr h) = inr (all m h)

pub counter_kept : (F : Files) (at : FileNumbers) (value : ℕ) (semaphore : Bool) → numbers_in F F.counters ≡ Some at → IsKept F → IsKept (with_counter_at F at value semaphore)
counter_kept F at value semaphore e k =
    let there = first_is_free F.files at.file (numbers_file F F.counters at e) in
    let few = k.holds in
    record {
      descriptors = k.descriptors;
      files = length-set F.files at.file _ ∙ k.files;
      counters = length-set F.counters at.number _ ∙ k.counters;
      holds = let a = sum_edit holds_of 0 F.files at.file (Some (record { kind = kind.Counter at.number; nonblocking = false; holds = 0 })) (omega arith) in omega (arith, a, few);
      counted = λ m c. counter_of_numbers F.files at.file at.number m _ there.0 there.1 refl (told_where F.counters F.files at.number m k.counted (set_or_other F.counters at.number m _ c));
    }

-- a counter that lives has another value
pub counter_set : (F : Files) (n : ℕ) (c : Counter) → is_some (at_place F.counters n) ≡ true → IsKept F → IsKept (record F { counters = with_place F.counters n c })
counter_set F n c h k = record {
  descriptors = k.descriptors;
  files = k.files;
  counters = length-set F.counters n (Some c) ∙ k.counters;
  holds = k.holds;
  counted = λ m t. k.counted m (still_some F.counters n m (Some c) h t);
}

abbrev number_or_zero : Option ℕ → ℕ
number_or_zero None = 0
number_or_zero (Some n) = n

write_of_numbers : (F : Files) (r n : ℕ) (o : Option ℕ) → second_free F.files r ≡ o → (at : PipeNumbers) → bind o (λ w. Some (record { pipe = n; read_file = r; write_file = w })) ≡ Some at
    → (Some r ≡ Some at.read_file) × (second_free F.files at.read_file ≡ Some at.write_file)
write_of_numbers F r n None is at e = absurd (none_from_some at e)
write_of_numbers F r n (Some w) is at e =
    let reads : r ≡ at.read_file = ap number_or_zero (ap (λ o. option_map (λ (a : PipeNumbers). a.read_file) o) e) in
    (ap Some reads, ap (second_free F.files) (sym reads) ∙ is ∙ ap (λ o. option_map (λ (a : PipeNumbers). a.write_file) o) e)

-- both ends of a pipe
ends_of_numbers : (F : Files) (o p : Option ℕ) (at : PipeNumbers) → bind o (λ r. bind p (λ n. bind (second_free F.files r) (λ w. Some (record { pipe = n; read_file = r; write_file = w })))) ≡ Some at
    → (o ≡ Some at.read_file) × (second_free F.files at.read_file ≡ Some at.write_file)
ends_of_numbers F None p at e = absurd (none_from_some at e)
ends_of_numbers F (Some r) None at e = absurd (none_from_some at e)
ends_of_numbers F (Some r) (Some n) at e = write_of_numbers F r n (second_free F.files r) refl at e

pub pipe_kept : (F : Files) (at : PipeNumbers) → pipe_numbers F ≡ Some at → IsKept F → IsKept (with_pipe_at F at)
pipe_kept F at e k =
    let ends = ends_of_numbers F (first_free F.files) (first_free F.pipes) at e in
    let G = record F { pipes = with_place F.pipes at.pipe [] } in
    file_new (with_file G at.read_file (kind.PipeRead at.pipe) false) at.write_file (kind.PipeWrite at.pipe)
    (file_new G at.read_file (kind.PipeRead at.pipe) k (first_is_free F.files at.read_file ends.0).1)
    (second_there F.files at.read_file at.write_file _ ends.1)
