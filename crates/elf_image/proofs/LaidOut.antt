-- An accepted image is laid out in memory as `IsLaidOut` says.
use Rattle.std.proofs.Common.{◌≡◌, ℕ, zero, suc, ◌%◌, ◌<◌, ◌≤◌, List, [], ◌∷◌, length, get_or, take, map, Bool, true, false, not, ◌&&◌, ◌||◌, ◌==◌, Option, Some, None, refl, sym, ◌∙◌, subst, arith, inl, inr}
use Rattle.std.specs.List.{All, Any, AllPairs, filter, list_any}
use Rattle.std.proofs.lemmas.Bool.{and_parts, or_parts, or_cases, cases_Bool, not-false, eqb-true}
use Rattle.std.proofs.lemmas.Bool.Decides.{nat_tests}
use Rattle.std.proofs.lemmas.List.{get_or-take, length-take}
use Rattle.std.proofs.lemmas.List.Elements.{All-cons}
use Rattle.std.proofs.lemmas.List.Kept.{AllPairs-cons}
use Rattle.elf_image.specs.declared.fault.ElfFault.{ElfFault}
use Rattle.elf_image.specs.declared.fault.ElfKind.{ElfKind}
use Rattle.elf_image.specs.declared.fault.ElfKind.TheVariants.{WriteAndExecute, SegmentOutside, SegmentsOverlap, EntryOutside}
use Rattle.elf_image.specs.declared.headers.ProgramHeader.{ProgramHeader}
use Rattle.elf_image.specs.declared.parts.Image.{Image}
use Rattle.elf_image.specs.Faults.{fault_if, first_fault}
use Rattle.elf_image.specs.declared.span.Span.{Span}
use Rattle.elf_image.specs.Spans.{shares_page, holds, AreApart}
use Rattle.elf_image.specs.Headers.{file_header, headers_of}
use Rattle.elf_image.specs.Rules.{is_segment, is_executable, is_writable, is_outside, memory_range, overlaps, interpreter, write_and_execute, segment_outside, segments_overlap, file_header_fault, header_fault, faults_of, entry_outside, holds_instruction, image_fault, IsInMemory}
use Rattle.elf_image.specs.Images.{segment_of, segments_of, image_of, IsImage}
use Rattle.elf_image.specs.Layout.{addresses_of, IsPlaced, HoldsInstruction, IsLaidOut}
use Rattle.elf_image.proofs.Pages.{AreApart-from_shares_page}
use Rattle.elf_image.proofs.FaultOrder.{faults_of-at}

-- ---- rules that do not fail

-- a test that finds no fault is false
holds_if : (fails : Bool) (kind : ElfKind) (place : ℕ) → fault_if fails kind place ≡ None → fails ≡ false
holds_if true kind place none = cc
holds_if false kind place none = refl

-- where no rule of a list fails, the first does not, nor do those behind it
none_first : (found : Option ElfFault) (rest : List (Option ElfFault)) → first_fault (found ∷ rest) ≡ None → (found ≡ None) × (first_fault rest ≡ None)
none_first None rest none = (refl, none)
none_first (Some fault) rest none = cc

none_at : (rules : List (Option ElfFault)) (k : ℕ) → first_fault rules ≡ None → get_or rules k None ≡ None
none_at [] k none = refl
none_at (None ∷ rest) zero none = refl
none_at (None ∷ rest) (suc k) none = none_at rest k none
none_at (Some fault ∷ rest) k none = cc

-- what the rules of a program header say of a segment
pub record KeepsRules (file_length : ℕ) (earlier : List ProgramHeader) (header : ProgramHeader) : Type 0 where
  pub rights : (is_writable header && is_executable header) ≡ false
  pub inside : is_outside file_length header ≡ false
  pub apart : list_any (overlaps header) earlier ≡ false

right_false : (a b : Bool) → (a && b) ≡ false → a ≡ true → b ≡ false
right_false true b both left = both
right_false false b both left = cc

segment_keeps : (file_length : ℕ) (earlier : List ProgramHeader) (index : ℕ) (header : ProgramHeader)
    → header_fault file_length earlier index header ≡ None → is_segment header ≡ true → KeepsRules file_length earlier header
unfolding header_fault
segment_keeps file_length earlier index header none segment =
    let outside = segment_outside file_length index header in
    let overlap = segments_overlap earlier index header in
    let at_rights = none_first (interpreter index header) (write_and_execute index header ∷ outside ∷ overlap ∷ []) none in
    let at_outside = none_first (write_and_execute index header) (outside ∷ overlap ∷ []) at_rights.1 in
    let at_overlap = none_first outside (overlap ∷ []) at_outside.1 in
    let last = none_first overlap [] at_overlap.1 in
    let test = λ (found : Bool) (kind : ElfKind) (is : fault_if (is_segment header && found) kind index ≡ None).
    right_false (is_segment header) found (holds_if (is_segment header && found) kind index is) segment in
    record {
      rights = test (is_writable header && is_executable header) WriteAndExecute at_outside.0;
      inside = test (is_outside file_length header) SegmentOutside at_overlap.0;
      apart = test (list_any (overlaps header) earlier) SegmentsOverlap last.0;
    }

-- each segment of a file without faults keeps them
keeps_at : (file_length : ℕ) (headers : List ProgramHeader) → first_fault (faults_of file_length headers) ≡ None
    → (k : ℕ) (d : ProgramHeader) → k < length headers → is_segment (get_or headers k d) ≡ true
    → KeepsRules file_length (take k headers) (get_or headers k d)
keeps_at file_length headers none k d within segment =
    segment_keeps file_length (take k headers) k (get_or headers k d) (sym (faults_of-at file_length headers k d within) ∙ none_at (faults_of file_length headers) k none) segment

-- ---- what they mean in memory

-- where a header that is not outside lies in memory
inside_from : (file_length : ℕ) (header : ProgramHeader) → is_outside file_length header ≡ false → IsInMemory header
inside_from file_length header inside = record { room = grind (arith, nat_tests); low = grind (arith, nat_tests); high = grind (arith, nat_tests) }

-- a segment has bytes in memory
some_from : (header : ProgramHeader) → header.file_size ≤ header.memory_size → is_segment header ≡ true → 0 < header.memory_size
some_from header room segment = grind (arith, nat_tests)

both_true : (a b : Bool) → (a && b) ≡ false → a ≡ true → b ≡ true → ⊥
both_true a b none first second = grind arith

placed : (file : List ℕ) (earlier : List ProgramHeader) (header : ProgramHeader)
    → is_segment header ≡ true → KeepsRules (length file) earlier header → IsPlaced (segment_of file header)
placed file earlier header segment keeps =
    let inside = inside_from (length file) header keeps.inside in
    record {
      some = some_from header inside.room segment;
      room = simp length-take (omega arith);
      low = inside.low;
      high = inside.high;
      rights = both_true (is_writable header) (is_executable header) keeps.rights;
    }

-- two segments without a page in common are apart
apart : (file : List ℕ) (earlier later : ProgramHeader)
    → is_segment earlier ≡ true → overlaps later earlier ≡ false → AreApart (addresses_of (segment_of file earlier)) (addresses_of (segment_of file later))
apart file earlier later segment none =
    AreApart-from_shares_page (memory_range earlier) (memory_range later)
    (right_false (is_segment earlier) (shares_page (memory_range earlier) (memory_range later)) none segment)

entry_in : (file : List ℕ) (entry : ℕ) (header : ProgramHeader) → holds_instruction entry header ≡ true → HoldsInstruction entry (segment_of file header)
entry_in file entry header held =
    let instruction : Span = record { start = entry; size = 4 } in
    let rights = and_parts (is_segment header) (is_executable header && holds (memory_range header) instruction) held in
    let range = and_parts (is_executable header) (holds (memory_range header) instruction) rights.1 in
    record {
      execute = range.0;
      first = record { from = grind (arith, nat_tests, range.1); below = grind (arith, nat_tests, range.1) };
      last = record { from = grind (arith, nat_tests, range.1); below = grind (arith, nat_tests, range.1) };
    }

-- ---- the segments of a file, from its headers

list_any_at : {X : Type 0} (test : X → Bool) (xs : List X) (k : ℕ) (d : X) → list_any test xs ≡ false → k < length xs → test (get_or xs k d) ≡ false
list_any_at test [] k d none within = absurd (omega arith)
list_any_at test (x ∷ xs) zero d none within = (or_parts (test x) (list_any test xs) none).0
list_any_at test (x ∷ xs) (suc k) d none within = list_any_at test xs k d (or_parts (test x) (list_any test xs) none).1 (omega arith)

Any_behind : {X : Type 0} (P : X → Type 0) (x : X) (xs : List X) → Any P xs → Any P (x ∷ xs)
Any_behind P x xs (k, y, within, here, holds) = (suc k, y, omega arith, here, holds)

module _ {X Y : Type 0} (test : X → Bool) (made : X → Y) where
  -- what holds of all that pass, holds of what is made of them
  All-kept : (P : Y → Type 0) (xs : List X) → All (λ x. test x ≡ true → P (made x)) xs → All P (map made (filter test xs))
  All-kept P [] each = λ k d within. absurd (omega arith)
  All-kept P (x ∷ xs) each =
      let rest = All-kept P xs (λ k d within. each (suc k) d (omega arith)) in
      elim (cases_Bool (test x)) [
        | inl passes ↦ rw passes (All-cons P (made x) (map made (filter test xs)) (each 0 x (omega arith) passes) rest)
        | inr fails ↦ rw fails rest
      ]

  AllPairs-kept : (R : Y → Y → Type 0) (xs : List X) → AllPairs (λ x y. test x ≡ true → test y ≡ true → R (made x) (made y)) xs
      → AllPairs R (map made (filter test xs))
  AllPairs-kept R [] pairs = λ i j d before within. absurd (omega arith)
  AllPairs-kept R (x ∷ xs) pairs =
      let rest = AllPairs-kept R xs (λ i j d before within. pairs (suc i) (suc j) d (omega arith) (omega arith)) in
      elim (cases_Bool (test x)) [
        | inl passes ↦ rw passes (AllPairs-cons R (made x) (map made (filter test xs))
            (All-kept (R (made x)) xs (λ k d within. pairs 0 (suc k) d (omega arith) (omega arith) passes)) rest)
        | inr fails ↦ rw fails rest
      ]

  Any-kept : (P : Y → Type 0) (xs : List X) (found : X → Bool) → ((x : X) → found x ≡ true → (test x ≡ true) × P (made x))
      → list_any found xs ≡ true → Any P (map made (filter test xs))
  Any-kept P [] found gives some = cc
  Any-kept P (x ∷ xs) found gives some = elim (or_cases (found x) (list_any found xs) some) [
    | inl here ↦ let at_x = gives x here in rw at_x.0 (0, made x, omega arith, refl, at_x.1)
    | inr later ↦
        let rest = Any-kept P xs found gives later in
        elim (cases_Bool (test x)) [
          | inl passes ↦ rw passes (Any_behind P (made x) (map made (filter test xs)) rest)
          | inr fails ↦ rw fails rest
        ]
  ]

-- ---- the image

-- no program header of an accepted file has a fault, and its entry has none
no_fault : (file : List ℕ) → image_fault file ≡ None
    → (first_fault (faults_of (length file) (headers_of file)) ≡ None) × (entry_outside (file_header file).entry (headers_of file) ≡ None)
unfolding image_fault
no_fault file none =
    let headers = first_fault (faults_of (length file) (headers_of file)) in
    let entry = entry_outside (file_header file).entry (headers_of file) in
    let at_headers = none_first (file_header_fault file) (headers ∷ entry ∷ []) none in
    let at_entry = none_first headers (entry ∷ []) at_headers.1 in
    (at_entry.0, (none_first entry [] at_entry.1).0)

entry_rule : (entry : ℕ) (headers : List ProgramHeader) → entry_outside entry headers ≡ None
    → (entry % 4 ≡ 0) × (list_any (holds_instruction entry) headers ≡ true)
unfolding entry_outside
entry_rule entry headers none =
    let unaligned = not (entry % 4 == 0) in
    let outside = not (list_any (holds_instruction entry) headers) in
    let parts = or_parts unaligned outside (holds_if (unaligned || outside) EntryOutside 24 none) in
    (eqb-true (entry % 4) 0 (not-false (entry % 4 == 0) parts.0), not-false (list_any (holds_instruction entry) headers) parts.1)

image_laid_out : (file : List ℕ) → image_fault file ≡ None → IsLaidOut (image_of file)
unfolding image_of segments_of
image_laid_out file none =
    let clear = no_fault file none in
    let entry = entry_rule (file_header file).entry (headers_of file) clear.1 in
    let keeps = keeps_at (length file) (headers_of file) clear.0 in
    record {
      placed = All-kept is_segment (segment_of file) IsPlaced (headers_of file)
          (λ k d within segment. placed file (take k (headers_of file)) (get_or (headers_of file) k d) segment (keeps k d within segment));
      apart = AllPairs-kept is_segment (segment_of file) (λ one other. AreApart (addresses_of one) (addresses_of other)) (headers_of file)
          (λ i j d before within one other.
          let overlap = list_any_at (overlaps (get_or (headers_of file) j d)) (take j (headers_of file)) i d (keeps j d within other).apart
          (omega (arith, length-take j (headers_of file))) in
          apart file (get_or (headers_of file) i d) (get_or (headers_of file) j d) one
          (rw (get_or-take j (headers_of file) i d before) at overlap));
      aligned = entry.0;
      entry = Any-kept is_segment (segment_of file) (HoldsInstruction (file_header file).entry) (headers_of file)
          (holds_instruction (file_header file).entry)
          (λ header held. ((and_parts (is_segment header) (is_executable header && holds (memory_range header) (record { start = (file_header file).entry; size = 4 })) held).0, entry_in file (file_header file).entry header held))
          entry.1;
    }

-- an accepted image is laid out
pub IsLaidOut-from_IsImage : (file : List ℕ) (image : Image) → IsImage file image → IsLaidOut image
IsLaidOut-from_IsImage file image accepted = subst IsLaidOut (sym accepted.read) (image_laid_out file accepted.accepted)
