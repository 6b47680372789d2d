-- The pages of Start are first pages, and the first areas stand for them.
use Rattle.std.proofs.Common.{◌≡◌, ℕ, zero, suc, ◌+◌, ◌-◌, ◌*◌, ◌/◌, ◌%◌, ◌^◌, ◌≤◌, Bool, true, false, List, [], ◌∷◌, length, replicate, Option, Some, None, option_map, if◌then◌else◌, refl, sym, ap, ◌∙◌, arith, inl, inr}
use Rattle.std.specs.List.{AllByRecursion}
use Rattle.std.specs.FinMap as finite
use Rattle.std.specs.Ordering.{nat_cmp}
use Rattle.std.proofs.lemmas.Bool.{cases_eq}
use Rattle.std.proofs.lemmas.List.{length-set}
use Rattle.std.proofs.lemmas.List.Elements.{recursion_from_All}
use Rattle.page_ranges.specs.declared.rights.Rights.{Rights}
use Rattle.page_ranges.specs.Ranges.{within}
use Rattle.vm_areas.specs.declared.runs.Area.{Area}
use Rattle.vm_areas.specs.PageMap.{IsMaximal}
use Rattle.vm_areas.specs.Painted.{painted, IsPaintedByAChange}
use Rattle.page_store.specs.Pages.{Page, Pages, AreWhole, blank}
use Rattle.lx_memory.specs.Bytes.{with_byte, with_byte_in, with_bytes}
use Rattle.lx_memory.specs.Ranges.{with_page, mapped, anew}
use Rattle.lx_memory.proofs.OnEach.{each-on_each, each-in_space_below, get-with_page_same, get-with_page_other}
use Rattle.lx_memory.proofs.Changes.{changed-with_page}
use Rattle.lx_memory.proofs.Stored.{with_bytes-in_space}
use Rattle.lx_memory.proofs.Codes.{guarded_bytes}
use Rattle.elf_image.specs.Layout.{IsPlaced, IsLaidOut}
use Rattle.elf_image.specs.declared.parts.Image.{Image}
use Rattle.elf_image.specs.declared.parts.Segment.{Segment}
use Rattle.lx_machine.specs.Stack.{stack_end}
use Rattle.lx_machine.specs.Start as linux
use Rattle.lx_machine.specs.Start.{first_pages, first_space, first_page, end_page, stack_rights, code_rights, start}
use Rattle.machine_parts.specs.Parts.{Parts}
use Rattle.lx_machine.specs.declared.threads.LxThread.{LxThread}
use Rattle.shards_stand.specs.Clause.{AreasStand, MemorySound}
use Rattle.shards_stand.specs.SlotMarks.{marks_of}
use Rattle.shards_stand.specs.SpaceRows.{SpaceStands}
use Rattle.shards_stand.specs.Begin.{HasFirst, AreFirst, IsCodeOf, with_segment, with_segments, with_stack, first_areas, SegmentsFit, FirstFit, first_parts}
use Rattle.shards_stand.proofs.Store.{page_or}
use Rattle.shards_stand.proofs.SpaceCalls.{areas-after, blank-length}
use Rattle.shards_stand.proofs.Written.{areas-written}
use Rattle.shards_stand.proofs.FewAreas.{painted-few}
use Rattle.shards_stand.proofs.Begins.{begins}

-- ---- first pages stay so

byte-whole : (o : Option Page) (place byte : ℕ) (page : Page) → ((x : Page) → o ≡ Some x → length x.bytes ≡ 4096) → option_map (with_byte_in place byte) o ≡ Some page → length page.bytes ≡ 4096
byte-whole None place byte page whole is = absurd (cc)
byte-whole (Some x) place byte page whole is =
    let e : with_byte_in place byte x ≡ page = ap (page_or page) is in
    ap (λ (p : Page). length p.bytes) (sym e) ∙ length-set x.bytes place byte ∙ whole x refl

one-whole : (pages : Pages) (address byte : ℕ) → AreWhole pages → AreWhole (with_byte pages address byte)
one-whole pages address byte whole q page is =
    let n = address / 4096 in
    let new = option_map (with_byte_in (address % 4096) byte) (finite.get pages n) in
    let there : finite.get (with_page pages n new) q ≡ Some page = sym (ap (λ (ps : Pages). finite.get ps q) (changed-with_page pages n (with_byte_in (address % 4096) byte))) ∙ is in
    elim (cases_eq q n) [
      | inl same ↦ byte-whole (finite.get pages n) (address % 4096) byte page (whole n) (sym (get-with_page_same pages n new q same) ∙ there)
      | inr other ↦ whole q page (sym (get-with_page_other pages n new q other) ∙ there)
    ]

bytes-whole : (bytes : List ℕ) (pages : Pages) (at : ℕ) → AreWhole pages → AreWhole (with_bytes pages at bytes)
unfolding with_bytes
bytes-whole [] pages at whole = whole
bytes-whole (byte ∷ bytes) pages at whole = bytes-whole bytes (with_byte pages at byte) (at + 1) (one-whole pages at byte whole)

first-written : (pages : Pages) (at : ℕ) (bytes : List ℕ) → AreFirst pages → AreFirst (with_bytes pages at bytes)
first-written pages at bytes are = record {
  whole = bytes-whole bytes pages at are.whole;
  in_space = with_bytes-in_space pages at bytes are.in_space;
  guarded = guarded_bytes pages at bytes are.guarded;
}

first-mapped : (pages : Pages) (first count : ℕ) (rights : Rights) → first + count ≤ 2 ^ 52 → (rights.write ≡ true → rights.execute ≡ false) → AreFirst pages → AreFirst (mapped pages first count rights)
first-mapped pages first count rights space apart are = record {
  whole = λ q page is. whole q page (within first count q) (sym (each-on_each (anew rights) pages first count q) ∙ is);
  in_space = each-in_space_below (anew rights) pages first count (mapped pages first count rights) (each-on_each (anew rights) pages first count) space are.in_space;
  guarded = λ q r is write. guarded q r (within first count q) (sym (ap (option_map (λ (p : Page). p.rights)) (each-on_each (anew rights) pages first count q)) ∙ is) write;
}
  where
    whole : (q : ℕ) (page : Page) (b : Bool) → (if b then anew rights (finite.get pages q) else finite.get pages q) ≡ Some page → length page.bytes ≡ 4096
    whole q page true is = let e : record { rights = rights; bytes = blank } ≡ page = ap (page_or page) is in ap (λ (p : Page). length p.bytes) (sym e) ∙ blank-length
    whole q page false is = are.whole q page is

    or-rights : Rights → Option Rights → Rights
    or-rights d None = d
    or-rights d (Some r) = r

    guarded : (q : ℕ) (r : Rights) (b : Bool) → option_map (λ (p : Page). p.rights) (if b then anew rights (finite.get pages q) else finite.get pages q) ≡ Some r → r.write ≡ true → r.execute ≡ false
    guarded q r true is write = let e : rights ≡ r = ap (or-rights r) is in ap (λ (x : Rights). x.execute) (sym e) ∙ apart (ap (λ (x : Rights). x.write) e ∙ write)
    guarded q r false is write = are.guarded q r is write

get-nothing : (q : ℕ) → finite.get {K = ℕ} {X = Page} {R = nat_cmp} finite.empty q ≡ None
get-nothing q = finite.get-empty nat_cmp q

first-none : AreFirst finite.empty
first-none = record {
  whole = λ q page is. (let none = get-nothing q in absurd (cc));
  in_space = λ q past. get-nothing q;
  guarded = λ q r is write. (let none = ap (option_map (λ (p : Page). p.rights)) (get-nothing q) in absurd (cc));
}

-- ---- the segments

not-both : (s : Segment) → IsPlaced s → s.write ≡ true → s.execute ≡ false
not-both s placed write = by s.execute refl
  where
    by : (b : Bool) → s.execute ≡ b → b ≡ false
    by false is = refl
    by true is = absurd (placed.rights write is)

segment-space : (s : Segment) → IsPlaced s → first_page s + (end_page s - first_page s) ≤ 2 ^ 52
segment-space s placed = omega (arith, placed.high, placed.some)

segments-first : (ss : List Segment) (pages : Pages) → AllByRecursion IsPlaced ss → AreFirst pages → AreFirst (linux.with_segments pages ss)
segments-first [] pages placed are = are
segments-first (s ∷ ss) pages placed are =
    segments-first ss (linux.with_segment pages s) placed.1
    (first-written (mapped pages (first_page s) (end_page s - first_page s) (linux.rights_of s)) s.at s.bytes
    (first-mapped pages (first_page s) (end_page s - first_page s) (linux.rights_of s) (segment-space s placed.0) (not-both s placed.0) are))

-- the pages of Start
pub first-pages : (image : Image) (name : List ℕ) (arguments : List (List ℕ)) (seed : ℕ) → IsLaidOut image → AreFirst (first_pages image name arguments seed)
first-pages image name arguments seed laid =
    let segments = segments-first image.segments finite.empty (recursion_from_All IsPlaced image.segments laid.placed) first-none in
    first-written _ _ _ (first-mapped _ (stack_end / 4096) 1 code_rights (omega arith) (λ is. absurd (cc))
    (first-written _ _ _ (first-written _ _ _ (first-mapped _ (stack_end / 4096 - 64) 64 stack_rights (omega arith) (λ is. refl) segments))))

-- ---- the first areas

nothing-mapped : AreasStand [] finite.empty
nothing-mapped = record {
  areas_are = record { maximal = tt; few = omega arith };
  rights_are = λ p. sym (ap (option_map (λ (x : Page). x.rights)) (get-nothing p));
  below = λ p past. refl;
}

module _ (law : IsPaintedByAChange) where
  -- a range is mapped, and bytes are written into it
  area-mapped : (areas : List Area) (pages : Pages) (first count : ℕ) (rights : Rights) → first + count ≤ 2 ^ 52 → length (painted areas first count (Some rights)) ≤ 1024 → AreasStand areas pages → AreasStand (painted areas first count (Some rights)) (mapped pages first count rights)
  area-mapped areas pages first count rights space few st =
      areas-after areas pages (mapped pages first count rights) first count (Some rights) (anew rights) space st (law areas first count (Some rights) st.areas_are.maximal (omega arith)) few (each-on_each (anew rights) pages first count) (λ q from below. refl)

  segments-stand : (ss : List Segment) (areas : List Area) (pages : Pages) → AllByRecursion IsPlaced ss → SegmentsFit areas ss → AreasStand areas pages → AreasStand (with_segments areas ss) (linux.with_segments pages ss)
  segments-stand [] areas pages placed few st = st
  segments-stand (s ∷ ss) areas pages placed few st =
      segments-stand ss (with_segment areas s) (linux.with_segment pages s) placed.1 few.1
      (areas-written (with_segment areas s) (mapped pages (first_page s) (end_page s - first_page s) (linux.rights_of s)) s.at s.bytes
      (area-mapped areas pages (first_page s) (end_page s - first_page s) (linux.rights_of s) (segment-space s placed.0) few.0 st))

  -- each segment makes at most two areas more
  segments-few : (ss : List Segment) (areas : List Area) → AllByRecursion IsPlaced ss → IsMaximal areas → length areas + 2 * length ss ≤ 1024 → SegmentsFit areas ss × IsMaximal (with_segments areas ss) × (length (with_segments areas ss) ≤ length areas + 2 * length ss)
  segments-few [] areas placed maximal few = (tt, maximal, omega arith)
  segments-few (s ∷ ss) areas placed maximal few =
      let first = first_page s in
      let count = end_page s - first_page s in
      let rights = linux.rights_of s in
      let one = painted-few areas first count (Some rights) maximal in
      let new = law areas first count (Some rights) maximal (omega (arith, segment-space s placed.0)) in
      let rest = segments-few ss (with_segment areas s) placed.1 new.maximal (omega (arith, one)) in
      ((omega (arith, one), rest.0), rest.1, omega (arith, one, rest.2))

  -- an accepted image has at most 64 segments
  first-fit : (image : Image) → IsLaidOut image → length image.segments ≤ 64 → FirstFit image
  first-fit image laid few =
      let segments = segments-few image.segments [] (recursion_from_All IsPlaced image.segments laid.placed) tt (omega arith) in
      let stack = law (with_segments [] image.segments) (stack_end / 4096 - 64) 64 (Some stack_rights) segments.1 (omega arith) in
      let stack_few = painted-few (with_segments [] image.segments) (stack_end / 4096 - 64) 64 (Some stack_rights) segments.1 in
      let page_few = painted-few (with_stack (with_segments [] image.segments)) (stack_end / 4096) 1 (Some code_rights) stack.maximal in
      record {
        segments = segments.0;
        stack = omega (arith, segments.2, stack_few);
        return_page = omega (arith, segments.2, stack_few, page_few);
      }

  areas-stand : (image : Image) (name : List ℕ) (arguments : List (List ℕ)) (seed : ℕ) → IsLaidOut image → FirstFit image → AreasStand (first_areas image) (first_pages image name arguments seed)
  areas-stand image name arguments seed laid few =
      let placed = recursion_from_All IsPlaced image.segments laid.placed in
      let segments = segments-stand image.segments [] finite.empty placed few.segments nothing-mapped in
      areas-written (first_areas image) _ _ _ (area-mapped (with_stack (with_segments [] image.segments)) _ (stack_end / 4096) 1 code_rights (omega arith) few.return_page
      (areas-written _ _ _ _ (areas-written _ _ _ _ (area-mapped (with_segments [] image.segments) _ (stack_end / 4096 - 64) 64 stack_rights (omega arith) few.stack segments))))

  none-there : (k n : ℕ) → marks_of (replicate {A = Option LxThread} n None) k ≡ None
  none-there zero zero = refl
  none-there (suc k) zero = refl
  none-there zero (suc n) = refl
  none-there (suc k) (suc n) = none-there k n

  -- no thread of Start has a mark
  start-unmarked : (image : Image) (name : List ℕ) (arguments : List (List ℕ)) (input : List ℕ) (seed rules k : ℕ) → marks_of (start image name arguments input seed rules).threads k ≡ None
  start-unmarked image name arguments input seed rules zero = refl
  start-unmarked image name arguments input seed rules (suc k) = none-there k 127

  -- the clauses hold of Start, where the shards keep exactly its pages
  pub starts : (code : Pages) (M : Parts) (image : Image) (name : List ℕ) (arguments : List (List ℕ)) (input : List ℕ) (seed rules : ℕ) → IsLaidOut image → length image.segments ≤ 64 → HasFirst M (first_pages image name arguments seed) → IsCodeOf code (first_pages image name arguments seed)
      → SpaceStands code (first_parts M image) (λ s. None) (marks_of (start image name arguments input seed rules).threads) (first_space image name arguments seed) × MemorySound code M
  starts code M image name arguments input seed rules laid few has is_code =
      let pages = first_pages image name arguments seed in
      let first = begins code M pages has (first-pages image name arguments seed laid) is_code in (
        record {
          memory = record {
            pages_stand = first.stands.pages_stand;
            marks_stand = λ s. start-unmarked image name arguments input seed rules s;
          };
          areas_stand = areas-stand image name arguments seed laid (first-fit image laid few);
          break_is = refl;
          start_is = refl;
          heap = λ p from below. absurd (omega arith);
        },
        first.sound,
      )
