-- brk, mmap, munmap, mprotect and madvise: each is the Linux machine's effect, with `short` where room was wanting.
use Rattle.std.proofs.Common.{◌≡◌, ℕ, zero, suc, ◌+◌, ◌-◌, ◌*◌, ◌/◌, ◌^◌, ◌<◌, ◌≤◌, Bool, true, false, ◌==◌, ◌&&◌, nat_le, nat_lt, is_some, List, length, Option, Some, None, option_map, if◌then◌else◌, refl, sym, ap, subst, ◌∙◌, arith, inl, inr, Ok}
use Rattle.std.proofs.Math.Bool.{not}
use Rattle.std.specs.FinMap as finite
use Rattle.std.proofs.lemmas.Bool.{cases_lt}
use Rattle.std.proofs.lemmas.Bool.Decides.{nat_tests}
use Rattle.vm_areas.specs.declared.runs.Area.{Area}
use Rattle.page_ranges.specs.declared.rights.Rights.{Rights}
use Rattle.page_ranges.specs.Ranges.{within}
use Rattle.vm_areas.specs.PageMap.{rights_at}
use Rattle.vm_areas.specs.Painted.{painted, IsPainted, IsPaintedByAChange}
use Rattle.page_store.specs.Pages.{Page, Pages, has_any, page_if}
use Rattle.lx_memory.specs.Access.{has, allows}
use Rattle.lx_memory.specs.declared.right.Right.TheVariants.{Execute}
use Rattle.lx_memory.specs.Ranges.{away, given, cleared, anew, mapped, unmapped, protected, zeroed}
use Rattle.lx_memory.specs.Queries.{all_pages, all_mapped, all_free, any_executable, no_code, is_free, highest_gap, highest_gap_below}
use Rattle.lx_memory.proofs.OnEach.{each-on_each}
use Rattle.lx_memory.proofs.PageTests.{passes_each, passes_all}
use Rattle.linux_abi.specs.declared.errno.LinuxErrno.TheVariants as errno
use Rattle.lx_machine.specs.Calls.{argument, low_argument}
use Rattle.lx_machine.specs.declared.calls.LxCall.{LxCall}
use Rattle.lx_machine.specs.declared.space.Space.{Space}
use Rattle.lx_machine.specs.Ranges.{pages_of, rights_asked, space_answers, space_refuses, space_changes}
use Rattle.lx_machine.specs.Brk as linux_brk
use Rattle.lx_machine.specs.Mmap as linux_mmap
use Rattle.lx_machine.specs.Mmap.{is_fixed_mapping}
use Rattle.lx_machine.specs.Munmap as linux_munmap
use Rattle.lx_machine.specs.Mprotect as linux_mprotect
use Rattle.lx_machine.specs.Madvise as linux_madvise
use Rattle.shards_stand.specs.Kept.{kept}
use Rattle.shards_stand.specs.Clause.{PageStands, MemorySound, AreasStand}
use Rattle.shards_stand.specs.RangeChanges.{unmap_pages, zero_pages, map_pages, protect_pages, has_room}
use Rattle.shards_stand.specs.SpaceRows.Refusal.{NoAccess, NoMemory}
use Rattle.shards_stand.specs.SpaceRows.{SpaceParts, After, Refusal, SpaceStands, CallStands, labelled, each_number, executes, are_mapped, are_free, have_code, gap, gap_below, fit, rights_fit}
use Rattle.shards_stand.proofs.SpaceCalls.{areas-after, unmap-stays, zero-stays, map-stays, protect-stays, raise-stays}
use Rattle.shards_stand.specs.SpaceRows as rows

abbrev number_or : ℕ → Option ℕ → ℕ
number_or d None = d
number_or d (Some n) = n

no-code-free : (o : Option Page) → is_free o ≡ true → no_code o ≡ true
no-code-free None is = refl
no-code-free (Some page) is = absurd (cc)

free-code : (k o : Option Page) → PageStands k o → is_free o ≡ true → page_if (allows Execute) k ≡ None
free-code None o st_ is = refl
free-code (Some page) o st_ is = let e = ap is_free (sym st_) ∙ is in absurd (cc)

plain-by : (k o : Option Page) → PageStands k o → page_if (allows Execute) k ≡ None → no_code o ≡ true
plain-by None None st_ is = refl
plain-by None (Some page) st_ is = ap (λ (p : Page). not p.rights.execute) st_
plain-by (Some page) o st_ is = ap no_code st_ ∙ by page.rights.execute is
  where
    by : (b : Bool) → (if b then Some page else None) ≡ None → not b ≡ true
    by true e = absurd (cc)
    by false e = refl

-- ---- the tests of a range

pages-numbers : (test : Option Page → Bool) (t : ℕ → Bool) (pages : Pages) (first count : ℕ) → ((p : ℕ) → test (finite.get pages p) ≡ t p) → all_pages test pages first count ≡ each_number t first count
unfolding each_number
pages-numbers test t pages first zero same = refl
pages-numbers test t pages first (suc count) same = ap (λ (b : Bool). b && all_pages test pages (suc first) count) (same first) ∙ ap (λ (b : Bool). t first && b) (pages-numbers test t pages (suc first) count same)

mapped-at : (o : Option Page) → is_some o ≡ is_some (option_map (λ p. p.rights) o)
mapped-at None = refl
mapped-at (Some page) = refl

code-at : (o : Option Page) → has (allows Execute) o ≡ executes (option_map (λ p. p.rights) o)
code-at None = refl
code-at (Some page) = refl

module _ (areas : List Area) (pages : Pages) (st : AreasStand areas pages) where
  pub mapped-same : (first count : ℕ) → all_mapped pages first count ≡ are_mapped areas first count
  mapped-same first count = pages-numbers is_some (λ p. is_some (rights_at areas p)) pages first count (λ p. mapped-at (finite.get pages p) ∙ ap (λ (o : Option Rights). is_some o) (sym (st.rights_are p)))

  pub free-same : (first count : ℕ) → all_free pages first count ≡ are_free areas first count
  free-same first count = pages-numbers is_free (λ p. not (is_some (rights_at areas p))) pages first count (λ p. ap not (mapped-at (finite.get pages p) ∙ ap (λ (o : Option Rights). is_some o) (sym (st.rights_are p))))

  pub code-same : (first count : ℕ) → any_executable pages first count ≡ have_code areas first count
  code-same first count = ap not (pages-numbers no_code (λ p. not (executes (rights_at areas p))) pages first count (λ p. ap not (code-at (finite.get pages p) ∙ ap executes (sym (st.rights_are p)))))

  gap-below-same : (count low first : ℕ) → highest_gap_below pages count low first ≡ gap_below areas count low first
  gap-below-same count low zero = refl
  gap-below-same count low (suc first) =
      ap (λ (b : Bool). if nat_le low first && b then Some first else highest_gap_below pages count low first) (free-same first count)
      ∙ ap (λ (o : Option ℕ). if nat_le low first && are_free areas first count then Some first else o) (gap-below-same count low first)

  pub gap-same : (count low high : ℕ) → highest_gap pages count low high ≡ gap areas count low high
  gap-same count low high = ap (λ (o : Option ℕ). if nat_le count high then o else None) (gap-below-same count low (suc (high - count)))

-- a free range that is found
gap-below-found : (areas : List Area) (count low n first : ℕ) → gap_below areas count low n ≡ Some first → (are_free areas first count ≡ true) × (first < n)
gap-below-found areas count low zero first is = absurd (cc)
gap-below-found areas count low (suc n) first is = by (nat_le low n) (are_free areas n count) refl is (λ rest. gap-below-found areas count low n first rest)
  where
    by : (l f : Bool) → are_free areas n count ≡ f → (if l && f then Some n else gap_below areas count low n) ≡ Some first → (gap_below areas count low n ≡ Some first → (are_free areas first count ≡ true) × (first < n)) → (are_free areas first count ≡ true) × (first < suc n)
    by true true free found rest = let e : n ≡ first = ap (number_or 0) found in (ap (λ (k : ℕ). are_free areas k count) (sym e) ∙ free, omega (arith, e))
    by true false free found rest = let r = rest found in (r.0, omega (arith, r.1))
    by false f free found rest = let r = rest found in (r.0, omega (arith, r.1))

gap-found : (areas : List Area) (count low high first : ℕ) → gap areas count low high ≡ Some first → (are_free areas first count ≡ true) × (first + count ≤ high)
gap-found areas count low high first is = by (nat_le count high) refl is
  where
    by : (b : Bool) → nat_le count high ≡ b → (if b then gap_below areas count low (suc (high - count)) else None) ≡ Some first → (are_free areas first count ≡ true) × (first + count ≤ high)
    by true le found = let r = gap-below-found areas count low (suc (high - count)) first found in let le_ : count ≤ high = grind (arith, nat_tests) in (r.0, omega (arith, r.1, le_))
    by false le found = absurd (cc)

-- free pages are no code
free-plain : (pages : Pages) (first count : ℕ) → all_free pages first count ≡ true → any_executable pages first count ≡ false
free-plain pages first count free = ap not (passes_all no_code pages first count (λ p from below. no-code-free (finite.get pages p) (passes_each is_free pages first count free p from below)))

-- ---- the calls

both-true : (a b : Bool) → (a && b) ≡ true → (a ≡ true) × (b ≡ true)
both-true true b is = (refl, is)
both-true false b is = absurd (cc)

fits : (areas : List Area) → fit areas ≡ true → length areas ≤ 1024
fits areas is = grind (arith, nat_tests, is)

room-any : (b : Bool) (r : Bool) → (if b then r else true) ≡ true → b ≡ true → r ≡ true
room-any true r is e = is
room-any false r is e = absurd (cc)

mapped-rights : (rights : Rights) (o : Option Page) → is_some o ≡ true → Some rights ≡ option_map (λ p. p.rights) (given rights o)
mapped-rights rights None there = absurd (cc)
mapped-rights rights (Some page) there = refl

cleared-rights : (o : Option Page) → option_map (λ p. p.rights) (cleared o) ≡ option_map (λ p. p.rights) o
cleared-rights None = refl
cleared-rights (Some page) = refl

module _ (law : IsPaintedByAChange) (code : Pages) (G : SpaceParts) (L : Space) (c : LxCall) (slot : ℕ) (granules marks : ℕ → Option ℕ) (st : SpaceStands code G granules marks L) (sound : MemorySound code G.parts) (own : granules slot ≡ None) where
  -- nothing changes
  still : (n : ℕ) (short : Bool) → CallStands code slot granules marks c (rows.stays G n short) (space_answers L c n)
  still n short = record { call_is = refl; space_stands = st; sound = sound }

  no_access : (short : Bool) → CallStands code slot granules marks c (rows.refuses G NoAccess short) (space_refuses L c errno.EACCES)
  no_access short = record { call_is = refl; space_stands = st; sound = sound }

  no_memory : (short : Bool) → CallStands code slot granules marks c (rows.refuses G NoMemory short) (space_refuses L c errno.ENOMEM)
  no_memory short = record { call_is = refl; space_stands = st; sound = sound }

  module _ (first count : ℕ) (space : first + count ≤ 2 ^ 52) (plain : any_executable L.pages first count ≡ false) where
    painted-here : (r : Option Rights) → IsPainted G.areas first count r (painted G.areas first count r)
    painted-here r = law G.areas first count r st.areas_stand.areas_are.maximal (omega arith)

    unmap-areas : length (painted G.areas first count None) ≤ 1024 → AreasStand (painted G.areas first count None) (unmapped L.pages first count)
    unmap-areas few = areas-after G.areas L.pages (unmapped L.pages first count) first count None away space st.areas_stand (painted-here None) few (each-on_each away L.pages first count) (λ q from below. refl)

    map-areas : (rights : Rights) → length (painted G.areas first count (Some rights)) ≤ 1024 → AreasStand (painted G.areas first count (Some rights)) (mapped L.pages first count rights)
    map-areas rights few = areas-after G.areas L.pages (mapped L.pages first count rights) first count (Some rights) (anew rights) space st.areas_stand (painted-here (Some rights)) few (each-on_each (anew rights) L.pages first count) (λ q from below. refl)

    unmap-done : (at : ℕ) → length (painted G.areas first count None) ≤ 1024 → CallStands code slot granules marks c (record { space = record G { parts = unmap_pages G.parts first count; areas = painted G.areas first count None }; answer = Ok at; short = false }) (space_changes (record L { pages = unmapped L.pages first count }) c at first count)
    unmap-done at few =
        let done = unmap-stays code G.parts slot granules marks L.pages st.memory sound own first count space plain in
        record { call_is = refl; space_stands = record { memory = done.stands; areas_stand = unmap-areas few; break_is = st.break_is; start_is = st.start_is; heap = st.heap }; sound = done.sound }

    lower-done : (at : ℕ) → at ≤ G.break_at → length (painted G.areas first count None) ≤ 1024 → CallStands code slot granules marks c (record { space = record G { parts = unmap_pages G.parts first count; areas = painted G.areas first count None; break_at = at }; answer = Ok at; short = false }) (space_changes (record L { pages = unmapped L.pages first count; break_at = at }) c at first count)
    lower-done at low few =
        let done = unmap-stays code G.parts slot granules marks L.pages st.memory sound own first count space plain in
        record { call_is = refl; space_stands = record { memory = done.stands; areas_stand = unmap-areas few; break_is = refl; start_is = st.start_is; heap = λ p from below. st.heap p from (omega arith) }; sound = done.sound }

    map-done : (at : ℕ) (rights : Rights) → rights.execute ≡ false → length (painted G.areas first count (Some rights)) ≤ 1024 → rights_fit rights G.parts first count ≡ true → CallStands code slot granules marks c (record { space = record G { parts = map_pages G.parts first count rights; areas = painted G.areas first count (Some rights) }; answer = Ok at; short = false }) (space_changes (record L { pages = mapped L.pages first count rights }) c at first count)
    map-done at rights no_execute few room =
        let done = map-stays code G.parts slot granules marks L.pages st.memory sound own first count space plain rights no_execute (room-any (has_any rights) (has_room G.parts first count 16) room) in
        record { call_is = refl; space_stands = record { memory = done.stands; areas_stand = map-areas rights few; break_is = st.break_is; start_is = st.start_is; heap = st.heap }; sound = done.sound }

    protect-done : (rights : Rights) → rights.execute ≡ false → all_mapped L.pages first count ≡ true → length (painted G.areas first count (Some rights)) ≤ 1024 → rights_fit rights G.parts first count ≡ true → CallStands code slot granules marks c (record { space = record G { parts = protect_pages G.parts first count rights; areas = painted G.areas first count (Some rights) }; answer = Ok 0; short = false }) (space_answers (record L { pages = protected L.pages first count rights }) c 0)
    protect-done rights no_execute there few room =
        let done = protect-stays code G.parts slot granules marks L.pages st.memory sound own first count space plain rights no_execute there (room-any (has_any rights) (has_room G.parts first count 16) room) in
        record { call_is = refl; space_stands = record { memory = done.stands; areas_stand = areas-after G.areas L.pages (protected L.pages first count rights) first count (Some rights) (given rights) space st.areas_stand (painted-here (Some rights)) few (each-on_each (given rights) L.pages first count) (λ q from below. mapped-rights rights (finite.get L.pages q) (passes_each is_some L.pages first count there q from below)); break_is = st.break_is; start_is = st.start_is; heap = st.heap }; sound = done.sound }

    zero-done : CallStands code slot granules marks c (record { space = record G { parts = zero_pages G.parts first count }; answer = Ok 0; short = false }) (space_changes (record L { pages = zeroed L.pages first count }) c 0 first count)
    zero-done =
        let done = zero-stays code G.parts slot granules marks L.pages st.memory sound own first count space plain in
        record { call_is = refl; space_stands = record { memory = done.stands; areas_stand = record { areas_are = st.areas_stand.areas_are; rights_are = λ q. st.areas_stand.rights_are q ∙ same q; below = st.areas_stand.below }; break_is = st.break_is; start_is = st.start_is; heap = st.heap }; sound = done.sound }
      where
        same : (q : ℕ) → option_map (λ p. p.rights) (finite.get L.pages q) ≡ option_map (λ p. p.rights) (finite.get (zeroed L.pages first count) q)
        same q = by (within first count q) ∙ sym (ap (option_map (λ p. p.rights)) (each-on_each cleared L.pages first count q))
          where
            by : (b : Bool) → option_map (λ p. p.rights) (finite.get L.pages q) ≡ option_map (λ p. p.rights) (if b then cleared (finite.get L.pages q) else finite.get L.pages q)
            by true = sym (cleared-rights (finite.get L.pages q))
            by false = refl

  -- ---- munmap

  munmap-by : (first count : ℕ) → first + count ≤ 2 ^ 52 → (b f : Bool) → any_executable L.pages first count ≡ b → fit (painted G.areas first count None) ≡ f
      → (let m = if b then rows.refuses G NoAccess false else (if f then record { space = record G { parts = unmap_pages G.parts first count; areas = painted G.areas first count None }; answer = Ok 0; short = false } else rows.refuses G NoMemory true) in
      CallStands code slot granules marks c m (labelled m (space_refuses L c errno.ENOMEM) (if b then space_refuses L c errno.EACCES else space_changes (record L { pages = unmapped L.pages first count }) c 0 first count)))
  munmap-by first count space true f is few = no_access false
  munmap-by first count space false true is few = unmap-done first count space is 0 (fits (painted G.areas first count None) few)
  munmap-by first count space false false is few = no_memory true

  pub munmap-stands : argument c 0 / 4096 + pages_of (argument c 1) ≤ 2 ^ 52 → CallStands code slot granules marks c (rows.munmap G (argument c 0 / 4096) (pages_of (argument c 1))) (labelled (rows.munmap G (argument c 0 / 4096) (pages_of (argument c 1))) (space_refuses L c errno.ENOMEM) (linux_munmap.munmap L c))
  munmap-stands space =
      let first = argument c 0 / 4096 in
      let count = pages_of (argument c 1) in
      let same = code-same G.areas L.pages st.areas_stand first count in
      subst (λ (b : Bool). CallStands code slot granules marks c (rows.munmap G (argument c 0 / 4096) (pages_of (argument c 1))) (labelled (rows.munmap G (argument c 0 / 4096) (pages_of (argument c 1))) (space_refuses L c errno.ENOMEM) (if b then space_refuses L c errno.EACCES else space_changes (record L { pages = unmapped L.pages first count }) c 0 first count))) (sym same)
      (munmap-by first count space (have_code G.areas first count) (fit (painted G.areas first count None)) same refl)

  -- ---- mprotect

  -- the pages of a range that are all mapped lie in the address space
  mapped-space : (first count : ℕ) → first ≤ 2 ^ 52 → are_mapped G.areas first count ≡ true → first + count ≤ 2 ^ 52
  mapped-space first count low there = elim (cases_lt (2 ^ 52) (first + count)) [
    | inr le ↦ le
    | inl past ↦
        let all : all_mapped L.pages first count ≡ true = mapped-same G.areas L.pages st.areas_stand first count ∙ there in
        let last : is_some (finite.get L.pages (2 ^ 52)) ≡ true = passes_each is_some L.pages first count all (2 ^ 52) low past in
        let none : is_some (option_map (λ (p : Page). p.rights) (finite.get L.pages (2 ^ 52))) ≡ false = ap (λ (o : Option Rights). is_some o) (sym (st.areas_stand.rights_are (2 ^ 52)) ∙ st.areas_stand.below (2 ^ 52) (omega arith)) in
        let some_ = sym (mapped-at (finite.get L.pages (2 ^ 52))) ∙ last in
        absurd (cc)
  ]

  mprotect-by : (first count : ℕ) (rights : Rights) → rights.execute ≡ false → first ≤ 2 ^ 52 → (a b f : Bool) → are_mapped G.areas first count ≡ a → any_executable L.pages first count ≡ b → (fit (painted G.areas first count (Some rights)) && rights_fit rights G.parts first count) ≡ f
      → (let m = if not a then rows.refuses G NoMemory false else (if b then rows.refuses G NoAccess false else (if f then record { space = record G { parts = protect_pages G.parts first count rights; areas = painted G.areas first count (Some rights) }; answer = Ok 0; short = false } else rows.refuses G NoMemory true)) in
      CallStands code slot granules marks c m (labelled m (space_refuses L c errno.ENOMEM) (if not a then space_refuses L c errno.ENOMEM else (if b then space_refuses L c errno.EACCES else space_answers (record L { pages = protected L.pages first count rights }) c 0))))
  mprotect-by first count rights no_execute low false b f there is few = no_memory false
  mprotect-by first count rights no_execute low true true f there is few = no_access false
  mprotect-by first count rights no_execute low true false true there is few =
      let parts = both-true (fit (painted G.areas first count (Some rights))) (rights_fit rights G.parts first count) few in
      protect-done first count (mapped-space first count low there) is rights no_execute (mapped-same G.areas L.pages st.areas_stand first count ∙ there) (fits (painted G.areas first count (Some rights)) parts.0) parts.1
  mprotect-by first count rights no_execute low true false false there is few = no_memory true

  -- the right to execute is refused as the call is entered
  pub mprotect-stands : argument c 0 < 2 ^ 64 → (rights_asked (low_argument c 2)).execute ≡ false → CallStands code slot granules marks c (rows.mprotect G (argument c 0 / 4096) (pages_of (argument c 1)) (rights_asked (low_argument c 2))) (labelled (rows.mprotect G (argument c 0 / 4096) (pages_of (argument c 1)) (rights_asked (low_argument c 2))) (space_refuses L c errno.ENOMEM) (linux_mprotect.mprotect L c))
  mprotect-stands small no_execute =
      let first = argument c 0 / 4096 in
      let count = pages_of (argument c 1) in
      let rights = rights_asked (low_argument c 2) in
      let code_ = code-same G.areas L.pages st.areas_stand first count in
      let mapped_ = mapped-same G.areas L.pages st.areas_stand first count in
      subst (λ (a : Bool). CallStands code slot granules marks c (rows.mprotect G (argument c 0 / 4096) (pages_of (argument c 1)) (rights_asked (low_argument c 2))) (labelled (rows.mprotect G (argument c 0 / 4096) (pages_of (argument c 1)) (rights_asked (low_argument c 2))) (space_refuses L c errno.ENOMEM) (if not a then space_refuses L c errno.ENOMEM else (if any_executable L.pages first count then space_refuses L c errno.EACCES else space_answers (record L { pages = protected L.pages first count rights }) c 0)))) (sym mapped_)
      (subst (λ (b : Bool). CallStands code slot granules marks c (rows.mprotect G (argument c 0 / 4096) (pages_of (argument c 1)) (rights_asked (low_argument c 2))) (labelled (rows.mprotect G (argument c 0 / 4096) (pages_of (argument c 1)) (rights_asked (low_argument c 2))) (space_refuses L c errno.ENOMEM) (if not (are_mapped G.areas first count) then space_refuses L c errno.ENOMEM else (if b then space_refuses L c errno.EACCES else space_answers (record L { pages = protected L.pages first count rights }) c 0)))) (sym code_)
      (mprotect-by first count rights no_execute (omega arith) (are_mapped G.areas first count) (have_code G.areas first count) (fit (painted G.areas first count (Some rights)) && rights_fit rights G.parts first count) refl code_ refl))

  -- ---- madvise

  madvise-by : (first count : ℕ) → first ≤ 2 ^ 52 → (a d b : Bool) → are_mapped G.areas first count ≡ a → any_executable L.pages first count ≡ b
      → CallStands code slot granules marks c
      (if not a then rows.refuses G NoMemory false else (if not d then rows.stays G 0 false else (if b then rows.refuses G NoAccess false else record { space = record G { parts = zero_pages G.parts first count }; answer = Ok 0; short = false })))
      (if not a then space_refuses L c errno.ENOMEM else (if not d then space_answers L c 0 else (if b then space_refuses L c errno.EACCES else space_changes (record L { pages = zeroed L.pages first count }) c 0 first count)))
  madvise-by first count low false d b there is = no_memory false
  madvise-by first count low true false b there is = still 0 false
  madvise-by first count low true true true there is = no_access false
  madvise-by first count low true true false there is = zero-done first count (mapped-space first count low there) is

  pub madvise-stands : argument c 0 < 2 ^ 64 → CallStands code slot granules marks c (rows.madvise G (low_argument c 2 == 4) (argument c 0 / 4096) (pages_of (argument c 1))) (linux_madvise.madvise L c)
  madvise-stands small =
      let first = argument c 0 / 4096 in
      let count = pages_of (argument c 1) in
      let code_ = code-same G.areas L.pages st.areas_stand first count in
      let mapped_ = mapped-same G.areas L.pages st.areas_stand first count in
      subst (λ (a : Bool). CallStands code slot granules marks c (rows.madvise G (low_argument c 2 == 4) (argument c 0 / 4096) (pages_of (argument c 1))) (if not a then space_refuses L c errno.ENOMEM else (if not (low_argument c 2 == 4) then space_answers L c 0 else (if any_executable L.pages first count then space_refuses L c errno.EACCES else space_changes (record L { pages = zeroed L.pages first count }) c 0 first count)))) (sym mapped_)
      (subst (λ (b : Bool). CallStands code slot granules marks c (rows.madvise G (low_argument c 2 == 4) (argument c 0 / 4096) (pages_of (argument c 1))) (if not (are_mapped G.areas first count) then space_refuses L c errno.ENOMEM else (if not (low_argument c 2 == 4) then space_answers L c 0 else (if b then space_refuses L c errno.EACCES else space_changes (record L { pages = zeroed L.pages first count }) c 0 first count)))) (sym code_)
      (madvise-by first count (omega arith) (are_mapped G.areas first count) (low_argument c 2 == 4) (have_code G.areas first count) refl code_))

  -- ---- mmap

  mapped-by : (first count : ℕ) (rights : Rights) → rights.execute ≡ false → first + count ≤ 2 ^ 52 → any_executable L.pages first count ≡ false → (f : Bool) → (fit (painted G.areas first count (Some rights)) && rights_fit rights G.parts first count) ≡ f
      → (let m = if f then record { space = record G { parts = map_pages G.parts first count rights; areas = painted G.areas first count (Some rights) }; answer = Ok (first * 4096); short = false } else rows.refuses G NoMemory true in
      CallStands code slot granules marks c m (labelled m (space_refuses L c errno.ENOMEM) (space_changes (record L { pages = mapped L.pages first count rights }) c (first * 4096) first count)))
  mapped-by first count rights no_execute space plain true few =
      let parts = both-true (fit (painted G.areas first count (Some rights))) (rights_fit rights G.parts first count) few in
      map-done first count space plain (first * 4096) rights no_execute (fits (painted G.areas first count (Some rights)) parts.0) parts.1
  mapped-by first count rights no_execute space plain false few = no_memory true

  module _ (rights : Rights) (no_execute : rights.execute ≡ false) (rights_are : rights_asked (low_argument c 2) ≡ rights) where
    abbrev count : ℕ
    count = pages_of (argument c 1)

    at-by : (first : ℕ) → first + count ≤ 2 ^ 52 → any_executable L.pages first count ≡ false
        → CallStands code slot granules marks c (rows.map_at G first count rights) (labelled (rows.map_at G first count rights) (space_refuses L c errno.ENOMEM) (linux_mmap.mapped_at L c first))
    at-by first space plain =
        subst (λ (r : Rights). CallStands code slot granules marks c (rows.map_at G first count rights) (labelled (rows.map_at G first count rights) (space_refuses L c errno.ENOMEM) (space_changes (record L { pages = mapped L.pages first count r }) c (first * 4096) first count))) (sym rights_are)
        (mapped-by first count rights no_execute space plain (fit (painted G.areas first count (Some rights)) && rights_fit rights G.parts first count) refl)

    fixed-by : (first : ℕ) (b : Bool) → first + count ≤ 2 ^ 52 → any_executable L.pages first count ≡ b
        → (let m = if b then rows.refuses G NoAccess false else rows.map_at G first count rights in
        CallStands code slot granules marks c m (labelled m (space_refuses L c errno.ENOMEM) (if b then space_refuses L c errno.EACCES else linux_mmap.mapped_at L c first)))
    fixed-by first true space is = no_access false
    fixed-by first false space is = at-by first space is

    fixed-stands : argument c 0 / 4096 + count ≤ 2 ^ 52 → CallStands code slot granules marks c (rows.map_fixed G (argument c 0 / 4096) count rights) (labelled (rows.map_fixed G (argument c 0 / 4096) count rights) (space_refuses L c errno.ENOMEM) (linux_mmap.mapped_fixed L c))
    fixed-stands space =
        let first = argument c 0 / 4096 in
        let same = code-same G.areas L.pages st.areas_stand first count in
        subst (λ (b : Bool). CallStands code slot granules marks c (rows.map_fixed G first count rights) (labelled (rows.map_fixed G first count rights) (space_refuses L c errno.ENOMEM) (if b then space_refuses L c errno.EACCES else linux_mmap.mapped_at L c first))) (sym same)
        (fixed-by first (have_code G.areas first count) space same)

    in-by : (r : Option ℕ) → gap G.areas count 16 0x7fff00000 ≡ r
        → CallStands code slot granules marks c (rows.map_in G count rights r) (labelled (rows.map_in G count rights r) (space_refuses L c errno.ENOMEM) (linux_mmap.mapped_in L c r))
    in-by None is = no_memory false
    in-by (Some first) is =
        let found = gap-found G.areas count 16 0x7fff00000 first is in
        let free = free-same G.areas L.pages st.areas_stand first count ∙ found.0 in
        at-by first (omega (arith, found.1)) (free-plain L.pages first count free)

    free-stands : CallStands code slot granules marks c (rows.map_free G count rights) (labelled (rows.map_free G count rights) (space_refuses L c errno.ENOMEM) (linux_mmap.mapped_in L c (highest_gap L.pages count 16 0x7fff00000)))
    free-stands =
        subst (λ (r : Option ℕ). CallStands code slot granules marks c (rows.map_free G count rights) (labelled (rows.map_free G count rights) (space_refuses L c errno.ENOMEM) (linux_mmap.mapped_in L c r)))
        (sym (gap-same G.areas L.pages st.areas_stand count 16 0x7fff00000))
        (in-by (gap G.areas count 16 0x7fff00000) refl)

    mmap-by : (b : Bool) → (b ≡ true → argument c 0 / 4096 + count ≤ 2 ^ 52)
        → (let m = rows.mmap G b (argument c 0 / 4096) count rights in
        CallStands code slot granules marks c m (labelled m (space_refuses L c errno.ENOMEM) (if b then linux_mmap.mapped_fixed L c else linux_mmap.mapped_in L c (highest_gap L.pages count 16 0x7fff00000))))
    mmap-by true space = fixed-stands (space refl)
    mmap-by false space = free-stands

  -- what is refused as the call is entered bounds a fixed range, and no right to execute is asked for
  pub mmap-stands : (rights_asked (low_argument c 2)).execute ≡ false → (is_fixed_mapping (low_argument c 3) ≡ true → argument c 0 / 4096 + pages_of (argument c 1) ≤ 2 ^ 52)
      → (let m = rows.mmap G (is_fixed_mapping (low_argument c 3)) (argument c 0 / 4096) (pages_of (argument c 1)) (rights_asked (low_argument c 2)) in
      CallStands code slot granules marks c m (labelled m (space_refuses L c errno.ENOMEM) (linux_mmap.mmap L c)))
  mmap-stands no_execute space = mmap-by (rights_asked (low_argument c 2)) no_execute refl (is_fixed_mapping (low_argument c 3)) space

  -- ---- brk

  raised-by : (at : ℕ) → pages_of G.break_at ≤ pages_of at → pages_of at ≤ 2 ^ 52 → (a f : Bool) → are_free G.areas (pages_of G.break_at) (pages_of at - pages_of G.break_at) ≡ a → (fit (painted G.areas (pages_of G.break_at) (pages_of at - pages_of G.break_at) (Some (rights_asked 3))) && has_room G.parts (pages_of G.break_at) (pages_of at - pages_of G.break_at) 16) ≡ f
      → (let first = pages_of G.break_at in
      let count = pages_of at - first in
      let m = if a then (if f then record { space = record G { parts = map_pages G.parts first count (rights_asked 3); areas = painted G.areas first count (Some (rights_asked 3)); break_at = at }; answer = Ok at; short = false } else rows.stays G G.break_at true) else rows.stays G G.break_at false in
      CallStands code slot granules marks c m (labelled m (space_answers L c G.break_at) (if a then space_answers (record L { pages = mapped L.pages first count (rights_asked 3); break_at = at }) c at else space_answers L c G.break_at)))
  raised-by at low high false f free few = still G.break_at false
  raised-by at low high true true free few =
      let first = pages_of G.break_at in
      let count = pages_of at - first in
      let space : first + count ≤ 2 ^ 52 = omega arith in
      let all : all_free L.pages first count ≡ true = free-same G.areas L.pages st.areas_stand first count ∙ free in
      let plain = free-plain L.pages first count all in
      let parts = both-true (fit (painted G.areas first count (Some (rights_asked 3)))) (has_room G.parts first count 16) few in
      let done = raise-stays code G.parts slot granules marks L.pages st.memory sound own first count space (rights_asked 3) refl refl all parts.1 in
      record { call_is = refl; space_stands = record { memory = done.stands; areas_stand = map-areas first count space plain (rights_asked 3) (fits (painted G.areas first count (Some (rights_asked 3))) parts.0); break_is = refl; start_is = st.start_is; heap = λ p from below. elim (cases_lt p first) [ inl old ↦ st.heap p from old | inr new ↦ sound.code_is p ∙ free-code (kept G.parts p) (finite.get L.pages p) (st.memory.pages_stand p) (passes_each is_free L.pages first count all p new (omega arith)) ] }; sound = done.sound }
  raised-by at low high true false free few = still G.break_at true

  lowered-by : (at : ℕ) → at ≤ G.break_at → pages_of at + (pages_of G.break_at - pages_of at) ≤ 2 ^ 52 → any_executable L.pages (pages_of at) (pages_of G.break_at - pages_of at) ≡ false → (f : Bool) → fit (painted G.areas (pages_of at) (pages_of G.break_at - pages_of at) None) ≡ f
      → (let first = pages_of at in
      let count = pages_of G.break_at - first in
      let m = if f then record { space = record G { parts = unmap_pages G.parts first count; areas = painted G.areas first count None; break_at = at }; answer = Ok at; short = false } else rows.stays G G.break_at true in
      CallStands code slot granules marks c m (labelled m (space_answers L c G.break_at) (space_changes (record L { pages = unmapped L.pages first count; break_at = at }) c at first count)))
  lowered-by at low space plain true few = lower-done (pages_of at) (pages_of G.break_at - pages_of at) space plain at low (fits (painted G.areas (pages_of at) (pages_of G.break_at - pages_of at) None) few)
  lowered-by at low space plain false few = still G.break_at true

  heap-plain : (at : ℕ) → G.break_start ≤ at → any_executable L.pages (pages_of at) (pages_of G.break_at - pages_of at) ≡ false
  heap-plain at start = ap not (passes_all no_code L.pages (pages_of at) (pages_of G.break_at - pages_of at) (λ p from below.
      plain-by (kept G.parts p) (finite.get L.pages p) (st.memory.pages_stand p) (sym (sound.code_is p) ∙ st.heap p (omega arith) (omega arith))))

  brk-by : (b u : Bool) → nat_lt (argument c 0) G.break_start ≡ b → nat_le G.break_at (argument c 0) ≡ u → argument c 0 < 2 ^ 64 → G.break_at < 2 ^ 64
      → (let m = if b then rows.stays G G.break_at false else (if u then rows.raise G (argument c 0) else rows.lower G (argument c 0)) in
      CallStands code slot granules marks c m (labelled m (space_answers L c G.break_at)
      (if b then space_answers L c G.break_at else (if u
      then (if are_free G.areas (pages_of G.break_at) (pages_of (argument c 0) - pages_of G.break_at) then space_answers (record L { pages = mapped L.pages (pages_of G.break_at) (pages_of (argument c 0) - pages_of G.break_at) (rights_asked 3); break_at = argument c 0 }) c (argument c 0) else space_answers L c G.break_at)
      else space_changes (record L { pages = unmapped L.pages (pages_of (argument c 0)) (pages_of G.break_at - pages_of (argument c 0)); break_at = argument c 0 }) c (argument c 0) (pages_of (argument c 0)) (pages_of G.break_at - pages_of (argument c 0))))))
  brk-by true u below up small old = still G.break_at false
  brk-by false true below up small old =
      let le : G.break_at ≤ argument c 0 = grind (arith, nat_tests) in
      raised-by (argument c 0) (omega arith) (omega arith) (are_free G.areas (pages_of G.break_at) (pages_of (argument c 0) - pages_of G.break_at)) (fit (painted G.areas (pages_of G.break_at) (pages_of (argument c 0) - pages_of G.break_at) (Some (rights_asked 3))) && has_room G.parts (pages_of G.break_at) (pages_of (argument c 0) - pages_of G.break_at) 16) refl refl
  brk-by false false below up small old =
      let start : G.break_start ≤ argument c 0 = grind (arith, nat_tests) in
      let lt : argument c 0 < G.break_at = grind (arith, nat_tests) in
      lowered-by (argument c 0) (omega arith) (omega arith) (heap-plain (argument c 0) start) (fit (painted G.areas (pages_of (argument c 0)) (pages_of G.break_at - pages_of (argument c 0)) None)) refl

  pub brk-stands : argument c 0 < 2 ^ 64 → G.break_at < 2 ^ 64 → CallStands code slot granules marks c (rows.brk G (argument c 0)) (labelled (rows.brk G (argument c 0)) (space_answers L c L.break_at) (linux_brk.brk L c))
  brk-stands small old =
      let first = pages_of G.break_at in
      let count = pages_of (argument c 0) - first in
      subst (λ (s : ℕ). CallStands code slot granules marks c (rows.brk G (argument c 0)) (labelled (rows.brk G (argument c 0)) (space_answers L c L.break_at) (if nat_lt (argument c 0) s then space_answers L c L.break_at else (if nat_le L.break_at (argument c 0) then linux_brk.raised L c (argument c 0) else linux_brk.lowered L c (argument c 0))))) (sym st.start_is)
      (subst (λ (z : ℕ). CallStands code slot granules marks c (rows.brk G (argument c 0)) (labelled (rows.brk G (argument c 0)) (space_answers L c z) (if nat_lt (argument c 0) G.break_start then space_answers L c z else (if nat_le z (argument c 0)
      then (if all_free L.pages (pages_of z) (pages_of (argument c 0) - pages_of z) then space_answers (record L { pages = mapped L.pages (pages_of z) (pages_of (argument c 0) - pages_of z) (rights_asked 3); break_at = argument c 0 }) c (argument c 0) else space_answers L c z)
      else space_changes (record L { pages = unmapped L.pages (pages_of (argument c 0)) (pages_of z - pages_of (argument c 0)); break_at = argument c 0 }) c (argument c 0) (pages_of (argument c 0)) (pages_of z - pages_of (argument c 0)))))) (sym st.break_is)
      (subst (λ (a : Bool). CallStands code slot granules marks c (rows.brk G (argument c 0)) (labelled (rows.brk G (argument c 0)) (space_answers L c G.break_at) (if nat_lt (argument c 0) G.break_start then space_answers L c G.break_at else (if nat_le G.break_at (argument c 0)
      then (if a then space_answers (record L { pages = mapped L.pages first count (rights_asked 3); break_at = argument c 0 }) c (argument c 0) else space_answers L c G.break_at)
      else space_changes (record L { pages = unmapped L.pages (pages_of (argument c 0)) (pages_of G.break_at - pages_of (argument c 0)); break_at = argument c 0 }) c (argument c 0) (pages_of (argument c 0)) (pages_of G.break_at - pages_of (argument c 0)))))) (sym (free-same G.areas L.pages st.areas_stand first count))
      (brk-by (nat_lt (argument c 0) G.break_start) (nat_le G.break_at (argument c 0)) refl refl small old)))
