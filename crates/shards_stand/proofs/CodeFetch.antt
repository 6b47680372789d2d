-- The instruction fetch from the fixed code is the Linux machine's.
use Rattle.std.proofs.Common.{◌≡◌, ℕ, ◌+◌, ◌-◌, ◌/◌, ◌%◌, ◌^◌, ◌<◌, ◌≤◌, Bool, true, false, is_some, List, length, drop, get_or, slice_range, Option, Some, None, option_map, if◌then◌else◌, refl, sym, ap, subst, ◌∙◌, arith}
use Rattle.std.proofs.Math.Bool.{not}
use Rattle.std.specs.FinMap as finite
use Rattle.places.specs.Places as place
use Rattle.page_store.specs.Pages.{Page, Pages, page_if}
use Rattle.lx_memory.specs.Access.{has, allows}
use Rattle.std.proofs.lemmas.List.{get_or-take, get_or-drop, length-take-le, length-drop}
use Rattle.lx_memory.proofs.Stored.{bytes_at-is}
use Rattle.lx_memory.specs.Bytes.{bytes_at, bytes_of_page}
use Rattle.lx_memory.specs.declared.right.Right.TheVariants.{Execute}
use Rattle.lx_memory.specs.Codes.{code_at}
use Rattle.lx_memory.specs.Queries.{first_lacking}
use Rattle.machine_parts.specs.Parts.{Parts}
use Rattle.shards_stand.specs.Kept.{kept}
use Rattle.shards_stand.specs.Clause.{MemoryStands, MemorySound, PageStands}
use Rattle.shards_stand.specs.Pieces.{page_lacking, byte_on, touched}
use Rattle.shards_stand.specs.CodeWord.{code_word}
use Rattle.shards_stand.proofs.LoadPieces.{lacking-same}

in-page : (pages : Pages) (at k : ℕ) (page : Page) → finite.get pages (at / 4096) ≡ Some page → length page.bytes ≡ 4096 → at % 4096 + k ≤ 4096 → slice_range page.bytes (at % 4096) (at % 4096 + k) ≡ bytes_at pages at k
in-page pages at k page there whole fits =
    let from = at % 4096 in
    let size : from + k - from ≡ k = omega arith in
    let long : length (slice_range page.bytes from (from + k)) ≡ k =
    length-take-le (from + k - from) (drop from page.bytes) (omega (arith, length-drop from page.bytes, whole)) ∙ size in
    bytes_at-is pages at k (slice_range page.bytes from (from + k)) long (λ i lt.
    let in_page : (at + i) / 4096 ≡ at / 4096 = omega arith in
    let in_place : (at + i) % 4096 ≡ from + i = omega arith in
    get_or-take (from + k - from) (drop from page.bytes) i 0 (omega arith)
    ∙ get_or-drop from page.bytes i 0
    ∙ sym (ap (λ (n : ℕ). get_or (bytes_of_page (finite.get pages n)) ((at + i) % 4096) 0) in_page
    ∙ ap (λ (o : Option Page). get_or (bytes_of_page o) ((at + i) % 4096) 0) there
    ∙ ap (λ (j : ℕ). get_or page.bytes j 0) in_place))

executable : (b : Bool) (page : Page) → page.rights.execute ≡ b → page_if (allows Execute) (Some page) ≡ (if b then Some page else None)
executable b page is = ap (λ (x : Bool). if x then Some page else None) is

has-if : (k : Option Page) → has (allows Execute) k ≡ is_some (page_if (allows Execute) k)
has-if None = refl
has-if (Some page) = by page.rights.execute
  where
    by : (b : Bool) → b ≡ is_some (if b then Some page else None)
    by true = refl
    by false = refl

if-some : (k : Option Page) (page : Page) → page_if (allows Execute) k ≡ Some page → k ≡ Some page
if-some None page is = absurd (cc)
if-some (Some x) page is = by x.rights.execute is
  where
    by : (b : Bool) → (if b then Some x else None) ≡ Some page → Some x ≡ Some page
    by true e = e
    by false e = absurd (cc)

one-page : (M : Parts) (first n : ℕ) → n ≡ 1 → page_lacking (allows Execute) M first n ≡ (if has (allows Execute) (kept M first) then None else Some first)
unfolding page_lacking
one-page M first n one = ap (page_lacking (allows Execute) M first) one

pub fetch-same : (code : Pages) (M : Parts) (granules marks : ℕ → Option ℕ) (pages : Pages) (pc : ℕ) → MemoryStands M granules pages marks → MemorySound code M → pc % 4 ≡ 0 → pc < 2 ^ 64 → code_word code pc ≡ code_at pages pc
fetch-same code M granules marks pages pc st sound aligned small =
    by (finite.get code (pc / 4096)) refl
  where
    fits : pc % 4096 + 4 ≤ 4096
    fits = omega arith

    lack : first_lacking Execute pages pc 4 ≡ byte_on pc (if is_some (finite.get code (pc / 4096)) then None else Some (pc / 4096))
    lack =
        sym (lacking-same Execute code M granules marks pages pc 4 st sound (omega arith) small)
        ∙ ap (byte_on pc) (one-page M (pc / 4096) (touched pc 4) (omega arith))
        ∙ ap (λ (b : Bool). byte_on pc (if b then None else Some (pc / 4096))) (has-if (kept M (pc / 4096)) ∙ ap (λ (o : Option Page). is_some o) (sym (sound.code_is (pc / 4096))))

    by : (o : Option Page) → finite.get code (pc / 4096) ≡ o → option_map (λ page. place.number_of (slice_range page.bytes (pc % 4096) (pc % 4096 + 4))) (finite.get code (pc / 4096)) ≡ code_at pages pc
    by None is =
        ap (option_map (λ page. place.number_of (slice_range page.bytes (pc % 4096) (pc % 4096 + 4)))) is
        ∙ sym (ap (λ (o : Option ℕ). if not (is_some o) then Some (place.number_of (bytes_at pages pc 4)) else None) (lack ∙ ap (λ (o : Option Page). byte_on pc (if is_some o then None else Some (pc / 4096))) is))
    by (Some page) is =
        let there : kept M (pc / 4096) ≡ Some page = if-some (kept M (pc / 4096)) page (sym (sound.code_is (pc / 4096)) ∙ is) in
        let linux : finite.get pages (pc / 4096) ≡ Some page = subst (λ (o : Option Page). PageStands o (finite.get pages (pc / 4096))) there (st.pages_stand (pc / 4096)) in
        let bytes_are = in-page pages pc 4 page linux (sound.whole (pc / 4096) page there) fits in
        ap (option_map (λ page. place.number_of (slice_range page.bytes (pc % 4096) (pc % 4096 + 4)))) is
        ∙ ap {B = Option ℕ} (λ (bs : List ℕ). Some (place.number_of bs)) bytes_are
        ∙ sym (ap (λ (o : Option ℕ). if not (is_some o) then Some (place.number_of (bytes_at pages pc 4)) else None) (lack ∙ ap (λ (o : Option Page). byte_on pc (if is_some o then None else Some (pc / 4096))) is))

-- the fixed code is exactly the Linux pages with the right to execute, with their bytes
pub code-linux : (code : Pages) (M : Parts) (granules marks : ℕ → Option ℕ) (pages : Pages) (p : ℕ) → MemoryStands M granules pages marks → MemorySound code M → finite.get code p ≡ page_if (allows Execute) (finite.get pages p)
code-linux code M granules marks pages p st sound = sound.code_is p ∙ by (kept M p) (finite.get pages p) (st.pages_stand p)
  where
    by : (k o : Option Page) → PageStands k o → page_if (allows Execute) k ≡ page_if (allows Execute) o
    by None None stands = refl
    by None (Some page) stands = ap (λ (x : Page). page_if (allows Execute) (Some x)) (sym stands)
    by (Some page) o stands = ap (λ (x : Option Page). page_if (allows Execute) x) (sym stands)
