-- What a range of bytes reads, and the first byte of it that lacks a right, are those of the Linux pages.
use Rattle.std.proofs.Common.{◌≡◌, ℕ, zero, suc, ◌+◌, ◌-◌, ◌*◌, ◌/◌, ◌%◌, ◌^◌, ◌<◌, ◌≤◌, Bool, true, false, ◌==◌, ◌||◌, not, nat_le, List, ◌∷◌, get_or, Option, Some, None, option_map, IsSomeAnd, IsTrue, if◌then◌else◌, refl, sym, ap, ◌∙◌, arith, inl, inr}
use Rattle.std.specs.FinMap as finite
use Rattle.std.proofs.lemmas.Bool.{cases_eq, cases_lt}
use Rattle.std.proofs.lemmas.Bool.Decides.{nat_tests}
use Rattle.page_ranges.specs.declared.rights.Rights.{Rights}
use Rattle.page_store.specs.Pages.{Page, Pages}
use Rattle.lx_memory.specs.Access.{has, lacks, allows, IsFirstPageWithout, IsFirstLacking}
use Rattle.lx_memory.specs.declared.right.Right.{Right}
use Rattle.lx_memory.specs.Queries.{first_lacking}
use Rattle.lx_memory.specs.Bytes.{byte_at, bytes_at, bytes_of_page}
use Rattle.places.specs.PageRanges.{page_count}
use Rattle.lx_memory.proofs.Lacking.{same_first_lacking}
use Rattle.lx_memory.specs.declared.right.Right.TheVariants.{Read, Write, Execute}
use Rattle.machine_parts.specs.Parts.{Parts}
use Rattle.shards_stand.specs.Kept.{kept}
use Rattle.shards_stand.specs.Clause.{MemoryStands, MemorySound, PageStands, no_rights}
use Rattle.shards_stand.specs.Pieces.{touched, page_lacking, byte_on, lacking, byte_in, bytes_in, AllHave}

-- ---- a right at a page is one in both machines

has-by : (right : Rights → Bool) (k o : Option Page) → right no_rights ≡ false → PageStands k o → has right o ≡ has right k
has-by right None None never st = refl
has-by right None (Some page) never st = ap (λ (p : Page). right p.rights) st ∙ never
has-by right (Some page) o never st = ap (λ (x : Option Page). has right x) st

allows-none : (right : Right) → allows right no_rights ≡ false
allows-none Read = refl
allows-none Write = refl
allows-none Execute = refl

pub has-same : (right : Right) (M : Parts) (granules marks : ℕ → Option ℕ) (pages : Pages) → MemoryStands M granules pages marks → (p : ℕ) → has (allows right) (finite.get pages p) ≡ has (allows right) (kept M p)
has-same right M granules marks pages st p = has-by (allows right) (kept M p) (finite.get pages p) (allows-none right) (st.pages_stand p)

-- ---- the first page that lacks a right

first-more : (right : Rights → Bool) (pages : Pages) (first n : ℕ) (r : Option ℕ) → has right (finite.get pages first) ≡ true → IsFirstPageWithout pages right (first + 1) n r → IsFirstPageWithout pages right first (suc n) r
first-more right pages first n None here rest = λ p from below. elim (cases_eq p first) [
  | inl same ↦ ap (λ (q : ℕ). has right (finite.get pages q)) same ∙ here
  | inr other ↦ rest p (omega arith) (omega arith)
]
first-more right pages first n (Some least) here rest = (
  omega (arith, rest.0),
  omega (arith, rest.1),
  rest.2,
  λ p from below. elim (cases_eq p first) [
    | inl same ↦ ap (λ (q : ℕ). has right (finite.get pages q)) same ∙ here
    | inr other ↦ rest.3 p (omega arith) below
  ],
)

first-here : (right : Rights → Bool) (pages : Pages) (first n : ℕ) → has right (finite.get pages first) ≡ false → IsFirstPageWithout pages right first (suc n) (Some first)
first-here right pages first n here = (omega arith, omega arith, here, λ p from below. absurd (omega arith))

pub page_lacking-is : (right : Rights → Bool) (M : Parts) (pages : Pages) (first n : ℕ) → ((p : ℕ) → has right (finite.get pages p) ≡ has right (kept M p)) → IsFirstPageWithout pages right first n (page_lacking right M first n)
unfolding page_lacking
page_lacking-is right M pages first zero same = λ p from below. absurd (omega arith)
page_lacking-is right M pages first (suc n) same = by (has right (kept M first)) refl (page_lacking-is right M pages (first + 1) n same)
  where
    by : (b : Bool) → has right (kept M first) ≡ b → IsFirstPageWithout pages right (first + 1) n (page_lacking right M (first + 1) n) → IsFirstPageWithout pages right first (suc n) (if b then page_lacking right M (first + 1) n else Some first)
    by true is rest = first-more right pages first n (page_lacking right M (first + 1) n) (same first ∙ is) rest
    by false is rest = first-here right pages first n (same first ∙ is)

-- ---- the first byte of a range, from the first page of it

some-and : (right : Rights → Bool) (o : Option Page) → has right o ≡ true → IsSomeAnd (option_map (λ p. p.rights) o) (λ r. IsTrue (right r))
some-and right None h = absurd (cc)
some-and right (Some page) h = h

module _ (right : Rights → Bool) (pages : Pages) (at len : ℕ) (space : (p : ℕ) → 2 ^ 52 ≤ p → has right (finite.get pages p) ≡ false) (some : 0 < len) (small : at < 2 ^ 64) where
  below-end : (p : ℕ) → has right (finite.get pages p) ≡ true → p < 2 ^ 52
  below-end p may = elim (cases_lt p (2 ^ 52)) [
    | inl lt ↦ lt
    | inr past ↦ (let e = space p past in absurd (cc))
  ]

  not-lacking : (address : ℕ) → has right (finite.get pages (address / 4096)) ≡ true → lacks pages right address ≡ false
  not-lacking address may =
      let low : address / 4096 < 2 ^ 52 = below-end (address / 4096) may in
      let lt : address < 2 ^ 64 = omega arith in
      ap (λ (b : Bool). nat_le (2 ^ 64) address || not b) may ∙ grind (arith, nat_tests)

  is-lacking : (address : ℕ) → has right (finite.get pages (address / 4096)) ≡ false → lacks pages right address ≡ true
  is-lacking address may = ap (λ (b : Bool). nat_le (2 ^ 64) address || not b) may ∙ grind (arith, nat_tests)

  pub byte-from-page : (r : Option ℕ) → IsFirstPageWithout pages right (at / 4096) (touched at len) r → IsFirstLacking pages right at len (byte_on at r)
  byte-from-page None each =
      let last = (at + len - 1) / 4096 in
      let end : last < 2 ^ 52 = below-end last (each last (omega arith) (omega arith)) in
      record {
        in_space = omega (arith, end);
        mapped = λ address from below. some-and right (finite.get pages (address / 4096)) (each (address / 4096) (omega arith) (omega arith));
      }
  byte-from-page (Some p) each = elim (cases_eq p (at / 4096)) as (λ _. IsFirstLacking pages right at len (byte_on at (Some p))) [
    | inl same ↦
        let test : (p == at / 4096) ≡ true = grind (arith, nat_tests) in
        let off : has right (finite.get pages (at / 4096)) ≡ false = ap (λ (q : ℕ). has right (finite.get pages q)) (sym same) ∙ each.2 in
        (at, record { from = omega arith; below = omega arith; lacking = is-lacking at off; before = λ address from below. absurd (omega arith) }, ap (λ (b : Bool). if b then at else p * 4096 % 2 ^ 64) test ∙ omega arith)
    | inr other ↦
        let test : (p == at / 4096) ≡ false = grind (arith, nat_tests) in
        let place : p * 4096 / 4096 ≡ p = omega arith in
        let off : has right (finite.get pages (p * 4096 / 4096)) ≡ false = ap (λ (q : ℕ). has right (finite.get pages q)) place ∙ each.2 in (
          p * 4096,
          record {
            from = omega (arith, each.0);
            below = omega (arith, each.1);
            lacking = is-lacking (p * 4096) off;
            before = λ address from below. not-lacking address (each.3 (address / 4096) (omega arith) (omega arith));
          },
          ap (λ (b : Bool). if b then at else p * 4096 % 2 ^ 64) test,
        )
  ]

-- no page past the address space has a right
past-space : (right : Right) (code : Pages) (M : Parts) (pages : Pages) → MemorySound code M → ((p : ℕ) → has (allows right) (finite.get pages p) ≡ has (allows right) (kept M p)) → (p : ℕ) → 2 ^ 52 ≤ p → has (allows right) (finite.get pages p) ≡ false
past-space right code M pages sound same p past = same p ∙ ap (λ (o : Option Page). has (allows right) o) (sound.in_space p past)

pub lacking-same : (right : Right) (code : Pages) (M : Parts) (granules marks : ℕ → Option ℕ) (pages : Pages) (at len : ℕ) → MemoryStands M granules pages marks → MemorySound code M → 0 < len → at < 2 ^ 64 → lacking (allows right) M at len ≡ first_lacking right pages at len
lacking-same right code M granules marks pages at len st sound some small =
    let same = has-same right M granules marks pages st in
    same_first_lacking (lacking (allows right) M at len) right pages at len
    (byte-from-page (allows right) pages at len (past-space right code M pages sound same) some small (page_lacking (allows right) M (at / 4096) (touched at len)) (page_lacking-is (allows right) M pages (at / 4096) (touched at len) same))

-- ---- what no page lacks, each page has

have-more : (right : Rights → Bool) (M : Parts) (first n : ℕ) → page_lacking right M first n ≡ None → (p : ℕ) → first ≤ p → p < first + n → has right (kept M p) ≡ true
unfolding page_lacking
have-more right M first zero none p from below = absurd (omega arith)
have-more right M first (suc n) none p from below = by (has right (kept M first)) refl none (λ rest from_next. have-more right M (first + 1) n rest p from_next (omega arith))
  where
    by : (b : Bool) → has right (kept M first) ≡ b → (if b then page_lacking right M (first + 1) n else Some first) ≡ None → (page_lacking right M (first + 1) n ≡ None → first + 1 ≤ p → has right (kept M p) ≡ true) → has right (kept M p) ≡ true
    by true is rest next = elim (cases_eq p first) [
      | inl same ↦ ap (λ (q : ℕ). has right (kept M q)) same ∙ is
      | inr other ↦ next rest (omega arith)
    ]
    by false is rest next = absurd (cc)

no-byte : (at : ℕ) (r : Option ℕ) → byte_on at r ≡ None → r ≡ None
no-byte at None is = refl
no-byte at (Some p) is = absurd (cc)

pub all-have : (right : Rights → Bool) (M : Parts) (at len : ℕ) → lacking right M at len ≡ None → AllHave right M at len
all-have right M at len none p from below =
    have-more right M (at / 4096) (touched at len) (no-byte at (page_lacking right M (at / 4096) (touched at len)) none) p from (omega arith)

-- ---- the bytes

-- a page that has a right is the same in both machines
same-page : (right : Rights → Bool) (k o : Option Page) → has right k ≡ true → PageStands k o → o ≡ k
same-page right None o may st = absurd (cc)
same-page right (Some page) o may st = st

-- the bytes of a range that may be read, or written
pub bytes-same : (len : ℕ) (right : Rights → Bool) (M : Parts) (granules marks : ℕ → Option ℕ) (pages : Pages) (at : ℕ) → MemoryStands M granules pages marks → AllHave right M at len → bytes_in M at len ≡ bytes_at pages at len
unfolding bytes_in bytes_at
bytes-same zero right M granules marks pages at st have = refl
bytes-same (suc len) right M granules marks pages at st have =
    let may = have (at / 4096) (omega arith) (omega arith) in
    let page_is : finite.get pages (at / 4096) ≡ kept M (at / 4096) = same-page right (kept M (at / 4096)) (finite.get pages (at / 4096)) may (st.pages_stand (at / 4096)) in
    let here : byte_in M at ≡ byte_at pages at = ap (λ (o : Option Page). get_or (bytes_of_page o) (at % 4096) 0) (sym page_is) in
    ap (λ (b : ℕ). b ∷ bytes_in M (at + 1) len) here ∙ ap (λ (l : List ℕ). byte_at pages at ∷ l) (bytes-same len right M granules marks pages (at + 1) st (λ p from below. have p (omega arith) (omega arith)))

-- ---- how many pages a range touches

-- the pages from that of the first byte to that of the last
pub touched-is : (at len : ℕ) → 0 < len → touched at len ≡ page_count at len
touched-is at zero some = absurd (omega arith)
touched-is at (suc rest) some = omega arith

-- an access of an instruction touches two at most, also one of 32 bytes
pub touched-few : (at len : ℕ) → len ≤ 32 → touched at len ≤ 2
touched-few at len few = omega arith
