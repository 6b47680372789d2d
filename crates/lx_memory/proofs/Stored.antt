-- Bytes of a range, piece by piece.
use Rattle.std.proofs.Common.{◌≡◌, ◌≢◌, ℕ, zero, suc, ◌+◌, ◌-◌, ◌*◌, ◌/◌, ◌%◌, ◌^◌, ◌<◌, ◌≤◌, List, [], ◌∷◌, ◌++◌, length, take, drop, set, get_or, slice_range, Option, Some, None, IsSome, IfSome, refl, sym, ap, ◌∙◌, arith, inl, inr}
use Rattle.std.specs.FinMap as finite
use Rattle.std.proofs.lemmas.Bool.{cases_eq, cases_lt}
use Rattle.std.proofs.lemmas.Grind.{same_number_lists}
use Rattle.std.proofs.lemmas.List.{take-append-drop, length-set, length-take-le}
use Rattle.std.proofs.Math.Seq.{take-add}
use Rattle.sorted_entries.proofs.Entries.{get_inserted, insert_twice}
use Rattle.page_store.specs.Pages.{Page, Pages, changed, written, spliced}
use Rattle.page_store.proofs.Changed.{changed_kept, changed_none}
use Rattle.lx_memory.specs.Bytes.{byte_at, bytes_at, with_byte_in, with_byte, with_bytes}
use Rattle.lx_memory.specs.Space.{IsInSpace}
use Rattle.lx_memory.proofs.OnEach.{get-with_page_same, get-with_page_other, same_pages}

-- a mapped page has addresses of 64 bits
pub in_space : (pages : Pages) (n : ℕ) → IsInSpace pages → IsSome (finite.get pages n) → n < 2 ^ 52
in_space pages n space there = elim (cases_lt n (2 ^ 52)) [
  | inl lt ↦ lt
  | inr past ↦ absurd (let none = space n past in grind (arith, none, there))
]

pub length-bytes_at : (pages : Pages) (at n : ℕ) → length (bytes_at pages at n) ≡ n
unfolding bytes_at
length-bytes_at pages at zero = refl
length-bytes_at pages at (suc n) = omega (arith, length-bytes_at pages (at + 1) n)

pub get_or-bytes_at : (pages : Pages) (at n k : ℕ) → k < n → get_or (bytes_at pages at n) k 0 ≡ byte_at pages (at + k)
unfolding bytes_at
get_or-bytes_at pages at zero k lt = absurd (omega arith)
get_or-bytes_at pages at (suc n) zero lt = ap (byte_at pages) (omega arith)
get_or-bytes_at pages at (suc n) (suc k) lt = get_or-bytes_at pages (at + 1) n k (omega arith) ∙ ap (byte_at pages) (omega arith)

-- bytes that are each the one at its address
pub bytes_at-is : (pages : Pages) (at n : ℕ) (bytes : List ℕ) → length bytes ≡ n → ((k : ℕ) → k < n → get_or bytes k 0 ≡ byte_at pages (at + k)) → bytes ≡ bytes_at pages at n
bytes_at-is pages at n bytes long each =
    same_number_lists bytes (bytes_at pages at n) (long ∙ sym (length-bytes_at pages at n)) (λ k lt. each k (omega arith) ∙ sym (get_or-bytes_at pages at n k (omega arith)))

pub with_bytes-append : (pages : Pages) (at : ℕ) (xs ys : List ℕ) → with_bytes pages at (xs ++ ys) ≡ with_bytes (with_bytes pages at xs) (at + length xs) ys
unfolding with_bytes
with_bytes-append pages at [] ys = ap (λ (a : ℕ). with_bytes pages a ys) (omega arith)
with_bytes-append pages at (x ∷ xs) ys = with_bytes-append (with_byte pages at x) (at + 1) xs ys ∙ ap (λ (a : ℕ). with_bytes (with_bytes (with_byte pages at x) (at + 1) xs) a ys) (omega arith)

-- the first new byte written alone, and then the others
spliced-cons : (old : List ℕ) (place b : ℕ) (bs : List ℕ) → place < length old → take (suc place) (set old place b) ++ (bs ++ drop (suc (place + length bs)) (set old place b)) ≡ take place old ++ ((b ∷ bs) ++ drop (suc (place + length bs)) old)
spliced-cons [] place b bs lt = absurd (omega arith)
spliced-cons (x ∷ xs) zero b bs lt = refl
spliced-cons (x ∷ xs) (suc place) b bs lt =
    let cut : suc place + length bs ≡ suc (place + length bs) = omega arith in
    rw cut (ap (λ (l : List ℕ). x ∷ l) (spliced-cons xs place b bs (omega arith)))

written-cons : (place b : ℕ) (bs : List ℕ) (p : Page) → place < length p.bytes → written (place + 1) bs (with_byte_in place b p) ≡ written place (b ∷ bs) p
written-cons place b bs p lt =
    let next : place + 1 ≡ suc place = omega arith in
    let past : suc place + length bs ≡ suc (place + length bs) = omega arith in
    let end : place + length (b ∷ bs) ≡ suc (place + length bs) = omega arith in
    let bytes_are : spliced (set p.bytes place b) (place + 1) bs ≡ spliced p.bytes place (b ∷ bs) = rw (next, past, end) (spliced-cons p.bytes place b bs lt) in
    λ i. record { rights = p.rights; bytes = bytes_are i }

written-none : (place : ℕ) (p : Page) → written place [] p ≡ p
written-none place p =
    let same : place + 0 ≡ place = omega arith in
    let bytes_are : spliced p.bytes place [] ≡ p.bytes = rw same (take-append-drop place p.bytes) in
    λ i. record { rights = p.rights; bytes = bytes_are i }

-- a page put where it is
insert_there : (pages : Pages) (n : ℕ) (p : Page) → finite.get pages n ≡ Some p → finite.insert pages n p ≡ pages
insert_there pages n p there = same_pages _ pages (λ q. elim (cases_eq q n) [
  | inl same ↦ get-with_page_same pages n (Some p) q same ∙ sym there ∙ ap (finite.get pages) (sym same)
  | inr other ↦ get-with_page_other pages n (Some p) q other
])

-- bytes in a mapped page
put_all : (bytes : List ℕ) (pages : Pages) (n place at : ℕ) (p : Page) → at ≡ n * 4096 + place → finite.get pages n ≡ Some p → length p.bytes ≡ 4096 → place + length bytes ≤ 4096 → with_bytes pages at bytes ≡ finite.insert pages n (written place bytes p)
unfolding with_bytes
put_all [] pages n place at p is there whole fits = sym (ap (finite.insert pages n) (written-none place p) ∙ insert_there pages n p there)
put_all (b ∷ bs) pages n place at p is there whole fits =
    let page_is : at / 4096 ≡ n = omega arith in
    let place_is : at % 4096 ≡ place = omega arith in
    let first : with_byte pages at b ≡ finite.insert pages n (with_byte_in place b p) = rw (page_is, place_is) (changed_kept pages n p (with_byte_in place b) there) in
    let next = finite.insert pages n (with_byte_in place b p) in
    let rest = put_all bs next n (place + 1) (at + 1) (with_byte_in place b p) (omega arith) (get_inserted pages n (with_byte_in place b p)) (length-set p.bytes place b ∙ whole) (omega arith) in
    ap (λ (ps : Pages). with_bytes ps (at + 1) bs) first
    ∙ rest
    ∙ insert_twice pages n (with_byte_in place b p) (written (place + 1) bs (with_byte_in place b p))
    ∙ ap (finite.insert pages n) (written-cons place b bs p (omega arith))

-- bytes in a page that isn't mapped
put_none : (bytes : List ℕ) (pages : Pages) (n place at : ℕ) → at ≡ n * 4096 + place → finite.get pages n ≡ None → place + length bytes ≤ 4096 → with_bytes pages at bytes ≡ pages
unfolding with_bytes
put_none [] pages n place at is missing fits = refl
put_none (b ∷ bs) pages n place at is missing fits =
    let page_is : at / 4096 ≡ n = omega arith in
    let first : with_byte pages at b ≡ pages = rw page_is (changed_none pages n (with_byte_in (at % 4096) b) missing) in
    ap (λ (ps : Pages). with_bytes ps (at + 1) bs) first ∙ put_none bs pages n (place + 1) (at + 1) (omega arith) missing (omega arith)

piece_at : (o : Option Page) (pages : Pages) (at : ℕ) (bytes : List ℕ) → finite.get pages (at / 4096) ≡ o → IfSome o (λ page. length page.bytes ≡ 4096) → at % 4096 + length bytes ≤ 4096 → changed pages (at / 4096) (written (at % 4096) bytes) ≡ with_bytes pages at bytes
piece_at None pages at bytes missing whole fits =
    changed_none pages (at / 4096) (written (at % 4096) bytes) missing ∙ sym (put_none bytes pages (at / 4096) (at % 4096) at (omega arith) missing fits)
piece_at (Some p) pages at bytes there whole fits =
    changed_kept pages (at / 4096) p (written (at % 4096) bytes) there ∙ sym (put_all bytes pages (at / 4096) (at % 4096) at p (omega arith) there whole fits)

-- bytes in one page are written at once
pub piece_written : (pages : Pages) (at : ℕ) (bytes : List ℕ) → IfSome (finite.get pages (at / 4096)) (λ page. length page.bytes ≡ 4096) → at % 4096 + length bytes ≤ 4096 → changed pages (at / 4096) (written (at % 4096) bytes) ≡ with_bytes pages at bytes
piece_written pages at bytes whole fits = piece_at (finite.get pages (at / 4096)) pages at bytes refl whole fits

changed-in_space : (o : Option Page) (pages : Pages) (n : ℕ) (change : Page → Page) → finite.get pages n ≡ o → IsInSpace pages → IsInSpace (changed pages n change)
changed-in_space None pages n change missing space q past = ap (λ (ps : Pages). finite.get ps q) (changed_none pages n change missing) ∙ space q past
changed-in_space (Some p) pages n change there space q past =
    let other : q ≢ n = λ same. (let none = ap (finite.get pages) (sym same) ∙ space q past in grind (arith, none, there)) in
    ap (λ (ps : Pages). finite.get ps q) (changed_kept pages n p change there) ∙ get-with_page_other pages n (Some (change p)) q other ∙ space q past

pub with_bytes-in_space : (pages : Pages) (at : ℕ) (bytes : List ℕ) → IsInSpace pages → IsInSpace (with_bytes pages at bytes)
unfolding with_bytes
with_bytes-in_space pages at [] space = space
with_bytes-in_space pages at (b ∷ bs) space =
    with_bytes-in_space (with_byte pages at b) (at + 1) bs (changed-in_space (finite.get pages (at / 4096)) pages (at / 4096) (with_byte_in (at % 4096) b) refl space)

-- one more piece is written
pub store_step : (old now new : Pages) (at here done end : ℕ) (bytes piece : List ℕ) → now ≡ with_bytes old at (take done bytes) → done ≤ end → end ≤ length bytes → here ≡ at + done → piece ≡ slice_range bytes done end → here % 4096 + length piece ≤ 4096 → IfSome (finite.get now (here / 4096)) (λ page. length page.bytes ≡ 4096) → new ≡ changed now (here / 4096) (written (here % 4096) piece) → new ≡ with_bytes old at (take end bytes)
store_step old now new at here done end bytes piece stored le most here_is piece_is fits whole is =
    let front : length (take done bytes) ≡ done = length-take-le done bytes (omega arith) in
    let place : here ≡ at + length (take done bytes) = omega arith in
    let sum : done + (end - done) ≡ end = omega arith in
    let all : take done bytes ++ piece ≡ take end bytes = ap (λ (l : List ℕ). take done bytes ++ l) piece_is ∙ sym (take-add done (end - done) bytes) ∙ ap (λ (k : ℕ). take k bytes) sum in
    is
    ∙ piece_written now here piece whole fits
    ∙ ap (λ (ps : Pages). with_bytes ps here piece) stored
    ∙ ap (λ (a : ℕ). with_bytes (with_bytes old at (take done bytes)) a piece) place
    ∙ sym (with_bytes-append old at (take done bytes) piece)
    ∙ ap (with_bytes old at) all
