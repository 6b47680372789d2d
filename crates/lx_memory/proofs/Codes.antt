-- What may be executed can't be written, so a store leaves the code.
use Rattle.std.proofs.Common.{◌≡◌, ◌≢◌, ℕ, zero, suc, ◌+◌, ◌≤◌, Bool, true, false, ◌||◌, not, List, [], ◌∷◌, Option, Some, None, is_some, length, refl, sym, ap, ◌∙◌, arith, ◌⊎◌, inl, inr, cond, eqb, option_map}
use Rattle.std.specs.Prelude.{◌%◌, ◌^◌, nat_le, if◌then◌else◌, slice_index}
use Rattle.std.specs.FinMap as map
use Rattle.std.proofs.lemmas.Grind.{common_steps}
use Rattle.std.proofs.lemmas.Bool.Decides.{nat_tests}
use Rattle.places.specs.Places.{page, number_of}
use Rattle.page_ranges.specs.declared.rights.Rights.{Rights}
use Rattle.page_store.specs.Pages.{Page, Pages}
use Rattle.lx_memory.specs.Access.{rights_of, has, lacks, allows}
use Rattle.lx_memory.specs.Bytes.{byte_at, bytes_at, bytes_of_page, with_byte, with_bytes, with_byte_in}
use Rattle.lx_memory.specs.Queries.{first_lacking, is_allowed}
use Rattle.lx_memory.specs.declared.right.Right.{Right}
use Rattle.lx_memory.specs.declared.right.Right.TheVariants.{Write, Execute}
use Rattle.lx_memory.proofs.Changes.{changed-with_page}
use Rattle.lx_memory.proofs.OnEach.{get-with_page}
use Rattle.lx_memory.specs.Codes.{IsGuarded, code_at}

same_or_not : (i j : ℕ) → (j ≡ i) ⊎ (j ≢ i)
same_or_not i j = grind arith

-- ---- one byte

get_byte : (pages : Pages) (a b q : ℕ) → map.get (with_byte pages a b) q ≡ cond (eqb q (page a)) (option_map (with_byte_in (a % 4096) b) (map.get pages (page a))) (map.get pages q)
get_byte pages a b q = ap (λ (m : Pages). map.get m q) (changed-with_page pages (page a) (with_byte_in (a % 4096) b)) ∙ get-with_page pages (page a) (option_map (with_byte_in (a % 4096) b) (map.get pages (page a))) q

get_other : (pages : Pages) (a b q : ℕ) → q ≢ page a → map.get (with_byte pages a b) q ≡ map.get pages q
get_other pages a b q ne = let h = get_byte pages a b q in grind (arith, nat_tests)

same_rights : (place b : ℕ) (o : Option Page) → option_map (λ (p : Page). p.rights) (option_map (with_byte_in place b) o) ≡ option_map (λ (p : Page). p.rights) o
same_rights place b None = refl
same_rights place b (Some p) = refl

rights_byte : (pages : Pages) (a b q : ℕ) → rights_of (with_byte pages a b) q ≡ rights_of pages q
rights_byte pages a b q = by (same_or_not (page a) q)
  where
    at_same : map.get (with_byte pages a b) (page a) ≡ option_map (with_byte_in (a % 4096) b) (map.get pages (page a))
    at_same = let h = get_byte pages a b (page a) in grind (arith, nat_tests)

    by : (q ≡ page a) ⊎ (q ≢ page a) → rights_of (with_byte pages a b) q ≡ rights_of pages q
    by (inl e) = ap (λ (n : ℕ). rights_of (with_byte pages a b) n) e ∙ ap (λ (o : Option Page). option_map (λ (p : Page). p.rights) o) at_same ∙ same_rights (a % 4096) b (map.get pages (page a)) ∙ sym (ap (λ (n : ℕ). rights_of pages n) e)
    by (inr e) = ap (λ (o : Option Page). option_map (λ (p : Page). p.rights) o) (get_other pages a b q e)

-- ---- rights

abbrev holds : (Rights → Bool) → Option Rights → Bool
holds right None = false
holds right (Some r) = right r

has_is : (right : Rights → Bool) (o : Option Page) → has right o ≡ holds right (option_map (λ (p : Page). p.rights) o)
has_is right None = refl
has_is right (Some p) = refl

abbrev SameRights : Pages → Pages → Type 0
SameRights old new = (q : ℕ) → rights_of new q ≡ rights_of old q

lacks_same : (old new : Pages) (right : Rights → Bool) (a : ℕ) → SameRights old new → lacks new right a ≡ lacks old right a
lacks_same old new right a same =
    ap (λ (b : Bool). nat_le (2 ^ 64) a || not b) (has_is right (map.get new (page a)) ∙ ap (holds right) (same (page a)) ∙ sym (has_is right (map.get old (page a))))

first_same : (right : Right) (old new : Pages) (at len : ℕ) → SameRights old new → first_lacking right new at len ≡ first_lacking right old at len
first_same right old new at zero same = refl
first_same right old new at (suc len) same =
    ap (λ (b : Bool). if b then Some (at % 2 ^ 64) else first_lacking right new (suc at) len) (lacks_same old new (allows right) at same)
    ∙ ap (λ (o : Option ℕ). if lacks old (allows right) at then Some (at % 2 ^ 64) else o) (first_same right old new (suc at) len same)

allowed_same : (right : Right) (old new : Pages) (at len : ℕ) → SameRights old new → is_allowed right new at len ≡ is_allowed right old at len
allowed_same right old new at len same = ap (λ (o : Option ℕ). not (is_some o)) (first_same right old new at len same)

-- the first byte of a range that is allowed, and the others
first_allowed : (right : Right) (pages : Pages) (at len : ℕ) → is_allowed right pages at (suc len) ≡ true → (lacks pages (allows right) at ≡ false) × (is_allowed right pages (suc at) len ≡ true)
first_allowed right pages at len h = by (lacks pages (allows right) at) refl h
  where
    by : (b : Bool) → lacks pages (allows right) at ≡ b → not (is_some (if b then Some (at % 2 ^ 64) else first_lacking right pages (suc at) len)) ≡ true → (lacks pages (allows right) at ≡ false) × (is_allowed right pages (suc at) len ≡ true)
    by true e f = absurd (cc)
    by false e f = (e, f)

-- fewer bytes are allowed too
pub allowed_less : (right : Right) (pages : Pages) (at n len : ℕ) → n ≤ len → is_allowed right pages at len ≡ true → is_allowed right pages at n ≡ true
allowed_less right pages at zero len less h = refl
allowed_less right pages at (suc n) zero less h = absurd (omega arith)
allowed_less right pages at (suc n) (suc len) less h =
    let f = first_allowed right pages at len h in
    let ih = allowed_less right pages (suc at) n len (omega arith) f.1 in
    ap (λ (b : Bool). not (is_some (if b then Some (at % 2 ^ 64) else first_lacking right pages (suc at) n))) f.0 ∙ ih

right_of : (right : Rights → Bool) (pages : Pages) (a : ℕ) → lacks pages right a ≡ false → holds right (rights_of pages (page a)) ≡ true
right_of right pages a h = let e = has_is right (map.get pages (page a)) in grind (arith, common_steps)

apart : (pages : Pages) (a x : ℕ) → IsGuarded pages → lacks pages (allows Write) a ≡ false → lacks pages (allows Execute) x ≡ false → page x ≢ page a
apart pages a x guarded wa xx e =
    let w = right_of (allows Write) pages a wa in
    let f = ap (λ (n : ℕ). holds (allows Execute) (rights_of pages n)) (sym e) ∙ right_of (allows Execute) pages x xx in
    by (rights_of pages (page a)) refl w f
  where
    by : (o : Option Rights) → rights_of pages (page a) ≡ o → holds (allows Write) o ≡ true → holds (allows Execute) o ≡ true → ⊥
    by None is w f = cc
    by (Some r) is w f = let g = guarded (page a) r is w in cc

guarded_byte : (pages : Pages) (a b : ℕ) → IsGuarded pages → IsGuarded (with_byte pages a b)
guarded_byte pages a b guarded q r is writes = guarded q r (sym (rights_byte pages a b q) ∙ is) writes

-- ---- many bytes

pub rights_bytes : (pages : Pages) (at : ℕ) (bytes : List ℕ) → SameRights pages (with_bytes pages at bytes)
unfolding with_bytes
rights_bytes pages at [] q = refl
rights_bytes pages at (b ∷ bytes) q = rights_bytes (with_byte pages at b) (at + 1) bytes q ∙ rights_byte pages at b q

pub guarded_bytes : (pages : Pages) (at : ℕ) (bytes : List ℕ) → IsGuarded pages → IsGuarded (with_bytes pages at bytes)
guarded_bytes pages at bytes guarded q r is writes = guarded q r (sym (rights_bytes pages at bytes q) ∙ is) writes

byte_kept : (bytes : List ℕ) (pages : Pages) (at x : ℕ) → IsGuarded pages → is_allowed Write pages at (length bytes) ≡ true → lacks pages (allows Execute) x ≡ false → byte_at (with_bytes pages at bytes) x ≡ byte_at pages x
unfolding with_bytes
byte_kept [] pages at x guarded w e = refl
byte_kept (b ∷ bytes) pages at x guarded w e =
    let f = first_allowed Write pages at (length bytes) w in
    let next : is_allowed Write (with_byte pages at b) (at + 1) (length bytes) ≡ true = allowed_same Write pages (with_byte pages at b) (at + 1) (length bytes) (rights_byte pages at b) ∙ ap (λ (n : ℕ). is_allowed Write pages n (length bytes)) (let g : at + 1 ≡ suc at = omega arith in g) ∙ f.1 in
    let ih = byte_kept bytes (with_byte pages at b) (at + 1) x (guarded_byte pages at b guarded) next (lacks_same pages (with_byte pages at b) (allows Execute) x (rights_byte pages at b) ∙ e) in
    ih ∙ ap (λ (o : Option Page). slice_index (bytes_of_page o) (x % 4096)) (get_other pages at b (page x) (apart pages at x guarded f.0 e))

bytes_kept : (n : ℕ) (bytes : List ℕ) (pages : Pages) (at pc : ℕ) → IsGuarded pages → is_allowed Write pages at (length bytes) ≡ true → is_allowed Execute pages pc n ≡ true → bytes_at (with_bytes pages at bytes) pc n ≡ bytes_at pages pc n
unfolding bytes_at
bytes_kept zero bytes pages at pc guarded w e = refl
bytes_kept (suc n) bytes pages at pc guarded w e =
    let f = first_allowed Execute pages pc n e in
    let ih = bytes_kept n bytes pages at (pc + 1) guarded w (ap (λ (k : ℕ). is_allowed Execute pages k n) (let g : pc + 1 ≡ suc pc = omega arith in g) ∙ f.1) in
    let h = byte_kept bytes pages at pc guarded w f.0 in
    cc

-- the word of code at an address stays
pub code_kept : (bytes : List ℕ) (pages : Pages) (at pc : ℕ) → IsGuarded pages → is_allowed Write pages at (length bytes) ≡ true → code_at (with_bytes pages at bytes) pc ≡ code_at pages pc
code_kept bytes pages at pc guarded w = ap (λ (b : Bool). if b then Some (number_of (bytes_at (with_bytes pages at bytes) pc 4)) else None) (allowed_same Execute pages (with_bytes pages at bytes) pc 4 (rights_bytes pages at bytes)) ∙ by (is_allowed Execute pages pc 4) refl
  where
    by : (b : Bool) → is_allowed Execute pages pc 4 ≡ b → (if b then Some (number_of (bytes_at (with_bytes pages at bytes) pc 4)) else None) ≡ (if b then Some (number_of (bytes_at pages pc 4)) else None)
    by true e = ap (λ (l : List ℕ). Some (number_of l)) (bytes_kept 4 bytes pages at pc guarded w e)
    by false e = refl
