-- Marks that lie between two granules.
use Rattle.std.proofs.Common.{◌≡◌, ℕ, zero, suc, ◌<◌, ◌≤◌, ◌⊎◌, inl, inr, List, [], ◌∷◌, map, set, get_or, replicate, Option, Some, None, refl, ap, ◌∙◌, arith}
use Rattle.std.proofs.lemmas.List.{set-get_or}
use Rattle.std.proofs.lemmas.Bool.Decides.{nat_tests}
use Rattle.guest_mem.specs.MarkRules.{mark_after, marks_after, mark_off}
use Rattle.guest_mem.specs.MarkRules.{IsWithin}

tail_within : (m : Option ℕ) (ms : List (Option ℕ)) (low high : ℕ) → IsWithin (m ∷ ms) low high → IsWithin ms low high
tail_within m ms low high within k g is = within (suc k) g is

-- a mark that is not among the granules from f to l stays
stays : (m : Option ℕ) (f l low high : ℕ) → ((g : ℕ) → m ≡ Some g → (low ≤ g) × (g ≤ high)) → (l < low) ⊎ (high < f) → mark_after f l m ≡ m
stays None f l low high within apart = refl
stays (Some g) f l low high within (inl below) = let h = within g refl in grind (arith, nat_tests)
stays (Some g) f l low high within (inr above) = let h = within g refl in grind (arith, nat_tests)

all_stay : (ms : List (Option ℕ)) (f l low high : ℕ) → IsWithin ms low high → (l < low) ⊎ (high < f) → map (mark_after f l) ms ≡ ms
all_stay [] f l low high within apart = refl
all_stay (m ∷ ms) f l low high within apart = λ i. stays m f l low high (λ g is. within 0 g is) apart i ∷ all_stay ms f l low high (tail_within m ms low high within) apart i

pub marks_stay : (ms : List (Option ℕ)) (slot f l low high : ℕ) → IsWithin ms low high → (l < low) ⊎ (high < f) → marks_after ms slot f l ≡ ms
marks_stay ms slot f l low high within apart = ap (λ xs. set xs slot (get_or ms slot None)) (all_stay ms f l low high within apart) ∙ set-get_or ms slot None

was : (f l g : ℕ) (m : Option ℕ) → mark_after f l m ≡ Some g → m ≡ Some g
was f l g None is = is
was f l g (Some h) is = grind (arith, nat_tests)

pub within-map : (ms : List (Option ℕ)) (f l low high : ℕ) → IsWithin ms low high → IsWithin (map (mark_after f l) ms) low high
within-map [] f l low high within k g is = within k g is
within-map (m ∷ ms) f l low high within zero g is = within 0 g (was f l g m is)
within-map (m ∷ ms) f l low high within (suc k) g is = within-map ms f l low high (tail_within m ms low high within) k g is

pub within-set : (ms : List (Option ℕ)) (slot : ℕ) (v : Option ℕ) (low high : ℕ) → IsWithin ms low high → ((g : ℕ) → v ≡ Some g → (low ≤ g) × (g ≤ high)) → IsWithin (set ms slot v) low high
within-set [] slot v low high within here k g is = within k g is
within-set (m ∷ ms) zero v low high within here zero g is = here g is
within-set (m ∷ ms) zero v low high within here (suc k) g is = within (suc k) g is
within-set (m ∷ ms) (suc slot) v low high within here zero g is = within 0 g is
within-set (m ∷ ms) (suc slot) v low high within here (suc k) g is = within-set ms slot v low high (tail_within m ms low high within) here k g is

pub none_within : (n low high : ℕ) → IsWithin (replicate n None) low high
none_within zero low high k g is = absurd (cc)
none_within (suc n) low high zero g is = absurd (cc)
none_within (suc n) low high (suc k) g is = none_within n low high k g is

was_on : (page g : ℕ) (m : Option ℕ) → mark_off page m ≡ Some g → m ≡ Some g
was_on page g None is = is
was_on page g (Some h) is = grind (arith, nat_tests)

pub within-off : (ms : List (Option ℕ)) (page low high : ℕ) → IsWithin ms low high → IsWithin (map (mark_off page) ms) low high
within-off [] page low high within k g is = within k g is
within-off (m ∷ ms) page low high within zero g is = within 0 g (was_on page g m is)
within-off (m ∷ ms) page low high within (suc k) g is = within-off ms page low high (tail_within m ms low high within) k g is

-- a span that has grown has what it had
pub within-wider : (ms : List (Option ℕ)) (low high new_low new_high : ℕ) → IsWithin ms low high → new_low ≤ low → high ≤ new_high → IsWithin ms new_low new_high
within-wider ms low high new_low new_high within lower higher k g is =
    let old = within k g is in
    (omega (arith, old.0), omega (arith, old.1))
