-- What a store leaves of marks.
use Rattle.std.proofs.Common.{◌≡◌, ◌≢◌, ℕ, zero, suc, ◌/◌, Bool, ◌&&◌, not, ◌==◌, List, [], ◌∷◌, map, set, get_or, nat_le, Option, Some, None, refl, sym, ◌∙◌, arith, get_or-set_other}
use Rattle.std.proofs.lemmas.Bool.Decides.{nat_tests}
use Rattle.guest_mem.specs.MarkRules.{mark_after, marks_after, mark_off}
use Rattle.shards_stand.specs.Kept.{is_mark}

pub get-map : (ms : List (Option ℕ)) (F : Option ℕ → Option ℕ) (s : ℕ) → F None ≡ None → get_or (map F ms) s None ≡ F (get_or ms s None)
get-map [] F s none = sym none
get-map (m ∷ ms) F zero none = refl
get-map (m ∷ ms) F (suc s) none = get-map ms F s none

own : (ms : List (Option ℕ)) (F : Option ℕ → Option ℕ) (slot : ℕ) → get_or (set (map F ms) slot (get_or ms slot None)) slot None ≡ get_or ms slot None
own [] F slot = refl
own (m ∷ ms) F zero = refl
own (m ∷ ms) F (suc slot) = own ms F slot

pub after-own : (ms : List (Option ℕ)) (slot first last : ℕ) → get_or (marks_after ms slot first last) slot None ≡ get_or ms slot None
after-own ms slot first last = own ms (mark_after first last) slot

pub after-other : (ms : List (Option ℕ)) (slot first last s : ℕ) → s ≢ slot → get_or (marks_after ms slot first last) s None ≡ mark_after first last (get_or ms s None)
after-other ms slot first last s other =
    get_or-set_other (map (mark_after first last) ms) slot s (get_or ms slot None) None other ∙ get-map ms (mark_after first last) s refl

-- the granule lies in a range of granules
abbrev pub inside : ℕ → ℕ → ℕ → Bool
inside first last g = nat_le first g && nat_le g last

pub is_mark-after : (m : Option ℕ) (first last g : ℕ) → is_mark (mark_after first last m) g ≡ (is_mark m g && not (inside first last g))
is_mark-after None first last g = refl
is_mark-after (Some k) first last g = grind (arith, nat_tests)

pub is_mark-off : (m : Option ℕ) (page g : ℕ) → is_mark (mark_off page m) g ≡ (is_mark m g && not (g / 256 == page))
is_mark-off None page g = refl
is_mark-off (Some k) page g = grind (arith, nat_tests)
