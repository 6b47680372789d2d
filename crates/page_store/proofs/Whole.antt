-- Frames that have the bytes of a page each, and the pages in them.
use Rattle.std.proofs.Common.{◌≡◌, ℕ, zero, suc, ◌<◌, ◌⊎◌, inl, inr, Bool, true, false, cond, List, [], ◌∷◌, ◌++◌, length, get_or, set, Some, Option, sym, ap, ◌∙◌, arith}
use Rattle.std.specs.Ordering.{nat_cmp, is_eq}
use Rattle.std.specs.FinMap.{find}
use Rattle.sorted_entries.specs.Entries.{entries_of}
use Rattle.page_store.specs.declared.kept_row.Kept.{Kept}
use Rattle.page_store.specs.Pages.{Page}
use Rattle.page_store.specs.Frames.{IsWhole}
use Rattle.page_store.specs.Kept.{number_of, frame_of, page_in}

pub whole-set : (frames : List (List ℕ)) (i : ℕ) (bytes : List ℕ) → IsWhole frames → length bytes ≡ 4096 → IsWhole (set frames i bytes)
whole-set [] i bytes whole is = whole
whole-set (x ∷ xs) zero bytes whole is = (is, whole.1)
whole-set (x ∷ xs) (suc i) bytes whole is = (whole.0, whole-set xs i bytes whole.1 is)

pub whole-push : (frames : List (List ℕ)) (bytes : List ℕ) → IsWhole frames → length bytes ≡ 4096 → IsWhole (frames ++ bytes ∷ [])
whole-push [] bytes whole is = (is, whole)
whole-push (x ∷ xs) bytes whole is = (whole.0, whole-push xs bytes whole.1 is)

pub whole-at : (frames : List (List ℕ)) (f : ℕ) → f < length frames → IsWhole frames → length (get_or frames f []) ≡ 4096
whole-at [] f lt whole = absurd (omega arith)
whole-at (x ∷ xs) zero lt whole = whole.0
whole-at (x ∷ xs) (suc f) lt whole = whole-at xs f (omega arith) whole.1

either : (here : Bool) (one page : Page) (rest : Option Page) → cond here (Some one) rest ≡ Some page → (one ≡ page) ⊎ (rest ≡ Some page)
either true one page rest is = inl (cc)
either false one page rest is = inr is

-- a page that is found has the bytes of its frame
pub find_whole : (frames : List (List ℕ)) (ks : List Kept) (n : ℕ) (page : Page) → IsWhole frames → ((i : ℕ) (d : Kept) → i < length ks → frame_of (get_or ks i d) < length frames) → find nat_cmp n (entries_of number_of (page_in frames) ks) ≡ Some page → length page.bytes ≡ 4096
find_whole frames [] n page whole inside is = absurd (cc)
find_whole frames (k ∷ ks) n page whole inside is = elim (either (is_eq (nat_cmp n k.page)) (page_in frames k) page (find nat_cmp n (entries_of number_of (page_in frames) ks)) is) as (λ _. length page.bytes ≡ 4096) [
  | inl same ↦ ap (λ (p : Page). length p.bytes) (sym same) ∙ whole-at frames k.frame (inside 0 k (omega arith)) whole
  | inr rest ↦ find_whole frames ks n page whole (λ i d lt. inside (suc i) d (omega arith)) rest
]
