-- Frames: places for the bytes of a page, each of which belongs to one kept page or is free.
use Rattle.std.specs.Prelude.{◌≡◌, ◌≢◌, ℕ, ◌+◌, ◌==◌, List, [], ◌∷◌, length, slice_index_or, nat_lt, if◌then◌else◌}
use Rattle.page_store.specs.Pages.{blank}

-- 1 where the two numbers are one
abbrev pub one_if : ℕ → ℕ → ℕ
one_if frame other = if frame == other then 1 else 0

-- how often a frame occurs among elements
abbrev pub times : {X : Type 0} → (X → ℕ) → ℕ → List X → ℕ
times frame_of frame [] = 0
times frame_of frame (x ∷ xs) = one_if (frame_of x) frame + times frame_of frame xs

-- 1 where there is a frame of this number
abbrev pub one_below : ℕ → ℕ → ℕ
one_below frame count = if nat_lt frame count then 1 else 0

abbrev pub itself : ℕ → ℕ
itself frame = frame

-- two lists of frames have the same bytes but for one frame
abbrev pub AgreeBut : ℕ → List (List ℕ) → List (List ℕ) → Type 0
AgreeBut frame old new = (other : ℕ) → other ≢ frame → slice_index_or new other [] ≡ slice_index_or old other []

-- a frame of zeros was taken: from the free ones, or a new one
pub record IsTaken (old_frames : List (List ℕ)) (old_count : ℕ) (old_free : List ℕ) (new_frames : List (List ℕ)) (new_count : ℕ) (new_free : List ℕ) (frame : ℕ) : Type 0 where
  pub zeros : slice_index_or new_frames frame [] ≡ blank
  pub others : AgreeBut frame old_frames new_frames
  pub owner : (f : ℕ) → times itself f new_free + one_below f old_count + one_if frame f ≡ times itself f old_free + one_below f new_count

-- each frame has the bytes of a page
abbrev pub IsWhole : List (List ℕ) → Type 0
IsWhole [] = Unit {0}
IsWhole (bytes ∷ frames) = (length bytes ≡ 4096) × IsWhole frames
