-- The open files in which there may be interests: a bound of their numbers, and a flag for each of the first 384. This project's own.
use Rattle.std.specs.Prelude.{◌≤◌, ℕ, Bool, true, false, ◌&&◌, List, max, nat_le, replicate, slice_index_or, slice_set}
use Rattle.std.proofs.Math.Bool.{not}
use Rattle.kqueue_core.specs.declared.knotes.Watch.{Watch}
use Rattle.kqueue_core.specs.declared.watched.Watched.{Watched}
use Rattle.kqueue_core.specs.Changes.{tally}

abbrev pub nothing : Watched
nothing = record { flags = replicate 384 false; last = 0 }

-- there may be an interest in this file; of one without a flag only the bound tells
abbrev pub is_maybe : Watched → ℕ → Bool
is_maybe s file = nat_le file s.last && slice_index_or s.flags file true

-- in this file too
abbrev pub noted : Watched → ℕ → Watched
noted s file = record { flags = slice_set s.flags file true; last = max s.last file }

-- in this file no more
abbrev pub forgotten : Watched → ℕ → Watched
forgotten s file = record s { flags = slice_set s.flags file false }

-- an interest that was not to be
abbrev pub is_amiss : Watched → Watch → Bool
is_amiss s w = not (is_maybe s w.file)

-- each interest is in such a file
abbrev pub Covers : Watched → List Watch → Type 0
Covers s ws = tally (is_amiss s) ws ≤ 0
