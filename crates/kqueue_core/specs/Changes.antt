-- The interests of a kqueue: what refuses a change, what a change leaves, and which are active or gone after an event of
-- their file. Source: kqueue(2) of FreeBSD; the room for 512 interests is this project's own.
use Rattle.std.specs.Prelude.{◌≡◌, ℕ, ◌+◌, ◌≤◌, ◌==◌, Bool, true, false, ◌&&◌, ◌||◌, nat_le, if◌then◌else◌, List, [], ◌∷◌, ◌++◌, length, map, filter, Option, Some, None, is_some}
use Rattle.std.proofs.Math.Bool.{not}
use Rattle.std.specs.List.{list_any}
use Rattle.kqueue_core.specs.declared.knotes.Filter.{Filter}
use Rattle.kqueue_core.specs.declared.knotes.ChangeFault.{ChangeFault}
use Rattle.kqueue_core.specs.declared.knotes.ChangeFault.TheVariants.{Exists, Missing, Full}
use Rattle.kqueue_core.specs.declared.knotes.Watch.{Watch}
use Rattle.kqueue_core.specs.Knotes.{adds, made}
use Rattle.kqueue_core.specs.Watches.{is_of, knote_at, has_knote, fresh, changed_watch, activated_watch}

-- how many of a list pass a test
abbrev pub tally : {X : Type 0} → (X → Bool) → List X → ℕ
tally p [] = 0
tally p (x ∷ xs) = (if p x then 1 else 0) + tally p xs

-- no two interests have one name, each has a knote, and there are at most 512
pub record IsWatches (ws : List Watch) : Type 0 where
  pub once : (file descriptor : ℕ) → tally (is_of file descriptor) ws ≤ 1
  pub whole : tally (λ w. not (has_knote w)) ws ≤ 0
  pub few : length ws ≤ 512

-- ---- change

-- an interest of this name stands
abbrev pub is_named : ℕ → ℕ → List Watch → Bool
is_named file descriptor ws = list_any (is_of file descriptor) ws

-- it is the interest of this name, and its knote of this filter stands
abbrev pub has_filter : ℕ → ℕ → Filter → Watch → Bool
has_filter file descriptor filter w = is_of file descriptor w && is_some (knote_at filter w)

-- why a change of the knote of a name and a filter is refused: an add of one that stands, an add of a new name where 512 stand,
-- any other change of one that doesn't stand
abbrev pub change_fault : ℕ → ℕ → Filter → ℕ → List Watch → Option ChangeFault
change_fault file descriptor filter flags ws =
    let stood = list_any (has_filter file descriptor filter) ws in
    if adds flags then (
    if stood then Some Exists else (
    if not (is_named file descriptor ws) && nat_le 512 (length ws) then Some Full else None))
    else (if stood then None else Some Missing)

-- it is of another name, or has a knote left
abbrev pub stays : ℕ → ℕ → Watch → Bool
stays file descriptor w = not (is_of file descriptor w) || has_knote w

-- the interests after a change that isn't refused: a new name stands last, and a name without knotes is gone
abbrev pub changed_by : ℕ → ℕ → Filter → ℕ → ℕ → ℕ → Bool → List Watch → List Watch
changed_by file descriptor filter flags asked user ready ws =
    if adds flags && not (is_named file descriptor ws) then ws ++ fresh file descriptor filter (made flags asked user ready true) ∷ []
    else Rattle.std.specs.Prelude.filter (stays file descriptor) (map (changed_watch file descriptor filter flags asked user ready) ws)

-- ---- events of a file

-- an interest, its knote of this filter active where its file passes the test
abbrev pub activated_where : (ℕ → Bool) → Filter → Watch → Watch
activated_where p filter w = if p w.file then activated_watch filter w else w

-- the interests after an event of the files that pass a test
abbrev pub activated_by : (ℕ → Bool) → Filter → List Watch → List Watch
activated_by p filter ws = map (activated_where p filter) ws

-- the interests after `activate`
abbrev pub activated : ℕ → Filter → List Watch → List Watch
activated file filter ws = activated_by (λ i. i == file) filter ws

abbrev pub is_apart_from : ℕ → Watch → Bool
is_apart_from file w = not (w.file == file)

-- the interests after `drop_file`
abbrev pub without_file : ℕ → List Watch → List Watch
without_file file ws = filter (is_apart_from file) ws
