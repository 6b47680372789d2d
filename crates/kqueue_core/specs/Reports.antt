-- What a kqueue reports of its interests, and what a scan leaves of them. `R` tells which events hold of an open file now, by a
-- filter. Source: epoll_wait(2) of Linux, kqueue(2) of FreeBSD; that both knotes of an interest make one event, and that what is
-- reported goes to the end of the order, is this project's own.
use Rattle.std.specs.Prelude.{ℕ, ◌-◌, ◌==◌, Bool, ◌&&◌, nat_lt, bit_and, bit_or, if◌then◌else◌, List, [], ◌∷◌, ◌++◌, map, filter, take, Option, Some, None, slice_get}
use Rattle.std.proofs.Math.Bool.{not}
use Rattle.std.specs.Option.{option_map}
use Rattle.linux_abi.specs.EpollBits.{wanted}
use Rattle.kqueue_core.specs.declared.knotes.Filter.{Filter}
use Rattle.kqueue_core.specs.declared.knotes.Filter.TheVariants.{Read, Write}
use Rattle.kqueue_core.specs.declared.knotes.Event.{Event}
use Rattle.kqueue_core.specs.declared.knotes.Ident.{Ident}
use Rattle.kqueue_core.specs.declared.knotes.Knote.{Knote}
use Rattle.kqueue_core.specs.declared.knotes.Watch.{Watch}
use Rattle.kqueue_core.specs.Watches.{ident_of, is_watched, told_watch, user_of}

-- the bits of a knote: those that hold of its file and are asked for, EPOLLERR or EPOLLHUP
abbrev pub knote_bits : (ℕ → Filter → ℕ) → ℕ → Filter → Option Knote → ℕ
knote_bits R file f None = 0
knote_bits R file f (Some k) = bit_and (R file f) (wanted k.asked)

-- the bits of an interest: those of its knotes together
abbrev pub watch_bits : (ℕ → Filter → ℕ) → Watch → ℕ
watch_bits R w = bit_or (knote_bits R w.file Read w.read) (knote_bits R w.file Write w.write)

-- an interest is reported where it has some bits and a knote that is enabled and active
abbrev pub is_reported : (ℕ → Filter → ℕ) → Watch → Bool
is_reported R w = not (watch_bits R w == 0) && is_watched w

-- the event of an interest
abbrev pub event_of : (ℕ → Filter → ℕ) → Watch → Event
event_of R w = record { bits = watch_bits R w; user = user_of w }

-- a list without the first `n` that pass a test
abbrev pub without_first : {X : Type 0} → (X → Bool) → ℕ → List X → List X
without_first p n [] = []
without_first p n (x ∷ xs) = if nat_lt 0 n && p x then without_first p (n - 1) xs else (x ∷ without_first p n xs)

-- a scan reports the first `most` interests that are reported, or all where there are fewer
abbrev pub reports : (ℕ → Filter → ℕ) → ℕ → List Watch → List Watch
reports R most ws = take most (filter (is_reported R) ws)

-- the interests after a scan: the others in their order, and at the end those that it reported
abbrev pub scanned : (ℕ → Filter → ℕ) → ℕ → List Watch → List Watch
scanned R most ws = without_first (is_reported R) most ws ++ map told_watch (reports R most ws)

-- the name of the interest that a scan without a bound reports at a place, counted from 0
abbrev pub pick_of : (ℕ → Filter → ℕ) → ℕ → List Watch → Option Ident
pick_of R at ws = option_map ident_of (slice_get (filter (is_reported R) ws) at)
