-- Two knotes that stand for one interest of epoll: both with its events and its word, EV_CLEAR exactly where it has EPOLLET, and
-- EV_DISPATCH exactly where it has EPOLLONESHOT. Source: epoll_ctl(2) of Linux, kqueue(2) of FreeBSD; the pairs are this project's
-- own.
use Rattle.std.specs.Prelude.{ℕ, ◌+◌, ◌*◌, ◌/◌, ◌%◌, ◌^◌, ◌==◌, Bool, true, false, ◌&&◌, ◌||◌, Option, Some, None}
use Rattle.std.proofs.Math.Bool.{not}
use Rattle.std.specs.Int.{from_bool}
use Rattle.kqueue_core.specs.declared.knotes.Filter.{Filter}
use Rattle.kqueue_core.specs.declared.knotes.Knote.{Knote}
use Rattle.kqueue_core.specs.declared.knotes.Watch.{Watch}
use Rattle.kqueue_core.specs.Reports.{watch_bits}

-- two tests that agree
abbrev pub same : Bool → Bool → Bool
same true b = b
same false b = not b

-- EPOLLET and EPOLLONESHOT among the events that are asked for
abbrev pub edge_bit : ℕ → Bool
edge_bit asked = asked / 2 ^ 31 % 2 == 1

abbrev pub one_shot_bit : ℕ → Bool
one_shot_bit asked = asked / 2 ^ 30 % 2 == 1

-- the flags of a change for an interest: EV_CLEAR and EV_DISPATCH
abbrev pub kept_flags : ℕ → ℕ
kept_flags asked = from_bool (edge_bit asked) * 0x20 + from_bool (one_shot_bit asked) * 0x80

-- a knote of an interest
abbrev pub knote_of : ℕ → ℕ → Bool → Bool → Knote
knote_of asked user enabled active = record { asked = asked; user = user; clear = edge_bit asked; dispatch = one_shot_bit asked; enabled = enabled; active = active }

-- both knotes are of one interest; which of them is active may differ
abbrev pub is_pair : Knote → Knote → Bool
is_pair r k = (r.asked == k.asked) && (r.user == k.user) && same r.enabled k.enabled
    && same r.clear (edge_bit r.asked) && same k.clear (edge_bit r.asked) && same r.dispatch (one_shot_bit r.asked) && same k.dispatch (one_shot_bit r.asked)

abbrev pub is_active : Option Knote → Bool
is_active None = false
is_active (Some k) = k.active

abbrev pub is_level : Option Knote → Bool
is_level None = false
is_level (Some k) = not k.clear

-- an interest without EV_CLEAR has bits while no knote of its is active: no scan would ever find it
abbrev pub is_lost : (ℕ → Filter → ℕ) → Watch → Bool
is_lost R w = not (watch_bits R w == 0) && (not (is_active w.read || is_active w.write) && is_level w.read)
