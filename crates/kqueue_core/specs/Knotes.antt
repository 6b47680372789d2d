-- One knote: what a change makes of it, and what a report leaves. Source: kqueue(2) of FreeBSD. That EV_ADD refuses a knote
-- that stands, and which of two flags counts, is this project's own.
use Rattle.std.specs.Prelude.{ℕ, ℤ, negsuc, ◌/◌, ◌%◌, ◌==◌, Bool, true, false, ◌&&◌, ◌||◌, if◌then◌else◌, Option, Some, None}
use Rattle.std.proofs.Math.Bool.{not}
use Rattle.std.specs.Option.{option_map}
use Rattle.kqueue_core.specs.declared.knotes.Filter.{Filter}
use Rattle.kqueue_core.specs.declared.knotes.Filter.TheVariants.{Read, Write}
use Rattle.kqueue_core.specs.declared.knotes.Knote.{Knote}

-- EVFILT_READ is -1, and EVFILT_WRITE is -2
abbrev pub filter_number : Filter → ℤ
filter_number Read = negsuc 0
filter_number Write = negsuc 1

-- the events that a knote of a filter tells of: EPOLLIN 1 and EPOLLHUP 16, or EPOLLOUT 4 and EPOLLERR 8
abbrev pub filter_events : Filter → ℕ
filter_events Read = 17
filter_events Write = 12

-- ---- flags: EV_ADD 1, EV_DELETE 2, EV_ENABLE 4, EV_DISABLE 8, EV_CLEAR 0x20, EV_DISPATCH 0x80

abbrev pub has_flag : ℕ → ℕ → Bool
has_flag flags flag = flags / flag % 2 == 1

abbrev pub adds : ℕ → Bool
adds flags = has_flag flags 1

-- EV_DELETE counts where EV_ADD isn't beside it
abbrev pub deletes : ℕ → Bool
deletes flags = has_flag flags 2 && not (adds flags)

-- whether a knote is enabled after a change: EV_DISABLE counts alone, EV_ENABLE enables, and else it is as it was
abbrev pub enabled_by : ℕ → Bool → Bool
enabled_by flags was = (was || has_flag flags 4) && not (has_flag flags 8)

-- ---- a change

-- the knote that a change makes of one that was enabled so; it is active exactly where its file is ready
abbrev pub made : ℕ → ℕ → ℕ → Bool → Bool → Knote
made flags asked user ready was = record {
  asked = asked;
  user = user;
  clear = has_flag flags 0x20;
  dispatch = has_flag flags 0x80;
  enabled = enabled_by flags was;
  active = ready;
}

-- a new knote is enabled unless the change disables it, and a delete takes a standing one out
abbrev pub remade : ℕ → ℕ → ℕ → Bool → Option Knote → Option Knote
remade flags asked user ready None = Some (made flags asked user ready true)
remade flags asked user ready (Some k) = if deletes flags then None else Some (made flags asked user ready k.enabled)

-- ---- activity and reports

-- a knote, active
abbrev pub awake : Option Knote → Option Knote
awake o = option_map {T = Knote} {U = Knote} (λ k. record k { active = true }) o

-- a knote stands that is enabled and active
abbrev pub is_on : Option Knote → Bool
is_on None = false
is_on (Some k) = k.enabled && k.active

-- a report ends the activity of a knote with EV_CLEAR, and disables one with EV_DISPATCH
abbrev pub told_knote : Option Knote → Option Knote
told_knote o = option_map {T = Knote} {U = Knote} (λ k. record k { active = k.active && not k.clear; enabled = k.enabled && not k.dispatch }) o
