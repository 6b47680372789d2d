-- One interest: its name, which is an open file and the descriptor for which it was added, and its two knotes.
-- Source: kqueue(2) of FreeBSD, epoll(7) of Linux; that an interest has two knotes of one name is this project's own.
use Rattle.std.specs.Prelude.{ℕ, ◌==◌, Bool, ◌&&◌, ◌||◌, if◌then◌else◌, Option, Some, None, is_some}
use Rattle.kqueue_core.specs.declared.knotes.Filter.{Filter}
use Rattle.kqueue_core.specs.declared.knotes.Filter.TheVariants.{Read, Write}
use Rattle.kqueue_core.specs.declared.knotes.Ident.{Ident}
use Rattle.kqueue_core.specs.declared.knotes.Knote.{Knote}
use Rattle.kqueue_core.specs.declared.knotes.Watch.{Watch}
use Rattle.kqueue_core.specs.Knotes.{remade, awake, is_on, told_knote}

-- its name
abbrev pub ident_of : Watch → Ident
ident_of w = record { file = w.file; fd = w.descriptor }

-- it has this name
abbrev pub is_of : ℕ → ℕ → Watch → Bool
is_of file descriptor w = (w.file == file) && (w.descriptor == descriptor)

-- its knote of a filter
abbrev pub knote_at : Filter → Watch → Option Knote
knote_at Read w = w.read
knote_at Write w = w.write

-- the interest with this knote of a filter, or without one
abbrev pub with_knote : Filter → Option Knote → Watch → Watch
with_knote Read k w = record w { read = k }
with_knote Write k w = record w { write = k }

-- it has a knote
abbrev pub has_knote : Watch → Bool
has_knote w = is_some w.read || is_some w.write

-- a new interest with one knote
abbrev pub fresh : ℕ → ℕ → Filter → Knote → Watch
fresh file descriptor filter k = with_knote filter (Some k) (record { file = file; descriptor = descriptor; read = None; write = None })

-- what a change of the knote of a name and a filter leaves
abbrev pub changed_watch : ℕ → ℕ → Filter → ℕ → ℕ → ℕ → Bool → Watch → Watch
changed_watch file descriptor filter flags asked user ready w =
    if is_of file descriptor w then with_knote filter (remade flags asked user ready (knote_at filter w)) w else w

-- its knote of a filter is active
abbrev pub activated_watch : Filter → Watch → Watch
activated_watch Read w = record w { read = awake w.read }
activated_watch Write w = record w { write = awake w.write }

-- it has a knote that is enabled and active
abbrev pub is_watched : Watch → Bool
is_watched w = is_on w.read || is_on w.write

-- what a report leaves of it
abbrev pub told_watch : Watch → Watch
told_watch w = record w { read = told_knote w.read; write = told_knote w.write }

-- the word that its event has: that of its Read knote, or of its Write knote where it has no Read knote
abbrev pub user_by : Option Knote → Option Knote → ℕ
user_by (Some r) k = r.user
user_by None (Some k) = k.user
user_by None None = 0

abbrev pub user_of : Watch → ℕ
user_of w = user_by w.read w.write
