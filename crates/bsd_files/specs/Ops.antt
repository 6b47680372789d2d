-- What an event of an open file does to the queues, read off the files alone. Source: kqueue(2) of FreeBSD, epoll(7) of Linux.
use Rattle.std.specs.Prelude.{ℕ, ◌==◌, Bool, true, ◌&&◌, nat_le, if◌then◌else◌, List, [], ◌∷◌, map, Option, Some, None}
use Rattle.std.proofs.Math.Bool.{not}
use Rattle.std.specs.List.{list_all, list_any}
use Rattle.std.specs.Option.{option_map}
use Rattle.kqueue_core.specs.Changes.{activated_by, without_file}
use Rattle.kqueue_core.specs.Queues.{Queue}
use Rattle.kqueue_core.specs.declared.knotes.Filter.{Filter}
use Rattle.kqueue_core.specs.declared.knotes.Filter.TheVariants.{Read, Write}
use Rattle.lx_machine.specs.Files.{held_once_less, names}
use Rattle.lx_machine.specs.Interests.{is_open_of}
use Rattle.lx_machine.specs.Lists.{at_place, with_place, without_place}
use Rattle.lx_machine.specs.declared.files.Descriptor.{Descriptor}
use Rattle.lx_machine.specs.declared.files.FileKind.{FileKind}
use Rattle.lx_machine.specs.declared.files.Files.{Files}
use Rattle.lx_machine.specs.declared.files.OpenFile.{OpenFile}
use Rattle.lx_machine.specs.declared.label.LxSide.{LxSide}
use Rattle.lx_machine.specs.declared.files.FileKind.TheVariants as kind

-- whether the open file of a number is this
abbrev pub is_this : FileKind → List (Option OpenFile) → ℕ → Bool
is_this k files file = is_open_of k (at_place files file)

-- a queue after the knotes of the open files that pass a test became active
abbrev pub active_after : (ℕ → Bool) → Filter → Queue → Queue
active_after p f q = record q { watches = activated_by p f q.watches }

-- of those that are this
abbrev pub activated_for : FileKind → Filter → List (Option OpenFile) → Queue → Queue
activated_for k f files q = active_after (is_this k files) f q

-- a queue has no interest in an open file past this number
abbrev pub is_below : ℕ → Option Queue → Bool
is_below last None = true
is_below last (Some q) = list_all (λ w. nat_le w.file last) q.watches

-- a queue after `drop_file`
abbrev pub left_by : ℕ → Queue → Queue
left_by file q = record q { watches = without_file file q.watches }

-- what may happen to all queues: the knotes of the open files that are this become active; an open file has ended; the queue of
-- this number has ended
pub data Op : Type 0 where
  Arm : FileKind → Filter → List (Option OpenFile) → Op
  Leave : ℕ → Op
  End : ℕ → Op

abbrev pub in_queues : Op → List (Option Queue) → List (Option Queue)
in_queues (Arm k f files) qs = map (option_map (activated_for k f files)) qs
in_queues (Leave file) qs = map (option_map (left_by file)) qs
in_queues (End n) qs = without_place qs n

-- one after the other
abbrev pub each_queue : List Op → List (Option Queue) → List (Option Queue)
each_queue [] qs = qs
each_queue (o ∷ os) qs = each_queue os (in_queues o qs)

-- ---- the end of an open file

-- what the end of an open file of this kind does besides: the knotes of the other end of a pipe become active, a queue ends
abbrev pub end_ops : FileKind → List (Option OpenFile) → List Op
end_ops (kind.PipeRead p) files = Arm (kind.PipeWrite p) Write files ∷ []
end_ops (kind.PipeWrite p) files = Arm (kind.PipeRead p) Read files ∷ []
end_ops (kind.Epoll n) files = End n ∷ []
end_ops (kind.Counter n) files = []
end_ops kind.Input files = []
end_ops (kind.Console which) files = []

-- no descriptor and no hold names it
abbrev pub is_free : List (Option Descriptor) → ℕ → OpenFile → Bool
is_free ds file f = (f.holds == 0) && not (list_any (names file) ds)

-- an open file ends where nothing names it any more, and its knotes with it
abbrev pub settle_ops_of : List (Option Descriptor) → List (Option OpenFile) → ℕ → Option OpenFile → List Op
settle_ops_of ds files file None = []
settle_ops_of ds files file (Some f) = if is_free ds file f then (Leave file ∷ end_ops f.kind (without_place files file)) else []

abbrev pub settle_ops : List (Option Descriptor) → List (Option OpenFile) → ℕ → List Op
settle_ops ds files file = settle_ops_of ds files file (at_place files file)

-- a hold is given back
abbrev pub give_ops_of : List (Option Descriptor) → List (Option OpenFile) → ℕ → Option OpenFile → List Op
give_ops_of ds files file None = []
give_ops_of ds files file (Some f) = settle_ops ds (with_place files file (held_once_less f)) file

abbrev pub give_ops : Files → ℕ → List Op
give_ops F file = give_ops_of F.descriptors F.files file (at_place F.files file)

-- a descriptor is closed
abbrev pub close_ops_of : Files → ℕ → Option Descriptor → List Op
close_ops_of F number None = []
close_ops_of F number (Some d) = settle_ops (without_place F.descriptors number) F.files d.file

abbrev pub close_ops : Files → ℕ → List Op
close_ops F number = close_ops_of F number (at_place F.descriptors number)

-- a console room is drained
abbrev pub drain_ops : Files → LxSide → List Op
drain_ops F which = Arm (kind.Console which) Write F.files ∷ []
