-- Ready, Due and Answer. An interest is named by its open file and the descriptor for which it was added. Source: epoll(7).
use Rattle.std.proofs.Math.Bool.{not}
use Rattle.std.specs.List.{find, flat_map, list_all, list_any}
use Rattle.std.specs.Option.{option_map}
use Rattle.std.specs.Prelude.{Bool, List, None, Option, Some, [], bit_and, false, length, nat_le, nat_lt, slice_set, ℕ, ◌&&◌, ◌++◌, ◌==◌, ◌||◌}
use Rattle.linux_abi.specs.EpollBits.{is_edge, wanted}
use Rattle.lx_machine.specs.Files.{has_reader, has_writer, held_in}
use Rattle.lx_machine.specs.Interests.{has_name_of, is_named, is_picked, side_holds}
use Rattle.lx_machine.specs.Lists.{at_place, bind, differ}
use Rattle.lx_machine.specs.declared.files.Counter.{Counter}
use Rattle.lx_machine.specs.declared.files.FileKind.{FileKind}
use Rattle.lx_machine.specs.declared.files.Files.{Files}
use Rattle.lx_machine.specs.declared.files.Interest.{Interest}
use Rattle.lx_machine.specs.declared.files.OpenFile.{OpenFile}
use Rattle.lx_machine.specs.declared.label.Pick.{Pick}
use Rattle.places.specs.Places.{bytes_of}
use Rattle.ready_bits.specs.Ready.{console_events, counter_events, input_events, read_end_events, write_end_events}
use Rattle.lx_machine.specs.declared.files.FileKind.TheVariants as kind

-- ---- Ready

-- what holds of a counter now, and nothing where there is none
abbrev pub ready_counter : Option Counter → ℕ
ready_counter None = 0
ready_counter (Some n) = counter_events n.value

-- what a pipe holds
abbrev pub pipe_holds : Files → ℕ → List ℕ
pipe_holds F p = held_in (at_place F.pipes p)

-- the events that hold of an open file now, as bits
abbrev pub ready : Files → FileKind → ℕ
ready F kind.Input = input_events (length F.input)
ready F (kind.PipeRead p) = read_end_events (length (pipe_holds F p)) (has_writer F p)
ready F (kind.PipeWrite p) = write_end_events (length (pipe_holds F p)) (has_reader F p)
ready F (kind.Console which) = console_events (length (side_holds F which))
ready F (kind.Counter n) = ready_counter (at_place F.counters n)
ready F (kind.Epoll n) = 0

abbrev pub ready_at : Files → Option OpenFile → ℕ
ready_at F None = 0
ready_at F (Some f) = ready F f.kind

-- ---- Due

-- the bits that are reported of an open file, where these are asked for
abbrev pub told : Files → ℕ → ℕ → ℕ
told F file asked = bit_and (ready_at F (at_place F.files file)) (wanted asked)

abbrev pub reported : Files → Interest → ℕ
reported F i = told F i.file i.asked

-- the interest is enabled, has something to report, and is armed where it is an edge
abbrev pub is_due : Files → Interest → Bool
is_due F i = i.enabled && (i.armed || not (is_edge i.asked)) && not (reported F i == 0)

-- ---- Answer

-- the interest of this name
abbrev pub named : List Interest → Pick → Option Interest
named is p = find (is_named p.file p.descriptor) is

abbrev pub is_due_interest : Files → Option Interest → Bool
is_due_interest F None = false
is_due_interest F (Some i) = is_due F i

-- each pick names a due interest
abbrev pub are_due : Files → List Interest → List Pick → Bool
are_due F is picks = list_all (λ p. is_due_interest F (named is p)) picks

-- no interest is picked twice
abbrev pub is_same : Pick → Pick → Bool
is_same p q = (p.file == q.file) && (p.descriptor == q.descriptor)

abbrev pub are_distinct : List Pick → Bool
are_distinct picks = differ is_same picks

-- an interest that is due and isn't picked
abbrev pub is_left : Files → List Pick → Interest → Bool
is_left F picks i = is_due F i && not (is_picked picks i)

-- an answer of an epoll: some due interests, none twice, at most so many, and where fewer than that, all of them
abbrev pub is_answer : Files → List Interest → ℕ → List Pick → Bool
is_answer F is most picks =
    nat_lt 0 (length picks) && nat_le (length picks) most && are_distinct picks && are_due F is picks &&
    ((length picks == most) || not (list_any (is_left F picks) is))

-- the event of an interest: its bits, 4 bytes that aren't used, and its data
abbrev pub event_of : Files → Option Interest → List ℕ
event_of F None = []
event_of F (Some i) = bytes_of (reported F i) 4 ++ bytes_of 0 4 ++ bytes_of i.«data» 8

abbrev pub events : Files → List Interest → List Pick → List ℕ
events F is picks = flat_map (λ p. event_of F (named is p)) picks

-- ---- epoll_ctl

-- what an open file is that a descriptor names
abbrev pub kind_of : Files → ℕ → Option FileKind
kind_of F fd = bind (at_place F.descriptors fd) (λ d. bind (at_place F.files d.file) (λ f. Some f.kind))

abbrev pub epoll_number : FileKind → Option ℕ
epoll_number (kind.Epoll n) = Some n
epoll_number _ = None

-- the interests of an epoll, and none where there is no such epoll
abbrev pub interests_in : Option (List Interest) → List Interest
interests_in None = []
interests_in (Some is) = is

abbrev pub interests_of : Files → Option ℕ → List Interest
interests_of F None = []
interests_of F (Some n) = interests_in (at_place F.epolls n)

-- the interests of an epoll after this
abbrev pub on_epoll : Files → ℕ → (List Interest → List Interest) → Files
on_epoll F n f = record F { epolls = slice_set F.epolls n (option_map f (at_place F.epolls n)) }

-- ---- epoll_pwait: Move, Expire and Interrupt

-- no two interests have the same name
abbrev pub are_apart : List Interest → Bool
are_apart is = differ has_name_of is
