-- Look at a queue: what a scan reports, as bytes, and what it leaves. Source: epoll_wait(2) of Linux, kqueue(2) of FreeBSD.
use Rattle.std.specs.Prelude.{ℕ, Bool, ◌++◌, List, map, flat_map, is_some}
use Rattle.kqueue_core.specs.Queues.{Queue}
use Rattle.kqueue_core.specs.Reports.{event_of, pick_of, reports, scanned}
use Rattle.kqueue_core.specs.declared.knotes.Event.{Event}
use Rattle.lx_machine.specs.declared.files.Files.{Files}
use Rattle.open_files.specs.Plain.{readiness}
use Rattle.places.specs.Places.{bytes_of}

-- an event as a guest sees it: its bits, 4 bytes that aren't used, and the user's word
abbrev pub event_bytes : Event → List ℕ
event_bytes e = bytes_of e.bits 4 ++ bytes_of 0 4 ++ bytes_of e.user 8

-- what a scan of at most so many reports, as bytes
abbrev pub report_bytes : Files → ℕ → Queue → List ℕ
report_bytes F most q = flat_map event_bytes (map (event_of (readiness F)) (reports (readiness F) most q.watches))

-- a scan would report an interest
abbrev pub has_report : Files → Queue → Bool
has_report F q = is_some (pick_of (readiness F) 0 q.watches)

-- a queue after a scan
abbrev pub after_scan : Files → ℕ → Queue → Queue
after_scan F most q = record q { watches = scanned (readiness F) most q.watches }
