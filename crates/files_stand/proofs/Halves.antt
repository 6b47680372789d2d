-- The events that hold of an open file, by its two filters.
use Rattle.std.proofs.Common.{◌≡◌, ℕ, not, ◌||◌, Option, Some, None, refl, length}
use Rattle.std.specs.Prelude.{◌==◌}
use Rattle.linux_abi.specs.EpollBits.{wanted}
use Rattle.kqueue_core.specs.declared.knotes.Filter.TheVariants.{Read, Write}
use Rattle.kqueue_laws.proofs.Halves.{Halved, input_halved, read_end_halved, write_end_halved, console_halved, counter_halved, none_halved}
use Rattle.kqueue_laws.proofs.Pairs.{Tells}
use Rattle.lx_machine.specs.Epoll.{pipe_holds, ready, ready_at, ready_counter, told}
use Rattle.lx_machine.specs.Files.{has_reader, has_writer}
use Rattle.lx_machine.specs.Interests.{side_holds}
use Rattle.lx_machine.specs.Lists.{at_place}
use Rattle.lx_machine.specs.declared.files.Counter.{Counter}
use Rattle.lx_machine.specs.declared.files.FileKind.{FileKind}
use Rattle.lx_machine.specs.declared.files.FileKind.TheVariants as kind
use Rattle.lx_machine.specs.declared.files.Files.{Files}
use Rattle.lx_machine.specs.declared.files.OpenFile.{OpenFile}
use Rattle.open_files.specs.Plain.{readiness}
use Rattle.files_stand.specs.Changes.{is_ready}

counters_halved : (n : Option Counter) (w : ℕ) → Halved (ready_counter n) w
counters_halved None w = none_halved w
counters_halved (Some n) w = counter_halved n.value w

kind_halved : (F : Files) (k : FileKind) (w : ℕ) → Halved (ready F k) w
kind_halved F kind.Input w = input_halved (length F.input) w
kind_halved F (kind.PipeRead p) w = read_end_halved (length (pipe_holds F p)) (has_writer F p) w
kind_halved F (kind.PipeWrite p) w = write_end_halved (length (pipe_holds F p)) (has_reader F p) w
kind_halved F (kind.Console which) w = console_halved (length (side_holds F which)) w
kind_halved F (kind.Counter n) w = counters_halved (at_place F.counters n) w
kind_halved F (kind.Epoll n) w = none_halved w

pub halved : (F : Files) (f : Option OpenFile) (w : ℕ) → Halved (ready_at F f) w
halved F None w = none_halved w
halved F (Some f) w = kind_halved F f.kind w

-- each filter tells its half
pub tells : (F : Files) (file : ℕ) → Tells (readiness F) file (ready_at F (at_place F.files file))
tells F file = record { reads = refl; writes = refl }

-- a knote of one of the two filters has something to tell exactly where the interest has
pub ready_either : (F : Files) (file asked : ℕ) → (is_ready F file Read asked || is_ready F file Write asked) ≡ not (told F file asked == 0)
ready_either F file asked = (halved F (at_place F.files file) (wanted asked)).some
