-- Stands: the machine stands for a state of the Linux machine. Six clauses, each of which reads only the parts that it names: Shards,
-- Chains, Process, Files and Threads here, and Notes in Sound, since it needs no Linux state. Source: this project's own; docs/STANDS.md
-- says why each has its form.
use Rattle.std.specs.Prelude.{◌≡◌, ℕ, Option, Some}
use Rattle.bsd_proc.specs.Slots.{ProcessState}
use Rattle.bsd_files.specs.State.{FilesState}
use Rattle.lx_machine.specs.declared.state.LinuxState.{LinuxState}
use Rattle.machine_parts.specs.Parts.{Parts, thread_at, process_at, files_at}
use Rattle.chains_stand.specs.Board.{ChainsStand, to_count}
use Rattle.files_stand.specs.FilesStand.{FilesStand}
use Rattle.shards_stand.specs.Clause.{AreasStand, MemoryStands}
use Rattle.shards_stand.specs.SlotMarks.{marks_of}
use Rattle.threads_stand.specs.Stands.{ProcessStands, ThreadsStand}
use Rattle.call_frame.specs.Whole.{board_of, changes_of, granules_of, tids_of}

pub record Stands (M : Parts) (L : LinuxState) : Type 0 where
  pub shards : MemoryStands M (granules_of M) L.space.pages (marks_of L.threads)
  pub chains : ChainsStand (tids_of M) (board_of M) L.queue L.pi_queue
  pub process : (p : ProcessState) → process_at M ≡ Some p → ProcessStands p L
  pub areas : (p : ProcessState) → process_at M ≡ Some p → AreasStand p.areas L.space.pages
  pub files : (f : FilesState) → files_at M ≡ Some f → FilesStand (changes_of M) f L.files
  pub threads : (p : ProcessState) → process_at M ≡ Some p → ThreadsStand (thread_at M) p (to_count (board_of M)) L
