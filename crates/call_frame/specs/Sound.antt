-- Sound: what holds of the machine between any two entries, whatever it stands for. It has what the calls of the lower crates ask for.
-- Source: this project's own.
use Rattle.std.specs.Prelude.{◌≡◌, ℕ, ◌<◌, true, length, Option, Some, None}
use Rattle.page_store.specs.Pages.{Pages}
use Rattle.umtx_queue.specs.Chains.{ChainState}
use Rattle.bsd_proc.specs.Slots.{ProcessState}
use Rattle.bsd_files.specs.State.{FilesState}
use Rattle.bsd_thread.specs.Phases.{has_call}
use Rattle.bsd_thread.specs.declared.thread.ThreadState.{ThreadState}
use Rattle.machine_parts.specs.Parts.{Parts, thread_at, chain_at, process_at, files_at}
use Rattle.chains_stand.specs.Board.{ChainsSound}
use Rattle.files_stand.specs.SoundFiles.{SoundFiles}
use Rattle.shards_stand.specs.Clause.{MemorySound}
use Rattle.shards_stand.specs.SpaceRows.{HasNoCode}
use Rattle.threads_stand.specs.Slots.{ThreadsSound}
use Rattle.call_frame.specs.Owing.{KeysFit}
use Rattle.call_frame.specs.Whole.{board_of, changes_of, holding_of}

-- `code`: the fixed code, which no entry changes. The 210 objects are there, each with a part of its kind; and of each kind holds what
-- its own crate says of it
pub record Sound (code : Pages) (M : Parts) : Type 0 where
  pub size : length M ≡ 210
  pub process : (p : ProcessState) × (process_at M ≡ Some p)
  pub files : (f : FilesState) × (files_at M ≡ Some f)
  pub chain_there : (c : ℕ) → c < 64 → (ch : ChainState) × (chain_at M c ≡ Some ch)
  pub threads : (p : ProcessState) → process_at M ≡ Some p → ThreadsSound (thread_at M) p
  pub keys : (s : ℕ) (t : ThreadState) → thread_at M s ≡ Some t → KeysFit t.call t.phase
  pub unmarked : (s : ℕ) (t : ThreadState) → thread_at M s ≡ Some t → has_call t.phase ≡ true → t.granule ≡ None
  pub chains : ChainsSound (board_of M)
  pub queues : (f : FilesState) → files_at M ≡ Some f → SoundFiles (changes_of M) (holding_of M) f
  pub memory : MemorySound code M
  pub heap : (p : ProcessState) → process_at M ≡ Some p → HasNoCode code p.break_start p.break_at
