-- An access of an instruction, on the shards: memory answers it in one step, and an access that faults changes nothing.
-- Source: Arm ARM (DDI 0487), C6.2 and C7.2 for the accesses, B2.9 for marks; sigaction(2) for the address of a fault.
use Rattle.std.specs.Prelude.{◌≡◌, ℕ, ◌+◌, ◌%◌, ◌^◌, ◌<◌, ◌≤◌, ◌==◌, Bool, true, false, ◌&&◌, if◌then◌else◌, List, length, take, Option, Some, None, Result, Ok, Err}
use Rattle.places.specs.Places as place
use Rattle.places.specs.Places.{bytes_of, number_of}
use Rattle.guest_mem.specs.Held.{marked_by}
use Rattle.a64_model.specs.Swaps.{outcome, has_outcome}
use Rattle.a64_model.specs.Registers.{x_sp}
use Rattle.a64_model.specs.declared.access.Access.{Access}
use Rattle.a64_model.specs.declared.access.Access.TheVariants as access
use Rattle.a64_model.specs.declared.access.Answer.{Answer}
use Rattle.a64_model.specs.declared.access.Answer.TheVariants as answer
use Rattle.a64_model.specs.declared.access.Next.{Next}
use Rattle.a64_model.specs.declared.access.SwapOp.{SwapOp}
use Rattle.a64_model.specs.declared.operands.Reg.{Reg}
use Rattle.a64_model.specs.declared.regs.Regs.{Regs}
use Rattle.lx_machine.specs.Instruction.{Answered, filled}
use Rattle.page_store.specs.Pages.{Pages, reads, writes}
use Rattle.machine_parts.specs.Parts.{Parts}
use Rattle.shards_stand.specs.Kept.{marked}
use Rattle.shards_stand.specs.Clause.{Stays}
use Rattle.shards_stand.specs.Pieces.{lacking, bytes_in, store_all, change_shard}
use Rattle.shards_stand.specs.SlotMarks.{wrote, put}

-- ---- what an access does

-- the parts and the granule that the thread keeps once memory has answered, and the answer
pub record Accessed : Type 0 where
  pub parts : Parts
  pub granule : Option ℕ
  pub answer : Answer

-- memory answers so, and this is left
abbrev pub answers : Parts → Option ℕ → Answer → Accessed
answers M granule a = record { parts = M; granule = granule; answer = a }

-- the access lacks its right at an address, and nothing changes
abbrev pub faults_at : Parts → Option ℕ → ℕ → Accessed
faults_at M granule at = answers M granule (answer.Fault (record { address = at }))

-- the slot marks the granule of an address, in the shard of its page
abbrev pub put_mark : Parts → ℕ → ℕ → Parts
put_mark M s at = change_shard M (place.shard (place.page at)) (λ h. marked_by h s (place.granule at))

-- a load, which may leave a mark; `lacks`: where it may not read
abbrev pub load : Parts → ℕ → Option ℕ → ℕ → ℕ → Bool → Option ℕ → Accessed
load M s granule at len marks (Some lacks) = faults_at M granule lacks
load M s granule at len true None = answers (put_mark M s at) (Some (place.granule at)) (answer.Bytes (filled (bytes_in M at len)))
load M s granule at len false None = answers M granule (answer.Bytes (filled (bytes_in M at len)))

-- a store
abbrev pub store : Parts → ℕ → Option ℕ → ℕ → List ℕ → Option ℕ → Accessed
store M s granule at bytes (Some lacks) = faults_at M granule lacks
store M s granule at bytes None = answers (store_all M s at bytes) granule answer.Done

-- the thread keeps the granule of an address as its latest, and its mark stands there
abbrev pub has_mark : Parts → ℕ → Option ℕ → ℕ → Bool
has_mark M s None at = false
has_mark M s (Some g) at = g == place.granule at && marked M s g

-- an exclusive store: it stores where the mark stands, and ends the mark either way
abbrev pub store_exclusive : Parts → ℕ → Option ℕ → ℕ → List ℕ → Option ℕ → Accessed
store_exclusive M s granule at bytes (Some lacks) = faults_at M granule lacks
store_exclusive M s granule at bytes None =
    if has_mark M s granule at then answers (store_all M s at bytes) None answer.Done else answers M None answer.NoMark

-- an atomic access to a number of so many bytes: it answers the old number
abbrev pub swap : Parts → ℕ → Option ℕ → ℕ → ℕ → SwapOp → ℕ → ℕ → Option ℕ → Accessed
swap M s granule at len op value expected (Some lacks) = faults_at M granule lacks
swap M s granule at len op value expected None =
    let bytes = bytes_in M at len in
    let old = number_of bytes in
    if has_outcome op old expected
    then answers (store_all M s at (bytes_of (outcome op old value) len)) granule (answer.Bytes (filled bytes))
    else answers M granule (answer.Bytes (filled bytes))

-- the access of the thread in slot s, which keeps this granule
abbrev pub accessed : Parts → ℕ → Option ℕ → Access → Accessed
accessed M s granule access.None = answers M granule answer.Done
accessed M s granule (access.Load at len marks) = load M s granule at len marks (lacking reads M at len)
accessed M s granule (access.Store at len bytes false) = store M s granule at (take len bytes) (lacking writes M at len)
accessed M s granule (access.Store at len bytes true) = store_exclusive M s granule at (take len bytes) (lacking writes M at len)
accessed M s granule (access.Swap at len op value expected) = swap M s granule at len op value expected (lacking writes M at len)
accessed M s granule access.ClearMark = answers M None answer.Done

-- ---- what it stands for

-- the answer is that of the Linux machine, and what is left stands for what it leaves: the thread in slot s keeps the granule, its
-- mark is the Linux one, and what it wrote has ended marks of others
pub record AccessStands (code : Pages) (s : ℕ) (granules marks : ℕ → Option ℕ) (m : Accessed) (l : Answered) : Type 0 where
  pub answer_is : m.answer ≡ l.answer
  pub stays : Stays code m.parts (put granules s m.granule) l.pages (wrote s l.at l.written (put marks s l.mark))

-- ---- which accesses there are

-- an access of an instruction has at least one byte and its address 64 bits; a store has the bytes that it stores; one that marks
-- or exchanges lies in one page
abbrev pub IsFit : Access → Type 0
IsFit access.None = Unit {0}
IsFit (access.Load at len marks) = (0 < len) × (at < 2 ^ 64) × (marks ≡ true → at % 4096 + len ≤ 4096)
IsFit (access.Store at len bytes exclusive) = (0 < len) × (len ≤ length bytes) × (at < 2 ^ 64)
IsFit (access.Swap at len op value expected) = (0 < len) × (at < 2 ^ 64) × (at % 4096 + len ≤ 4096)
IsFit access.ClearMark = Unit {0}

-- what an instruction asks is fit, where alignment doesn't refuse it
abbrev pub AsksFit : Result Access Next → Type 0
AsksFit (Ok a) = IsFit a
AsksFit (Err n) = Unit {0}

-- a base register has 64 bits
abbrev pub IsWide : Regs → Type 0
IsWide regs = (r : Reg) → x_sp regs r < 2 ^ 64
