-- A futex word that a call reads or writes, and the instruction that is fetched, are the Linux machine's.
use Rattle.std.proofs.Common.{◌≡◌, ℕ, ◌%◌, ◌^◌, ◌<◌, Bool, true, false, ◌==◌, ◌&&◌, List, length, Option, Some, None, if◌then◌else◌, refl, sym, ap, subst, ◌∙◌, arith, pos}
use Rattle.std.proofs.Math.Bool.{not}
use Rattle.std.proofs.lemmas.Bool.Decides.{nat_tests}
use Rattle.a64_model.specs.Rows.{row}
use Rattle.linux_abi.specs.declared.signals.LinuxSig.TheVariants as signal
use Rattle.places.specs.Places.{number_at, number_of, bytes_of}
use Rattle.places.proofs.Numbers.{length-bytes_of}
use Rattle.page_store.specs.Pages.{Pages}
use Rattle.lx_memory.specs.Bytes.{bytes_at, with_bytes}
use Rattle.lx_memory.specs.Queries.{is_allowed}
use Rattle.lx_memory.specs.declared.right.Right.{Right}
use Rattle.lx_memory.specs.declared.right.Right.TheVariants.{Read, Write, Execute}
use Rattle.lx_machine.specs.Futex.{readable_word, writable_word, with_word, word_at}
use Rattle.lx_machine.specs.FutexPi.{lock_word}
use Rattle.lx_machine.specs.Instruction.{ran, executed, leaves}
use Rattle.lx_machine.specs.Threads.{trapped}
use Rattle.lx_machine.specs.declared.threads.LxThread.{LxThread}
use Rattle.machine_parts.specs.Parts.{Parts}
use Rattle.shards_stand.specs.Clause.{MemoryStands, MemorySound, Stays}
use Rattle.shards_stand.specs.CodeWord.{code_word}
use Rattle.shards_stand.specs.Pieces.{may_copy, store_all}
use Rattle.shards_stand.specs.SlotMarks.{wrote}
use Rattle.shards_stand.specs.Words.{word_in, readable_word_in, writable_word_in, lock_word_in, ran_word}
use Rattle.shards_stand.proofs.CodeFetch.{fetch-same}
use Rattle.shards_stand.proofs.PieceLaw.{allowed-same, fetched-same, stored-stays}

module _ (code : Pages) (M : Parts) (granules marks : ℕ → Option ℕ) (pages : Pages) (st : MemoryStands M granules pages marks) (sound : MemorySound code M) (at : ℕ) (small : at < 2 ^ 64) where
  may-same : (right : Right) → may_copy right M at 4 ≡ is_allowed right pages at 4
  may-same right = allowed-same code M granules marks pages st sound at 4 (omega arith) small right

  word-same : (right : Right) → may_copy right M at 4 ≡ true → word_in M at ≡ word_at pages at
  word-same right may = ap (λ (bytes : List ℕ). number_at bytes 0 4) (fetched-same code M granules marks pages st sound at 4 (omega arith) small right may)

  one-right : (right : Right) (b : Bool) → may_copy right M at 4 ≡ b → (if b then Some (word_in M at) else None) ≡ (if b then Some (word_at pages at) else None)
  one-right right true may = ap {B = Option ℕ} (λ (n : ℕ). Some n) (word-same right may)
  one-right right false may = refl

  pub readable-same : readable_word_in M at ≡ readable_word pages at
  readable-same = one-right Read (may_copy Read M at 4) refl ∙ ap (λ (b : Bool). if b then Some (word_at pages at) else None) (may-same Read)

  pub writable-same : writable_word_in M at ≡ writable_word pages at
  writable-same = one-right Write (may_copy Write M at 4) refl ∙ ap (λ (b : Bool). if b then Some (word_at pages at) else None) (may-same Write)

  pub lock-same : lock_word_in M at ≡ lock_word pages at
  lock-same =
      both (may_copy Read M at 4) (may_copy Write M at 4) refl
      ∙ ap (λ (b : Bool). if b && may_copy Write M at 4 then Some (word_at pages at) else None) (may-same Read)
      ∙ ap (λ (b : Bool). if is_allowed Read pages at 4 && b then Some (word_at pages at) else None) (may-same Write)
    where
      both : (r w : Bool) → may_copy Read M at 4 ≡ r → (if r && w then Some (word_in M at) else None) ≡ (if r && w then Some (word_at pages at) else None)
      both true w may = one w
        where
          one : (b : Bool) → (if b then Some (word_in M at) else None) ≡ (if b then Some (word_at pages at) else None)
          one true = ap {B = Option ℕ} (λ (n : ℕ). Some n) (word-same Read may)
          one false = refl
      both false w may = refl

  -- a word that is written
  pub word-stays : (slot word : ℕ) → may_copy Write M at 4 ≡ true → Stays code (store_all M slot at (bytes_of word 4)) granules (with_word pages at word) (wrote slot at 4 marks)
  word-stays slot word may =
      let long : length (bytes_of word 4) ≡ 4 = length-bytes_of word 4 in
      subst (λ (n : ℕ). Stays code (store_all M slot at (bytes_of word 4)) granules (with_bytes pages at (bytes_of word 4)) (wrote slot at n marks)) long
      (stored-stays code M granules marks pages st sound at 4 (omega arith) small slot (bytes_of word 4) long may)

-- at a multiple of 4, the Linux thread runs the word of the fixed code
pub ran-same : (code : Pages) (M : Parts) (granules marks : ℕ → Option ℕ) (pages : Pages) (t : LxThread) → MemoryStands M granules pages marks → MemorySound code M → t.regs.pc % 4 ≡ 0 → t.regs.pc < 2 ^ 64 → ran pages t ≡ ran_word pages t (code_word code t.regs.pc)
ran-same code M granules marks pages t st sound aligned small =
    let even : (t.regs.pc % 4 == 0) ≡ true = grind (arith, nat_tests) in
    ap (λ (b : Bool). if not b then leaves pages (trapped t signal.SIGBUS (pos 1) t.regs.pc) else (
    if is_allowed Execute pages t.regs.pc 4 then executed pages t (row (number_of (bytes_at pages t.regs.pc 4)))
    else leaves pages (trapped t signal.SIGSEGV (pos 0) t.regs.pc))) even
    ∙ by (is_allowed Execute pages t.regs.pc 4)
    ∙ ap (ran_word pages t) (sym (fetch-same code M granules marks pages t.regs.pc st sound aligned small))
  where
    by : (b : Bool) → (if b then executed pages t (row (number_of (bytes_at pages t.regs.pc 4))) else leaves pages (trapped t signal.SIGSEGV (pos 0) t.regs.pc)) ≡ ran_word pages t (if b then Some (number_of (bytes_at pages t.regs.pc 4)) else None)
    by true = refl
    by false = refl
