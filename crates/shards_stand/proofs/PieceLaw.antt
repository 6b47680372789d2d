-- A piece that a call copies: whether it may be copied, its bytes, and what stands after it was stored. This is all that an
-- entry of Fetch, Store, Frame, Clear or of a futex word sees of pages and shards.
use Rattle.std.proofs.Common.{◌≡◌, ℕ, suc, ◌+◌, ◌-◌, ◌/◌, ◌^◌, ◌<◌, Bool, true, false, ◌==◌, is_some, List, length, Option, Some, None, if◌then◌else◌, refl, sym, ap, subst, ◌∙◌, arith}
use Rattle.std.proofs.Math.Bool.{not}
use Rattle.std.proofs.lemmas.Bool.Decides.{nat_tests}
use Rattle.page_store.specs.Pages.{Pages, writes}
use Rattle.lx_memory.specs.Access.{allows}
use Rattle.lx_memory.specs.Bytes.{bytes_at, with_bytes}
use Rattle.lx_memory.specs.declared.right.Right.{Right}
use Rattle.lx_memory.specs.declared.right.Right.TheVariants.{Write}
use Rattle.lx_memory.specs.Queries.{is_allowed}
use Rattle.lx_machine.specs.SignalFrame.{frame_size, is_writable}
use Rattle.machine_parts.specs.Parts.{Parts}
use Rattle.shards_stand.specs.Kept.{standing}
use Rattle.shards_stand.specs.Clause.{MemoryStands, MemorySound, Stays}
use Rattle.shards_stand.specs.Pieces.{touched, lacking, bytes_in, store_in, store_all, may_copy}
use Rattle.shards_stand.specs.SlotMarks.{marks_left, wrote}
use Rattle.shards_stand.proofs.StorePieces.{stored_stands, same-marks}
use Rattle.shards_stand.proofs.LoadPieces.{lacking-same, all-have, bytes-same}

none-of : (o : Option ℕ) → not (is_some o) ≡ true → o ≡ None
none-of None is = refl
none-of (Some n) is = absurd (cc)

stored-by : (code : Pages) (M : Parts) (granules marks : ℕ → Option ℕ) (pages : Pages) → MemoryStands M granules pages marks → MemorySound code M → (at len : ℕ) → 0 < len → at < 2 ^ 64 → (slot : ℕ) (xs : List ℕ) → length xs ≡ len → may_copy Write M at len ≡ true → Stays code (store_all M slot at xs) granules (with_bytes pages at xs) (wrote slot at (length xs) marks)
stored-by code M granules marks pages st sound at len some small slot xs long may =
    let have = all-have writes M at (length xs) (ap (lacking writes M at) long ∙ none-of (lacking writes M at len) may) in
    let n = touched at (length xs) - 1 in
    let n_is : suc n ≡ touched at (length xs) = omega (arith, long) in
    let done = stored_stands n code M slot at xs granules marks pages st sound have (omega (arith, long)) (omega (arith, long)) (omega (arith, long)) in
    let there = subst (λ (k : ℕ). Stays code (store_in k M slot at xs) granules (with_bytes pages at xs) (marks_left slot (at / 16) ((at + length xs - 1) / 16) marks)) n_is done in
    let more : (length xs == 0) ≡ false = grind (arith, nat_tests, long) in
    record {
      stands = same-marks (store_all M slot at xs) granules (marks_left slot (at / 16) ((at + length xs - 1) / 16) marks) (wrote slot at (length xs) marks) (with_bytes pages at xs)
          (λ s. sym (ap (λ (b : Bool). if b then marks s else marks_left slot (at / 16) ((at + length xs - 1) / 16) marks s) more)) there.stands;
      sound = there.sound;
    }

module _ (code : Pages) (M : Parts) (granules marks : ℕ → Option ℕ) (pages : Pages) (st : MemoryStands M granules pages marks) (sound : MemorySound code M) (at len : ℕ) (some : 0 < len) (small : at < 2 ^ 64) where
  pub allowed-same : (right : Right) → may_copy right M at len ≡ is_allowed right pages at len
  allowed-same right = ap (λ (o : Option ℕ). not (is_some o)) (lacking-same right code M granules marks pages at len st sound some small)

  pub fetched-same : (right : Right) → may_copy right M at len ≡ true → bytes_in M at len ≡ bytes_at pages at len
  fetched-same right may = bytes-same len (allows right) M granules marks pages at st (all-have (allows right) M at len (none-of (lacking (allows right) M at len) may))

  pub stored-stays : (slot : ℕ) (xs : List ℕ) → length xs ≡ len → may_copy Write M at len ≡ true → Stays code (store_all M slot at xs) granules (with_bytes pages at xs) (wrote slot at (length xs) marks)
  stored-stays slot xs long may = stored-by code M granules marks pages st sound at len some small slot xs long may

  -- the same of the marks alone, whatever a thread keeps
  pub marks-change : (slot : ℕ) (xs : List ℕ) → length xs ≡ len → may_copy Write M at len ≡ true → (x : ℕ) (kept_by : Option ℕ) → standing (store_all M slot at xs) x kept_by ≡ wrote slot at (length xs) (λ s. standing M s kept_by) x
  marks-change slot xs long may x kept_by =
      let all : MemoryStands M (λ s. kept_by) pages (λ s. standing M s kept_by) = record { pages_stand = st.pages_stand; marks_stand = λ s. refl } in
      sym ((stored-by code M (λ s. kept_by) (λ s. standing M s kept_by) pages all sound at len some small slot xs long may).stands.marks_stand x)

-- the frame of a signal is one piece, with the record of the vector registers
pub frame-same : (code : Pages) (M : Parts) (granules marks : ℕ → Option ℕ) (pages : Pages) → MemoryStands M granules pages marks → MemorySound code M → (at : ℕ) → at < 2 ^ 64 → may_copy Write M at frame_size ≡ is_writable pages at
unfolding is_writable
frame-same code M granules marks pages st sound at small = allowed-same code M granules marks pages st sound at frame_size (omega arith) small Write
