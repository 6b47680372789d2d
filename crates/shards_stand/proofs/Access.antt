-- An access of an instruction answers what it does on the Linux pages, and the clause stays.
use Rattle.std.proofs.Common.{◌≡◌, ◌≢◌, ℕ, suc, ◌+◌, ◌-◌, ◌/◌, ◌%◌, ◌<◌, Bool, true, false, ◌==◌, ◌&&◌, is_some, List, length, take, Option, Some, None, if◌then◌else◌, refl, sym, ap, subst, ◌∙◌, arith, inl, inr, get_or-set_other, get_or-set_same}
use Rattle.std.specs.FinMap as finite
use Rattle.std.proofs.lemmas.Bool.{cases_eq}
use Rattle.std.proofs.lemmas.Bool.Decides.{nat_tests}
use Rattle.std.proofs.lemmas.List.{length-take-le, length-set}
use Rattle.page_ranges.specs.declared.rights.Rights.{Rights}
use Rattle.places.proofs.Numbers.{length-bytes_of}
use Rattle.places.specs.Places.{bytes_of, number_of}
use Rattle.guest_mem.specs.Held.{Held, marked_by}
use Rattle.a64_model.specs.Swaps.{outcome, has_outcome}
use Rattle.a64_model.specs.declared.access.Access.{Access}
use Rattle.a64_model.specs.declared.access.Access.TheVariants as access
use Rattle.a64_model.specs.declared.access.Answer.{Answer}
use Rattle.a64_model.specs.declared.access.Answer.TheVariants as answer
use Rattle.a64_model.specs.declared.access.SwapOp.{SwapOp}
use Rattle.page_store.specs.Pages.{Page, Pages, reads, writes, page_if}
use Rattle.lx_memory.specs.Access.{has, allows}
use Rattle.lx_memory.specs.Bytes.{bytes_at, with_bytes}
use Rattle.lx_memory.specs.declared.right.Right.TheVariants.{Read, Write, Execute}
use Rattle.lx_machine.specs.Threads.{mark_left}
use Rattle.lx_machine.specs.Instruction as linux
use Rattle.lx_machine.specs.Instruction.{Answered, filled}
use Rattle.machine_parts.specs.Parts.{Parts, shard_at, put_shard}
use Rattle.shards_stand.specs.Kept.{kept, kept_in, mark_in, is_mark, marked, standing}
use Rattle.shards_stand.specs.Clause.{IsShardOf, MemoryStands, MemorySound, PageStands, Stays}
use Rattle.shards_stand.specs.Pieces.{touched, lacking, bytes_in, store_in, changed_shard, store_all, AllHave}
use Rattle.shards_stand.specs.Accesses.{answers, accessed, load, store, store_exclusive, swap, has_mark, put_mark, AccessStands, IsFit}
use Rattle.shards_stand.specs.SlotMarks.{marks_left, wrote, put}
use Rattle.shards_stand.proofs.Store.{put-change}
use Rattle.shards_stand.proofs.StorePieces.{stored_stands, same-marks}
use Rattle.shards_stand.proofs.Ranges.{the-shard}
use Rattle.shards_stand.proofs.LoadPieces.{lacking-same, all-have, bytes-same}

-- the thread's own granule and mark
pub retag : (M : Parts) (s : ℕ) (granules marks : ℕ → Option ℕ) (pages : Pages) (g m : Option ℕ) → MemoryStands M granules pages marks → m ≡ standing M s g → MemoryStands M (put granules s g) pages (put marks s m)
retag M s granules marks pages g m st is = record {
  pages_stand = st.pages_stand;
  marks_stand = λ x. elim (cases_eq x s) [
    | inl same ↦
        let own : (x == s) ≡ true = grind (arith, nat_tests) in
        ap (λ (b : Bool). if b then m else marks x) own ∙ is ∙ ap (λ (y : ℕ). standing M y g) (sym same) ∙ sym (ap (λ (b : Bool). standing M x (if b then g else granules x)) own)
    | inr other ↦
        let off : (x == s) ≡ false = grind (arith, nat_tests) in
        ap (λ (b : Bool). if b then m else marks x) off ∙ st.marks_stand x ∙ sym (ap (λ (b : Bool). standing M x (if b then g else granules x)) off)
  ];
}

-- nothing was written
quiet : (code : Pages) (M : Parts) (s : ℕ) (granules marks : ℕ → Option ℕ) (pages : Pages) (g m : Option ℕ) (a b : Answer) → MemoryStands M granules pages marks → MemorySound code M → m ≡ standing M s g → a ≡ b → AccessStands code s granules marks (answers M g a) (linux.answers_access pages m b)
quiet code M s granules marks pages g m a b st sound is same = record { answer_is = same; stays = record { stands = retag M s granules marks pages g m st is; sound = sound } }

-- bytes were written
wrote-put : (s at len : ℕ) (m : Option ℕ) (marks : ℕ → Option ℕ) (x : ℕ) → 0 < len → put (marks_left s (at / 16) ((at + len - 1) / 16) marks) s m x ≡ wrote s at len (put marks s m) x
wrote-put s at len m marks x some =
    let more : (len == 0) ≡ false = grind (arith, nat_tests) in
    by (x == s) ∙ sym (ap (λ (b : Bool). if b then put marks s m x else marks_left s (at / 16) ((at + len - 1) / 16) (put marks s m) x) more)
  where
    by : (b : Bool) → (if b then m else (if b then marks x else mark_left (at / 16) ((at + len - 1) / 16) (marks x))) ≡ (if b then (if b then m else marks x) else mark_left (at / 16) ((at + len - 1) / 16) (if b then m else marks x))
    by true = refl
    by false = refl

written : (code : Pages) (M : Parts) (s at : ℕ) (xs : List ℕ) (granules marks : ℕ → Option ℕ) (pages : Pages) (g m : Option ℕ) (a b : Answer) → MemoryStands M granules pages marks → MemorySound code M → 0 < length xs → AllHave writes M at (length xs) → ((M' : Parts) → MemoryStands M' granules (with_bytes pages at xs) (marks_left s (at / 16) ((at + length xs - 1) / 16) marks) → m ≡ standing M' s g) → a ≡ b → AccessStands code s granules marks (answers (store_all M s at xs) g a) (linux.writes pages m at xs b)
written code M s at xs granules marks pages g m a b st sound some have own same =
    let n = touched at (length xs) - 1 in
    let n_is : suc n ≡ touched at (length xs) = omega arith in
    let done = stored_stands n code M s at xs granules marks pages st sound have (omega arith) (omega arith) some in
    let there = subst (λ (k : ℕ). Stays code (store_in k M s at xs) granules (with_bytes pages at xs) (marks_left s (at / 16) ((at + length xs - 1) / 16) marks)) n_is done in
    record {
      answer_is = same;
      stays = record {
        stands = same-marks (store_all M s at xs) (put granules s g) (put (marks_left s (at / 16) ((at + length xs - 1) / 16) marks) s m) (wrote s at (length xs) (put marks s m)) (with_bytes pages at xs)
            (λ x. wrote-put s at (length xs) m marks x some)
            (retag (store_all M s at xs) s granules (marks_left s (at / 16) ((at + length xs - 1) / 16) marks) (with_bytes pages at xs) g m there.stands (own (store_all M s at xs) there.stands));
        sound = there.sound;
      };
    }

-- the slot's own mark is not ended by its own write
own-left : (s f l : ℕ) (marks : ℕ → Option ℕ) → marks_left s f l marks s ≡ marks s
own-left s f l marks = let own : (s == s) ≡ true = grind (arith, nat_tests) in ap (λ (b : Bool). if b then marks s else mark_left f l (marks s)) own

-- whether the mark stands is told by both
has-mark-same : (M : Parts) (s at : ℕ) (g m : Option ℕ) → m ≡ standing M s g → linux.has_mark m at ≡ has_mark M s g at
has-mark-same M s at None m is = ap (λ (o : Option ℕ). linux.has_mark o at) is
has-mark-same M s at (Some g) m is = ap (λ (o : Option ℕ). linux.has_mark o at) is ∙ by (marked M s g) (g == at / 16)
  where
    by : (b e : Bool) → linux.has_mark (if b then Some g else None) at ≡ (g == at / 16 && b)
    by true e = whole (g == at / 16)
      where
        whole : (x : Bool) → x ≡ (x && true)
        whole true = refl
        whole false = refl
    by false e = none (g == at / 16)
      where
        none : (x : Bool) → false ≡ (x && false)
        none true = refl
        none false = refl

-- ---- a mark is put

module _ (code : Pages) (M : Parts) (s at : ℕ) (granules marks : ℕ → Option ℕ) (pages : Pages) (st : MemoryStands M granules pages marks) (sound : MemorySound code M) (h : Held) (there : shard_at M (at / 4096 % 16) ≡ Some h) (keeps : is_some (kept M (at / 4096)) ≡ true) (slot : s < length h.marks) where
  abbrev M' : Parts
  M' = put_shard M (at / 4096 % 16) (marked_by h s (at / 16))

  abbrev now : shard_at M' (at / 4096 % 16) ≡ Some (marked_by h s (at / 16))
  now = (put-change M (at / 4096 % 16) h (marked_by h s (at / 16)) there).now

  abbrev others : (k : ℕ) → k ≢ at / 4096 % 16 → shard_at M' k ≡ shard_at M k
  others = (put-change M (at / 4096 % 16) h (marked_by h s (at / 16)) there).others

  kept-marked : (q : ℕ) → kept M' q ≡ kept M q
  kept-marked q = elim (cases_eq (q % 16) (at / 4096 % 16)) [
    | inl same ↦ ap (λ (i : ℕ). kept_in (shard_at M' i) q) same ∙ ap (λ (o : Option Held). kept_in o q) now ∙ sym (ap (λ (i : ℕ). kept_in (shard_at M i) q) same ∙ ap (λ (o : Option Held). kept_in o q) there)
    | inr other ↦ ap (λ (o : Option Held). kept_in o q) (others (q % 16) other)
  ]

  marked-others : (x g : ℕ) → x ≢ s → marked M' x g ≡ marked M x g
  marked-others x g other = elim (cases_eq (g / 256 % 16) (at / 4096 % 16)) [
    | inl same ↦
        ap (λ (i : ℕ). is_mark (mark_in (shard_at M' i) x) g) same ∙ ap (λ (o : Option Held). is_mark (mark_in o x) g) now
        ∙ ap (λ (m : Option ℕ). is_mark m g) (get_or-set_other h.marks s x (Some (at / 16)) None other)
        ∙ sym (ap (λ (i : ℕ). is_mark (mark_in (shard_at M i) x) g) same ∙ ap (λ (o : Option Held). is_mark (mark_in o x) g) there)
    | inr apart ↦ ap (λ (o : Option Held). is_mark (mark_in o x) g) (others (g / 256 % 16) apart)
  ]

  -- the own slot's mark in this shard is that granule, and the shards beside are as they were
  marked-own-here : (g : ℕ) → g / 256 % 16 ≡ at / 4096 % 16 → marked M' s g ≡ (at / 16 == g)
  marked-own-here g same =
      ap (λ (i : ℕ). is_mark (mark_in (shard_at M' i) s) g) same ∙ ap (λ (o : Option Held). is_mark (mark_in o s) g) now
      ∙ ap (λ (m : Option ℕ). is_mark m g) (get_or-set_same h.marks s (Some (at / 16)) None slot)

  marked-now : marked M' s (at / 16) ≡ true
  marked-now = marked-own-here (at / 16) (omega arith) ∙ grind (arith, nat_tests)

  mark-stands : MemoryStands M' (put granules s (Some (at / 16))) pages (put marks s (Some (at / 16)))
  mark-stands = record {
    pages_stand = λ q. subst (λ (o : Option Page). PageStands o (finite.get pages q)) (sym (kept-marked q)) (st.pages_stand q);
    marks_stand = λ x. elim (cases_eq x s) [
      | inl same ↦
          let own : (x == s) ≡ true = grind (arith, nat_tests) in
          ap (λ (b : Bool). if b then Some (at / 16) else marks x) own
          ∙ sym (ap (λ (b : Bool). standing M' x (if b then Some (at / 16) else granules x)) own
          ∙ ap (λ (y : ℕ). standing M' y (Some (at / 16))) same
          ∙ ap (λ (b : Bool). if b then Some (at / 16) else None) marked-now)
      | inr other ↦
          let off : (x == s) ≡ false = grind (arith, nat_tests) in
          ap (λ (b : Bool). if b then Some (at / 16) else marks x) off ∙ st.marks_stand x ∙ same-standing x (granules x) other
          ∙ sym (ap (λ (b : Bool). standing M' x (if b then Some (at / 16) else granules x)) off)
    ];
  }
    where
      same-standing : (x : ℕ) (o : Option ℕ) → x ≢ s → standing M x o ≡ standing M' x o
      same-standing x None other = refl
      same-standing x (Some g) other = ap (λ (b : Bool). if b then Some g else None) (sym (marked-others x g other))

  mark-sound : MemorySound code M'
  mark-sound = record {
    there = λ i lt. elim (cases_eq i (at / 4096 % 16)) [
      | inl same ↦
          let was = subst (IsShardOf i) (ap (shard_at M) same ∙ there) (sound.there i lt) in
          subst (IsShardOf i) (sym (ap (shard_at M') same ∙ now)) (was.0, length-set h.marks s (Some (at / 16)) ∙ was.1)
      | inr other ↦ subst (IsShardOf i) (sym (others i other)) (sound.there i lt)
    ];
    whole = λ p page is. sound.whole p page (sym (kept-marked p) ∙ is);
    marks_kept = λ x g is. ap (λ (o : Option Page). is_some o) (kept-marked (g / 256)) ∙ elim (cases_eq x s) [
      | inr other ↦ sound.marks_kept x g (sym (marked-others x g other) ∙ is)
      | inl same ↦ elim (cases_eq (g / 256 % 16) (at / 4096 % 16)) [
        | inl here ↦
            let it : (at / 16 == g) ≡ true = sym (marked-own-here g here) ∙ ap (λ (y : ℕ). marked M' y g) (sym same) ∙ is in
            let page_is : g / 256 ≡ at / 4096 = grind (arith, nat_tests) in
            ap (λ (q : ℕ). is_some (kept M q)) page_is ∙ keeps
        | inr apart ↦ sound.marks_kept x g (sym (ap (λ (o : Option Held). is_mark (mark_in o x) g) (others (g / 256 % 16) apart)) ∙ is)
      ]
    ];
    in_space = λ p past. kept-marked p ∙ sound.in_space p past;
    code_is = λ p. sound.code_is p ∙ ap (λ (o : Option Page). page_if (allows Execute) o) (sym (kept-marked p));
    code_fixed = sound.code_fixed;
  }

  pub mark-stays : Stays code (put_mark M s at) (put granules s (Some (at / 16))) pages (put marks s (Some (at / 16)))
  mark-stays =
      let is : M' ≡ put_mark M s at = sym (ap (λ (o : Option Held). changed_shard o M (at / 4096 % 16) (λ g. marked_by g s (at / 16))) there) in
      subst (λ (X : Parts). Stays code X (put granules s (Some (at / 16))) pages (put marks s (Some (at / 16)))) is (record { stands = mark-stands; sound = mark-sound })

has-some : (right : Rights → Bool) (o : Option Page) → has right o ≡ true → is_some o ≡ true
has-some right None may = absurd (cc)
has-some right (Some page) may = refl

-- ---- each access

module _ (code : Pages) (M : Parts) (s : ℕ) (granules marks : ℕ → Option ℕ) (pages : Pages) (st : MemoryStands M granules pages marks) (sound : MemorySound code M) (slot : s < 128) where
  abbrev own : marks s ≡ standing M s (granules s)
  own = st.marks_stand s

  fault : (at : ℕ) → AccessStands code s granules marks (answers M (granules s) (answer.Fault (record { address = at }))) (linux.answers_access pages (marks s) (answer.Fault (record { address = at })))
  fault at = quiet code M s granules marks pages (granules s) (marks s) (answer.Fault (record { address = at })) (answer.Fault (record { address = at })) st sound own refl

  read-same : (right : Rights → Bool) (at len : ℕ) → AllHave right M at len → bytes_in M at len ≡ bytes_at pages at len
  read-same right at len have =
      bytes-same len right M granules marks pages at st have

  load-by : (r : Option ℕ) (at len : ℕ) (m : Bool) → IsFit (access.Load at len m) → lacking reads M at len ≡ r → AccessStands code s granules marks (load M s (granules s) at len m r) (linux.loaded pages (marks s) at len m r)
  load-by (Some a) at len m fit is = fault a
  load-by None at len false fit is =
      quiet code M s granules marks pages (granules s) (marks s) (answer.Bytes (filled (bytes_in M at len))) (answer.Bytes (filled (bytes_at pages at len))) st sound own
      (ap (λ (b : List ℕ). answer.Bytes (filled b)) (read-same reads at len (all-have reads M at len is)))
  load-by None at len true fit is =
      let have = all-have reads M at len is in
      let it = the-shard (at / 4096 % 16) (shard_at M (at / 4096 % 16)) (sound.there (at / 4096 % 16) (omega arith)) in
      let some_ = has-some reads (kept M (at / 4096)) (have (at / 4096) (omega arith) (omega (arith, fit.0))) in
      record {
        answer_is = ap (λ (b : List ℕ). answer.Bytes (filled b)) (read-same reads at len have);
        stays = mark-stays code M s at granules marks pages st sound it.shard it.is some_ (omega (arith, it.slots));
      }

  store-by : (r : Option ℕ) (at : ℕ) (xs : List ℕ) → 0 < length xs → lacking writes M at (length xs) ≡ r → AccessStands code s granules marks (store M s (granules s) at xs r) (linux.stored_at pages (marks s) at xs r)
  store-by (Some a) at xs some is = fault a
  store-by None at xs some is =
      written code M s at xs granules marks pages (granules s) (marks s) answer.Done answer.Done st sound some (all-have writes M at (length xs) is)
      (λ X after. sym (own-left s (at / 16) ((at + length xs - 1) / 16) marks) ∙ after.marks_stand s) refl

  exclusive-by : (r : Option ℕ) (at : ℕ) (xs : List ℕ) → 0 < length xs → lacking writes M at (length xs) ≡ r → AccessStands code s granules marks (store_exclusive M s (granules s) at xs r) (linux.store_exclusive pages (marks s) at xs r)
  exclusive-by (Some a) at xs some is = fault a
  exclusive-by None at xs some is =
      subst (λ (b : Bool). AccessStands code s granules marks (store_exclusive M s (granules s) at xs None) (if b then linux.writes pages None at xs answer.Done else linux.answers_access pages None answer.NoMark)) (sym (has-mark-same M s at (granules s) (marks s) own)) (by (has_mark M s (granules s) at))
    where
      by : (b : Bool) → AccessStands code s granules marks (if b then answers (store_all M s at xs) None answer.Done else answers M None answer.NoMark) (if b then linux.writes pages None at xs answer.Done else linux.answers_access pages None answer.NoMark)
      by true = written code M s at xs granules marks pages None None answer.Done answer.Done st sound some (all-have writes M at (length xs) is) (λ X after. refl) refl
      by false = quiet code M s granules marks pages None None answer.NoMark answer.NoMark st sound refl refl

  swap-by : (r : Option ℕ) (at len : ℕ) (op : SwapOp) (value expected : ℕ) → 0 < len → lacking writes M at len ≡ r → AccessStands code s granules marks (swap M s (granules s) at len op value expected r) (linux.swapped pages (marks s) at len op value expected r)
  swap-by (Some a) at len op value expected some is = fault a
  swap-by None at len op value expected some is =
      let have = all-have writes M at len is in
      subst (λ (bs : List ℕ). AccessStands code s granules marks (swap M s (granules s) at len op value expected None) (if has_outcome op (number_of bs) expected then linux.writes pages (marks s) at (bytes_of (outcome op (number_of bs) value) len) (answer.Bytes (filled bs)) else linux.answers_access pages (marks s) (answer.Bytes (filled bs)))) (read-same writes at len have)
      (by (bytes_in M at len) (has_outcome op (number_of (bytes_in M at len)) expected) have)
    where
      by : (bs : List ℕ) (b : Bool) → AllHave writes M at len → AccessStands code s granules marks (if b then answers (store_all M s at (bytes_of (outcome op (number_of bs) value) len)) (granules s) (answer.Bytes (filled bs)) else answers M (granules s) (answer.Bytes (filled bs))) (if b then linux.writes pages (marks s) at (bytes_of (outcome op (number_of bs) value) len) (answer.Bytes (filled bs)) else linux.answers_access pages (marks s) (answer.Bytes (filled bs)))
      by bs false have = quiet code M s granules marks pages (granules s) (marks s) (answer.Bytes (filled bs)) (answer.Bytes (filled bs)) st sound own refl
      by bs true have =
          let xs = bytes_of (outcome op (number_of bs) value) len in
          let long : length xs ≡ len = length-bytes_of (outcome op (number_of bs) value) len in
          written code M s at xs granules marks pages (granules s) (marks s) (answer.Bytes (filled bs)) (answer.Bytes (filled bs)) st sound (omega (arith, long))
          (subst (λ (n : ℕ). AllHave writes M at n) (sym long) have)
          (λ X after. sym (own-left s (at / 16) ((at + length xs - 1) / 16) marks) ∙ after.marks_stand s) refl

  pub access-stands : (a : Access) → IsFit a → AccessStands code s granules marks (accessed M s (granules s) a) (linux.accessed pages (marks s) a)
  access-stands access.None fit = quiet code M s granules marks pages (granules s) (marks s) answer.Done answer.Done st sound own refl
  access-stands (access.Load at len m) fit =
      subst (λ (r : Option ℕ). AccessStands code s granules marks (load M s (granules s) at len m (lacking reads M at len)) (linux.loaded pages (marks s) at len m r)) (lacking-same Read code M granules marks pages at len st sound fit.0 fit.1)
      (load-by (lacking reads M at len) at len m fit refl)
  access-stands (access.Store at len bytes false) fit =
      let xs = take len bytes in
      let long : length xs ≡ len = length-take-le len bytes fit.1 in
      subst (λ (r : Option ℕ). AccessStands code s granules marks (store M s (granules s) at xs (lacking writes M at len)) (linux.stored_at pages (marks s) at xs r)) (lacking-same Write code M granules marks pages at len st sound fit.0 fit.2)
      (store-by (lacking writes M at len) at xs (omega (arith, long, fit.0)) (ap (lacking writes M at) long))
  access-stands (access.Store at len bytes true) fit =
      let xs = take len bytes in
      let long : length xs ≡ len = length-take-le len bytes fit.1 in
      subst (λ (r : Option ℕ). AccessStands code s granules marks (store_exclusive M s (granules s) at xs (lacking writes M at len)) (linux.store_exclusive pages (marks s) at xs r)) (lacking-same Write code M granules marks pages at len st sound fit.0 fit.2)
      (exclusive-by (lacking writes M at len) at xs (omega (arith, long, fit.0)) (ap (lacking writes M at) long))
  access-stands (access.Swap at len op value expected) fit =
      subst (λ (r : Option ℕ). AccessStands code s granules marks (swap M s (granules s) at len op value expected (lacking writes M at len)) (linux.swapped pages (marks s) at len op value expected r)) (lacking-same Write code M granules marks pages at len st sound fit.0 fit.1)
      (swap-by (lacking writes M at len) at len op value expected fit.0 refl)
  access-stands access.ClearMark fit = quiet code M s granules marks pages None None answer.Done answer.Done st sound refl refl
