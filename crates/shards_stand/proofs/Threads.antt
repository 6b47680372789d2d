-- The marks of the Linux threads, as the list of them has them, and what is kept where one of them changes.
use Rattle.std.proofs.Common.{◌≡◌, ℕ, zero, suc, ◌+◌, ◌-◌, ◌/◌, ◌==◌, Bool, true, false, ◌<◌, List, [], ◌∷◌, length, Option, Some, None, if◌then◌else◌, refl, sym, ap, ◌∙◌, arith, inl, inr, length-set}
use Rattle.std.proofs.lemmas.Bool.{cases_eq}
use Rattle.std.proofs.lemmas.Bool.Decides.{nat_tests}
use Rattle.page_store.specs.Pages.{Pages}
use Rattle.lx_machine.proofs.Places.{place-within, place-set_other}
use Rattle.lx_machine.specs.Lists.{bind, at_place, with_place, without_place}
use Rattle.lx_machine.specs.Threads.{mark_left, unmarked, unmarked_from, after_write}
use Rattle.lx_machine.specs.declared.threads.LxThread.{LxThread}
use Rattle.machine_parts.specs.Parts.{Parts}
use Rattle.shards_stand.specs.Kept.{standing}
use Rattle.shards_stand.specs.Clause.{Stays}
use Rattle.shards_stand.specs.SlotMarks.{marks_left, wrote, put, marks_of}

abbrev mark_in : Option LxThread → Option ℕ
mark_in o = bind o (λ t. t.mark)

none-left : (b : Bool) (first last : ℕ) → None ≡ (if b then None else mark_left first last None)
none-left true first last = refl
none-left false first last = refl

unmarked-mark : (o : Option LxThread) (first last : ℕ) → mark_in (unmarked first last o) ≡ mark_left first last (mark_in o)
unmarked-mark None first last = refl
unmarked-mark (Some t) first last = refl

head-mark : (b : Bool) (o : Option LxThread) (first last : ℕ) → mark_in (if b then o else unmarked first last o) ≡ (if b then mark_in o else mark_left first last (mark_in o))
head-mark true o first last = refl
head-mark false o first last = unmarked-mark o first last

marks-from : (ts : List (Option LxThread)) (at s first last k : ℕ) → marks_of (unmarked_from at s first last ts) k ≡ (if at + k == s then marks_of ts k else mark_left first last (marks_of ts k))
marks-from [] at s first last k = none-left (at + k == s) first last
marks-from (t ∷ ts) at s first last zero =
    let here : at + 0 ≡ at = omega arith in
    head-mark (at == s) t first last ∙ ap (λ (n : ℕ). if n == s then mark_in t else mark_left first last (mark_in t)) (sym here)
marks-from (t ∷ ts) at s first last (suc k) =
    let next : suc at + k ≡ at + suc k = omega arith in
    marks-from ts (suc at) s first last k ∙ ap (λ (n : ℕ). if n == s then marks_of ts k else mark_left first last (marks_of ts k)) next

after-by : (b : Bool) (ts : List (Option LxThread)) (s at len k : ℕ) → marks_of (if b then ts else unmarked_from 0 s (at / 16) ((at + len - 1) / 16) ts) k ≡ (if b then marks_of ts k else marks_left s (at / 16) ((at + len - 1) / 16) (marks_of ts) k)
after-by true ts s at len k = refl
after-by false ts s at len k =
    let same : 0 + k ≡ k = omega arith in
    marks-from ts 0 s (at / 16) ((at + len - 1) / 16) k ∙ ap (λ (n : ℕ). if n == s then marks_of ts k else mark_left (at / 16) ((at + len - 1) / 16) (marks_of ts k)) same

-- what a write leaves of the marks
pub marks-after : (ts : List (Option LxThread)) (s at len k : ℕ) → marks_of (after_write s at len ts) k ≡ wrote s at len (marks_of ts) k
marks-after ts s at len k = after-by (len == 0) ts s at len k

-- the marks where this thread is in a slot
pub marks-placed : (ts : List (Option LxThread)) (s : ℕ) (t : LxThread) (k : ℕ) → s < length ts → marks_of (with_place ts s t) k ≡ put (marks_of ts) s t.mark k
marks-placed ts s t k within = elim (cases_eq k s) [
  | inl same ↦
      let own : (k == s) ≡ true = grind (arith, nat_tests) in
      ap (λ (j : ℕ). mark_in (at_place (with_place ts s t) j)) same ∙ ap mark_in (place-within ts s t within)
      ∙ sym (ap (λ (b : Bool). if b then t.mark else marks_of ts k) own)
  | inr other ↦
      let off : (k == s) ≡ false = grind (arith, nat_tests) in
      ap mark_in (place-set_other ts s k (Some t) other) ∙ sym (ap (λ (b : Bool). if b then t.mark else marks_of ts k) off)
]

length-unmarked : (ts : List (Option LxThread)) (at s first last : ℕ) → length (unmarked_from at s first last ts) ≡ length ts
length-unmarked [] at s first last = refl
length-unmarked (t ∷ ts) at s first last = ap suc (length-unmarked ts (suc at) s first last)

length-after : (ts : List (Option LxThread)) (s at len : ℕ) → length (after_write s at len ts) ≡ length ts
length-after ts s at len = by (len == 0)
  where
    by : (b : Bool) → length (if b then ts else unmarked_from 0 s (at / 16) ((at + len - 1) / 16) ts) ≡ length ts
    by true = refl
    by false = length-unmarked ts 0 s (at / 16) ((at + len - 1) / 16)

-- the marks where a step took the thread in a slot out of its place, wrote, and put it back with the mark that it had
pub marks-stepped : (ts : List (Option LxThread)) (s at len : ℕ) (t : LxThread) (k : ℕ) → s < length ts → t.mark ≡ marks_of ts s → marks_of (with_place (after_write s at len (without_place ts s)) s t) k ≡ wrote s at len (marks_of ts) k
marks-stepped ts s at len t k within keeps =
    let rest = without_place ts s in
    let now = after_write s at len rest in
    let size : length now ≡ length ts = length-after rest s at len ∙ length-set ts s None in
    marks-placed now s t k (omega (arith, size)) ∙ elim (cases_eq k s) [
      | inl same ↦
          let own : (k == s) ≡ true = grind (arith, nat_tests) in
          ap (λ (b : Bool). if b then t.mark else marks_of now k) own ∙ keeps ∙ ap (marks_of ts) (sym same)
          ∙ own-mark (len == 0) (marks_of ts k)
          ∙ ap (λ (b : Bool). if len == 0 then marks_of ts k else (if b then marks_of ts k else mark_left (at / 16) ((at + len - 1) / 16) (marks_of ts k))) (sym own)
      | inr other ↦
          let off : (k == s) ≡ false = grind (arith, nat_tests) in
          ap (λ (b : Bool). if b then t.mark else marks_of now k) off ∙ marks-after rest s at len k
          ∙ ap (λ (m : Option ℕ). if len == 0 then m else (if k == s then m else mark_left (at / 16) ((at + len - 1) / 16) m)) (ap mark_in (place-set_other ts s k None other))
    ]
  where
    own-mark : (b : Bool) (m : Option ℕ) → m ≡ (if b then m else (if true then m else mark_left (at / 16) ((at + len - 1) / 16) m))
    own-mark true m = refl
    own-mark false m = refl

-- ---- what stands, with the same granules and marks told otherwise

module _ (code : Pages) (M : Parts) (pages : Pages) where
  pub same-stays : (granules others marks told : ℕ → Option ℕ) → ((s : ℕ) → granules s ≡ others s) → ((s : ℕ) → marks s ≡ told s) → Stays code M granules pages marks → Stays code M others pages told
  same-stays granules others marks told same is st = record {
    stands = record {
      pages_stand = st.stands.pages_stand;
      marks_stand = λ s. sym (is s) ∙ st.stands.marks_stand s ∙ ap (standing M s) (same s);
    };
    sound = st.sound;
  }

  -- the thread in a slot has written: the marks of the list of threads
  pub written-threads : (granules : ℕ → Option ℕ) (ts : List (Option LxThread)) (s at len : ℕ) → Stays code M granules pages (wrote s at len (marks_of ts)) → Stays code M granules pages (marks_of (after_write s at len ts))
  written-threads granules ts s at len = same-stays granules granules (wrote s at len (marks_of ts)) (marks_of (after_write s at len ts)) (λ k. refl) (λ k. sym (marks-after ts s at len k))

  -- the same where a step took the thread out of its place and put it back
  pub stepped-threads : (granules : ℕ → Option ℕ) (ts : List (Option LxThread)) (s at len : ℕ) (t : LxThread) → s < length ts → t.mark ≡ marks_of ts s → Stays code M granules pages (wrote s at len (marks_of ts)) → Stays code M granules pages (marks_of (with_place (after_write s at len (without_place ts s)) s t))
  stepped-threads granules ts s at len t within keeps = same-stays granules granules (wrote s at len (marks_of ts)) (marks_of (with_place (after_write s at len (without_place ts s)) s t)) (λ k. refl) (λ k. sym (marks-stepped ts s at len t k within keeps))

  -- the same where the thread has changed besides, as an instruction changes it
  pub ran-threads : (granules : ℕ → Option ℕ) (ts : List (Option LxThread)) (s at len : ℕ) (t : LxThread) → s < length ts → Stays code M granules pages (wrote s at len (put (marks_of ts) s t.mark)) → Stays code M granules pages (marks_of (after_write s at len (with_place ts s t)))
  ran-threads granules ts s at len t within = same-stays granules granules (wrote s at len (put (marks_of ts) s t.mark)) (marks_of (after_write s at len (with_place ts s t))) (λ k. refl) (λ k.
      wrote-same (put (marks_of ts) s t.mark) (marks_of (with_place ts s t)) k (len == 0) (k == s) (sym (marks-placed ts s t k within)) ∙ sym (marks-after (with_place ts s t) s at len k))
    where
      wrote-same : (one other : ℕ → Option ℕ) (k : ℕ) (b own : Bool) → one k ≡ other k → (if b then one k else (if own then one k else mark_left (at / 16) ((at + len - 1) / 16) (one k))) ≡ (if b then other k else (if own then other k else mark_left (at / 16) ((at + len - 1) / 16) (other k)))
      wrote-same one other k b own same = ap (λ (m : Option ℕ). if b then m else (if own then m else mark_left (at / 16) ((at + len - 1) / 16) m)) same

  -- the thread in a slot keeps no granule any more, as after SVC, CLREX or a delivered signal, and has no mark
  pub ended-stays : (granules marks : ℕ → Option ℕ) (s : ℕ) → Stays code M granules pages marks → Stays code M (put granules s None) pages (put marks s None)
  ended-stays granules marks s st = record {
    stands = record {
      pages_stand = st.stands.pages_stand;
      marks_stand = λ k. by k (k == s);
    };
    sound = st.sound;
  }
    where
      by : (k : ℕ) (b : Bool) → (if b then None else marks k) ≡ standing M k (if b then None else granules k)
      by k true = refl
      by k false = st.stands.marks_stand k
