-- A level interest that is ready has an active knote: whatever makes it ready activates it.
use Rattle.std.proofs.Common.{◌≡◌, ◌≢◌, ℕ, zero, suc, ◌+◌, ◌≤◌, Bool, true, false, not, ◌||◌, ◌&&◌, List, [], ◌∷◌, map, Option, Some, None, length, drop, refl, sym, ap, ◌∙◌, arith, ◌⊎◌, inl, inr, length-append, ◌++◌}
use Rattle.std.specs.Prelude.{◌==◌, nat_lt, filter, if◌then◌else◌, is_some, bit_and}
use Rattle.std.proofs.lemmas.Nat.{and_assoc, and_le_r}
use Rattle.std.specs.Int.Bits.{and_self}
use Rattle.std.proofs.lemmas.Grind.{common_steps}
use Rattle.lx_machine.specs.declared.label.LxSide.TheVariants as side
use Rattle.lx_machine.specs.declared.files.FileKind.TheVariants as kind
use Rattle.lx_machine.specs.Lists.{at_place, with_place}
use Rattle.lx_machine.specs.Interests.{is_open_of, is_kind, without_first_of}
use Rattle.lx_machine.specs.declared.label.LxSide.{LxSide}
use Rattle.lx_machine.specs.declared.files.Counter.{Counter}
use Rattle.lx_machine.specs.declared.files.FileKind.{FileKind}
use Rattle.lx_machine.specs.declared.files.Files.{Files}
use Rattle.lx_machine.specs.declared.files.OpenFile.{OpenFile}
use Rattle.lx_machine.specs.Files.{has_reader, has_writer, held_in}
use Rattle.lx_machine.specs.Write.{into_console}
use Rattle.ready_bits.specs.Ready.{if_so, has_space}
use Rattle.lx_machine.specs.Epoll.{ready, ready_at, pipe_holds, told}
use Rattle.linux_abi.specs.EpollBits.{wanted}
use Rattle.kqueue_core.specs.declared.knotes.Filter.{Filter}
use Rattle.kqueue_core.specs.declared.knotes.Filter.TheVariants.{Read, Write}
use Rattle.kqueue_core.specs.Changes.{is_apart_from, activated_where}
use Rattle.kqueue_core.specs.declared.knotes.Knote.{Knote}
use Rattle.kqueue_core.specs.declared.knotes.Watch.{Watch}
use Rattle.kqueue_core.specs.Watches.{activated_watch}
use Rattle.open_files.specs.Plain.{readiness}
use Rattle.files_stand.specs.Same.{Name, is_kept, stood_for}
use Rattle.kqueue_laws.specs.Pairs.{is_lost, edge_bit, knote_of}
use Rattle.kqueue_core.proofs.Tallies.{tally-filter, tally-map, tally_or, tally_within}
use Rattle.kqueue_laws.proofs.Pairs.{IsWhole}
use Rattle.files_stand.proofs.Pairs.{whole_stood, pair_told}
use Rattle.kqueue_laws.proofs.Changes.{both_true}
use Rattle.files_stand.specs.SoundFiles.{NoneLost, AllWhole}
use Rattle.bsd_files.specs.Ops.{is_this}
use Rattle.files_stand.proofs.Places.{same_or_not, placed_here, placed_other}

-- the bits r' are among the bits r
abbrev pub Among : ℕ → ℕ → Type 0
Among r' r = bit_and r' r ≡ r'

among_le : (r' r w : ℕ) → Among r' r → bit_and r' w ≤ bit_and r w
among_le r' r w h =
    let e : bit_and r' w ≡ bit_and r' (bit_and r w) = ap (λ z. bit_and z w) (sym h) ∙ and_assoc w r' r in
    let l = and_le_r r' (bit_and r w) in
    omega arith

pub among_some : (r' r w : ℕ) → Among r' r → not (bit_and r' w == 0) ≡ true → not (bit_and r w == 0) ≡ true
among_some r' r w h k = let l = among_le r' r w h in grind (arith, common_steps)

-- a file of kind k may get bits, and no other
abbrev pub GrowsAt : FileKind → List (Option OpenFile) → Files → Files → Type 0
GrowsAt k files F F' = (n : ℕ) → is_open_of k (at_place files n) ≡ false → Among (ready_at F' (at_place F'.files n)) (ready_at F (at_place F.files n))

-- no file gets bits
abbrev pub GrowsNowhere : Files → Files → Type 0
GrowsNowhere F F' = (n : ℕ) → Among (ready_at F' (at_place F'.files n)) (ready_at F (at_place F.files n))

lost_by : (z' z a l : Bool) → (z' ≡ true → z ≡ true) → (z' && (a && l)) ≡ true → (z && (a && l)) ≡ true
lost_by z' z a l h k = let p = both_true z' (a && l) k in let q = h p.0 in rw (q, p.1) refl

never : (z l : Bool) → (z && (false && l)) ≡ false
never true l = refl
never false l = refl

never_right : (z x l : Bool) → (z && (not (x || true) && l)) ≡ false
never_right true true l = refl
never_right true false l = refl
never_right false x l = refl

awake_kept : (R : ℕ → Filter → ℕ) (g : Filter) (f d asked user : ℕ) (enabled x y : Bool) → is_lost R (activated_watch g (record { file = f; descriptor = d; read = Some (knote_of asked user enabled x); write = Some (knote_of asked user enabled y) })) ≡ false
awake_kept R Read f d asked user enabled x y = never _ (not (edge_bit asked))
awake_kept R Write f d asked user enabled x y = never_right _ x (not (edge_bit asked))

module _ (F F' : Files) (k : FileKind) (files : List (Option OpenFile)) (grows : GrowsAt k files F F') (g : Filter) where
  pair_point : (b : Bool) (f d asked user : ℕ) (enabled x y : Bool) → is_open_of k (at_place files f) ≡ b → let w : Watch = record { file = f; descriptor = d; read = Some (knote_of asked user enabled x); write = Some (knote_of asked user enabled y) } in
      is_lost (readiness F') (if b then activated_watch g w else w) ≡ true → is_lost (readiness F) w ≡ true
  pair_point true f d asked user enabled x y e i = let z : false ≡ true = sym (awake_kept (readiness F') g f d asked user enabled x y) ∙ i in absurd (cc)
  pair_point false f d asked user enabled x y e i =
      rw (pair_told F f d asked user enabled x y)
      (lost_by (not (told F' f asked == 0)) (not (told F f asked == 0)) (not (x || y)) _ (among_some _ _ (wanted asked) (grows f e)) (rw (pair_told F' f d asked user enabled x y) at i))

  point : (b : Bool) (f d : ℕ) (r w : Option Knote) → is_open_of k (at_place files f) ≡ b → IsWhole r w → is_lost (readiness F') (if b then activated_watch g (record { file = f; descriptor = d; read = r; write = w }) else record { file = f; descriptor = d; read = r; write = w }) ≡ true → is_lost (readiness F) (record { file = f; descriptor = d; read = r; write = w }) ≡ true
  point b f d r w e h = rw (h.read, h.write) (pair_point b f d h.asked h.user h.enabled h.reads h.writes e)

  kept_same : (b : Bool) (x : Option Name) (w : Watch) → let v : Watch = if b then activated_watch g w else w in is_kept x v.file v.descriptor ≡ is_kept x w.file w.descriptor
  kept_same true x w = by g
    where
      by : (h : Filter) → is_kept x (activated_watch h w).file (activated_watch h w).descriptor ≡ is_kept x w.file w.descriptor
      by Read = refl
      by Write = refl
  kept_same false x w = refl

  -- none is lost after an event that arms all that may become ready
  pub arm_none_lost : (x : Option Name) (ws : List Watch) → AllWhole x ws → NoneLost F x ws → NoneLost F' x (map (activated_where (is_this k files) g) ws)
  arm_none_lost x ws whole none =
      tally-map (activated_where (is_this k files) g) (λ w. is_kept x w.file w.descriptor && is_lost (readiness F') w) ws
      ∙ (let a = tally_within (λ w. is_kept x (activated_where (is_this k files) g w).file (activated_where (is_this k files) g w).descriptor && is_lost (readiness F') (activated_where (is_this k files) g w)) (λ w. (is_kept x w.file w.descriptor && is_lost (readiness F) w) || (is_kept x w.file w.descriptor && not (is_some (stood_for w)))) each ws in
      let b = tally_or (λ w. is_kept x w.file w.descriptor && is_lost (readiness F) w) (λ w. is_kept x w.file w.descriptor && not (is_some (stood_for w))) ws in
      omega arith)
    where
      either : (c : Bool) (w : Watch) (z : Bool) → is_some (stood_for w) ≡ z → c ≡ true → (is_some (stood_for w) ≡ true → is_lost (readiness F) w ≡ true) → ((c && is_lost (readiness F) w) || (c && not (is_some (stood_for w)))) ≡ true
      either c w true e f h = rw (f, h e) refl
      either c w false e f h = rw (f, e) (or_is_true (is_lost (readiness F) w))
        where
          or_is_true : (b : Bool) → (b || true) ≡ true
          or_is_true true = refl
          or_is_true false = refl

      each : (w : Watch) → (is_kept x (activated_where (is_this k files) g w).file (activated_where (is_this k files) g w).descriptor && is_lost (readiness F') (activated_where (is_this k files) g w)) ≡ true → ((is_kept x w.file w.descriptor && is_lost (readiness F) w) || (is_kept x w.file w.descriptor && not (is_some (stood_for w)))) ≡ true
      each w h =
          let p = both_true _ _ h in
          either (is_kept x w.file w.descriptor) w _ refl (sym (kept_same (is_open_of k (at_place files w.file)) x w) ∙ p.0) (λ e. point (is_open_of k (at_place files w.file)) w.file w.descriptor w.read w.write refl (whole_stood w.file w.descriptor w.read w.write e) p.1)

-- an interest in an open file that gains no events isn't lost by it
module _ (F F' : Files) (f : ℕ) (among : Among (ready_at F' (at_place F'.files f)) (ready_at F (at_place F.files f))) where
  still_pair : (d asked user : ℕ) (enabled x y : Bool) → let w : Watch = record { file = f; descriptor = d; read = Some (knote_of asked user enabled x); write = Some (knote_of asked user enabled y) } in is_lost (readiness F') w ≡ true → is_lost (readiness F) w ≡ true
  still_pair d asked user enabled x y i =
      rw (pair_told F f d asked user enabled x y)
      (lost_by (not (told F' f asked == 0)) (not (told F f asked == 0)) (not (x || y)) _ (among_some _ _ (wanted asked) among) (rw (pair_told F' f d asked user enabled x y) at i))

  pub still_point : (d : ℕ) (r w : Option Knote) → IsWhole r w → is_lost (readiness F') (record { file = f; descriptor = d; read = r; write = w }) ≡ true → is_lost (readiness F) (record { file = f; descriptor = d; read = r; write = w }) ≡ true
  still_point d r w h = rw (h.read, h.write) (still_pair d h.asked h.user h.enabled h.reads h.writes)

-- none is lost where nothing becomes ready
module _ (F F' : Files) (grows : GrowsNowhere F F') where
  pub still_none_lost : (x : Option Name) (ws : List Watch) → AllWhole x ws → NoneLost F x ws → NoneLost F' x ws
  still_none_lost x ws whole none =
      let a = tally_within (λ w. is_kept x w.file w.descriptor && is_lost (readiness F') w) (λ w. (is_kept x w.file w.descriptor && is_lost (readiness F) w) || (is_kept x w.file w.descriptor && not (is_some (stood_for w)))) each ws in
      let b = tally_or (λ w. is_kept x w.file w.descriptor && is_lost (readiness F) w) (λ w. is_kept x w.file w.descriptor && not (is_some (stood_for w))) ws in
      omega arith
    where
      either : (c : Bool) (w : Watch) (z : Bool) → is_some (stood_for w) ≡ z → c ≡ true → (is_some (stood_for w) ≡ true → is_lost (readiness F) w ≡ true) → ((c && is_lost (readiness F) w) || (c && not (is_some (stood_for w)))) ≡ true
      either c w true e f h = rw (f, h e) refl
      either c w false e f h = rw (f, e) (or_is_true (is_lost (readiness F) w))
        where
          or_is_true : (b : Bool) → (b || true) ≡ true
          or_is_true true = refl
          or_is_true false = refl

      each : (w : Watch) → (is_kept x w.file w.descriptor && is_lost (readiness F') w) ≡ true → ((is_kept x w.file w.descriptor && is_lost (readiness F) w) || (is_kept x w.file w.descriptor && not (is_some (stood_for w)))) ≡ true
      each w h = let p = both_true _ _ h in either (is_kept x w.file w.descriptor) w _ refl p.0 (λ e. still_point F F' w.file (grows w.file) w.descriptor w.read w.write (whole_stood w.file w.descriptor w.read w.write e) p.1)

-- the end of a file takes watches away
pub leave_none_lost : (F : Files) (x : Option Name) (file : ℕ) (ws : List Watch) → NoneLost F x ws → NoneLost F x (filter (is_apart_from file) ws)
leave_none_lost F x file ws none =
    tally-filter (is_apart_from file) (λ w. is_kept x w.file w.descriptor && is_lost (readiness F) w) ws
    ∙ (let a = tally_within (λ w. is_apart_from file w && (is_kept x w.file w.descriptor && is_lost (readiness F) w)) (λ w. is_kept x w.file w.descriptor && is_lost (readiness F) w) (λ w h. (both_true (is_apart_from file w) (is_kept x w.file w.descriptor && is_lost (readiness F) w) h).1) ws in omega arith)

-- ---- what grows where

abbrev pub Implies : Bool → Bool → Type 0
Implies b' b = b' ≡ true → b ≡ true

refuted : {A : Type 0} → Implies true false → A
refuted i = let z : false ≡ true = i refl in absurd (cc)

pub read_among : (b' b h : Bool) → Implies b' b → Among (if_so b' 1 + if_so h 16) (if_so b 1 + if_so h 16)
read_among true true true i = refl
read_among true true false i = refl
read_among true false h i = refuted i
read_among false true true i = refl
read_among false true false i = refl
read_among false false true i = refl
read_among false false false i = refl

pub write_among : (b' b h : Bool) → Implies b' b → Among (if_so b' 4 + if_so h 8) (if_so b 4 + if_so h 8)
write_among true true true i = refl
write_among true true false i = refl
write_among true false h i = refuted i
write_among false true true i = refl
write_among false true false i = refl
write_among false false true i = refl
write_among false false false i = refl

console_among : (b' b : Bool) → Implies b' b → Among (if_so b' 4) (if_so b 4)
console_among true true i = refl
console_among true false i = refuted i
console_among false true i = refl
console_among false false i = refl

pub less_space : (n m : ℕ) → n ≤ m → Implies (has_space m) (has_space n)
less_space n m h i = grind arith

pub fewer_held : (n m : ℕ) → m ≤ n → Implies (nat_lt 0 m) (nat_lt 0 n)
fewer_held n m h i = grind arith

pub not_same : (p q : ℕ) → (p == q) ≡ false → q ≢ p
not_same p q h e = grind arith

module _ (F : Files) (p : ℕ) (bytes bytes' : List ℕ) (is : at_place F.pipes p ≡ Some bytes) where
  abbrev with_bytes : Files
  with_bytes = record F { pipes = with_place F.pipes p bytes' }

  held_here : pipe_holds with_bytes p ≡ bytes'
  held_here = ap held_in (placed_here F.pipes p bytes' bytes is)

  held_before : pipe_holds F p ≡ bytes
  held_before = ap held_in is

  held_other : (q : ℕ) → q ≢ p → pipe_holds with_bytes q ≡ pipe_holds F q
  held_other q ne = ap held_in (placed_other F.pipes p q bytes' ne)

  read_other : (q : ℕ) → q ≢ p → Among (ready with_bytes (kind.PipeRead q)) (ready F (kind.PipeRead q))
  read_other q ne = rw (held_other q ne) (same_among' _)
    where
      same_among' : (r : ℕ) → Among r r
      same_among' r = and_self r

  write_other : (q : ℕ) → q ≢ p → Among (ready with_bytes (kind.PipeWrite q)) (ready F (kind.PipeWrite q))
  write_other q ne = rw (held_other q ne) (and_self _)

  -- a write of the pipe: its write end gets no bits
  longer_kind : length bytes ≤ length bytes' → (k : FileKind) → is_kind (kind.PipeRead p) k ≡ false → Among (ready with_bytes k) (ready F k)
  longer_kind h (kind.PipeRead q) e = read_other q (not_same p q e)
  longer_kind h (kind.PipeWrite q) e = by (same_or_not p q)
    where
      by : (q ≡ p) ⊎ (q ≢ p) → Among (ready with_bytes (kind.PipeWrite q)) (ready F (kind.PipeWrite q))
      by (inl f) = rw (f, held_here, held_before) (write_among _ _ (not (has_reader F p)) (less_space (length bytes) (length bytes') h))
      by (inr ne) = write_other q ne
  longer_kind h kind.Input e = and_self _
  longer_kind h (kind.Console which) e = and_self _
  longer_kind h (kind.Counter n) e = and_self _
  longer_kind h (kind.Epoll n) e = refl

  longer_at : length bytes ≤ length bytes' → (o : Option OpenFile) → is_open_of (kind.PipeRead p) o ≡ false → Among (ready_at with_bytes o) (ready_at F o)
  longer_at h None e = refl
  longer_at h (Some f) e = longer_kind h f.kind e

  pub write_grows : length bytes ≤ length bytes' → GrowsAt (kind.PipeRead p) F.files F with_bytes
  write_grows h n e = longer_at h (at_place F.files n) e

  -- a read of the pipe: its read end gets no bits
  shorter_kind : length bytes' ≤ length bytes → (k : FileKind) → is_kind (kind.PipeWrite p) k ≡ false → Among (ready with_bytes k) (ready F k)
  shorter_kind h (kind.PipeWrite q) e = write_other q (not_same p q e)
  shorter_kind h (kind.PipeRead q) e = by (same_or_not p q)
    where
      by : (q ≡ p) ⊎ (q ≢ p) → Among (ready with_bytes (kind.PipeRead q)) (ready F (kind.PipeRead q))
      by (inl f) = rw (f, held_here, held_before) (read_among _ _ (not (has_writer F p)) (fewer_held (length bytes) (length bytes') h))
      by (inr ne) = read_other q ne
  shorter_kind h kind.Input e = and_self _
  shorter_kind h (kind.Console which) e = and_self _
  shorter_kind h (kind.Counter n) e = and_self _
  shorter_kind h (kind.Epoll n) e = refl

  shorter_at : length bytes' ≤ length bytes → (o : Option OpenFile) → is_open_of (kind.PipeWrite p) o ≡ false → Among (ready_at with_bytes o) (ready_at F o)
  shorter_at h None e = refl
  shorter_at h (Some f) e = shorter_kind h f.kind e

  pub read_grows : length bytes' ≤ length bytes → GrowsAt (kind.PipeWrite p) F.files F with_bytes
  read_grows h n e = shorter_at h (at_place F.files n) e

-- a counter that is read or written
module _ (F : Files) (m : ℕ) (n : Counter) where
  counter_kind : (k : FileKind) → is_kind (kind.Counter m) k ≡ false → Among (ready (record F { counters = with_place F.counters m n }) k) (ready F k)
  counter_kind (kind.Counter q) e = rw (placed_other F.counters m q n (not_same m q e)) (and_self _)
  counter_kind (kind.PipeRead p) e = and_self _
  counter_kind (kind.PipeWrite p) e = and_self _
  counter_kind kind.Input e = and_self _
  counter_kind (kind.Console which) e = and_self _
  counter_kind (kind.Epoll q) e = refl

  counter_at : (o : Option OpenFile) → is_open_of (kind.Counter m) o ≡ false → Among (ready_at (record F { counters = with_place F.counters m n }) o) (ready_at F o)
  counter_at None e = refl
  counter_at (Some f) e = counter_kind f.kind e

  pub counter_grows : GrowsAt (kind.Counter m) F.files F (record F { counters = with_place F.counters m n })
  counter_grows k e = counter_at (at_place F.files k) e

-- Drain
module _ (F : Files) where
  drain_kind : (which : LxSide) (n : ℕ) (k : FileKind) → is_kind (kind.Console which) k ≡ false → Among (ready (without_first_of F which n) k) (ready F k)
  drain_kind side.Out n (kind.Console side.Out) e = let z : true ≡ false = e in absurd (cc)
  drain_kind side.Out n (kind.Console side.Err) e = and_self _
  drain_kind side.Err n (kind.Console side.Out) e = and_self _
  drain_kind side.Err n (kind.Console side.Err) e = let z : true ≡ false = e in absurd (cc)
  drain_kind side.Out n (kind.Counter q) e = and_self _
  drain_kind side.Out n (kind.PipeRead p) e = and_self _
  drain_kind side.Out n (kind.PipeWrite p) e = and_self _
  drain_kind side.Out n kind.Input e = and_self _
  drain_kind side.Out n (kind.Epoll q) e = refl
  drain_kind side.Err n (kind.Counter q) e = and_self _
  drain_kind side.Err n (kind.PipeRead p) e = and_self _
  drain_kind side.Err n (kind.PipeWrite p) e = and_self _
  drain_kind side.Err n kind.Input e = and_self _
  drain_kind side.Err n (kind.Epoll q) e = refl

  drain_at : (which : LxSide) (n : ℕ) (o : Option OpenFile) → is_open_of (kind.Console which) o ≡ false → Among (ready_at (without_first_of F which n) o) (ready_at F o)
  drain_at which n None e = refl
  drain_at which n (Some f) e = drain_kind which n f.kind e

  files_kept : (which : LxSide) (n : ℕ) → (without_first_of F which n).files ≡ F.files
  files_kept side.Out n = refl
  files_kept side.Err n = refl

  pub drain_grows : (which : LxSide) (n : ℕ) → GrowsAt (kind.Console which) F.files F (without_first_of F which n)
  drain_grows which n k e = rw (files_kept which n) (drain_at which n (at_place F.files k) e)

  -- a read of the input
  input_kind : (n : ℕ) (k : FileKind) → Among (ready (record F { input = drop n F.input }) k) (ready F k)
  input_kind n kind.Input = read_among _ _ true (λ i. fewer_left n F.input i)
    where
      fewer_left : (n : ℕ) (xs : List ℕ) → Implies (nat_lt 0 (length (drop n xs))) (nat_lt 0 (length xs))
      fewer_left zero xs i = i
      fewer_left (suc n) [] i = i
      fewer_left (suc n) (x ∷ xs) i = grind arith
  input_kind n (kind.Counter q) = and_self _
  input_kind n (kind.PipeRead p) = and_self _
  input_kind n (kind.PipeWrite p) = and_self _
  input_kind n (kind.Console which) = console_same which
    where
      console_same : (which : LxSide) → Among (ready (record F { input = drop n F.input }) (kind.Console which)) (ready F (kind.Console which))
      console_same side.Out = and_self _
      console_same side.Err = and_self _
  input_kind n (kind.Epoll q) = refl

  input_at : (n : ℕ) (o : Option OpenFile) → Among (ready_at (record F { input = drop n F.input }) o) (ready_at F o)
  input_at n None = refl
  input_at n (Some f) = input_kind n f.kind

  pub input_grows : (n : ℕ) → GrowsNowhere F (record F { input = drop n F.input })
  input_grows n k = input_at n (at_place F.files k)

  -- a write to a console
  console_kind : (which : LxSide) (bytes : List ℕ) (k : FileKind) → Among (ready (into_console F which bytes) k) (ready F k)
  console_kind side.Out bytes (kind.Console side.Out) = console_among _ _ (less_space (length F.out) (length (F.out ++ bytes)) (let h = length-append F.out bytes in omega arith))
  console_kind side.Out bytes (kind.Console side.Err) = and_self _
  console_kind side.Err bytes (kind.Console side.Out) = and_self _
  console_kind side.Err bytes (kind.Console side.Err) = console_among _ _ (less_space (length F.err) (length (F.err ++ bytes)) (let h = length-append F.err bytes in omega arith))
  console_kind side.Out bytes (kind.Counter q) = and_self _
  console_kind side.Out bytes (kind.PipeRead p) = and_self _
  console_kind side.Out bytes (kind.PipeWrite p) = and_self _
  console_kind side.Out bytes kind.Input = and_self _
  console_kind side.Out bytes (kind.Epoll q) = refl
  console_kind side.Err bytes (kind.Counter q) = and_self _
  console_kind side.Err bytes (kind.PipeRead p) = and_self _
  console_kind side.Err bytes (kind.PipeWrite p) = and_self _
  console_kind side.Err bytes kind.Input = and_self _
  console_kind side.Err bytes (kind.Epoll q) = refl

  console_at : (which : LxSide) (bytes : List ℕ) (o : Option OpenFile) → Among (ready_at (into_console F which bytes) o) (ready_at F o)
  console_at which bytes None = refl
  console_at which bytes (Some f) = console_kind which bytes f.kind

  console_files : (which : LxSide) (bytes : List ℕ) → (into_console F which bytes).files ≡ F.files
  console_files side.Out bytes = refl
  console_files side.Err bytes = refl

  pub console_grows : (which : LxSide) (bytes : List ℕ) → GrowsNowhere F (into_console F which bytes)
  console_grows which bytes n = rw (console_files which bytes) (console_at which bytes (at_place F.files n))
