-- What holds of the files at all times is kept, and the clause Files too, where an open file is held, given back, or made
-- nonblocking.
use Rattle.std.proofs.Common.{◌≡◌, ◌≢◌, ◌⊎◌, inl, inr, ℕ, zero, suc, ◌+◌, ◌<◌, ◌≤◌, Bool, true, false, ◌||◌, List, [], ◌∷◌, Option, Some, None, refl, sym, ap, ap₂, ◌∙◌, arith}
use Rattle.std.specs.Prelude.{◌==◌, is_some}
use Rattle.std.specs.List.{list_any}
use Rattle.std.specs.Int.{from_bool}
use Rattle.std.specs.Int.Bits.{and_self}
use Rattle.std.proofs.lemmas.List.{length-set}
use Rattle.kqueue_core.specs.Queues.{Queue}
use Rattle.kqueue_laws.proofs.Changes.{eq_is, eq_self}
use Rattle.lx_machine.specs.Calls.{low_argument}
use Rattle.lx_machine.specs.Epoll.{ready, ready_at}
use Rattle.lx_machine.specs.Files.{given_back_as, held_once_less, held_once_more, is_open_as, is_read_end, is_write_end, numbered, with_hold}
use Rattle.lx_machine.specs.Lists.{at_place, bind, with_place}
use Rattle.lx_machine.specs.declared.calls.LxCall.{LxCall}
use Rattle.lx_machine.specs.declared.files.Descriptor.{Descriptor}
use Rattle.lx_machine.specs.declared.files.FileKind.{FileKind}
use Rattle.lx_machine.specs.declared.files.FileKind.TheVariants as kind
use Rattle.lx_machine.specs.declared.files.Files.{Files}
use Rattle.lx_machine.specs.declared.files.OpenFile.{OpenFile}
use Rattle.lx_machine.specs.declared.label.LxSide.TheVariants as side
use Rattle.bsd_files.specs.Calls.{dropped, held, set_blocking, with_plain}
use Rattle.bsd_files.specs.Ops.{each_queue, give_ops_of}
use Rattle.bsd_files.specs.State.{FilesState}
use Rattle.files_stand.specs.FilesStand.{FilesStand}
use Rattle.files_stand.specs.SoundFiles.{SoundFiles, flux_name, holders_of, is_that, is_there, lives, with_holding}
use Rattle.files_stand.proofs.Closes.{less_alone}
use Rattle.files_stand.proofs.Entries.{Leaves, fluxes_step, queues_step, step_stands}
use Rattle.files_stand.proofs.Grows.{Among, GrowsNowhere}
use Rattle.files_stand.proofs.Names.{SameAt, keeps_by, kind_placed}
use Rattle.files_stand.proofs.SoundEnds.{sound_settled}
use Rattle.files_stand.proofs.SoundMoves.{same_name, whole_at}
use Rattle.files_stand.proofs.SoundQueues.{before_of, sound_after, still_after}
use Rattle.files_stand.proofs.Places.{same_or_not, placed_here, placed_other, some_placed}

-- ---- how many slots hold an open file

module _ (holding : ℕ → Option ℕ) (s : ℕ) (o : Option ℕ) (file : ℕ) where
  there_by : (n : ℕ) → n ≢ s → with_holding holding s o n ≡ holding n
  there_by n ne = by (n == s) refl
    where
      by : (b : Bool) → (n == s) ≡ b → with_holding holding s o n ≡ holding n
      by true e = absurd (ne (eq_is n s e))
      by false e = rw e refl

  here_by : (n : ℕ) → n ≡ s → with_holding holding s o n ≡ o
  here_by n e = let h : (n == s) ≡ true = grind arith in rw h refl

  count : Option ℕ → ℕ
  count x = from_bool (is_that file x)

  below : (n : ℕ) → n ≤ s → holders_of (with_holding holding s o) file n ≡ holders_of holding file n
  below zero l = refl
  below (suc n) l = ap₂ (λ (a b : ℕ). a + b) (ap (λ x. from_bool (is_that file x)) (there_by n (apart l))) (below n (omega arith))
    where
      apart : suc n ≤ s → n ≢ s
      apart l e = omega arith

  -- one more where the new one is it, one fewer where the old one was
  pub holders_changed : (n : ℕ) → s < n → holders_of (with_holding holding s o) file n + from_bool (is_that file (holding s)) ≡ holders_of holding file n + from_bool (is_that file o)
  holders_changed zero l = absurd (omega arith)
  holders_changed (suc n) l = by (λ k. holders_changed n k) (same_or_not n s)
    where
      less : s ≢ n → s < n
      less ne = grind arith

      by : (s < n → holders_of (with_holding holding s o) file n + from_bool (is_that file (holding s)) ≡ holders_of holding file n + from_bool (is_that file o)) → (s ≡ n) ⊎ (s ≢ n) → holders_of (with_holding holding s o) file (suc n) + from_bool (is_that file (holding s)) ≡ holders_of holding file (suc n) + from_bool (is_that file o)
      by again (inl e) =
          let a : from_bool (is_that file (with_holding holding s o n)) ≡ from_bool (is_that file o) = ap (λ x. from_bool (is_that file x)) (here_by n (sym e)) in
          let b : from_bool (is_that file (holding n)) ≡ from_bool (is_that file (holding s)) = ap (λ x. from_bool (is_that file (holding x))) (sym e) in
          let c = below n (at_most e) in
          omega arith
        where
          at_most : s ≡ n → n ≤ s
          at_most e = omega arith
      by again (inr ne) =
          let a : from_bool (is_that file (with_holding holding s o n)) ≡ from_bool (is_that file (holding n)) = ap (λ x. from_bool (is_that file x)) (there_by n (λ e. ne (sym e))) in
          let c = again (less ne) in
          omega arith

-- ---- an open file stays what it is

any_placed : (t : FileKind → Bool) (files : List (Option OpenFile)) (file : ℕ) (f g : OpenFile) → at_place files file ≡ Some f → g.kind ≡ f.kind → list_any (is_open_as t) (with_place files file g) ≡ list_any (is_open_as t) files
any_placed t [] file f g h e = refl
any_placed t (x ∷ files) zero f g h e = let i : x ≡ Some f = h in ap (λ b. b || list_any (is_open_as t) files) (ap t e ∙ sym (ap (is_open_as t) i))
any_placed t (x ∷ files) (suc n) f g h e = ap (λ b. is_open_as t x || b) (any_placed t files n f g h e)

module _ (F : Files) (file : ℕ) (f g : OpenFile) (here : at_place F.files file ≡ Some f) (same : g.kind ≡ f.kind) where
  abbrev refiled : Files
  refiled = record F { files = with_place F.files file g }

  ready_same : (k : FileKind) → ready refiled k ≡ ready F k
  ready_same (kind.PipeRead p) = rw (any_placed (is_write_end p) F.files file f g here same) refl
  ready_same (kind.PipeWrite p) = rw (any_placed (is_read_end p) F.files file f g here same) refl
  ready_same kind.Input = refl
  ready_same (kind.Console side.Out) = refl
  ready_same (kind.Console side.Err) = refl
  ready_same (kind.Counter n) = refl
  ready_same (kind.Epoll n) = refl

  pub refiled_grows : GrowsNowhere F refiled
  refiled_grows n = by (at_place refiled.files n) (at_place F.files n) (kind_placed F.files file f g n here same)
    where
      by : (o' o : Option OpenFile) → bind o' (λ h. Some h.kind) ≡ bind o (λ h. Some h.kind) → Among (ready_at refiled o') (ready_at F o)
      by None None e = and_self 0
      by None (Some b) e = let z : None ≡ Some b.kind = e in absurd (cc)
      by (Some a) None e = let z : Some a.kind ≡ None = e in absurd (cc)
      by (Some a) (Some b) e =
          let z : Some a.kind ≡ Some b.kind = e in
          let k : a.kind ≡ b.kind = cc in
          rw (ready_same a.kind, k) (and_self _)

  refiled_at : (d : ℕ) → SameAt F refiled d
  refiled_at d = record { descriptor = refl; kind = by (at_place F.descriptors d) }
    where
      by : (o : Option Descriptor) → bind o (λ x. bind (at_place refiled.files x.file) (λ h. Some h.kind)) ≡ bind o (λ x. bind (at_place F.files x.file) (λ h. Some h.kind))
      by None = refl
      by (Some x) = kind_placed F.files file f g x.file here same

  pub refiled_leaves : (calls : ℕ → Option LxCall) (qs : List (Option Queue)) → Leaves calls F refiled qs []
  refiled_leaves calls qs = record {
    free = tt;
    keeps = λ s c is. keeps_by F refiled c (refiled_at (low_argument c 0)) (refiled_at (low_argument c 2));
    spares = λ s c is h. tt;
  }

  -- what was at a place
  pub record Old (i : ℕ) (a : OpenFile) : Type 0 where
    pub file_before : OpenFile
    pub before : at_place F.files i ≡ Some file_before
    pub kind_before : a.kind ≡ file_before.kind

  pub old_at : (i : ℕ) (a : OpenFile) → at_place refiled.files i ≡ Some a → Old i a
  old_at i a h = by (at_place F.files i) refl (sym (ap (λ (o : Option OpenFile). bind o (λ h. Some h.kind)) h) ∙ kind_placed F.files file f g i here same)
    where
      by : (o : Option OpenFile) → at_place F.files i ≡ o → Some a.kind ≡ bind o (λ h. Some h.kind) → Old i a
      by None e z = absurd (cc)
      by (Some b) e z = let y : Some a.kind ≡ Some b.kind = z in record { file_before = b; before = e; kind_before = cc }

module _ (calls : ℕ → Option LxCall) (holding holding' : ℕ → Option ℕ) (M : FilesState) (snd : SoundFiles calls holding M) (file : ℕ) (f g : OpenFile) (here : at_place M.plain.files file ≡ Some f) (same : g.kind ≡ f.kind)
    (holds : g.holds ≡ holders_of holding' file 128) (others : (i : ℕ) → i ≢ file → holders_of holding' i 128 ≡ holders_of holding i 128) (held' : (s i : ℕ) → holding' s ≡ Some i → (s < 128) × (lives M.plain i ≡ true)) where
  abbrev F' : Files
  F' = refiled M.plain file f g here same

  lives_same : (i : ℕ) → lives F' i ≡ lives M.plain i
  lives_same i = some_placed M.plain.files file g f here i

  there_same : (k : FileKind) → is_there (record M { plain = F' }) k ≡ is_there M k
  there_same (kind.PipeRead p) = refl
  there_same (kind.PipeWrite p) = refl
  there_same (kind.Counter n) = refl
  there_same (kind.Epoll n) = refl
  there_same kind.Input = refl
  there_same (kind.Console which) = refl

  pub sound_refiled : SoundFiles calls holding' (record M { plain = record M.plain { files = with_place M.plain.files file g } })
  sound_refiled = let l = refiled_leaves M.plain file f g here same calls M.queues in record {
    sizes = record { descriptors = snd.sizes.descriptors; files = length-set M.plain.files file (Some g) ∙ snd.sizes.files; pipes = snd.sizes.pipes; counters = snd.sizes.counters; queues = snd.sizes.queues };
    named = λ fd d h. lives_same d.file ∙ snd.named fd d h;
    alone = less_alone M.plain.files file f g here same snd.alone;
    there = λ i a h. let o = old_at M.plain file f g here same i a h in there_same a.kind ∙ ap (is_there M) o.kind_before ∙ snd.there i o.file_before o.before;
    holders = λ i a h. count_at i a h (same_or_not file i);
    held = λ s i h. let k = held' s i h in (k.0, lives_same i ∙ k.1);
    each = λ n q h. sound_after F' q (flux_name M.plain q.flux) (same_name M.plain F' (λ d. refl) q.flux)
        (still_after M.plain F' (flux_name M.plain q.flux) q.watches (refiled_grows M.plain file f g here same)
        (before_of M.plain F' q (λ i k. lives_same i ∙ k) (whole_at calls holding M snd n q h) (snd.each n q h)));
    epolls = snd.epolls;
    stand = queues_step calls M.plain F' [] M.queues snd.epolls l snd.stand;
    rooms = snd.rooms;
    fluxes = fluxes_step calls M.plain F' [] M.queues l snd.fluxes;
  }
    where
      here_at : (i : ℕ) (a : OpenFile) → at_place F'.files i ≡ Some a → i ≡ file → a.holds ≡ holders_of holding' i 128
      here_at i a h e =
          let z : Some g ≡ Some a = sym (placed_here M.plain.files file g f here) ∙ ap (at_place F'.files) (sym e) ∙ h in
          let k : g ≡ a = cc in
          ap (λ (o : OpenFile). o.holds) (sym k) ∙ holds ∙ ap (λ n. holders_of holding' n 128) (sym e)

      count_at : (i : ℕ) (a : OpenFile) → at_place F'.files i ≡ Some a → (i ≡ file) ⊎ (i ≢ file) → a.holds ≡ holders_of holding' i 128
      count_at i a h (inl e) = here_at i a h e
      count_at i a h (inr ne) = snd.holders i a (sym (placed_other M.plain.files file i g ne) ∙ h) ∙ sym (others i ne)

-- the clause Files: both machines have the same open file there
pub refiled_stands : (calls : ℕ → Option LxCall) (M : FilesState) (L : Files) → FilesStand calls M L → (file : ℕ) (f g : OpenFile) → at_place M.plain.files file ≡ Some f → g.kind ≡ f.kind
    → FilesStand calls (record M { plain = record M.plain { files = with_place M.plain.files file g } }) (record L { files = with_place L.files file g })
refiled_stands calls M L st file f g here same = step_stands (λ F. record F { files = with_place F.files file g }) (λ F. record F { files = with_place F.files file g }) (λ F. []) (record { plain_is = λ F. refl; epolls = λ F. refl }) calls M L st
    (refiled_leaves M.plain file f g here same calls M.queues)

-- ---- a call holds an open file

others_by : (a b : ℕ) (x y : ℕ) → x ≡ 0 → y ≡ 0 → a + x ≡ b + y → a ≡ b
others_by a b x y h k e = omega arith

module _ (calls : ℕ → Option LxCall) (holding : ℕ → Option ℕ) (M : FilesState) (snd : SoundFiles calls holding M) (file s : ℕ) (small : s < 128) where
  not_that : (i : ℕ) → i ≢ file → from_bool (is_that i (Some file)) ≡ 0
  not_that i ne = by (file == i) refl
    where
      by : (b : Bool) → (file == i) ≡ b → from_bool (is_that i (Some file)) ≡ 0
      by true e = absurd (ne (sym (eq_is file i e)))
      by false e = rw e refl

  that : from_bool (is_that file (Some file)) ≡ 1
  that = rw (eq_self file) refl

  held_by : (o : Option ℕ) → ((i : ℕ) → o ≡ Some i → lives M.plain i ≡ true) → (x i : ℕ) → with_holding holding s o x ≡ Some i → (x < 128) × (lives M.plain i ≡ true)
  held_by o alive x i h = by (x == s) refl
    where
      small_by : x ≡ s → x < 128
      small_by e = omega arith

      by : (b : Bool) → (x == s) ≡ b → (x < 128) × (lives M.plain i ≡ true)
      by true e = (small_by (eq_is x s e), alive i (sym (here_by holding s o i x (eq_is x s e)) ∙ h))
      by false e = snd.held x i (rw e at h)

  pub sound_held : (f : OpenFile) → at_place M.plain.files file ≡ Some f → holding s ≡ None → SoundFiles calls (with_holding holding s (Some file)) (with_plain M (held M.plain file))
  sound_held f here idle = rw here (sound_refiled calls holding (with_holding holding s (Some file)) M snd file f (held_once_more f) here refl
      (let a = holders_changed holding s (Some file) file 128 small in let b = snd.holders file f here in let c : from_bool (is_that file (holding s)) ≡ 0 = rw idle refl in let d = that in omega arith)
      (λ i ne. others_by _ _ _ _ (rw idle refl) (not_that i ne) (holders_changed holding s (Some file) i 128 small))
      (held_by (Some file) (λ i e. alive f here i e)))
    where
      alive : (f : OpenFile) → at_place M.plain.files file ≡ Some f → (i : ℕ) → Some file ≡ Some i → lives M.plain i ≡ true
      alive f here i e = let z : file ≡ i = cc in ap (lives M.plain) (sym z) ∙ ap (λ (o : Option OpenFile). is_some o) here

  -- and gives it back
  pub sound_less : (f : OpenFile) → at_place M.plain.files file ≡ Some f → holding s ≡ Some file → SoundFiles calls (with_holding holding s None) (record M { plain = record M.plain { files = with_place M.plain.files file (held_once_less f) } })
  sound_less f here holds = sound_refiled calls holding (with_holding holding s None) M snd file f (held_once_less f) here refl
      (let a = holders_changed holding s None file 128 small in let b = snd.holders file f here in let c : from_bool (is_that file (holding s)) ≡ 1 = rw holds that in omega arith)
      (λ i ne. others_by _ _ _ _ (rw holds (not_that i ne)) refl (holders_changed holding s None i 128 small))
      (held_by None (λ i e. absurd (cc)))

  pub sound_dropped : holding s ≡ Some file → SoundFiles calls (with_holding holding s None) (dropped M file)
  sound_dropped holds = by (at_place M.plain.files file) refl
    where
      by : (o : Option OpenFile) → at_place M.plain.files file ≡ o → SoundFiles calls (with_holding holding s None) (record { plain = given_back_as M.plain file o; queues = each_queue (give_ops_of M.plain.descriptors M.plain.files file o) M.queues })
      by None e = let k = (snd.held s file holds).1 in let z : false ≡ true = sym (ap (λ (o : Option OpenFile). is_some o) e) ∙ k in absurd (cc)
      by (Some f) e = sound_settled calls (with_holding holding s None) (record M { plain = record M.plain { files = with_place M.plain.files file (held_once_less f) } }) (sound_less f e holds) file

pub held_stands : (calls : ℕ → Option LxCall) (M : FilesState) (L : Files) → FilesStand calls M L → (file : ℕ) (f : OpenFile) → at_place M.plain.files file ≡ Some f → FilesStand calls (with_plain M (held M.plain file)) (with_hold L (numbered file f))
held_stands calls M L st file f here = rw here (refiled_stands calls M L st file f (held_once_more f) here refl)

-- ---- an open file is made nonblocking, or no longer

pub sound_blocking : (calls : ℕ → Option LxCall) (holding : ℕ → Option ℕ) (M : FilesState) → SoundFiles calls holding M → (file : ℕ) (f : OpenFile) (on : Bool) → at_place M.plain.files file ≡ Some f → SoundFiles calls holding (with_plain M (set_blocking M.plain file on))
sound_blocking calls holding M snd file f on here = rw here (sound_refiled calls holding holding M snd file f (record f { nonblocking = on }) here refl (snd.holders file f here) (λ i ne. refl) snd.held)

pub blocking_stands : (calls : ℕ → Option LxCall) (M : FilesState) (L : Files) → FilesStand calls M L → (file : ℕ) (f : OpenFile) (on : Bool) → at_place M.plain.files file ≡ Some f → FilesStand calls (with_plain M (set_blocking M.plain file on)) (record L { files = with_place L.files file (record f { nonblocking = on }) })
blocking_stands calls M L st file f on here = rw here (refiled_stands calls M L st file f (record f { nonblocking = on }) here refl)
