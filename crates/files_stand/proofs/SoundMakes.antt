-- What holds of the files at all times is kept, and the clause Files too, where a pipe, a counter or a queue is made with its open
-- files.
use Rattle.std.proofs.Common.{◌≡◌, ◌≢◌, ◌⊎◌, inl, inr, ℕ, zero, suc, Bool, true, false, not, ◌||◌, ◌&&◌, List, [], ◌∷◌, Option, Some, None, refl, sym, ap, ◌∙◌, subst, arith}
use Rattle.std.specs.Prelude.{◌==◌, is_some}
use Rattle.std.specs.List.{list_any}
use Rattle.std.specs.Option.{option_map}
use Rattle.std.specs.Int.Bits.{and_self}
use Rattle.kqueue_core.specs.Changes.{tally}
use Rattle.kqueue_core.specs.declared.knotes.Watch.{Watch}
use Rattle.kqueue_core.proofs.Tallies.{tally_or, tally_within}
use Rattle.kqueue_laws.specs.Pairs.{is_lost}
use Rattle.kqueue_laws.proofs.Changes.{both_true, eq_is}
use Rattle.lx_machine.specs.Calls.{low_argument}
use Rattle.lx_machine.specs.Epoll.{ready, ready_at}
use Rattle.lx_machine.specs.Files.{is_open_as}
use Rattle.lx_machine.specs.Interests.{is_kind}
use Rattle.lx_machine.specs.Lists.{at_place, bind, with_place}
use Rattle.lx_machine.specs.declared.calls.LxCall.{LxCall}
use Rattle.lx_machine.specs.declared.files.Descriptor.{Descriptor}
use Rattle.lx_machine.specs.declared.files.FileKind.{FileKind}
use Rattle.lx_machine.specs.declared.files.Files.{Files}
use Rattle.lx_machine.specs.declared.files.OpenFile.{OpenFile}
use Rattle.open_files.specs.Plain.{readiness}
use Rattle.bsd_files.specs.State.{FilesState}
use Rattle.files_stand.specs.Same.{Name, is_kept, stood_for}
use Rattle.files_stand.specs.SoundFiles.{AllWhole, HasSizes, NoneLost, SoundFiles, flux_name, holders_of, is_there, lives}
use Rattle.files_stand.proofs.Entries.{Leaves, fluxes_step, queues_step}
use Rattle.files_stand.proofs.Grows.{Among, still_point}
use Rattle.files_stand.proofs.Names.{SameAt, keeps_by}
use Rattle.files_stand.proofs.Pairs.{whole_stood}
use Rattle.files_stand.proofs.SoundMoves.{same_name, whole_at}
use Rattle.files_stand.proofs.Places.{placed_other, placed_is, apart_free}

-- ---- places

-- an open file of another kind at a free place
pub any_other : (t : FileKind → Bool) (files : List (Option OpenFile)) (file : ℕ) (f : OpenFile) → at_place files file ≡ None → t f.kind ≡ false → list_any (is_open_as t) (with_place files file f) ≡ list_any (is_open_as t) files
any_other t [] file f h e = refl
any_other t (x ∷ files) zero f h e = let i : x ≡ None = h in ap (λ b. b || list_any (is_open_as t) files) (e ∙ sym (ap (is_open_as t) i))
any_other t (x ∷ files) (suc n) f h e = ap (λ b. is_open_as t x || b) (any_other t files n f h e)

-- an open file more
pub any_more : (t : FileKind → Bool) (files : List (Option OpenFile)) (file : ℕ) (f : OpenFile) → at_place files file ≡ None → list_any (is_open_as t) files ≡ true → list_any (is_open_as t) (with_place files file f) ≡ true
any_more t [] file f h e = e
any_more t (x ∷ files) zero f h e = by (t f.kind) (let i : x ≡ None = h in ap (λ b. b || list_any (is_open_as t) files) (sym (ap (is_open_as t) i)) ∙ e)
  where
    by : (b : Bool) → list_any (is_open_as t) files ≡ true → (b || list_any (is_open_as t) files) ≡ true
    by true k = refl
    by false k = k
any_more t (x ∷ files) (suc n) f h e = by (is_open_as t x) e (λ k. any_more t files n f h k)
  where
    by : (b : Bool) → (b || list_any (is_open_as t) files) ≡ true → (list_any (is_open_as t) files ≡ true → list_any (is_open_as t) (with_place files n f) ≡ true) → (b || list_any (is_open_as t) (with_place files n f)) ≡ true
    by true k again = refl
    by false k again = again k

pub none_hold : (holding : ℕ → Option ℕ) (file n : ℕ) → ((s : ℕ) → holding s ≢ Some file) → holders_of holding file n ≡ 0
none_hold holding file zero h = refl
none_hold holding file (suc n) h = by (holding n) refl (none_hold holding file n h)
  where
    of : (f : ℕ) → holding n ≡ Some f → (b : Bool) → (f == file) ≡ b → b ≡ false
    of f e true g = absurd (h n (e ∙ ap {B = Option ℕ} (λ x. Some x) (eq_is f file g)))
    of f e false g = refl

    by : (o : Option ℕ) → holding n ≡ o → holders_of holding file n ≡ 0 → holders_of holding file (suc n) ≡ 0
    by None e k = rw e (omega arith)
    by (Some f) e k = rw (e, of f e (f == file) refl) (omega arith)

-- ---- none is lost where no open file that lives gains events

module _ (F F' : Files) (grows : (n : ℕ) → lives F n ≡ true → Among (ready_at F' (at_place F'.files n)) (ready_at F (at_place F.files n))) where
  live_none_lost : (x : Option Name) (ws : List Watch) → AllWhole x ws → NoneLost F x ws → tally (λ w. not (lives F w.file)) ws ≡ 0 → NoneLost F' x ws
  live_none_lost x ws whole none alive =
      let a = tally_within (λ w. is_kept x w.file w.descriptor && is_lost (readiness F') w) (λ w. ((is_kept x w.file w.descriptor && is_lost (readiness F) w) || (is_kept x w.file w.descriptor && not (is_some (stood_for w)))) || not (lives F w.file)) each ws in
      let b = tally_or (λ w. (is_kept x w.file w.descriptor && is_lost (readiness F) w) || (is_kept x w.file w.descriptor && not (is_some (stood_for w)))) (λ w. not (lives F w.file)) ws in
      let c = tally_or (λ w. is_kept x w.file w.descriptor && is_lost (readiness F) w) (λ w. is_kept x w.file w.descriptor && not (is_some (stood_for w))) ws in
      let d : tally (λ w. is_kept x w.file w.descriptor && is_lost (readiness F) w) ws ≡ 0 = none in
      let e : tally (λ w. is_kept x w.file w.descriptor && not (is_some (stood_for w))) ws ≡ 0 = whole in
      omega arith
    where
      or_is_true : (b : Bool) → (b || true) ≡ true
      or_is_true true = refl
      or_is_true false = refl

      either : (c : Bool) (w : Watch) (z : Bool) → is_some (stood_for w) ≡ z → c ≡ true → (is_some (stood_for w) ≡ true → is_lost (readiness F) w ≡ true) → ((c && is_lost (readiness F) w) || (c && not (is_some (stood_for w)))) ≡ true
      either c w true e f h = rw (f, h e) refl
      either c w false e f h = rw (f, e) (or_is_true (is_lost (readiness F) w))

      live : (w : Watch) (l : Bool) → lives F w.file ≡ l → (is_kept x w.file w.descriptor && is_lost (readiness F') w) ≡ true → (((is_kept x w.file w.descriptor && is_lost (readiness F) w) || (is_kept x w.file w.descriptor && not (is_some (stood_for w)))) || not (lives F w.file)) ≡ true
      live w false l h = rw l (or_is_true _)
      live w true l h =
          let p = both_true _ _ h in
          let k = either (is_kept x w.file w.descriptor) w _ refl p.0 (λ e. still_point F F' w.file (grows w.file l) w.descriptor w.read w.write (whole_stood w.file w.descriptor w.read w.write e) p.1) in
          rw k refl

      each : (w : Watch) → (is_kept x w.file w.descriptor && is_lost (readiness F') w) ≡ true → (((is_kept x w.file w.descriptor && is_lost (readiness F) w) || (is_kept x w.file w.descriptor && not (is_some (stood_for w)))) || not (lives F w.file)) ≡ true
      each w h = live w _ refl h

-- ---- a new open file

abbrev pub new_file : FileKind → Bool → OpenFile
new_file k nonblocking = record { kind = k; nonblocking = nonblocking; holds = 0 }

module _ (calls : ℕ → Option LxCall) (holding : ℕ → Option ℕ) (M : FilesState) (snd : SoundFiles calls holding M) (F' : Files) (file : ℕ) (k : FileKind) (descriptors : F'.descriptors ≡ M.plain.descriptors) (files : F'.files ≡ with_place M.plain.files file (new_file k false)) (free : at_place M.plain.files file ≡ None) where
  old_place : (i : ℕ) → lives M.plain i ≡ true → at_place F'.files i ≡ at_place M.plain.files i
  old_place i l = ap (λ (fs : List (Option OpenFile)). at_place fs i) files ∙ placed_other M.plain.files file i (new_file k false) (apart_free M.plain.files file i free l)

  made_at : (d : ℕ) → SameAt M.plain F' d
  made_at d = record { descriptor = ap (λ (ds : List (Option Descriptor)). at_place ds d) descriptors; kind = by (at_place M.plain.descriptors d) refl (ap (λ (ds : List (Option Descriptor)). at_place ds d) descriptors) }
    where
      by : (o : Option Descriptor) → at_place M.plain.descriptors d ≡ o → at_place F'.descriptors d ≡ at_place M.plain.descriptors d → bind (at_place F'.descriptors d) (λ x. bind (at_place F'.files x.file) (λ f. Some f.kind)) ≡ bind (at_place M.plain.descriptors d) (λ x. bind (at_place M.plain.files x.file) (λ f. Some f.kind))
      by None e s = rw (s, e) refl
      by (Some x) e s = rw (s, e) (ap (λ (o : Option OpenFile). bind o (λ f. Some f.kind)) (old_place x.file (snd.named d x e)))

  pub made_leaves : Leaves calls M.plain F' M.queues []
  made_leaves = record { free = tt; keeps = λ s c is. keeps_by M.plain F' c (made_at (low_argument c 0)) (made_at (low_argument c 2)); spares = λ s c is h. tt }

  module _ (sizes : HasSizes (record M { plain = F' })) (fresh : (i : ℕ) (g : OpenFile) → at_place M.plain.files i ≡ Some g → (is_kind k g.kind ≡ false) × (is_kind g.kind k ≡ false)) (there : (j : FileKind) → is_there M j ≡ true → is_there (record M { plain = F' }) j ≡ true)
      (new_there : is_there (record M { plain = F' }) k ≡ true) (readies : (i : ℕ) (g : OpenFile) → at_place M.plain.files i ≡ Some g → Among (ready F' g.kind) (ready M.plain g.kind)) where
    made_is : (i : ℕ) (a : OpenFile) → at_place F'.files i ≡ Some a → (at_place M.plain.files i ≡ Some a) ⊎ ((i ≡ file) × (new_file k false ≡ a))
    made_is i a h = placed_is M.plain.files file i (new_file k false) a (sym (ap (λ (fs : List (Option OpenFile)). at_place fs i) files) ∙ h)

    kind_new : (a : OpenFile) → new_file k false ≡ a → a.kind ≡ k
    kind_new a e = sym (ap (λ (f : OpenFile). f.kind) e)

    made_lives : (i : ℕ) → lives M.plain i ≡ true → lives F' i ≡ true
    made_lives i l = ap (λ (o : Option OpenFile). is_some o) (old_place i l) ∙ l

    pub sound_made : SoundFiles calls holding (record M { plain = F' })
    sound_made = record {
      sizes = sizes;
      named = λ fd d h. made_lives d.file (snd.named fd d (sym (ap (λ (ds : List (Option Descriptor)). at_place ds fd) descriptors) ∙ h));
      alone = λ i j a b ha hb h. alone_by i j a b h (made_is i a ha) (made_is j b hb);
      there = λ i a h. there_by a (made_is i a h);
      holders = λ i a h. holders_by i a (made_is i a h);
      held = λ s i h. let l = snd.held s i h in (l.0, made_lives i l.1);
      each = λ n q h. let s = snd.each n q h in record {
        watches = s.watches;
        alive = let a = tally_within (λ w. not (lives F' w.file)) (λ w. not (lives M.plain w.file)) (λ w e. gone w.file (lives M.plain w.file) refl e) q.watches in let b = s.alive in omega arith;
        found = subst (λ x. NoneLost F' x q.watches) (sym (same_name M.plain F' (λ d. ap (λ (o : Option Descriptor). option_map (λ (x : Descriptor). x.file) o) (made_at d).descriptor) q.flux))
            (live_none_lost M.plain F' grows (flux_name M.plain q.flux) q.watches (whole_at calls holding M snd n q h) s.found s.alive);
      };
      epolls = snd.epolls;
      stand = queues_step calls M.plain F' [] M.queues snd.epolls made_leaves snd.stand;
      rooms = snd.rooms;
      fluxes = fluxes_step calls M.plain F' [] M.queues made_leaves snd.fluxes;
    }
      where
        gone : (i : ℕ) (b : Bool) → lives M.plain i ≡ b → not (lives F' i) ≡ true → not (lives M.plain i) ≡ true
        gone i true e h = let z : false ≡ true = sym (ap not (made_lives i e)) ∙ h in absurd (cc)
        gone i false e h = ap not e

        grows : (n : ℕ) → lives M.plain n ≡ true → Among (ready_at F' (at_place F'.files n)) (ready_at M.plain (at_place M.plain.files n))
        grows n l = subst (λ (o : Option OpenFile). Among (ready_at F' o) (ready_at M.plain (at_place M.plain.files n))) (sym (old_place n l)) (by (at_place M.plain.files n) refl)
          where
            by : (o : Option OpenFile) → at_place M.plain.files n ≡ o → Among (ready_at F' o) (ready_at M.plain o)
            by None e = and_self 0
            by (Some g) e = readies n g e

        no_kind : (b : Bool) → b ≡ false → b ≡ true → ⊥
        no_kind true e h = let z : true ≡ false = e in cc
        no_kind false e h = let z : false ≡ true = h in cc

        alone_by : (i j : ℕ) (a b : OpenFile) → is_kind a.kind b.kind ≡ true → (at_place M.plain.files i ≡ Some a) ⊎ ((i ≡ file) × (new_file k false ≡ a)) → (at_place M.plain.files j ≡ Some b) ⊎ ((j ≡ file) × (new_file k false ≡ b)) → i ≡ j
        alone_by i j a b h (inl p) (inl q) = snd.alone i j a b p q h
        alone_by i j a b h (inr p) (inr q) = p.0 ∙ sym q.0
        alone_by i j a b h (inl p) (inr q) = absurd (no_kind (is_kind a.kind k) (fresh i a p).1 (ap (is_kind a.kind) (sym (kind_new b q.1)) ∙ h))
        alone_by i j a b h (inr p) (inl q) = absurd (no_kind (is_kind k b.kind) (fresh j b q).0 (ap (λ z. is_kind z b.kind) (sym (kind_new a p.1)) ∙ h))

        there_by : {i : ℕ} (a : OpenFile) → (at_place M.plain.files i ≡ Some a) ⊎ ((i ≡ file) × (new_file k false ≡ a)) → is_there (record M { plain = F' }) a.kind ≡ true
        there_by {i = i} a (inl p) = there a.kind (snd.there i a p)
        there_by a (inr p) = ap (is_there (record M { plain = F' })) (kind_new a p.1) ∙ new_there

        nobody : (s : ℕ) → holding s ≢ Some file
        nobody s h = let l = snd.held s file h in let z : false ≡ true = sym (ap (λ (o : Option OpenFile). is_some o) free) ∙ l.1 in absurd (cc)

        holders_by : (i : ℕ) (a : OpenFile) → (at_place M.plain.files i ≡ Some a) ⊎ ((i ≡ file) × (new_file k false ≡ a)) → a.holds ≡ holders_of holding i 128
        holders_by i a (inl p) = snd.holders i a p
        holders_by i a (inr p) = sym (ap (λ (f : OpenFile). f.holds) p.1) ∙ sym (none_hold holding file 128 nobody) ∙ ap (λ n. holders_of holding n 128) (sym p.0)
