-- A hold that is given back, and a descriptor that is closed: both machines take the step, and the clause Files still holds.
use Rattle.std.proofs.Common.{◌≡◌, ◌≢◌, ℕ, zero, suc, Bool, true, false, ◌||◌, List, [], ◌∷◌, Option, Some, None, refl, sym, ap, ◌∙◌, ◌⊎◌, inl, inr}
use Rattle.std.specs.Prelude.{if◌then◌else◌}
use Rattle.std.specs.List.{list_any}
use Rattle.std.specs.Option.{option_map}
use Rattle.kqueue_core.specs.Queues.{Queue}
use Rattle.kqueue_laws.proofs.Changes.{both_true, eq_self}
use Rattle.lx_machine.specs.Calls.{low_argument}
use Rattle.lx_machine.specs.Epoll.{epoll_number}
use Rattle.lx_machine.specs.EpollCtl.{epoll_of, file_of}
use Rattle.lx_machine.specs.Files.{closed, given_back, held_once_less, names}
use Rattle.lx_machine.specs.Interests.{is_kind}
use Rattle.lx_machine.specs.Lists.{at_place, bind, with_place, without_place}
use Rattle.lx_machine.specs.declared.calls.LxCall.{LxCall}
use Rattle.lx_machine.specs.declared.files.Descriptor.{Descriptor}
use Rattle.lx_machine.specs.declared.files.FileKind.{FileKind}
use Rattle.lx_machine.specs.declared.files.FileKind.TheVariants as kind
use Rattle.lx_machine.specs.declared.files.Files.{Files}
use Rattle.lx_machine.specs.declared.files.OpenFile.{OpenFile}
use Rattle.bsd_files.specs.Calls.{dropped, shut}
use Rattle.bsd_files.specs.Ops.{Op, Arm, Leave, End, close_ops, close_ops_of, end_ops, give_ops, give_ops_of, is_free, settle_ops, settle_ops_of}
use Rattle.bsd_files.specs.State.{FilesState, has_flux_on, is_awaited, is_in_flux}
use Rattle.files_stand.specs.FilesStand.{FilesStand}
use Rattle.files_stand.specs.Fluxes.{HasFlux}
use Rattle.files_stand.specs.SoundFiles.{Alone}
use Rattle.files_stand.specs.Steps.{AllFree, AllSpare}
use Rattle.files_stand.proofs.Entries.{Leaves, step_stands}
use Rattle.files_stand.proofs.Frees.{close_free, give_free, unnamed}
use Rattle.files_stand.proofs.Names.{closed_keeps, given_keeps, given_same, kind_placed, settled_same, not_any}
use Rattle.files_stand.proofs.Plains.{closed_step, given_step}
use Rattle.files_stand.proofs.Places.{same_or_not, placed_here, placed_other, at_other, none_here}

-- what no descriptor names here no descriptor names there
pub free_by : (F F' : Files) → ((d : ℕ) → file_of F' d ≡ file_of F d) → (os : List Op) → AllFree F os → AllFree F' os
free_by F F' same [] h = tt
free_by F F' same (Arm k g files ∷ os) h = (tt, free_by F F' same os h.1)
free_by F F' same (End n ∷ os) h = (tt, free_by F F' same os h.1)
free_by F F' same (Leave file ∷ os) h = ((λ d e. h.0 d (sym (same d) ∙ e)), free_by F F' same os h.1)

-- ---- a queue that a descriptor names doesn't end

-- the descriptor and the open file of an epoll that is named
pub record QueueOf (F : Files) (fd n : ℕ) : Type 0 where
  pub descriptor : Descriptor
  pub file : OpenFile
  pub opened : at_place F.descriptors fd ≡ Some descriptor
  pub here : at_place F.files descriptor.file ≡ Some file
  pub is_queue : file.kind ≡ kind.Epoll n

number_is : (k : FileKind) (n : ℕ) → epoll_number k ≡ Some n → k ≡ kind.Epoll n
number_is (kind.Epoll m) n h = ap kind.Epoll (some_is h)
  where
    some_is : {m n : ℕ} → Some m ≡ Some n → m ≡ n
    some_is e = cc
number_is (kind.PipeRead p) n h = let z : None ≡ Some n = h in absurd (cc)
number_is (kind.PipeWrite p) n h = let z : None ≡ Some n = h in absurd (cc)
number_is (kind.Counter p) n h = let z : None ≡ Some n = h in absurd (cc)
number_is kind.Input n h = let z : None ≡ Some n = h in absurd (cc)
number_is (kind.Console which) n h = let z : None ≡ Some n = h in absurd (cc)

pub queue_of : (F : Files) (fd n : ℕ) → epoll_of F fd ≡ Some n → QueueOf F fd n
queue_of F fd n h = by (at_place F.descriptors fd) refl h
  where
    inner : (d : Descriptor) → at_place F.descriptors fd ≡ Some d → (o : Option OpenFile) → at_place F.files d.file ≡ o → bind (bind o (λ f. Some f.kind)) epoll_number ≡ Some n → QueueOf F fd n
    inner d e None g i = let z : None ≡ Some n = i in absurd (cc)
    inner d e (Some f) g i = record { descriptor = d; file = f; opened = e; here = g; is_queue = number_is f.kind n i }

    by : (o : Option Descriptor) → at_place F.descriptors fd ≡ o → bind (bind o (λ d. bind (at_place F.files d.file) (λ f. Some f.kind))) epoll_number ≡ Some n → QueueOf F fd n
    by None e i = let z : None ≡ Some n = i in absurd (cc)
    by (Some d) e i = inner d e (at_place F.files d.file) refl i

pub end_spares : (n : ℕ) (k : FileKind) (files : List (Option OpenFile)) → k ≢ kind.Epoll n → AllSpare n (end_ops k files)
end_spares n (kind.PipeRead p) files ne = (tt, tt)
end_spares n (kind.PipeWrite p) files ne = (tt, tt)
end_spares n (kind.Counter p) files ne = tt
end_spares n (kind.Epoll m) files ne = ((λ e. ne (ap kind.Epoll (sym e))), tt)
end_spares n kind.Input files ne = tt
end_spares n (kind.Console which) files ne = tt

-- no descriptor names the open file, so it isn't the queue that one names
pub apart_queue : (F : Files) (fd n file : ℕ) (f : OpenFile) → Alone F.files → epoll_of F fd ≡ Some n → at_place F.files file ≡ Some f → list_any (names file) F.descriptors ≡ false → f.kind ≢ kind.Epoll n
apart_queue F fd n file f alone h e u k =
    let q = queue_of F fd n h in
    let same : is_kind f.kind q.file.kind ≡ true = rw (k, q.is_queue) (eq_self n) in
    let one : file ≡ q.descriptor.file = alone file q.descriptor.file f q.file e q.here same in
    unnamed file F.descriptors fd u (ap (option_map (λ (x : Descriptor). x.file)) q.opened ∙ ap {B = Option ℕ} (λ z. Some z) (sym one))

settle_spares_of : (F : Files) (fd n file : ℕ) → Alone F.files → epoll_of F fd ≡ Some n → (o : Option OpenFile) → at_place F.files file ≡ o → AllSpare n (settle_ops_of F.descriptors F.files file o)
settle_spares_of F fd n file alone h None e = tt
settle_spares_of F fd n file alone h (Some f) e = by (is_free F.descriptors file f) refl
  where
    by : (b : Bool) → is_free F.descriptors file f ≡ b → AllSpare n (if b then (Leave file ∷ end_ops f.kind (without_place F.files file)) else [])
    by true g = (tt, end_spares n f.kind (without_place F.files file) (apart_queue F fd n file f alone h e (not_any _ (both_true _ _ g).1)))
    by false g = tt

pub settle_spares : (F : Files) (fd n file : ℕ) → Alone F.files → epoll_of F fd ≡ Some n → AllSpare n (settle_ops F.descriptors F.files file)
settle_spares F fd n file alone h = settle_spares_of F fd n file alone h (at_place F.files file) refl

-- ---- a hold that is given back

-- an open file with a hold less is what it was
pub less_alone : (files : List (Option OpenFile)) (file : ℕ) (f g : OpenFile) → at_place files file ≡ Some f → g.kind ≡ f.kind → Alone files → Alone (with_place files file g)
less_alone files file f g e same alone i j a b ha hb k = by (same_or_not file i) (same_or_not file j)
  where
    here : (x : ℕ) (y : OpenFile) → x ≡ file → at_place (with_place files file g) x ≡ Some y → y.kind ≡ f.kind
    here x y h p =
        let z : Some g ≡ Some y = sym (placed_here files file g f e) ∙ ap (at_place (with_place files file g)) (sym h) ∙ p in
        let w : g ≡ y = cc in
        ap (λ (o : OpenFile). o.kind) (sym w) ∙ same

    there : (x : ℕ) (y : OpenFile) → x ≢ file → at_place (with_place files file g) x ≡ Some y → at_place files x ≡ Some y
    there x y ne p = sym (placed_other files file x g ne) ∙ p

    by : (i ≡ file) ⊎ (i ≢ file) → (j ≡ file) ⊎ (j ≢ file) → i ≡ j
    by (inl p) (inl q) = p ∙ sym q
    by (inl p) (inr q) = p ∙ alone file j f b e (there j b q hb) (ap (λ x. is_kind x b.kind) (sym (here i a p ha)) ∙ k)
    by (inr p) (inl q) = alone i file a f (there i a p ha) e (ap (is_kind a.kind) (sym (here j b q hb)) ∙ k) ∙ sym q
    by (inr p) (inr q) = alone i j a b (there i a p ha) (there j b q hb) k

give_spares : (F : Files) (fd n file : ℕ) → Alone F.files → epoll_of F fd ≡ Some n → AllSpare n (give_ops F file)
give_spares F fd n file alone h = by (at_place F.files file) refl
  where
    by : (o : Option OpenFile) → at_place F.files file ≡ o → AllSpare n (give_ops_of F.descriptors F.files file o)
    by None e = tt
    by (Some f) e = settle_spares (record F { files = with_place F.files file (held_once_less f) }) fd n file (less_alone F.files file f (held_once_less f) e refl alone) (kept f e ∙ h)
      where
        kept : (f : OpenFile) → at_place F.files file ≡ Some f → epoll_of (record F { files = with_place F.files file (held_once_less f) }) fd ≡ epoll_of F fd
        kept f e = at (at_place F.descriptors fd)
          where
            at : (o : Option Descriptor) → bind (bind o (λ d. bind (at_place (with_place F.files file (held_once_less f)) d.file) (λ g. Some g.kind))) epoll_number ≡ bind (bind o (λ d. bind (at_place F.files d.file) (λ g. Some g.kind))) epoll_number
            at None = refl
            at (Some d) = ap (λ (o : Option FileKind). bind o epoll_number) (kind_placed F.files file f (held_once_less f) d.file e refl)

pub give_leaves : (calls : ℕ → Option LxCall) (F : Files) (qs : List (Option Queue)) (file : ℕ) → Alone F.files → Leaves calls F (given_back F file) qs (give_ops F file)
give_leaves calls F qs file alone = record {
  free = free_by F (given_back F file) (λ d. ap (option_map (λ (x : Descriptor). x.file)) (given_same F file d).descriptor) (give_ops F file) (give_free F file);
  keeps = λ s c is. given_keeps F file c;
  spares = λ s c is h. give_spares F (low_argument c 0) h.place file alone h.is_place;
}

pub dropped_stands : (calls : ℕ → Option LxCall) (M : FilesState) (L : Files) → FilesStand calls M L → Alone M.plain.files → (file : ℕ) → FilesStand calls (dropped M file) (given_back L file)
dropped_stands calls M L st alone file = step_stands _ _ _ (given_step file) calls M L st (give_leaves calls M.plain M.queues file alone)

-- ---- a close that doesn't wait

or_true : (b : Bool) → (b || true) ≡ true
or_true true = refl
or_true false = refl

some_on : (qs : List (Option Queue)) (n fd : ℕ) (q : Queue) → at_place qs n ≡ Some q → has_flux_on fd (Some q) ≡ true → list_any (has_flux_on fd) qs ≡ true
some_on [] n fd q h e = let z : None ≡ Some q = h in absurd (cc)
some_on (x ∷ qs) zero fd q h e = let i : x ≡ Some q = h in ap (λ b. b || list_any (has_flux_on fd) qs) (ap (has_flux_on fd) i ∙ e)
some_on (x ∷ qs) (suc n) fd q h e = ap (λ b. has_flux_on fd x || b) (some_on qs n fd q h e) ∙ or_true (has_flux_on fd x)

or_false : (a b : Bool) → (a || b) ≡ false → (a ≡ false) × (b ≡ false)
or_false true b h = let z : true ≡ false = h in absurd (cc)
or_false false b h = (refl, h)

module _ (M : FilesState) (fd : ℕ) (x : Descriptor) (opened : at_place M.plain.descriptors fd ≡ Some x) (calm : is_awaited M fd ≡ false) where
  calms : (list_any (has_flux_on fd) M.queues ≡ false) × (is_in_flux M x.file ≡ false)
  calms = or_false _ _ (rw opened at calm)

  -- no change at work names the descriptor
  pub not_on : (s : ℕ) (c : LxCall) → HasFlux M.plain M.queues s c → low_argument c 2 ≢ fd
  not_on s c h e =
      let on : has_flux_on fd (Some h.queue) ≡ true = rw (h.flux, e) (eq_self fd) in
      let z : false ≡ true = sym calms.0 ∙ some_on M.queues h.place fd h.queue h.is_queue on in
      absurd (cc)

  -- nor, by it, its queue
  pub not_queue : (s : ℕ) (c : LxCall) (h : HasFlux M.plain M.queues s c) → epoll_of M.plain fd ≢ Some h.place
  not_queue s c h e =
      let q = queue_of M.plain fd h.place e in
      let d : Some x ≡ Some q.descriptor = sym opened ∙ q.opened in
      let same : x ≡ q.descriptor = cc in
      let in_flux : is_in_flux M x.file ≡ true = rw (ap (λ (y : Descriptor). at_place M.plain.files y.file) same ∙ q.here, q.is_queue, h.is_queue, h.flux) refl in
      let z : false ≡ true = sym calms.1 ∙ in_flux in
      absurd (cc)

  close_spares : Alone M.plain.files → (s : ℕ) (c : LxCall) (h : HasFlux M.plain M.queues s c) → AllSpare h.place (close_ops M.plain fd)
  close_spares alone s c h = by (at_place M.plain.descriptors fd)
    where
      by : (o : Option Descriptor) → AllSpare h.place (close_ops_of M.plain fd o)
      by None = tt
      by (Some d) = settle_spares (record M.plain { descriptors = without_place M.plain.descriptors fd }) (low_argument c 0) h.place d.file alone
          (ap (λ (o : Option Descriptor). bind (bind o (λ y. bind (at_place M.plain.files y.file) (λ f. Some f.kind))) epoll_number) (at_other M.plain.descriptors fd (low_argument c 0) (λ e. not_queue s c h (ap (epoll_of M.plain) (sym e) ∙ h.is_place)))
          ∙ h.is_place)

  -- the other descriptors are as they were, and it is free
  pub closed_descriptors : (d : ℕ) → at_place (closed M.plain fd).descriptors d ≡ at_place (without_place M.plain.descriptors fd) d
  closed_descriptors d = rw opened (settled_same (record M.plain { descriptors = without_place M.plain.descriptors fd }) x.file d).descriptor

  pub closed_free : at_place (shut M fd).plain.descriptors fd ≡ None
  closed_free = closed_descriptors fd ∙ none_here M.plain.descriptors fd

  pub closed_other : (d : ℕ) → d ≢ fd → at_place (shut M fd).plain.descriptors d ≡ at_place M.plain.descriptors d
  closed_other d ne = closed_descriptors d ∙ at_other M.plain.descriptors fd d ne

  pub close_leaves : (calls : ℕ → Option LxCall) → ((s : ℕ) (c : LxCall) → calls s ≡ Some c → HasFlux M.plain M.queues s c) → Alone M.plain.files → Leaves calls M.plain (closed M.plain fd) M.queues (close_ops M.plain fd)
  close_leaves calls have alone = record {
    free = free_by (record M.plain { descriptors = without_place M.plain.descriptors fd }) (closed M.plain fd) (λ d. ap (option_map (λ (y : Descriptor). y.file)) (closed_descriptors d)) (close_ops M.plain fd) (close_free M.plain fd);
    keeps = λ s c is. let h = have s c is in closed_keeps M.plain fd c h.place h.is_place (not_on s c h) (not_queue s c h);
    spares = λ s c is h. close_spares alone s c h;
  }

  pub shut_stands : (calls : ℕ → Option LxCall) (L : Files) → FilesStand calls M L → Alone M.plain.files → FilesStand calls (shut M fd) (closed L fd)
  shut_stands calls L st alone = step_stands _ _ _ (closed_step fd) calls M L st (close_leaves calls st.fluxes alone)
