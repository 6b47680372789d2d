-- The files at the start, and the number of a new queue, in both machines.
use Rattle.std.proofs.Common.{◌≡◌, ◌⊎◌, inl, inr, ℕ, zero, suc, true, false, List, [], ◌∷◌, Option, Some, None, length, refl, sym, ap, ◌∙◌, arith}
use Rattle.std.specs.Prelude.{is_some, replicate}
use Rattle.kqueue_core.specs.Queues.{Queue}
use Rattle.lx_machine.specs.Interests.{is_kind}
use Rattle.lx_machine.specs.Lists.{at_place, first_free, first_free_from}
use Rattle.lx_machine.specs.Start.{first_files}
use Rattle.lx_machine.specs.declared.calls.LxCall.{LxCall}
use Rattle.lx_machine.specs.declared.files.Descriptor.{Descriptor}
use Rattle.lx_machine.specs.declared.files.FileKind.{FileKind}
use Rattle.lx_machine.specs.declared.files.FileKind.TheVariants as kind
use Rattle.lx_machine.specs.declared.files.Files.{Files}
use Rattle.lx_machine.specs.declared.label.LxSide.TheVariants as side
use Rattle.lx_machine.specs.declared.files.Interest.{Interest}
use Rattle.lx_machine.specs.declared.files.OpenFile.{OpenFile}
use Rattle.bsd_files.specs.State.{FilesState, first_state}
use Rattle.files_stand.specs.FilesStand.{AllStand, FilesStand, PlaceStands}
use Rattle.files_stand.specs.SoundFiles.{Alone, SoundFiles, is_there, lives}
use Rattle.files_stand.proofs.SoundMakes.{none_hold}

-- ---- the number of a new queue is that of a new epoll

free_from : {X Y : Type 0} (n : ℕ) (xs : List (Option X)) (ys : List (Option Y)) → length xs ≡ length ys → ((m : ℕ) → is_some (at_place xs m) ≡ is_some (at_place ys m)) → first_free_from n xs ≡ first_free_from n ys
free_from n [] [] l h = refl
free_from n [] (y ∷ ys) l h = absurd (omega arith)
free_from n (x ∷ xs) [] l h = absurd (omega arith)
free_from n (None ∷ xs) (None ∷ ys) l h = refl
free_from n (None ∷ xs) (Some y ∷ ys) l h = let z : false ≡ true = h zero in absurd (cc)
free_from n (Some x ∷ xs) (None ∷ ys) l h = let z : true ≡ false = h zero in absurd (cc)
free_from n (Some x ∷ xs) (Some y ∷ ys) l h = free_from (suc n) xs ys (omega arith) (λ m. h (suc m))

both_live : (calls : ℕ → Option LxCall) (F : Files) (n : ℕ) (q : Option Queue) (is : Option (List Interest)) → PlaceStands calls F n q is → is_some q ≡ is_some is
both_live calls F n None None st = refl
both_live calls F n (Some q) (Some is) st = refl
both_live calls F n None (Some is) st = absurd st
both_live calls F n (Some q) None st = absurd st

pub same_free : (calls : ℕ → Option LxCall) (M : FilesState) (L : Files) → FilesStand calls M L → first_free M.queues ≡ first_free L.epolls
same_free calls M L st = free_from 0 M.queues L.epolls st.rooms (λ n. both_live calls M.plain n (at_place M.queues n) (at_place L.epolls n) (st.queues n))

-- ---- the start

none_replicated : {X : Type 0} (m n : ℕ) → at_place {X = X} (replicate m None) n ≡ None
none_replicated zero n = refl
none_replicated (suc m) zero = refl
none_replicated (suc m) (suc n) = none_replicated m n

no_queues : (F : Files) → AllStand (λ s. None) F (replicate 32 None) (replicate 32 None)
no_queues F n = by (at_place (replicate 32 None) n) (at_place (replicate 32 None) n) (none_replicated 32 n) (none_replicated 32 n)
  where
    by : (q : Option Queue) (is : Option (List Interest)) → q ≡ None → is ≡ None → PlaceStands (λ s. None) F n q is
    by None None e f = tt
    by (Some q) is e f = absurd (cc)
    by None (Some is) e f = absurd (cc)

pub first_stands : (input : List ℕ) → FilesStand (λ s. None) (first_state input) (first_files input)
first_stands input = record {
  plain = refl;
  queues = no_queues (first_state input).plain;
  rooms = refl;
  fluxes = λ s c is. absurd (cc);
}

-- the open files at the start
abbrev is_first : ℕ → FileKind → ℕ → OpenFile → Type 0
is_first n k i f = (i ≡ n) × ((f.kind ≡ k) × (f.holds ≡ 0))

abbrev IsFirst : ℕ → OpenFile → Type 0
IsFirst i f = is_first 0 kind.Input i f ⊎ (is_first 1 (kind.Console side.Out) i f ⊎ is_first 2 (kind.Console side.Err) i f)

abbrev opened : FileKind → OpenFile
opened k = record { kind = k; nonblocking = false; holds = 0 }

kind_is : (k : FileKind) (f : OpenFile) → opened k ≡ f → (f.kind ≡ k) × (f.holds ≡ 0)
kind_is k f e = (sym (ap (λ (x : OpenFile). x.kind) e), sym (ap (λ (x : OpenFile). x.holds) e))

first_at : (input : List ℕ) (i : ℕ) (f : OpenFile) → at_place (first_files input).files i ≡ Some f → IsFirst i f
first_at input zero f h = let z : opened kind.Input ≡ f = cc in inl (refl, kind_is kind.Input f z)
first_at input (suc zero) f h = let z : opened (kind.Console side.Out) ≡ f = cc in inr (inl (refl, kind_is (kind.Console side.Out) f z))
first_at input (suc (suc zero)) f h = let z : opened (kind.Console side.Err) ≡ f = cc in inr (inr (refl, kind_is (kind.Console side.Err) f z))
first_at input (suc (suc (suc i))) f h = let z : None ≡ Some f = sym (none_replicated 381 i) ∙ h in absurd (cc)

differ : (a b : FileKind) (f g : OpenFile) → f.kind ≡ a → g.kind ≡ b → is_kind a b ≡ false → is_kind f.kind g.kind ≡ true → ⊥
differ a b f g e k d h = let z : false ≡ true = sym d ∙ ap (λ x. is_kind x b) (sym e) ∙ ap (is_kind f.kind) (sym k) ∙ h in cc

first_alone : (input : List ℕ) → Alone (first_files input).files
first_alone input i j f g hf hg h = by (first_at input i f hf) (first_at input j g hg)
  where
    by : IsFirst i f → IsFirst j g → i ≡ j
    by (inl a) (inl b) = a.0 ∙ sym b.0
    by (inl a) (inr (inl b)) = absurd (differ kind.Input (kind.Console side.Out) f g a.1.0 b.1.0 refl h)
    by (inl a) (inr (inr b)) = absurd (differ kind.Input (kind.Console side.Err) f g a.1.0 b.1.0 refl h)
    by (inr (inl a)) (inl b) = absurd (differ (kind.Console side.Out) kind.Input f g a.1.0 b.1.0 refl h)
    by (inr (inl a)) (inr (inl b)) = a.0 ∙ sym b.0
    by (inr (inl a)) (inr (inr b)) = absurd (differ (kind.Console side.Out) (kind.Console side.Err) f g a.1.0 b.1.0 refl h)
    by (inr (inr a)) (inl b) = absurd (differ (kind.Console side.Err) kind.Input f g a.1.0 b.1.0 refl h)
    by (inr (inr a)) (inr (inl b)) = absurd (differ (kind.Console side.Err) (kind.Console side.Out) f g a.1.0 b.1.0 refl h)
    by (inr (inr a)) (inr (inr b)) = a.0 ∙ sym b.0

first_there : (input : List ℕ) (i : ℕ) (f : OpenFile) → IsFirst i f → is_there (first_state input) f.kind ≡ true
first_there input i f (inl a) = ap (is_there (first_state input)) a.1.0
first_there input i f (inr (inl a)) = ap (is_there (first_state input)) a.1.0
first_there input i f (inr (inr a)) = ap (is_there (first_state input)) a.1.0

first_unheld : (i : ℕ) (f : OpenFile) → IsFirst i f → f.holds ≡ 0
first_unheld i f (inl a) = a.1.1
first_unheld i f (inr (inl a)) = a.1.1
first_unheld i f (inr (inr a)) = a.1.1

abbrev on : ℕ → Descriptor
on file = record { file = file; close_on_exec = false }

first_named : (input : List ℕ) (fd : ℕ) (d : Descriptor) → at_place (first_files input).descriptors fd ≡ Some d → lives (first_state input).plain d.file ≡ true
first_named input zero d h = let z : on 0 ≡ d = cc in ap (λ (x : Descriptor). lives (first_state input).plain x.file) (sym z)
first_named input (suc zero) d h = let z : on 1 ≡ d = cc in ap (λ (x : Descriptor). lives (first_state input).plain x.file) (sym z)
first_named input (suc (suc zero)) d h = let z : on 2 ≡ d = cc in ap (λ (x : Descriptor). lives (first_state input).plain x.file) (sym z)
first_named input (suc (suc (suc fd))) d h = let z : None ≡ Some d = sym (none_replicated 253 fd) ∙ h in absurd (cc)

pub first_sound : (input : List ℕ) → SoundFiles (λ s. None) (λ s. None) (first_state input)
first_sound input = record {
  sizes = record { descriptors = refl; files = refl; pipes = refl; counters = refl; queues = refl };
  named = first_named input;
  alone = first_alone input;
  there = λ i f h. first_there input i f (first_at input i f h);
  holders = λ i f h. first_unheld i f (first_at input i f h) ∙ sym (none_hold (λ s. None) i 128 (λ s e. no_file i e));
  held = λ s i h. absurd (no_file i h);
  each = λ n q h. absurd (no_queue n q h);
  epolls = replicate 32 None;
  stand = no_queues (first_state input).plain;
  rooms = refl;
  fluxes = λ s c is. absurd (no_call c is);
}
  where
    no_file : (i : ℕ) → None ≡ Some i → ⊥
    no_file i e = cc

    no_queue : (n : ℕ) (q : Queue) → at_place {X = Queue} (replicate 32 None) n ≡ Some q → ⊥
    no_queue n q h = let z : None ≡ Some q = sym (none_replicated 32 n) ∙ h in cc

    no_call : (c : LxCall) → None ≡ Some c → ⊥
    no_call c e = cc
