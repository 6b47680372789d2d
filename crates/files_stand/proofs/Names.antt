-- The end of an open file, a hold that is given back and a close leave what a flux names.
use Rattle.std.proofs.Common.{◌≡◌, ◌≢◌, ℕ, zero, suc, Bool, true, false, not, ◌||◌, List, [], ◌∷◌, Option, Some, None, refl, sym, ap, ap₂, ◌∙◌}
use Rattle.std.specs.Prelude.{◌==◌, if◌then◌else◌, is_some}
use Rattle.std.specs.List.{list_any}
use Rattle.std.specs.Option.{option_map}
use Rattle.linux_abi.specs.declared.errno.LinuxErrno.TheVariants as errno
use Rattle.lx_machine.specs.declared.files.FileKind.TheVariants as kind
use Rattle.linux_abi.specs.declared.errno.LinuxErrno.{LinuxErrno}
use Rattle.lx_machine.specs.Calls.{low_argument}
use Rattle.lx_machine.specs.Lists.{bind, at_place, with_place, without_place}
use Rattle.lx_machine.specs.declared.calls.LxCall.{LxCall}
use Rattle.lx_machine.specs.declared.files.Descriptor.{Descriptor}
use Rattle.lx_machine.specs.declared.files.FileKind.{FileKind}
use Rattle.lx_machine.specs.declared.files.Files.{Files}
use Rattle.lx_machine.specs.declared.files.OpenFile.{OpenFile}
use Rattle.lx_machine.specs.Files.{numbered, names, is_unnamed, without_file, closed_if_unnamed_as, closed_if_unnamed, held_once_less, given_back_as, given_back, closed_as, closed}
use Rattle.lx_machine.specs.Epoll.{kind_of, epoll_number}
use Rattle.lx_machine.specs.EpollCtl.{epoll_of, file_of}
use Rattle.kqueue_laws.proofs.Changes.{both_true}
use Rattle.files_stand.specs.Steps.{Keeps}
use Rattle.files_stand.proofs.Frees.{unnamed}
use Rattle.files_stand.proofs.Places.{at_other}

-- the same descriptors and kinds at what the call names
pub record SameAt (F F' : Files) (d : ℕ) : Type 0 where
  pub descriptor : at_place F'.descriptors d ≡ at_place F.descriptors d
  pub kind : kind_of F' d ≡ kind_of F d

abbrev refusals_by : LxCall → Bool → Bool → Option ℕ → Option ℕ → List (Bool × LinuxErrno)
refusals_by c x y e f = (not x, errno.EBADF) ∷ (not y, errno.EBADF) ∷ (not (is_some e) || (low_argument c 0 == low_argument c 2), errno.EINVAL) ∷ (is_some f, errno.ELOOP) ∷ []

pub keeps_from : (F F' : Files) (c : LxCall) → is_some (at_place F'.descriptors (low_argument c 0)) ≡ is_some (at_place F.descriptors (low_argument c 0)) → is_some (at_place F'.descriptors (low_argument c 2)) ≡ is_some (at_place F.descriptors (low_argument c 2))
    → epoll_of F' (low_argument c 0) ≡ epoll_of F (low_argument c 0) → epoll_of F' (low_argument c 2) ≡ epoll_of F (low_argument c 2) → file_of F' (low_argument c 2) ≡ file_of F (low_argument c 2) → Keeps F F' c
keeps_from F F' c x y e f g = record {
  file = g;
  epoll = e;
  refusals =
      ap₂ (λ a b. refusals_by c a b (epoll_of F' (low_argument c 0)) (epoll_of F' (low_argument c 2))) x y
      ∙ ap₂ (λ a b. refusals_by c (is_some (at_place F.descriptors (low_argument c 0))) (is_some (at_place F.descriptors (low_argument c 2))) a b) e f;
}

pub keeps_by : (F F' : Files) (c : LxCall) → SameAt F F' (low_argument c 0) → SameAt F F' (low_argument c 2) → Keeps F F' c
keeps_by F F' c a b = keeps_from F F' c
    (ap (λ (o : Option Descriptor). is_some o) a.descriptor) (ap (λ (o : Option Descriptor). is_some o) b.descriptor)
    (ap (λ (o : Option FileKind). bind o epoll_number) a.kind) (ap (λ (o : Option FileKind). bind o epoll_number) b.kind)
    (ap (λ (o : Option Descriptor). option_map (λ d. d.file) o) b.descriptor)

-- ---- the end of an open file

pub record Ends (F F' : Files) (file : ℕ) : Type 0 where
  pub descriptors : F'.descriptors ≡ F.descriptors
  pub files : F'.files ≡ without_place F.files file

ends_by : (b : Bool) (F G H : Files) (file : ℕ) → Ends F G file → Ends F H file → Ends F (if b then G else H) file
ends_by true F G H file x y = x
ends_by false F G H file x y = y

pub file_ends : (F : Files) (file : ℕ) (k : FileKind) → Ends F (without_file F file k) file
file_ends F file (kind.PipeRead p) = ends_by _ F _ _ file (record { descriptors = refl; files = refl }) (record { descriptors = refl; files = refl })
file_ends F file (kind.PipeWrite p) = ends_by _ F _ _ file (record { descriptors = refl; files = refl }) (record { descriptors = refl; files = refl })
file_ends F file (kind.Counter n) = record { descriptors = refl; files = refl }
file_ends F file (kind.Epoll n) = record { descriptors = refl; files = refl }
file_ends F file kind.Input = record { descriptors = refl; files = refl }
file_ends F file (kind.Console which) = record { descriptors = refl; files = refl }

abbrev pub kind_by : List (Option Descriptor) → List (Option OpenFile) → ℕ → Option FileKind
kind_by ds files d = bind (at_place ds d) (λ x. bind (at_place files x.file) (λ f. Some f.kind))

kind_left : (ds : List (Option Descriptor)) (files : List (Option OpenFile)) (file d : ℕ) → list_any (names file) ds ≡ false → kind_by ds (without_place files file) d ≡ kind_by ds files d
kind_left ds files file d h = by (at_place ds d) refl
  where
    by : (o : Option Descriptor) → at_place ds d ≡ o → bind o (λ x. bind (at_place (without_place files file) x.file) (λ f. Some f.kind)) ≡ bind o (λ x. bind (at_place files x.file) (λ f. Some f.kind))
    by None e = refl
    by (Some x) e = ap (λ (o : Option OpenFile). bind o (λ f. Some f.kind)) (at_other files file x.file (λ g. unnamed file ds d h (ap (λ (o : Option Descriptor). option_map (λ y. y.file) o) e ∙ ap {B = Option ℕ} (λ z. Some z) g)))

pub not_any : (b : Bool) → not b ≡ true → b ≡ false
not_any true h = let z : false ≡ true = h in absurd (cc)
not_any false h = refl

pub ends_same : (F F' : Files) (file : ℕ) → Ends F F' file → list_any (names file) F.descriptors ≡ false → (d : ℕ) → SameAt F F' d
ends_same F F' file e h d = record {
  descriptor = ap (λ (ds : List (Option Descriptor)). at_place ds d) e.descriptors;
  kind = ap₂ (λ (ds : List (Option Descriptor)) (files : List (Option OpenFile)). kind_by ds files d) e.descriptors e.files ∙ kind_left F.descriptors F.files file d h;
}

pub same_self : (F : Files) (d : ℕ) → SameAt F F d
same_self F d = record { descriptor = refl; kind = refl }

settled_same_as : (F : Files) (file : ℕ) (o : Option OpenFile) (d : ℕ) → SameAt F (closed_if_unnamed_as F (option_map (numbered file) o)) d
settled_same_as F file None d = same_self F d
settled_same_as F file (Some f) d = by (is_unnamed F (numbered file f)) refl
  where
    by : (b : Bool) → is_unnamed F (numbered file f) ≡ b → SameAt F (if b then without_file F file f.kind else F) d
    by true e = ends_same F _ file (file_ends F file f.kind) (not_any _ (both_true _ _ e).1) d
    by false e = same_self F d

pub settled_same : (F : Files) (file d : ℕ) → SameAt F (closed_if_unnamed F file) d
settled_same F file d = settled_same_as F file (at_place F.files file) d

pub same_trans : (F G H : Files) (d : ℕ) → SameAt F G d → SameAt G H d → SameAt F H d
same_trans F G H d x y = record { descriptor = y.descriptor ∙ x.descriptor; kind = y.kind ∙ x.kind }

-- ---- a hold that is given back

-- an open file of the same kind at a place
pub kind_placed : (files : List (Option OpenFile)) (file : ℕ) (f g : OpenFile) (n : ℕ) → at_place files file ≡ Some f → g.kind ≡ f.kind → bind (at_place (with_place files file g) n) (λ h. Some h.kind) ≡ bind (at_place files n) (λ h. Some h.kind)
kind_placed [] file f g n h e = refl
kind_placed (x ∷ files) zero f g zero h e = let i : x ≡ Some f = h in ap {B = Option FileKind} (λ k. Some k) e ∙ sym (ap (λ (o : Option OpenFile). bind o (λ g. Some g.kind)) i)
kind_placed (x ∷ files) zero f g (suc n) h e = refl
kind_placed (x ∷ files) (suc file) f g zero h e = refl
kind_placed (x ∷ files) (suc file) f g (suc n) h e = kind_placed files file f g n h e

pub given_same : (F : Files) (file d : ℕ) → SameAt F (given_back F file) d
given_same F file d = by (at_place F.files file) refl
  where
    less_at : (f : OpenFile) → at_place F.files file ≡ Some f → (o : Option Descriptor) → bind o (λ x. bind (at_place (with_place F.files file (held_once_less f)) x.file) (λ g. Some g.kind)) ≡ bind o (λ x. bind (at_place F.files x.file) (λ g. Some g.kind))
    less_at f e None = refl
    less_at f e (Some x) = kind_placed F.files file f (held_once_less f) x.file e refl

    by : (o : Option OpenFile) → at_place F.files file ≡ o → SameAt F (given_back_as F file o) d
    by None e = same_self F d
    by (Some f) e = same_trans F (record F { files = with_place F.files file (held_once_less f) }) _ d (record { descriptor = refl; kind = less_at f e (at_place F.descriptors d) }) (settled_same (record F { files = with_place F.files file (held_once_less f) }) file d)

pub given_keeps : (F : Files) (file : ℕ) (c : LxCall) → Keeps F (given_back F file) c
given_keeps F file c = keeps_by F (given_back F file) c (given_same F file (low_argument c 0)) (given_same F file (low_argument c 2))

-- ---- a close of a descriptor that no flux names, and that isn't of its queue

pub closed_same : (F : Files) (number d : ℕ) → d ≢ number → SameAt F (closed F number) d
closed_same F number d ne = by (at_place F.descriptors number)
  where
    by : (o : Option Descriptor) → SameAt F (closed_as F number o) d
    by None = same_self F d
    by (Some x) = same_trans F (record F { descriptors = without_place F.descriptors number }) _ d
        (record { descriptor = at_other F.descriptors number d ne; kind = ap (λ (o : Option Descriptor). bind o (λ y. bind (at_place F.files y.file) (λ f. Some f.kind))) (at_other F.descriptors number d ne) })
        (settled_same (record F { descriptors = without_place F.descriptors number }) x.file d)

-- where `close` doesn't wait for this call's flux: it names neither the descriptor nor a descriptor of its queue
pub closed_keeps : (F : Files) (number : ℕ) (c : LxCall) (n : ℕ) → epoll_of F (low_argument c 0) ≡ Some n → low_argument c 2 ≢ number → epoll_of F number ≢ Some n → Keeps F (closed F number) c
closed_keeps F number c n queue apart other = keeps_by F (closed F number) c (closed_same F number (low_argument c 0) (λ e. other (ap (epoll_of F) (sym e) ∙ queue))) (closed_same F number (low_argument c 2) apart)
