-- No descriptor names an open file that ends.
use Rattle.std.proofs.Common.{◌≡◌, ◌≢◌, ℕ, zero, suc, Bool, true, false, not, ◌||◌, List, [], ◌∷◌, Option, Some, None, refl, arith}
use Rattle.std.specs.Prelude.{◌==◌, if◌then◌else◌}
use Rattle.std.specs.List.{list_any}
use Rattle.std.specs.Option.{option_map}
use Rattle.lx_machine.specs.declared.files.FileKind.TheVariants as kind
use Rattle.lx_machine.specs.Lists.{at_place, with_place, without_place}
use Rattle.lx_machine.specs.declared.files.Descriptor.{Descriptor}
use Rattle.lx_machine.specs.declared.files.FileKind.{FileKind}
use Rattle.lx_machine.specs.declared.files.Files.{Files}
use Rattle.lx_machine.specs.declared.files.OpenFile.{OpenFile}
use Rattle.lx_machine.specs.Files.{names, held_once_less}
use Rattle.bsd_files.specs.Ops.{Leave, end_ops, is_free, settle_ops_of, give_ops_of, give_ops, close_ops_of, close_ops}
use Rattle.files_stand.specs.Steps.{AllFree}
use Rattle.kqueue_laws.proofs.Changes.{both_true}

abbrev pub named_by : List (Option Descriptor) → ℕ → Option ℕ
named_by ds d = option_map (λ (x : Descriptor). x.file) (at_place ds d)

pub unnamed : (file : ℕ) (ds : List (Option Descriptor)) (d : ℕ) → list_any (names file) ds ≡ false → named_by ds d ≢ Some file
unnamed file [] d h e = let z : None ≡ Some file = e in absurd (cc)
unnamed file (None ∷ ds) zero h e = let z : None ≡ Some file = e in absurd (cc)
unnamed file (Some x ∷ ds) zero h e = let z : Some x.file ≡ Some file = e in let y : x.file ≡ file = cc in absurd (grind arith)
unnamed file (None ∷ ds) (suc d) h e = unnamed file ds d h e
unnamed file (Some x ∷ ds) (suc d) h e = unnamed file ds d (rest (x.file == file) (list_any (names file) ds) h) e
  where
    rest : (a b : Bool) → (a || b) ≡ false → b ≡ false
    rest true b h = let z : true ≡ false = h in absurd (cc)
    rest false b h = h

pub end_free : (F : Files) (k : FileKind) (files : List (Option OpenFile)) → AllFree F (end_ops k files)
end_free F (kind.PipeRead p) files = (tt, tt)
end_free F (kind.PipeWrite p) files = (tt, tt)
end_free F (kind.Epoll n) files = (tt, tt)
end_free F (kind.Counter n) files = tt
end_free F kind.Input files = tt
end_free F (kind.Console which) files = tt

settle_free : (F : Files) (files : List (Option OpenFile)) (file : ℕ) (o : Option OpenFile) → AllFree F (settle_ops_of F.descriptors files file o)
settle_free F files file None = tt
settle_free F files file (Some f) = by (is_free F.descriptors file f) refl
  where
    not_any : (b : Bool) → not b ≡ true → b ≡ false
    not_any true h = let z : false ≡ true = h in absurd (cc)
    not_any false h = refl

    by : (b : Bool) → is_free F.descriptors file f ≡ b → AllFree F (if b then (Leave file ∷ end_ops f.kind (without_place files file)) else [])
    by true e = ((λ d. unnamed file F.descriptors d (not_any _ (both_true _ _ e).1)), end_free F f.kind _)
    by false e = tt

-- a hold that is given back
pub give_free : (F : Files) (file : ℕ) → AllFree F (give_ops F file)
give_free F file = by (at_place F.files file)
  where
    by : (o : Option OpenFile) → AllFree F (give_ops_of F.descriptors F.files file o)
    by None = tt
    by (Some f) = settle_free F (with_place F.files file (held_once_less f)) file (at_place (with_place F.files file (held_once_less f)) file)

-- a close: the descriptor itself no longer names it
pub close_free : (F : Files) (number : ℕ) → AllFree (record F { descriptors = without_place F.descriptors number }) (close_ops F number)
close_free F number = by (at_place F.descriptors number)
  where
    by : (o : Option Descriptor) → AllFree (record F { descriptors = without_place F.descriptors number }) (close_ops_of F number o)
    by None = tt
    by (Some d) = settle_free (record F { descriptors = without_place F.descriptors number }) F.files d.file (at_place F.files d.file)
