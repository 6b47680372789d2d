-- The interests of an epoll have different names.
use Rattle.std.proofs.Common.{◌≡◌, ℕ, zero, suc, Some, None, replicate, sym, subst}
use Rattle.lx_machine.specs.Interests.{drained_side, without_first_of}
use Rattle.lx_machine.specs.Lists.{at_place}
use Rattle.lx_machine.specs.declared.files.FileKind.TheVariants as kind
use Rattle.lx_machine.specs.declared.files.Files.{Files}
use Rattle.lx_machine.specs.declared.label.Label.{Label}
use Rattle.lx_machine.specs.declared.label.Label.TheVariants as label
use Rattle.lx_machine.specs.declared.label.LxSide.{LxSide}
use Rattle.lx_machine.specs.declared.label.LxSide.TheVariants as side
use Rattle.lx_machine.specs.declared.state.LinuxState.{LinuxState}
use Rattle.lx_laws.specs.Interests.{AreApart, InterestsApart}
use Rattle.lx_laws.specs.Kept.{HoldsAlways, HoldsAtStart, IsKept}
use Rattle.lx_laws.proofs.Files.{armed}
use Rattle.lx_laws.proofs.Frame.{Common, common}
use Rattle.lx_laws.proofs.Runs.{always}

pub no_place : {X : Type 0} (k n : ℕ) (x : X) → at_place (replicate k None) n ≡ Some x → ⊥
no_place zero n x e = cc
no_place (suc k) zero x e = cc
no_place (suc k) (suc n) x e = no_place k n x e

pub begin : HoldsAtStart InterestsApart
begin image name arguments input seed rules n is e = absurd (no_place 32 n is e)

drained : (F : Files) (which : LxSide) (n : ℕ) → AreApart F.epolls → AreApart (drained_side F which n).epolls
drained F side.Out n h = (armed (kind.Console side.Out) (without_first_of F side.Out n)).apart h
drained F side.Err n h = (armed (kind.Console side.Err) (without_first_of F side.Err n)).apart h

by_label : (L next : LinuxState) (l : Label) → Common L l next → InterestsApart L → InterestsApart next
by_label L next (label.Time t) h apart = h.1.apart apart
by_label L next (label.Drain which n) h apart = subst (λ (F : Files). AreApart F.epolls) (sym h.1) (drained L.files which n apart)
by_label L next _ h apart = h.1.apart apart

pub are_kept : IsKept InterestsApart
are_kept L next l apart e = by_label L next l (common L next l e) apart

pub are_always : HoldsAlways InterestsApart
are_always = always InterestsApart begin are_kept
