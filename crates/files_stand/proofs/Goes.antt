-- The changes of the second entry are never refused: the Write knote stands exactly where the call doesn't add, and then the Read
-- knote where it doesn't delete.
use Rattle.std.proofs.Common.{◌≡◌, ℕ, ◌+◌, Bool, true, false, not, ◌||◌, ◌&&◌, List, map, Option, Some, None, refl, sym, ap, ◌∙◌, arith}
use Rattle.std.specs.Prelude.{filter, is_some}
use Rattle.std.specs.List.{list_any}
use Rattle.linux_abi.specs.declared.epoll.EpollOperation.{EpollOperation}
use Rattle.linux_abi.specs.declared.epoll.EpollOperation.TheVariants as operation
use Rattle.kqueue_core.specs.Changes.{change_fault, has_filter, is_named, stays, tally}
use Rattle.kqueue_core.specs.Watches.{changed_watch, has_knote, is_of}
use Rattle.kqueue_core.specs.declared.knotes.Filter.TheVariants.{Read, Write}
use Rattle.kqueue_core.specs.declared.knotes.Knote.{Knote}
use Rattle.kqueue_core.specs.declared.knotes.Watch.{Watch}
use Rattle.kqueue_core.specs.Knotes.{remade}
use Rattle.kqueue_core.proofs.Tallies.{none_tally, some_tally, tally-same, tally_among, tally_false}
use Rattle.kqueue_laws.specs.Pairs.{kept_flags, same}
use Rattle.kqueue_laws.proofs.Changes.{and_true, named_changed}
use Rattle.kqueue_laws.proofs.Flags.{adds_add, adds_change}
use Rattle.lx_machine.specs.Calls.{low_argument}
use Rattle.lx_machine.specs.EpollCtl.{asked_of, control_of, data_of, is_add}
use Rattle.lx_machine.specs.declared.calls.LxCall.{LxCall}
use Rattle.lx_machine.specs.declared.files.Files.{Files}
use Rattle.lx_machine.specs.declared.files.Interest.{Interest}
use Rattle.files_stand.specs.Changes.{flags_of, half_changed, is_ready}
use Rattle.files_stand.specs.Fluxes.{FluxStands, is_delete, is_in_flux_for, read_stands}

-- what passes with the one knote
none_with : (b r k : Bool) → ((b && (r && same k false)) && k) ≡ false
none_with true true true = refl
none_with true true false = refl
none_with true false k = refl
none_with false r k = refl

all_with : (b r k : Bool) → ((b && (r && same k true)) && k) ≡ (b && (r && same k true))
all_with true true true = refl
all_with true true false = refl
all_with true false k = refl
all_with false r k = refl

module _ (F : Files) (c : LxCall) (file : ℕ) (is : List Interest) (ws : List Watch) (fx : FluxStands c (record { file = file; descriptor = low_argument c 2 }) is ws) where
  abbrev at : ℕ
  at = low_argument c 2

  in_flux : tally (λ w. is_of file at w && is_in_flux_for c w) ws ≡ tally (is_of file at) ws
  in_flux = fx.asked ∙ sym fx.watch

  named : is_named file at ws ≡ true
  named = some_tally (is_of file at) ws (let h = fx.watch in omega arith)

  write_stood : is_add (control_of c) ≡ false → list_any (has_filter file at Write) ws ≡ true
  write_stood e = some_tally (has_filter file at Write) ws (let h = one in omega arith)
    where
      one : tally (has_filter file at Write) ws ≡ 1
      one =
          tally_among (is_of file at) (is_in_flux_for c) (λ w. is_some w.write) ws in_flux
          ∙ tally-same _ (λ w. is_of file at w && is_in_flux_for c w) (λ w. rw e (all_with (is_of file at w) (read_stands c w.read) (is_some w.write))) ws
          ∙ fx.asked

  write_missing : is_add (control_of c) ≡ true → list_any (has_filter file at Write) ws ≡ false
  write_missing e = none_tally (has_filter file at Write) ws
      (tally_among (is_of file at) (is_in_flux_for c) (λ w. is_some w.write) ws in_flux
      ∙ tally-same _ (λ w. false) (λ w. rw e (none_with (is_of file at w) (read_stands c w.read) (is_some w.write))) ws
      ∙ tally_false ws)

  pub write_goes : (op : EpollOperation) → control_of c ≡ Some op → change_fault file at Write (flags_of (control_of c) (asked_of c)) ws ≡ None
  write_goes operation.Add e = let m = write_missing (rw e refl) in rw (e, adds_add (asked_of c), m, named) refl
  write_goes operation.Change e = let m = write_stood (rw e refl) in rw (e, adds_change (asked_of c), m) refl
  write_goes operation.Delete e = let m = write_stood (rw e refl) in rw (e, m) refl

  -- ---- the Read knote once more

  some_read : (b z : Bool) (r k : Option Knote) → is_delete (control_of c) ≡ false → ((b && (read_stands c r && same (is_some k) (not (is_add (control_of c))))) && ((is_some r || z) && is_some r)) ≡ (b && (read_stands c r && same (is_some k) (not (is_add (control_of c)))))
  some_read b z None k e = rw e (none_left b)
    where
      none_left : (b : Bool) → ((b && false) && (z && false)) ≡ (b && false)
      none_left true = refl
      none_left false = refl
  some_read b z (Some r) k e = and_true (b && (read_stands c (Some r) && same (is_some k) (not (is_add (control_of c)))))

  abbrev written : ℕ → List Watch
  written flags = filter (stays file (low_argument c 2)) (map (changed_watch file (low_argument c 2) Write flags (asked_of c) (data_of c) (is_ready F file Write (asked_of c))) ws)

  read_stood : (flags : ℕ) → is_delete (control_of c) ≡ false → list_any (has_filter file at Read) (written flags) ≡ true
  read_stood flags e = some_tally (has_filter file at Read) (written flags) (let h = one in omega arith)
    where
      one : tally (has_filter file at Read) (written flags) ≡ 1
      one =
          named_changed file at Write flags (asked_of c) (data_of c) (is_ready F file Write (asked_of c)) (λ w. is_some w.read) ws
          ∙ tally_among (is_of file at) (is_in_flux_for c) (λ w. has_knote (record w { write = remade flags (asked_of c) (data_of c) (is_ready F file Write (asked_of c)) w.write }) && is_some w.read) ws in_flux
          ∙ tally-same _ (λ w. is_of file at w && is_in_flux_for c w) (λ w. some_read (is_of file at w) (is_some (remade flags (asked_of c) (data_of c) (is_ready F file Write (asked_of c)) w.write)) w.read w.write e) ws
          ∙ fx.asked

  pub again_goes : (op : EpollOperation) → control_of c ≡ Some op → is_delete (control_of c) ≡ false → change_fault file at Read (4 + kept_flags (asked_of c)) (half_changed F c file Write ws) ≡ None
  again_goes operation.Add e d = let m = read_stood (1 + kept_flags (asked_of c)) d in rw (e, adds_add (asked_of c), named, adds_change (asked_of c), m) refl
  again_goes operation.Change e d = let m = read_stood (4 + kept_flags (asked_of c)) d in rw (e, adds_change (asked_of c), m) refl
  again_goes operation.Delete e d = let z : true ≡ false = sym (ap is_delete e) ∙ d in absurd (cc)
