-- An entry on files is taken by both machines, and the clause still holds.
use Rattle.std.proofs.Common.{◌≡◌, ℕ, List, [], ◌∷◌, length, Option, Some, None, sym, ap, ◌∙◌, subst}
use Rattle.std.proofs.lemmas.List.{length-set}
use Rattle.kqueue_core.specs.Queues.{Queue}
use Rattle.lx_machine.specs.declared.calls.LxCall.{LxCall}
use Rattle.lx_machine.specs.declared.files.Files.{Files}
use Rattle.lx_machine.specs.declared.files.Interest.{Interest}
use Rattle.bsd_files.specs.Ops.{Op, Arm, Leave, End, each_queue, in_queues}
use Rattle.bsd_files.specs.State.{FilesState}
use Rattle.bsd_files.specs.Moves.{each_epoll, in_epolls}
use Rattle.files_stand.specs.FilesStand.{AllStand, FilesStand}
use Rattle.files_stand.specs.Fluxes.{HasFlux}
use Rattle.files_stand.specs.Steps.{AllFree, AllSpare, IsStep, Keeps}
use Rattle.files_stand.proofs.Fluxes.{ops_flux, plain_flux}
use Rattle.files_stand.proofs.Ops.{ops_stand, plain_stands}
use Rattle.files_stand.proofs.Places.{length_map}

-- what a step has to leave: the names of changes at work, and their queues
pub record Leaves (calls : ℕ → Option LxCall) (F F' : Files) (queues : List (Option Queue)) (os : List Op) : Type 0 where
  pub free : AllFree F' os
  pub keeps : (s : ℕ) (c : LxCall) → calls s ≡ Some c → Keeps F F' c
  pub spares : (s : ℕ) (c : LxCall) → calls s ≡ Some c → (h : HasFlux F queues s c) → AllSpare h.place os

-- the files after a step
abbrev pub stepped : (Files → Files) → (Files → List Op) → FilesState → FilesState
stepped plain ops M = record { plain = plain M.plain; queues = each_queue (ops M.plain) M.queues }

pub queues_step : (calls : ℕ → Option LxCall) (F F' : Files) (os : List Op) (qs : List (Option Queue)) (es : List (Option (List Interest))) → Leaves calls F F' qs os → AllStand calls F qs es → AllStand calls F' (each_queue os qs) (each_epoll os es)
queues_step calls F F' os qs es l st = ops_stand calls F' os l.free qs es (plain_stands calls F F' l.keeps qs es st)

pub fluxes_step : (calls : ℕ → Option LxCall) (F F' : Files) (os : List Op) (qs : List (Option Queue)) → Leaves calls F F' qs os → ((s : ℕ) (c : LxCall) → calls s ≡ Some c → HasFlux F qs s c) → (s : ℕ) (c : LxCall) → calls s ≡ Some c → HasFlux F' (each_queue os qs) s c
fluxes_step calls F F' os qs l have s c is =
    let h = have s c is in
    ops_flux F' qs s c (plain_flux F F' qs s c (l.keeps s c is) h) os (l.spares s c is h)

op_rooms : (o : Op) (qs : List (Option Queue)) (es : List (Option (List Interest))) → length qs ≡ length es → length (in_queues o qs) ≡ length (in_epolls o es)
op_rooms (Arm k f files) qs es h = length_map _ qs ∙ h ∙ sym (length_map _ es)
op_rooms (Leave file) qs es h = length_map _ qs ∙ h ∙ sym (length_map _ es)
op_rooms (End n) qs es h = length-set qs n None ∙ h ∙ sym (length-set es n None)

pub rooms_step : (os : List Op) (qs : List (Option Queue)) (es : List (Option (List Interest))) → length qs ≡ length es → length (each_queue os qs) ≡ length (each_epoll os es)
rooms_step [] qs es h = h
rooms_step (o ∷ os) qs es h = rooms_step os (in_queues o qs) (in_epolls o es) (op_rooms o qs es h)

pub step_stands : (plain linux : Files → Files) (ops : Files → List Op) → IsStep plain linux ops → (calls : ℕ → Option LxCall) (M : FilesState) (L : Files) → FilesStand calls M L → Leaves calls M.plain (plain M.plain) M.queues (ops M.plain) → FilesStand calls (stepped plain ops M) (linux L)
step_stands plain linux ops is calls M L st l = record {
  plain = ap plain st.plain ∙ is.plain_is L;
  queues = subst (λ (es : List (Option (List Interest))). AllStand calls (plain M.plain) (each_queue (ops M.plain) M.queues) es) (sym (is.epolls L ∙ ap (λ (F : Files). each_epoll (ops F) L.epolls) (sym st.plain)))
      (queues_step calls M.plain (plain M.plain) (ops M.plain) M.queues L.epolls l st.queues);
  rooms = rooms_step (ops M.plain) M.queues L.epolls st.rooms ∙ sym (ap length (is.epolls L ∙ ap (λ (F : Files). each_epoll (ops F) L.epolls) (sym st.plain)));
  fluxes = fluxes_step calls M.plain (plain M.plain) (ops M.plain) M.queues l st.fluxes;
}
