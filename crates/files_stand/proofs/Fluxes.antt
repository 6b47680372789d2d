-- Who stands between the two entries of an epoll change has its queue in flux.
use Rattle.std.proofs.Common.{◌≡◌, ◌≢◌, ℕ, Bool, true, false, List, [], ◌∷◌, Option, Some, None, refl, sym, ap, ◌∙◌, arith}
use Rattle.std.specs.Prelude.{◌==◌, slice_set}
use Rattle.std.specs.Option.{option_map}
use Rattle.lx_machine.specs.Calls.{low_argument}
use Rattle.lx_machine.specs.Lists.{at_place}
use Rattle.lx_machine.specs.declared.calls.LxCall.{LxCall}
use Rattle.lx_machine.specs.declared.files.Files.{Files}
use Rattle.lx_machine.specs.EpollCtl.{epoll_of}
use Rattle.kqueue_core.specs.declared.knotes.Flux.{Flux}
use Rattle.kqueue_core.specs.Queues.{Queue}
use Rattle.files_stand.specs.Steps.{Spares, AllSpare}
use Rattle.bsd_files.specs.Ops.{activated_for, left_by, Op, Arm, Leave, End, in_queues, each_queue}
use Rattle.files_stand.specs.Changes.{flux1, flux2}
use Rattle.files_stand.specs.Fluxes.{HasFlux, with_call}
use Rattle.files_stand.specs.Steps.{Keeps}
use Rattle.kqueue_laws.proofs.Changes.{eq_is}
use Rattle.files_stand.proofs.Places.{set_here, set_other, at_other, at_mapped}

abbrev slot_in : Option Flux → ℕ
slot_in None = 0
slot_in (Some f) = f.slot

abbrev pub op_flux : (F : Files) (qs : List (Option Queue)) (s : ℕ) (c : LxCall) (h : HasFlux F qs s c) (o : Op) → Spares h.place o → HasFlux F (in_queues o qs) s c
op_flux F qs s c h (Arm k g files) spares = record { place = h.place; is_place = h.is_place; queue = activated_for k g files h.queue; is_queue = at_mapped (activated_for k g files) qs h.place ∙ ap (option_map (activated_for k g files)) h.is_queue; flux = h.flux }
op_flux F qs s c h (Leave file) spares = record { place = h.place; is_place = h.is_place; queue = left_by file h.queue; is_queue = at_mapped (left_by file) qs h.place ∙ ap (option_map (left_by file)) h.is_queue; flux = h.flux }
op_flux F qs s c h (End m) spares = record { place = h.place; is_place = h.is_place; queue = h.queue; is_queue = at_other qs m h.place spares ∙ h.is_queue; flux = h.flux }

pub ops_flux : (F : Files) (qs : List (Option Queue)) (s : ℕ) (c : LxCall) (h : HasFlux F qs s c) (os : List Op) → AllSpare h.place os → HasFlux F (each_queue os qs) s c
ops_flux F qs s c h [] spares = h
ops_flux F qs s c h (Arm k g files ∷ os) spares = ops_flux F (in_queues (Arm k g files) qs) s c (op_flux F qs s c h (Arm k g files) spares.0) os spares.1
ops_flux F qs s c h (Leave file ∷ os) spares = ops_flux F (in_queues (Leave file) qs) s c (op_flux F qs s c h (Leave file) spares.0) os spares.1
ops_flux F qs s c h (End m ∷ os) spares = ops_flux F (in_queues (End m) qs) s c (op_flux F qs s c h (End m) spares.0) os spares.1

abbrev pub plain_flux : (F F' : Files) (qs : List (Option Queue)) (s : ℕ) (c : LxCall) → Keeps F F' c → HasFlux F qs s c → HasFlux F' qs s c
plain_flux F F' qs s c k h = record { place = h.place; is_place = k.epoll ∙ h.is_place; queue = h.queue; is_queue = h.is_queue; flux = h.flux }

-- another queue, in no flux, is changed
pub other_flux : (F : Files) (qs : List (Option Queue)) (n : ℕ) (q q' : Queue) → at_place qs n ≡ Some q → q.flux ≡ None → (k : ℕ) (d : LxCall) → HasFlux F qs k d → HasFlux F (slice_set qs n (Some q')) k d
other_flux F qs n q q' hq free k d h = record { place = h.place; is_place = h.is_place; queue = h.queue; is_queue = set_other qs n h.place (Some q') apart ∙ h.is_queue; flux = h.flux }
  where
    apart : h.place ≢ n
    apart e =
        let a : Some q ≡ Some h.queue = sym hq ∙ ap (at_place qs) (sym e) ∙ h.is_queue in
        let b : q ≡ h.queue = cc in
        let z : None ≡ Some (record { slot = k; descriptor = low_argument d 2 }) = sym free ∙ ap (λ (r : Queue). r.flux) b ∙ h.flux in
        absurd (cc)

-- Flux1
pub flux1_flux : (calls : ℕ → Option LxCall) (F : Files) (qs : List (Option Queue)) (s : ℕ) (c : LxCall) (n file : ℕ) (q : Queue) → ((k : ℕ) (d : LxCall) → calls k ≡ Some d → HasFlux F qs k d)
    → epoll_of F (low_argument c 0) ≡ Some n → at_place qs n ≡ Some q → q.flux ≡ None
    → (k : ℕ) (d : LxCall) → with_call calls s (Some c) k ≡ Some d → HasFlux F (slice_set qs n (Some (flux1 F s c file q))) k d
flux1_flux calls F qs s c n file q have hn hq free k d is = by (k == s) refl
  where
    own : (m : ℕ) (e : LxCall) → m ≡ s → e ≡ c → HasFlux F (slice_set qs n (Some (flux1 F s c file q))) m e
    own m e f g = rw (f, g) (record { place = n; is_place = hn; queue = flux1 F s c file q; is_queue = set_here qs n (Some (flux1 F s c file q)) q hq; flux = refl })

    by : (b : Bool) → (k == s) ≡ b → HasFlux F (slice_set qs n (Some (flux1 F s c file q))) k d
    by true e = let a = rw e at is in let b : c ≡ d = cc in own k d (eq_is k s e) (sym b)
    by false e = let a = rw e at is in other_flux F qs n q (flux1 F s c file q) hq free k d (have k d a)

-- Flux2
pub flux2_flux : (calls : ℕ → Option LxCall) (F : Files) (qs : List (Option Queue)) (s : ℕ) (c : LxCall) (n file : ℕ) (q : Queue) → ((k : ℕ) (d : LxCall) → calls k ≡ Some d → HasFlux F qs k d)
    → at_place qs n ≡ Some q → q.flux ≡ Some (record { slot = s; descriptor = low_argument c 2 })
    → (k : ℕ) (d : LxCall) → with_call calls s None k ≡ Some d → HasFlux F (slice_set qs n (Some (flux2 F c file q))) k d
flux2_flux calls F qs s c n file q have hq hf k d is = by (k == s) refl
  where
    other : k ≢ s → HasFlux F qs k d → HasFlux F (slice_set qs n (Some (flux2 F c file q))) k d
    other ne h = record { place = h.place; is_place = h.is_place; queue = h.queue; is_queue = set_other qs n h.place (Some (flux2 F c file q)) apart ∙ h.is_queue; flux = h.flux }
      where
        apart : h.place ≢ n
        apart e =
            let a : Some q ≡ Some h.queue = sym hq ∙ ap (at_place qs) (sym e) ∙ h.is_queue in
            let b : q ≡ h.queue = cc in
            let z : Some (record { slot = s; descriptor = low_argument c 2 }) ≡ Some (record { slot = k; descriptor = low_argument d 2 }) = sym hf ∙ ap (λ (r : Queue). r.flux) b ∙ h.flux in
            let y = ap slot_in z in
            ne (sym y)

    by : (b : Bool) → (k == s) ≡ b → HasFlux F (slice_set qs n (Some (flux2 F c file q))) k d
    by true e = let a : None ≡ Some d = rw e at is in absurd (cc)
    by false e = let a = rw e at is in other (λ f. (let z : (k == s) ≡ true = grind arith in let y : false ≡ true = sym e ∙ z in absurd (cc))) (have k d a)
