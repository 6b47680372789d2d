-- What an entry does to all queues, while fluxes of other slots may stand.
use Rattle.std.proofs.Common.{◌≡◌, ◌≢◌, ℕ, Bool, true, false, not, ◌&&◌, List, [], ◌∷◌, map, Option, Some, None, refl, sym, ap, ◌∙◌, arith, ◌⊎◌, inl, inr}
use Rattle.std.specs.Prelude.{◌==◌, filter, if◌then◌else◌, is_some}
use Rattle.std.specs.Option.{option_map}
use Rattle.lx_machine.specs.Calls.{low_argument, first_refusal}
use Rattle.lx_machine.specs.Lists.{at_place, without_place}
use Rattle.lx_machine.specs.Interests.{is_named, if_armed, armed_for, is_open_of, without_those_in, is_elsewhere}
use Rattle.lx_machine.specs.declared.calls.LxCall.{LxCall}
use Rattle.lx_machine.specs.declared.files.Files.{Files}
use Rattle.lx_machine.specs.declared.files.FileKind.{FileKind}
use Rattle.lx_machine.specs.declared.files.Interest.{Interest}
use Rattle.lx_machine.specs.declared.files.OpenFile.{OpenFile}
use Rattle.lx_machine.specs.EpollCtl.{file_of, control_of, is_add}
use Rattle.kqueue_core.specs.declared.knotes.Filter.{Filter}
use Rattle.kqueue_core.specs.declared.knotes.Filter.TheVariants.{Read, Write}
use Rattle.kqueue_core.specs.Changes.{tally, activated_where, is_apart_from}
use Rattle.kqueue_core.specs.declared.knotes.Knote.{Knote}
use Rattle.kqueue_core.specs.declared.knotes.Watch.{Watch}
use Rattle.kqueue_core.specs.declared.knotes.Flux.{Flux}
use Rattle.kqueue_core.specs.Queues.{Queue}
use Rattle.kqueue_core.specs.Watches.{is_of, activated_watch}
use Rattle.kqueue_core.specs.Knotes.{awake}
use Rattle.bsd_files.specs.Ops.{activated_for, left_by, Op, Arm, Leave, End, in_queues, each_queue, is_this}
use Rattle.bsd_files.specs.Moves.{each_epoll, in_epolls}
use Rattle.files_stand.specs.Steps.{IsFree, AllFree, Keeps}
use Rattle.files_stand.specs.Same.{Name}
use Rattle.files_stand.specs.Fluxes.{FluxStands, is_in_flux_for, read_stands}
use Rattle.files_stand.specs.FilesStand.{QueueStands, PlaceStands, AllStand}
use Rattle.kqueue_laws.specs.Pairs.{same}
use Rattle.kqueue_core.proofs.Tallies.{tally-map, tally-filter, tally-same}
use Rattle.files_stand.proofs.Arms.{arm_same, leave_same}
use Rattle.files_stand.proofs.Places.{at_mapped, at_emptied}

-- ---- places

-- ---- a flux under an arming event

named_armed : (b : Bool) (f d : ℕ) (i : Interest) → let j : Interest = if b then record i { armed = true } else i in is_named f d j ≡ is_named f d i
named_armed true f d i = refl
named_armed false f d i = refl

of_activated : (b : Bool) (g : Filter) (f d : ℕ) (w : Watch) → let v : Watch = if b then activated_watch g w else w in is_of f d v ≡ is_of f d w
of_activated true Read f d w = refl
of_activated true Write f d w = refl
of_activated false g f d w = refl

read_awake : (c : LxCall) (r : Option Knote) → read_stands c (awake r) ≡ read_stands c r
read_awake c None = refl
read_awake c (Some r) = refl

some_awake : (r : Option Knote) → is_some (awake r) ≡ is_some r
some_awake None = refl
some_awake (Some r) = refl

flux_activated : (c : LxCall) (b : Bool) (g : Filter) (f d : ℕ) (w : Watch) → let v : Watch = if b then activated_watch g w else w in (is_of f d v && is_in_flux_for c v) ≡ (is_of f d w && is_in_flux_for c w)
flux_activated c true Read f d w = ap (λ z. is_of f d w && (z && same (is_some w.write) (not (is_add (control_of c))))) (read_awake c w.read)
flux_activated c true Write f d w = ap (λ z. is_of f d w && (read_stands c w.read && same z (not (is_add (control_of c))))) (some_awake w.write)
flux_activated c false g f d w = refl

pub arm_flux : (c : LxCall) (x : Name) (k : FileKind) (g : Filter) (files : List (Option OpenFile)) (is : List Interest) (ws : List Watch) → FluxStands c x is ws → FluxStands c x (map (if_armed k files) is) (map (activated_where (is_this k files) g) ws)
arm_flux c x k g files is ws fx = record {
  same = arm_same (Some x) k g files is ws fx.same;
  linux = tally-map (if_armed k files) (is_named x.file x.descriptor) is ∙ tally-same _ _ (λ i. named_armed (is_open_of k (at_place files i.file)) x.file x.descriptor i) is ∙ fx.linux;
  watch = tally-map (activated_where (is_this k files) g) (is_of x.file x.descriptor) ws ∙ tally-same _ _ (λ w. of_activated (is_open_of k (at_place files w.file)) g x.file x.descriptor w) ws ∙ fx.watch;
  asked = tally-map (activated_where (is_this k files) g) (λ w. is_of x.file x.descriptor w && is_in_flux_for c w) ws ∙ tally-same _ _ (λ w. flux_activated c (is_open_of k (at_place files w.file)) g x.file x.descriptor w) ws ∙ fx.asked;
}

-- the end of another open file
elsewhere : (file n m f d : ℕ) (z : Bool) → f ≢ file → (not (n == file) && (((n == f) && (m == d)) && z)) ≡ (((n == f) && (m == d)) && z)
elsewhere file n m f d z ne = by (n == f) refl (n == file) refl
  where
    by : (a : Bool) → (n == f) ≡ a → (b : Bool) → (n == file) ≡ b → (not (n == file) && (((n == f) && (m == d)) && z)) ≡ (((n == f) && (m == d)) && z)
    by true e true g = absurd (ne (grind arith))
    by true e false g = rw g refl
    by false e b g = rw e (all_false (not (n == file)))
      where
        all_false : (b : Bool) → (b && false) ≡ false
        all_false true = refl
        all_false false = refl

named_alone : (f d : ℕ) (xs : List Interest) → tally (λ i. is_named f d i && true) xs ≡ tally (is_named f d) xs
named_alone f d xs = tally-same _ _ (λ i. and_true' (is_named f d i)) xs
  where
    and_true' : (b : Bool) → (b && true) ≡ b
    and_true' true = refl
    and_true' false = refl

of_alone : (f d : ℕ) (xs : List Watch) → tally (λ i. is_of f d i && true) xs ≡ tally (is_of f d) xs
of_alone f d xs = tally-same _ _ (λ i. and_true' (is_of f d i)) xs
  where
    and_true' : (b : Bool) → (b && true) ≡ b
    and_true' true = refl
    and_true' false = refl

pub leave_flux : (c : LxCall) (x : Name) (file : ℕ) (is : List Interest) (ws : List Watch) → x.file ≢ file → FluxStands c x is ws → FluxStands c x (filter (is_elsewhere file) is) (filter (is_apart_from file) ws)
leave_flux c x file is ws ne fx = record {
  same = leave_same (Some x) file is ws fx.same;
  linux = sym (named_alone x.file x.descriptor _) ∙ tally-filter (is_elsewhere file) (λ i. is_named x.file x.descriptor i && true) is ∙ tally-same _ _ (λ i. elsewhere file i.file i.descriptor x.file x.descriptor true ne) is ∙ named_alone x.file x.descriptor is ∙ fx.linux;
  watch = sym (of_alone x.file x.descriptor _) ∙ tally-filter (is_apart_from file) (λ w. is_of x.file x.descriptor w && true) ws ∙ tally-same _ _ (λ w. elsewhere file w.file w.descriptor x.file x.descriptor true ne) ws ∙ of_alone x.file x.descriptor ws ∙ fx.watch;
  asked = tally-filter (is_apart_from file) (λ w. is_of x.file x.descriptor w && is_in_flux_for c w) ws ∙ tally-same _ _ (λ w. elsewhere file w.file w.descriptor x.file x.descriptor (is_in_flux_for c w) ne) ws ∙ fx.asked;
}

-- ---- all queues

module _ (calls : ℕ → Option LxCall) (F : Files) where
  arm_queue : (n : ℕ) (k : FileKind) (g : Filter) (files : List (Option OpenFile)) (flux : Option Flux) (is : List Interest) (ws : List Watch) → QueueStands calls F n flux is ws → QueueStands calls F n flux (map (if_armed k files) is) (map (activated_where (is_this k files) g) ws)
  arm_queue n k g files None is ws st = arm_same None k g files is ws st
  arm_queue n k g files (Some flux) is ws st = record { call = st.call; own = st.own; on = st.on; place = st.place; file = st.file; open_file = st.open_file; calm = st.calm; shared = st.shared; stands = arm_flux st.call _ k g files is ws st.stands }

  leave_queue : (n : ℕ) (file : ℕ) (free : (d : ℕ) → file_of F d ≢ Some file) (flux : Option Flux) (is : List Interest) (ws : List Watch) → QueueStands calls F n flux is ws → QueueStands calls F n flux (filter (is_elsewhere file) is) (filter (is_apart_from file) ws)
  leave_queue n file free None is ws st = leave_same None file is ws st
  leave_queue n file free (Some flux) is ws st = record { call = st.call; own = st.own; on = st.on; place = st.place; file = st.file; open_file = st.open_file; calm = st.calm; shared = st.shared; stands = leave_flux st.call _ file is ws (λ e. free (low_argument st.call 2) (st.open_file ∙ ap {B = Option ℕ} (λ z. Some z) e)) st.stands }

  op_place : (n : ℕ) (o : Op) → IsFree F o → (q : Option Queue) (is : Option (List Interest)) → PlaceStands calls F n q is → (f : Queue → Queue) (g : List Interest → List Interest)
      → ((q : Queue) (is : List Interest) → QueueStands calls F n q.flux is q.watches → QueueStands calls F n (f q).flux (g is) (f q).watches) → PlaceStands calls F n (option_map f q) (option_map g is)
  op_place n o free None None st f g h = tt
  op_place n o free (Some q) (Some is) st f g h = h q is st
  op_place n o free None (Some is) st f g h = st
  op_place n o free (Some q) None st f g h = st

  place_by : (n : ℕ) (q q' : Option Queue) (is is' : Option (List Interest)) → q' ≡ q → is' ≡ is → PlaceStands calls F n q is → PlaceStands calls F n q' is'
  place_by n q q' is is' e f st = rw (e, f) st

  pub op_stands : (o : Op) → IsFree F o → (qs : List (Option Queue)) (es : List (Option (List Interest))) → AllStand calls F qs es → AllStand calls F (in_queues o qs) (in_epolls o es)
  op_stands (Arm k g files) free qs es st n = place_by n _ _ _ _ (at_mapped (activated_for k g files) qs n) (at_mapped (armed_for k files) es n) (op_place n (Arm k g files) free _ _ (st n) (activated_for k g files) (armed_for k files) (λ q is h. arm_queue n k g files q.flux is q.watches h))
  op_stands (Leave file) free qs es st n = place_by n _ _ _ _ (at_mapped (left_by file) qs n) (at_mapped (without_those_in file) es n) (op_place n (Leave file) free _ _ (st n) (left_by file) (without_those_in file) (λ q is h. leave_queue n file free q.flux is q.watches h))
  op_stands (End m) free qs es st n = by (at_emptied qs es m n)
    where
      by : (m ≡ n) × ((at_place (without_place qs m) n ≡ None) × (at_place (without_place es m) n ≡ None)) ⊎ (at_place (without_place qs m) n ≡ at_place qs n) × (at_place (without_place es m) n ≡ at_place es n) → PlaceStands calls F n (at_place (without_place qs m) n) (at_place (without_place es m) n)
      by (inl h) = place_by n None _ None _ h.1.0 h.1.1 tt
      by (inr h) = place_by n _ _ _ _ h.0 h.1 (st n)

  pub ops_stand : (os : List Op) → AllFree F os → (qs : List (Option Queue)) (es : List (Option (List Interest))) → AllStand calls F qs es → AllStand calls F (each_queue os qs) (each_epoll os es)
  ops_stand [] free qs es st = st
  ops_stand (o ∷ os) free qs es st = ops_stand os free.1 (in_queues o qs) (in_epolls o es) (op_stands o free.0 qs es st)

pub plain_stands : (calls : ℕ → Option LxCall) (F F' : Files) → ((s : ℕ) (c : LxCall) → calls s ≡ Some c → Keeps F F' c) → (qs : List (Option Queue)) (es : List (Option (List Interest))) → AllStand calls F qs es → AllStand calls F' qs es
plain_stands calls F F' keeps qs es st n = by (at_place qs n) (at_place es n) (st n)
  where
    queue : (flux : Option Flux) (is : List Interest) (ws : List Watch) → QueueStands calls F n flux is ws → QueueStands calls F' n flux is ws
    queue None is ws h = h
    queue (Some flux) is ws h = let k = keeps flux.slot h.call h.own in record { call = h.call; own = h.own; on = h.on; place = k.epoll ∙ h.place; file = h.file; open_file = k.file ∙ h.open_file; calm = ap first_refusal k.refusals ∙ h.calm; shared = h.shared; stands = h.stands }

    by : (q : Option Queue) (is : Option (List Interest)) → PlaceStands calls F n q is → PlaceStands calls F' n q is
    by None None h = tt
    by (Some q) (Some is) h = queue q.flux is q.watches h
    by None (Some is) h = h
    by (Some q) None h = h
