-- What holds of one queue at all times is kept by each op.
use Rattle.std.proofs.Common.{◌≡◌, ◌≢◌, ℕ, Bool, true, false, not, ◌&&◌, List, Option, Some, None, refl, sym, ap, ◌∙◌, subst, arith}
use Rattle.std.specs.Prelude.{◌==◌, if◌then◌else◌, is_some}
use Rattle.kqueue_core.specs.Changes.{IsWatches, activated_by, activated_where, is_apart_from, tally, without_file}
use Rattle.kqueue_core.specs.Queues.{Queue}
use Rattle.kqueue_core.specs.Watches.{activated_watch}
use Rattle.kqueue_core.specs.declared.knotes.Filter.{Filter}
use Rattle.kqueue_core.specs.declared.knotes.Filter.TheVariants.{Read, Write}
use Rattle.kqueue_core.specs.declared.knotes.Flux.{Flux}
use Rattle.kqueue_core.specs.declared.knotes.Watch.{Watch}
use Rattle.kqueue_core.proofs.Keeping.{kept_activated, kept_without}
use Rattle.kqueue_core.proofs.Tallies.{tally-filter, tally-map, tally-same, tally_false, tally_within}
use Rattle.kqueue_laws.proofs.Changes.{and_false, both_true}
use Rattle.lx_machine.specs.Calls.{low_argument}
use Rattle.lx_machine.specs.EpollCtl.{file_of}
use Rattle.lx_machine.specs.declared.calls.LxCall.{LxCall}
use Rattle.lx_machine.specs.declared.files.FileKind.{FileKind}
use Rattle.lx_machine.specs.declared.files.Files.{Files}
use Rattle.lx_machine.specs.declared.files.Interest.{Interest}
use Rattle.lx_machine.specs.declared.files.OpenFile.{OpenFile}
use Rattle.bsd_files.specs.Ops.{is_this}
use Rattle.files_stand.specs.FilesStand.{QueueStands}
use Rattle.files_stand.specs.Fluxes.{InFlux}
use Rattle.files_stand.specs.Same.{Name, Same, is_kept, stood_for}
use Rattle.files_stand.specs.SoundFiles.{AllWhole, NoneLost, SoundQueue, flux_name, lives, name_at}
use Rattle.files_stand.proofs.Grows.{GrowsAt, GrowsNowhere, arm_none_lost, leave_none_lost, still_none_lost}

-- ---- each interest has its knotes, for there is an epoll whose interests are the same

pub same_whole : (x : Option Name) (is : List Interest) (ws : List Watch) → Same x is ws → AllWhole x ws
same_whole x is ws st =
    sym (st (λ f d o. not (is_some o)))
    ∙ tally-same _ (λ i. false) (λ i. and_false (is_kept x i.file i.descriptor)) is
    ∙ tally_false is

-- the name of a flux
pub named_flux : (calls : ℕ → Option LxCall) (F : Files) (n : ℕ) (flux : Flux) (is : List Interest) (ws : List Watch) (h : InFlux calls F n flux is ws) → flux_name F (Some flux) ≡ Some (record { file = h.file; descriptor = low_argument h.call 2 })
named_flux calls F n flux is ws h = subst (λ (d : ℕ). name_at d (file_of F d) ≡ Some (record { file = h.file; descriptor = low_argument h.call 2 })) h.on (ap (name_at (low_argument h.call 2)) h.open_file)

pub whole_queue : (calls : ℕ → Option LxCall) (F : Files) (n : ℕ) (flux : Option Flux) (is : List Interest) (ws : List Watch) → QueueStands calls F n flux is ws → AllWhole (flux_name F flux) ws
whole_queue calls F n None is ws st = same_whole None is ws st
whole_queue calls F n (Some flux) is ws st = subst (λ x. AllWhole x ws) (sym (named_flux calls F n flux is ws st)) (same_whole (Some (record { file = st.file; descriptor = low_argument st.call 2 })) is ws st.stands.same)

-- ---- the interests of a queue, before a step from the files F to the files F' and after it

-- before: none is lost in F, each has its knotes, and their open files live in F'
pub record Before (F F' : Files) (x : Option Name) (ws : List Watch) : Type 0 where
  pub watches : IsWatches ws
  pub alive : tally (λ w. not (lives F' w.file)) ws ≡ 0
  pub whole : AllWhole x ws
  pub found : NoneLost F x ws

pub record After (F' : Files) (x : Option Name) (ws : List Watch) : Type 0 where
  pub watches : IsWatches ws
  pub alive : tally (λ w. not (lives F' w.file)) ws ≡ 0
  pub found : NoneLost F' x ws

pub sound_after : (F' : Files) (q : Queue) (x : Option Name) → flux_name F' q.flux ≡ x → After F' x q.watches → SoundQueue F' q
sound_after F' q x e h = record { watches = h.watches; alive = h.alive; found = subst (λ y. NoneLost F' y q.watches) (sym e) h.found }

-- what lives still lives
pub before_of : (F F' : Files) (q : Queue) → ((i : ℕ) → lives F i ≡ true → lives F' i ≡ true) → AllWhole (flux_name F q.flux) q.watches → SoundQueue F q → Before F F' (flux_name F q.flux) q.watches
before_of F F' q still whole h = record {
  watches = h.watches;
  alive = let a = tally_within (λ w. not (lives F' w.file)) (λ w. not (lives F w.file)) (λ w e. gone w.file (lives F w.file) refl e) q.watches in let b = h.alive in omega arith;
  whole = whole;
  found = h.found;
}
  where
    gone : (i : ℕ) (b : Bool) → lives F i ≡ b → not (lives F' i) ≡ true → not (lives F i) ≡ true
    gone i true e h = let z : false ≡ true = sym (ap not (still i e)) ∙ h in absurd (cc)
    gone i false e h = ap not e

-- but for an open file that ends, with its knotes
pub before_end : (F F' : Files) (file : ℕ) (q : Queue) → ((i : ℕ) → i ≢ file → lives F i ≡ true → lives F' i ≡ true) → AllWhole (flux_name F q.flux) q.watches → SoundQueue F q → Before F F' (flux_name F q.flux) (without_file file q.watches)
before_end F F' file q still whole h = record {
  watches = kept_without (is_apart_from file) q.watches h.watches;
  alive =
      tally-filter (is_apart_from file) (λ w. not (lives F' w.file)) q.watches
      ∙ (let a = tally_within (λ w. is_apart_from file w && not (lives F' w.file)) (λ w. not (lives F w.file)) (λ w e. gone w.file (lives F w.file) refl (both_true _ _ e).0 (both_true _ _ e).1) q.watches in
      let b = h.alive in omega arith);
  whole =
      tally-filter (is_apart_from file) (λ w. is_kept (flux_name F q.flux) w.file w.descriptor && not (is_some (stood_for w))) q.watches
      ∙ (let a = tally_within (λ w. is_apart_from file w && (is_kept (flux_name F q.flux) w.file w.descriptor && not (is_some (stood_for w)))) (λ w. is_kept (flux_name F q.flux) w.file w.descriptor && not (is_some (stood_for w))) (λ w e. (both_true _ _ e).1) q.watches in
      let b : tally (λ w. is_kept (flux_name F q.flux) w.file w.descriptor && not (is_some (stood_for w))) q.watches ≡ 0 = whole in omega arith);
  found = leave_none_lost F (flux_name F q.flux) file q.watches h.found;
}
  where
    apart : (i : ℕ) → not (i == file) ≡ true → i ≢ file
    apart i h e = grind arith

    gone : (i : ℕ) (b : Bool) → lives F i ≡ b → not (i == file) ≡ true → not (lives F' i) ≡ true → not (lives F i) ≡ true
    gone i true e a h = let z : false ≡ true = sym (ap not (still i (apart i a) e)) ∙ h in absurd (cc)
    gone i false e a h = ap not e

-- knotes of the one kind of open file that may gain events become active
pub arm_after : (F F' : Files) (k : FileKind) (files : List (Option OpenFile)) (g : Filter) (x : Option Name) (ws : List Watch) → GrowsAt k files F F' → Before F F' x ws → After F' x (activated_by (is_this k files) g ws)
arm_after F F' k files g x ws grows h = record {
  watches = kept_activated (is_this k files) g ws h.watches;
  alive =
      tally-map (activated_where (is_this k files) g) (λ w. not (lives F' w.file)) ws
      ∙ tally-same (λ w. not (lives F' (activated_where (is_this k files) g w).file)) (λ w. not (lives F' w.file)) (λ w. same (is_this k files w.file) g w) ws
      ∙ h.alive;
  found = arm_none_lost F F' k files grows g x ws h.whole h.found;
}
  where
    same : (b : Bool) (g : Filter) (w : Watch) → not (lives F' (if b then activated_watch g w else w).file) ≡ not (lives F' w.file)
    same true Read w = refl
    same true Write w = refl
    same false g w = refl

-- no open file gains events
pub still_after : (F F' : Files) (x : Option Name) (ws : List Watch) → GrowsNowhere F F' → Before F F' x ws → After F' x ws
still_after F F' x ws grows h = record { watches = h.watches; alive = h.alive; found = still_none_lost F F' grows x ws h.whole h.found }
