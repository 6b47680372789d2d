-- What is true of the object machine alone is kept: no two watches have one name, and no level interest is lost.
use Rattle.std.proofs.Common.{◌≡◌, ℕ, ◌≤◌, Bool, true, false, not, ◌||◌, ◌&&◌, List, map, Option, Some, None, refl, sym, ap₂, ◌∙◌, arith}
use Rattle.std.specs.Prelude.{◌==◌, filter, if◌then◌else◌, is_some}
use Rattle.std.proofs.lemmas.Grind.{common_steps}
use Rattle.linux_abi.specs.declared.epoll.EpollOperation.{EpollOperation}
use Rattle.lx_machine.specs.Calls.{low_argument}
use Rattle.lx_machine.specs.Interests.{is_open_of}
use Rattle.lx_machine.specs.Lists.{at_place}
use Rattle.lx_machine.specs.declared.calls.LxCall.{LxCall}
use Rattle.lx_machine.specs.declared.files.FileKind.{FileKind}
use Rattle.lx_machine.specs.declared.files.Files.{Files}
use Rattle.lx_machine.specs.declared.files.Interest.{Interest}
use Rattle.lx_machine.specs.declared.files.OpenFile.{OpenFile}
use Rattle.lx_machine.specs.EpollCtl.{control_of, asked_of, data_of}
use Rattle.lx_machine.specs.Epoll.{told}
use Rattle.kqueue_core.specs.declared.knotes.Filter.{Filter}
use Rattle.kqueue_core.specs.declared.knotes.Filter.TheVariants.{Read, Write}
use Rattle.kqueue_core.specs.Changes.{tally, activated_where, is_apart_from}
use Rattle.kqueue_core.specs.declared.knotes.Knote.{Knote}
use Rattle.kqueue_core.specs.declared.knotes.Watch.{Watch}
use Rattle.kqueue_core.specs.Watches.{is_of, activated_watch, told_watch}
use Rattle.kqueue_core.specs.Knotes.{told_knote}
use Rattle.kqueue_core.specs.Reports.{is_reported, reports, without_first, scanned}
use Rattle.files_stand.specs.Changes.{flags_of, half_changed, ready_again, is_ready}
use Rattle.open_files.specs.Plain.{readiness}
use Rattle.files_stand.specs.Fluxes.{FluxStands}
use Rattle.files_stand.specs.Same.{stood_for}
use Rattle.kqueue_laws.specs.Pairs.{is_lost, edge_bit, knote_of}
use Rattle.kqueue_core.proofs.Tallies.{tally-append, tally-map, tally-filter, tally-same, tally_within, tally_or}
use Rattle.kqueue_laws.proofs.Changes.{apart_by, both_true, eq_is}
use Rattle.kqueue_laws.proofs.Pairs.{watch_with, IsWhole}
use Rattle.files_stand.proofs.Seconds.{second_rests, second_one}
use Rattle.kqueue_laws.proofs.Scans.{split_scan, all_reported}
use Rattle.files_stand.proofs.Halves.{ready_either}
use Rattle.files_stand.proofs.Pairs.{whole_stood, pair_told}
use Rattle.files_stand.specs.SoundFiles.{NoneLost}
use Rattle.bsd_files.specs.Ops.{is_this}

same_or_other : (file d g e : ℕ) (w : Watch) → ((file == g) && (d == e)) ≡ false → (not (is_of file d w) && is_of g e w) ≡ is_of g e w
same_or_other file d g e w h = by w.file w.descriptor
  where
    by : (n m : ℕ) → (not ((n == file) && (m == d)) && ((n == g) && (m == e))) ≡ ((n == g) && (m == e))
    by n m = grind (arith, common_steps)

-- the watches of one name have changed, and one at most is left of them
pub once_after : (file d : ℕ) (ws ws' : List Watch) → ((t : Watch → Bool) → tally (λ w. not (is_of file d w) && t w) ws' ≡ tally (λ w. not (is_of file d w) && t w) ws) → tally (is_of file d) ws' ≤ 1
    → ((g e : ℕ) → tally (is_of g e) ws ≤ 1) → (g e : ℕ) → tally (is_of g e) ws' ≤ 1
once_after file d ws ws' apart one once g e = by ((file == g) && (d == e)) refl
  where
    same_here : (n m : ℕ) → n ≡ file → m ≡ d → tally (is_of n m) ws' ≤ 1
    same_here n m h k = rw (h, k) one

    by : (b : Bool) → ((file == g) && (d == e)) ≡ b → tally (is_of g e) ws' ≤ 1
    by true h = let p = both_true _ _ h in same_here g e (sym (eq_is _ _ p.0)) (sym (eq_is _ _ p.1))
    by false h =
        let a = tally-same (λ w. not (is_of file d w) && is_of g e w) (is_of g e) (λ w. same_or_other file d g e w h) ws' in
        let b = tally-same (λ w. not (is_of file d w) && is_of g e w) (is_of g e) (λ w. same_or_other file d g e w h) ws in
        let c = apart (is_of g e) in
        let f = once g e in
        omega arith

-- ---- Flux1

pub first_lost : (F : Files) (c : LxCall) (file : ℕ) (ws : List Watch) → NoneLost F None ws → NoneLost F (Some (record { file = file; descriptor = low_argument c 2 })) (half_changed F c file Read ws)
first_lost F c file ws none =
    apart_by file (low_argument c 2) Read (flags_of (control_of c) (asked_of c)) (asked_of c) (data_of c) (is_ready F file Read (asked_of c)) (is_lost (readiness F)) ws
    ∙ (let a = tally_within (λ w. not (is_of file (low_argument c 2) w) && is_lost (readiness F) w) (is_lost (readiness F)) (λ w h. (both_true _ _ h).1) ws in omega arith)

pub first_once : (F : Files) (c : LxCall) (file : ℕ) (is : List Interest) (ws : List Watch) → FluxStands c (record { file = file; descriptor = low_argument c 2 }) is (half_changed F c file Read ws) → ((g e : ℕ) → tally (is_of g e) ws ≤ 1) → (g e : ℕ) → tally (is_of g e) (half_changed F c file Read ws) ≤ 1
first_once F c file is ws fx once = once_after file (low_argument c 2) ws (half_changed F c file Read ws) (λ t. apart_by file (low_argument c 2) Read (flags_of (control_of c) (asked_of c)) (asked_of c) (data_of c) (is_ready F file Read (asked_of c)) t ws) (let h = fx.watch in omega arith) once

-- ---- events on other files

pub arm_once : (k : FileKind) (g : Filter) (files : List (Option OpenFile)) (ws : List Watch) → ((f d : ℕ) → tally (is_of f d) ws ≤ 1) → (f d : ℕ) → tally (is_of f d) (map (activated_where (is_this k files) g) ws) ≤ 1
arm_once k g files ws once f d =
    let a = tally-map (activated_where (is_this k files) g) (is_of f d) ws in
    let b = tally-same (λ w. is_of f d (activated_where (is_this k files) g w)) (is_of f d) (λ w. by (is_open_of k (at_place files w.file)) g w) ws in
    let c = once f d in
    omega arith
  where
    by : (b : Bool) (g : Filter) (w : Watch) → is_of f d (if b then activated_watch g w else w) ≡ is_of f d w
    by true Read w = refl
    by true Write w = refl
    by false g w = refl

pub leave_once : (file : ℕ) (ws : List Watch) → ((f d : ℕ) → tally (is_of f d) ws ≤ 1) → (f d : ℕ) → tally (is_of f d) (filter (is_apart_from file) ws) ≤ 1
leave_once file ws once f d =
    let a = tally-filter (is_apart_from file) (is_of f d) ws in
    let b = tally_within (λ w. is_apart_from file w && is_of f d w) (is_of f d) (λ w h. (both_true _ _ h).1) ws in
    let c = once f d in
    omega arith

-- ---- a scan

pub scan_once : (F : Files) (most : ℕ) (ws : List Watch) → ((f d : ℕ) → tally (is_of f d) ws ≤ 1) → (f d : ℕ) → tally (is_of f d) (scanned (readiness F) most ws) ≤ 1
scan_once F most ws once f d =
    let a = tally-append (is_of f d) (without_first (is_reported (readiness F)) most ws) (map told_watch (reports (readiness F) most ws)) in
    let b = tally-map told_watch (is_of f d) (reports (readiness F) most ws) in
    let e = tally-same (λ w. is_of f d (told_watch w)) (is_of f d) (λ w. refl) (reports (readiness F) most ws) in
    let s = split_scan (readiness F) (is_of f d) most ws in
    let c = once f d in
    omega arith

-- what was reported is not lost by it: a level knote keeps its activity
told_by : (z edge enabled x y r : Bool) → ((z && (not ((x && not edge) || (y && not edge)) && not edge)) && (r && ((enabled && x) || (enabled && y)))) ≡ false
told_by false edge enabled x y r = refl
told_by true true enabled true y r = edged y
  where
    edged : (y : Bool) → ((not (false || (y && false)) && false) && (r && ((enabled && true) || (enabled && y)))) ≡ false
    edged true = refl
    edged false = refl
told_by true true enabled false true r = refl
told_by true true enabled false false r = refl
told_by true false enabled true y r = refl
told_by true false enabled false true r = refl
told_by true false true false false true = refl
told_by true false false false false true = refl
told_by true false enabled false false false = refl

told_kept_by : (F : Files) (f d : ℕ) (r k : Option Knote) → IsWhole r k → (is_lost (readiness F) (record { file = f; descriptor = d; read = told_knote r; write = told_knote k }) && is_reported (readiness F) (record { file = f; descriptor = d; read = r; write = k })) ≡ false
told_kept_by F f d r k h = rw (h.read, h.write) (told_by _ (edge_bit h.asked) h.enabled h.reads h.writes _)

pub scan_lost : (F : Files) (most : ℕ) (ws : List Watch) → tally (λ w. not (is_some (stood_for w))) ws ≡ 0 → NoneLost F None ws → NoneLost F None (scanned (readiness F) most ws)
scan_lost F most ws whole none =
    tally-append (is_lost (readiness F)) (without_first (is_reported (readiness F)) most ws) (map told_watch (reports (readiness F) most ws))
    ∙ (let s = split_scan (readiness F) (is_lost (readiness F)) most ws in
    let w = split_scan (readiness F) (λ w. not (is_some (stood_for w))) most ws in
    let m = tally-map told_watch (is_lost (readiness F)) (reports (readiness F) most ws) in
    let r = all_reported (readiness F) most ws in
    let a = tally_within (λ w. is_lost (readiness F) (told_watch w)) (λ w. not (is_some (stood_for w)) || not (is_reported (readiness F) w)) each (reports (readiness F) most ws) in
    let b = tally_or (λ w. not (is_some (stood_for w))) (λ w. not (is_reported (readiness F) w)) (reports (readiness F) most ws) in
    omega arith)
  where
    each_by : (z y : Bool) (w : Watch) → is_some (stood_for w) ≡ z → is_reported (readiness F) w ≡ y → is_lost (readiness F) (told_watch w) ≡ true → (not (is_some (stood_for w)) || not (is_reported (readiness F) w)) ≡ true
    each_by false y w e f h = rw e refl
    each_by true false w e f h = rw (e, f) refl
    each_by true true w e f h =
        let k = told_kept_by F w.file w.descriptor w.read w.write (whole_stood w.file w.descriptor w.read w.write e) in
        let k' : false ≡ true = sym k ∙ ap₂ (λ b c. b && c) h f in
        absurd (cc)

    each : (w : Watch) → is_lost (readiness F) (told_watch w) ≡ true → (not (is_some (stood_for w)) || not (is_reported (readiness F) w)) ≡ true
    each w = each_by _ _ w refl refl

-- ---- Flux2

module _ (F : Files) (c : LxCall) (file : ℕ) (is : List Interest) (ws : List Watch) (fx : FluxStands c (record { file = file; descriptor = low_argument c 2 }) is ws) (op : EpollOperation) (asks : control_of c ≡ Some op) where
  abbrev ended : List Watch
  ended = ready_again F c file (control_of c) (half_changed F c file Write ws)

  -- an interest that is ready now has an active knote
  ready_kept : (x y edge t : Bool) → (x || y) ≡ not t → (not t && (not (x || y) && not edge)) ≡ false
  ready_kept x y edge true h = refl
  ready_kept x y edge false h = rw h refl

  final_kept : is_lost (readiness F) (watch_with file (low_argument c 2) (Some (knote_of (asked_of c) (data_of c) true (is_ready F file Read (asked_of c)))) (Some (knote_of (asked_of c) (data_of c) true (is_ready F file Write (asked_of c))))) ≡ false
  final_kept =
      rw (pair_told F file (low_argument c 2) (asked_of c) (data_of c) true (is_ready F file Read (asked_of c)) (is_ready F file Write (asked_of c)))
      (ready_kept (is_ready F file Read (asked_of c)) (is_ready F file Write (asked_of c)) (edge_bit (asked_of c)) (told F file (asked_of c) == 0) (ready_either F file (asked_of c)))

  pub second_lost : NoneLost F (Some (record { file = file; descriptor = low_argument c 2 })) ws → NoneLost F None ended
  second_lost none = second_rests F c file is ws fx op asks (is_lost (readiness F)) final_kept ∙ none

  pub second_once : ((g e : ℕ) → tally (is_of g e) ws ≤ 1) → (g e : ℕ) → tally (is_of g e) ended ≤ 1
  second_once once g e = by ((file == g) && (low_argument c 2 == e)) refl
    where
      same_here : (n m : ℕ) → n ≡ file → m ≡ low_argument c 2 → tally (is_of n m) ended ≤ 1
      same_here n m h k = rw (h, k) (second_one F c file is ws fx op asks)

      by : (b : Bool) → ((file == g) && (low_argument c 2 == e)) ≡ b → tally (is_of g e) ended ≤ 1
      by true h = let p = both_true _ _ h in same_here g e (sym (eq_is _ _ p.0)) (sym (eq_is _ _ p.1))
      by false h =
          let r = second_rests F c file is ws fx op asks (is_of g e) h in
          let b = tally-same (λ w. not (is_of file (low_argument c 2) w) && is_of g e w) (is_of g e) (λ w. same_or_other file (low_argument c 2) g e w h) ws in
          let f = once g e in
          omega arith
