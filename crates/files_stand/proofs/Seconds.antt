-- Flux2: the change of the Write knote, what is ready now, and the end of the flux.
use Rattle.std.proofs.Common.{◌≡◌, ◌≤◌, ℕ, ◌+◌, Bool, true, false, not, ◌&&◌, List, [], ◌∷◌, ◌++◌, map, Option, Some, None, refl, sym, ap, ap₂, ◌∙◌, arith}
use Rattle.std.specs.Prelude.{◌==◌, filter, if◌then◌else◌, is_some}
use Rattle.std.specs.List.{list_any}
use Rattle.linux_abi.specs.declared.epoll.EpollOperation.TheVariants as operation
use Rattle.linux_abi.specs.declared.epoll.EpollOperation.{EpollOperation}
use Rattle.lx_machine.specs.Calls.{low_argument}
use Rattle.lx_machine.specs.Interests.{is_named, changed, in_place_of, without_interest, is_other}
use Rattle.lx_machine.specs.declared.calls.LxCall.{LxCall}
use Rattle.lx_machine.specs.declared.files.Files.{Files}
use Rattle.lx_machine.specs.declared.files.Interest.{Interest}
use Rattle.lx_machine.specs.EpollCtl.{control_of, asked_of, data_of, is_add, new_interest, controlled}
use Rattle.kqueue_core.specs.declared.knotes.Filter.TheVariants.{Read, Write}
use Rattle.kqueue_core.specs.Changes.{tally, stays}
use Rattle.kqueue_core.specs.declared.knotes.Knote.{Knote}
use Rattle.kqueue_core.specs.declared.knotes.Watch.{Watch}
use Rattle.kqueue_core.specs.Watches.{is_of, changed_watch, has_knote}
use Rattle.kqueue_core.specs.Knotes.{remade}
use Rattle.kqueue_laws.specs.Pairs.{kept_flags, edge_bit, one_shot_bit, same, knote_of}
use Rattle.files_stand.specs.Changes.{half_changed, ready_again, is_ready}
use Rattle.files_stand.specs.Same.{Same, Name, seen, stood_for}
use Rattle.files_stand.specs.Fluxes.{FluxStands, is_delete, read_stands, is_in_flux_for}
use Rattle.kqueue_core.proofs.Tallies.{tally-append, tally-map, tally-filter, tally-same, tally-split, tally_among, tally_const, some_tally, tally_within, tally_false}
use Rattle.kqueue_laws.proofs.Flags.{adds_add, adds_change, remade_add, remade_change}
use Rattle.kqueue_laws.proofs.Pairs.{same_self, watch_with}
use Rattle.kqueue_laws.proofs.Changes.{eq_self, and_true, and_false, apart_changed, named_changed, eq_is, both_true}
use Rattle.files_stand.proofs.Halves.{ready_either}

module _ (F : Files) (c : LxCall) (file : ℕ) (is : List Interest) (ws : List Watch) (fx : FluxStands c (record { file = file; descriptor = low_argument c 2 }) is ws) where
  abbrev at : ℕ
  at = low_argument c 2

  abbrev x : Name
  x = record { file = file; descriptor = low_argument c 2 }

  abbrev a : ℕ
  a = asked_of c

  abbrev d : ℕ
  d = data_of c

  abbrev reads : Bool
  reads = is_ready F file Read (asked_of c)

  abbrev writes : Bool
  writes = is_ready F file Write (asked_of c)

  abbrev final : Watch
  final = watch_with file (low_argument c 2) (Some (knote_of (asked_of c) (data_of c) true (is_ready F file Read (asked_of c)))) (Some (knote_of (asked_of c) (data_of c) true (is_ready F file Write (asked_of c))))

  abbrev written : ℕ → List Watch
  written flags = filter (stays file at) (map (changed_watch file at Write flags a d writes) ws)

  abbrev ready_then : ℕ → List Watch
  ready_then flags = filter (stays file at) (map (changed_watch file at Read (4 + kept_flags a) a d reads) (written flags))

  all_in_flux : tally (λ w. is_of file at w && is_in_flux_for c w) ws ≡ tally (is_of file at) ws
  all_in_flux = fx.asked ∙ sym fx.watch

  -- the watch of the name is as the change asks, and as ready now
  module _ (flags : ℕ) (keeps : is_delete (control_of c) ≡ false) (hw : (k : Option Knote) → same (is_some k) (not (is_add (control_of c))) ≡ true → remade flags a d writes k ≡ Some (knote_of a d true writes)) where
    abbrev after : (Watch → Bool) → ℕ → ℕ → Option Knote → Option Knote → Bool
    after t f e r k = has_knote (watch_with f e r (remade flags a d writes k)) && (has_knote (watch_with f e (remade (4 + kept_flags a) a d reads r) (remade flags a d writes k)) && t (watch_with f e (remade (4 + kept_flags a) a d reads r) (remade flags a d writes k)))

    after_is : (t : Watch → Bool) (f e : ℕ) (r k : Option Knote) → f ≡ file → e ≡ at → read_stands c r ≡ true → same (is_some k) (not (is_add (control_of c))) ≡ true → after t f e r k ≡ t final
    after_is t f e None k hf he hr hk = let g : is_delete (control_of c) ≡ true = hr in absurd (cc)
    after_is t f e (Some r) k hf he hr hk = rw (hf, he, hw k hk, remade_change a d reads r) refl

    point : (t : Watch → Bool) (z : Bool) (f e : ℕ) (r k : Option Knote) → (((f == file) && (e == at)) && (read_stands c r && same (is_some k) (not (is_add (control_of c))))) ≡ z → ((((f == file) && (e == at)) && (read_stands c r && same (is_some k) (not (is_add (control_of c))))) && after t f e r k) ≡ ((((f == file) && (e == at)) && (read_stands c r && same (is_some k) (not (is_add (control_of c))))) && t final)
    point t false f e r k h = rw h refl
    point t true f e r k h =
        let g = both_true _ _ h in
        let n = both_true _ _ g.0 in
        let m = both_true _ _ g.1 in
        ap (λ b. (((f == file) && (e == at)) && (read_stands c r && same (is_some k) (not (is_add (control_of c))))) && b) (after_is t f e r k (eq_is f file n.0) (eq_is e at n.1) m.0 m.1)

    pub named_part : (t : Watch → Bool) → tally (λ w. is_of file at w && t w) (ready_then flags) ≡ (if t final then 1 else 0)
    named_part t =
        named_changed file at Read (4 + kept_flags a) a d reads t (written flags)
        ∙ named_changed file at Write flags a d writes (λ w. has_knote (record w { read = remade (4 + kept_flags a) a d reads w.read }) && t (record w { read = remade (4 + kept_flags a) a d reads w.read })) ws
        ∙ tally_among (is_of file at) (is_in_flux_for c) (λ w. after t w.file w.descriptor w.read w.write) ws all_in_flux
        ∙ tally-same _ _ (λ w. point t _ w.file w.descriptor w.read w.write refl) ws
        ∙ tally_const (λ w. is_of file at w && is_in_flux_for c w) (t final) ws
        ∙ ap (λ n. if t final then n else 0) fx.asked

    pub apart_part : (t : Watch → Bool) → tally (λ w. not (is_of file at w) && t w) (ready_then flags) ≡ tally (λ w. not (is_of file at w) && t w) ws
    apart_part t = apart_changed file at Read (4 + kept_flags a) a d reads t (written flags) ∙ apart_changed file at Write flags a d writes t ws

  -- it stands for the interest that the call makes
  final_stands : stood_for final ≡ Some (seen (new_interest F c file))
  final_stands = rw (eq_self (asked_of c), eq_self (data_of c), same_self (edge_bit (asked_of c)), same_self (one_shot_bit (asked_of c)), ready_either F file (asked_of c)) refl

  abbrev q : (ℕ → ℕ → Option Interest → Bool) → Watch → Bool
  q p w = p w.file w.descriptor (stood_for w)

  abbrev new : Interest
  new = new_interest F c file

  abbrev i_of : (ℕ → ℕ → Option Interest → Bool) → Interest → Bool
  i_of p i = p i.file i.descriptor (Some (seen i))

  -- an add or a change: the watches after it
  then_watches : (flags : ℕ) (keeps : is_delete (control_of c) ≡ false) (hw : (k : Option Knote) → same (is_some k) (not (is_add (control_of c))) ≡ true → remade flags a d writes k ≡ Some (knote_of a d true writes)) (p : ℕ → ℕ → Option Interest → Bool)
      → tally (q p) (ready_then flags) ≡ (if i_of p new then 1 else 0) + tally (λ i. not (is_named file at i) && i_of p i) is
  then_watches flags keeps hw p =
      let s = tally-split (is_of file at) (q p) (ready_then flags) in
      let n = named_part flags keeps hw (q p) in
      let m = apart_part flags keeps hw (q p) in
      let l = fx.same p in
      let f : q p final ≡ i_of p new = ap (p file at) final_stands in
      let g = ap (λ b. if b then 1 else 0) f in
      s ∙ ap₂ (λ (y z : ℕ). y + z) (n ∙ g) (m ∙ sym l)

  write_added : (k : Option Knote) → same (is_some k) false ≡ true → remade (1 + kept_flags a) a d writes k ≡ Some (knote_of a d true writes)
  write_added None h = remade_add a d writes
  write_added (Some k) h = let z : false ≡ true = h in absurd (cc)

  write_changed : (k : Option Knote) → same (is_some k) true ≡ true → remade (4 + kept_flags a) a d writes k ≡ Some (knote_of a d true writes)
  write_changed None h = let z : false ≡ true = h in absurd (cc)
  write_changed (Some k) h = remade_change a d writes k

  -- any test of the watches after Flux2: it passes the new one, and the without_first as before
  abbrev pub Rests : List Watch → Type 0
  Rests ws' = (t : Watch → Bool) → t final ≡ false → tally t ws' ≡ tally (λ w. not (is_of file (low_argument c 2) w) && t w) ws

  rests_then : (flags : ℕ) (keeps : is_delete (control_of c) ≡ false) (hw : (k : Option Knote) → same (is_some k) (not (is_add (control_of c))) ≡ true → remade flags a d writes k ≡ Some (knote_of a d true writes)) → Rests (ready_then flags)
  rests_then flags keeps hw t f =
      let s = tally-split (is_of file at) t (ready_then flags) in
      let n = named_part flags keeps hw t ∙ ap (λ b. if b then 1 else 0) f in
      let m = apart_part flags keeps hw t in
      omega arith

  named_any : list_any (is_of file at) ws ≡ true
  named_any = some_tally (is_of file at) ws (let h = fx.watch in omega arith)

  -- an add
  pub second_added : control_of c ≡ Some operation.Add → Same None (is ++ new ∷ []) (ready_then (1 + kept_flags a))
  second_added e p =
      tally-append (i_of p) is (new ∷ [])
      ∙ (let s = tally-split (is_named file at) (i_of p) is in
      let z = tally_within (λ i. is_named file at i && i_of p i) (is_named file at) (λ i h. (both_true _ _ h).0) is in
      let n = rw e at fx.linux in
      let h = then_watches (1 + kept_flags a) (rw e refl) (λ k same. write_added k (rw e at same)) p in
      omega arith)

  -- a change
  placed : (b : Bool) (p : ℕ → ℕ → Option Interest → Bool) (i : Interest) → ((b && i_of p (if b then new else i)) ≡ (b && i_of p new)) × ((not b && i_of p (if b then new else i)) ≡ (not b && i_of p i))
  placed true p i = (refl, refl)
  placed false p i = (refl, refl)

  pub second_changed : control_of c ≡ Some operation.Change → Same None (changed new is) (ready_then (4 + kept_flags a))
  second_changed e p =
      tally-map (in_place_of new) (i_of p) is
      ∙ (let s = tally-split (is_named file at) (λ i. i_of p (in_place_of new i)) is in
      let z = tally-same (λ i. is_named file at i && i_of p (in_place_of new i)) (λ i. is_named file at i && i_of p new) (λ i. (placed (is_named file at i) p i).0) is in
      let y = tally-same (λ i. not (is_named file at i) && i_of p (in_place_of new i)) (λ i. not (is_named file at i) && i_of p i) (λ i. (placed (is_named file at i) p i).1) is in
      let k = tally_const (is_named file at) (i_of p new) is in
      let n = rw e at fx.linux in
      let g = ap (λ n. if i_of p new then n else 0) n in
      let h = then_watches (4 + kept_flags a) (rw e refl) (λ k same. write_changed k (rw e at same)) p in
      s ∙ ap₂ (λ (u v : ℕ). u + v) (z ∙ k ∙ g) y ∙ sym h)

  -- a delete
  gone_point : (t : Watch → Bool) (b : Bool) (f e : ℕ) (r k : Option Knote) → control_of c ≡ Some operation.Delete → ((b && (read_stands c r && same (is_some k) (not (is_add (control_of c))))) && (has_knote (watch_with f e r (remade 2 a d writes k)) && t (watch_with f e r (remade 2 a d writes k)))) ≡ false
  gone_point t b f e None None h = rw h (and_none b _)
    where
      and_none : (b z : Bool) → ((b && false) && z) ≡ false
      and_none true z = refl
      and_none false z = refl
  gone_point t b f e None (Some k) h = and_false _
  gone_point t b f e (Some r) k h = rw h (and_none b _)
    where
      and_none : (b z : Bool) → ((b && false) && z) ≡ false
      and_none true z = refl
      and_none false z = refl

  pub gone_part : control_of c ≡ Some operation.Delete → (t : Watch → Bool) → tally (λ w. is_of file at w && t w) (written 2) ≡ 0
  gone_part e t = named_changed file at Write 2 a d writes t ws ∙ tally_among (is_of file at) (is_in_flux_for c) (λ w. has_knote (record w { write = remade 2 a d writes w.write }) && t (record w { write = remade 2 a d writes w.write })) ws all_in_flux ∙ tally-same _ (λ w. false) (λ w. gone_point t (is_of file at w) w.file w.descriptor w.read w.write e) ws ∙ tally_false ws

  pub second_deleted : control_of c ≡ Some operation.Delete → Same None (without_interest file at is) (written 2)
  second_deleted e p =
      tally-filter (is_other file at) (i_of p) is
      ∙ (let s = tally-split (is_of file at) (q p) (written 2) in
      let m = apart_changed file at Write 2 a d writes (q p) ws in
      let n = gone_part e (q p) in
      let l = fx.same p in
      omega arith)

  -- Flux2
  pub second_stands : (op : EpollOperation) → control_of c ≡ Some op → Same None (controlled (control_of c) new is) (ready_again F c file (control_of c) (half_changed F c file Write ws))
  second_stands operation.Add e = rw (e, adds_add a, named_any, adds_change a) (second_added e)
  second_stands operation.Change e = rw (e, adds_change a) (second_changed e)
  second_stands operation.Delete e = rw e (second_deleted e)

  rests_gone : control_of c ≡ Some operation.Delete → Rests (written 2)
  rests_gone e t f =
      let s = tally-split (is_of file at) t (written 2) in
      let m = apart_changed file at Write 2 a d writes t ws in
      let n = gone_part e t in
      omega arith

  pub second_rests : (op : EpollOperation) → control_of c ≡ Some op → Rests (ready_again F c file (control_of c) (half_changed F c file Write ws))
  second_rests operation.Add e = rw (e, adds_add a, named_any, adds_change a) (rests_then (1 + kept_flags a) (rw e refl) (λ k same. write_added k (rw e at same)))
  second_rests operation.Change e = rw (e, adds_change a) (rests_then (4 + kept_flags a) (rw e refl) (λ k same. write_changed k (rw e at same)))
  second_rests operation.Delete e = rw e (rests_gone e)

  -- one watch of the name at most
  one_then : (flags : ℕ) (keeps : is_delete (control_of c) ≡ false) (hw : (k : Option Knote) → same (is_some k) (not (is_add (control_of c))) ≡ true → remade flags a d writes k ≡ Some (knote_of a d true writes)) → tally (is_of file at) (ready_then flags) ≤ 1
  one_then flags keeps hw = let h = named_part flags keeps hw (λ w. true) in let e = tally-same (λ w. is_of file at w && true) (is_of file at) (λ w. and_true (is_of file at w)) (ready_then flags) in omega arith

  one_gone : control_of c ≡ Some operation.Delete → tally (is_of file at) (written 2) ≤ 1
  one_gone e = let h = gone_part e (λ w. true) in let f = tally-same (λ w. is_of file at w && true) (is_of file at) (λ w. and_true (is_of file at w)) (written 2) in omega arith

  pub second_one : (op : EpollOperation) → control_of c ≡ Some op → tally (is_of file at) (ready_again F c file (control_of c) (half_changed F c file Write ws)) ≤ 1
  second_one operation.Add e = rw (e, adds_add a, named_any, adds_change a) (one_then (1 + kept_flags a) (rw e refl) (λ k same. write_added k (rw e at same)))
  second_one operation.Change e = rw (e, adds_change a) (one_then (4 + kept_flags a) (rw e refl) (λ k same. write_changed k (rw e at same)))
  second_one operation.Delete e = rw e (one_gone e)
