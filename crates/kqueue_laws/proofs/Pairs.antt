-- What a pair of knotes shows: its bits, when it is reported, and what a report leaves of it.
use Rattle.std.proofs.Common.{◌≡◌, ℕ, Bool, true, false, not, ◌||◌, ◌&&◌, Option, Some, refl, sym, ap, ◌∙◌}
use Rattle.std.specs.Prelude.{◌==◌, bit_and}
use Rattle.linux_abi.specs.EpollBits.{wanted}
use Rattle.kqueue_core.specs.declared.knotes.Filter.{Filter}
use Rattle.kqueue_core.specs.declared.knotes.Filter.TheVariants.{Read, Write}
use Rattle.kqueue_core.specs.declared.knotes.Knote.{Knote}
use Rattle.kqueue_core.specs.declared.knotes.Watch.{Watch}
use Rattle.kqueue_core.specs.Knotes.{told_knote}
use Rattle.kqueue_core.specs.Reports.{watch_bits, is_reported}
use Rattle.kqueue_laws.specs.Pairs.{same, edge_bit, one_shot_bit, knote_of, is_pair, is_lost}
use Rattle.kqueue_laws.proofs.Changes.{eq_is, eq_self, both_true}
use Rattle.kqueue_laws.proofs.Halves.{Halved}

pub same_self : (b : Bool) → same b b ≡ true
same_self true = refl
same_self false = refl

pub same_is : (a b : Bool) → same a b ≡ true → a ≡ b
same_is true b h = sym h
same_is false true h = h
same_is false false h = refl

record PairIs (r k : Knote) : Type 0 where
  asked : r.asked ≡ k.asked
  user : r.user ≡ k.user
  enabled : r.enabled ≡ k.enabled
  clear : r.clear ≡ edge_bit r.asked
  clears : k.clear ≡ edge_bit r.asked
  dispatch : r.dispatch ≡ one_shot_bit r.asked
  dispatches : k.dispatch ≡ one_shot_bit r.asked

pair_is : (r k : Knote) → is_pair r k ≡ true → PairIs r k
pair_is r k h =
    let a = both_true _ _ h in
    let b = both_true _ _ a.0 in
    let c = both_true _ _ b.0 in
    let d = both_true _ _ c.0 in
    let e = both_true _ _ d.0 in
    let f = both_true _ _ e.0 in
    record {
      asked = eq_is _ _ f.0;
      user = eq_is _ _ f.1;
      enabled = same_is _ _ e.1;
      clear = same_is _ _ d.1;
      clears = same_is _ _ c.1;
      dispatch = same_is _ _ b.1;
      dispatches = same_is _ _ a.1;
    }

abbrev knote : ℕ → ℕ → Bool → Bool → Bool → Bool → Knote
knote asked user clear dispatch enabled active = record { asked = asked; user = user; clear = clear; dispatch = dispatch; enabled = enabled; active = active }

-- both knotes are there, and of one interest
pub record IsWhole (r k : Option Knote) : Type 0 where
  pub asked : ℕ
  pub user : ℕ
  pub enabled : Bool
  pub reads : Bool
  pub writes : Bool
  pub read : r ≡ Some (knote_of asked user enabled reads)
  pub write : k ≡ Some (knote_of asked user enabled writes)

pair_whole : (r k : Knote) → PairIs r k → IsWhole (Some r) (Some k)
pair_whole r k h = record {
  asked = r.asked;
  user = r.user;
  enabled = r.enabled;
  reads = r.active;
  writes = k.active;
  read = ap {B = Option Knote} (λ z. Some z) (ap (λ z. knote r.asked r.user z r.dispatch r.enabled r.active) h.clear ∙ ap (λ z. knote r.asked r.user (edge_bit r.asked) z r.enabled r.active) h.dispatch);
  write = ap {B = Option Knote} (λ z. Some z) (ap (λ z. knote z k.user k.clear k.dispatch k.enabled k.active) (sym h.asked) ∙ ap (λ z. knote r.asked z k.clear k.dispatch k.enabled k.active) (sym h.user)
      ∙ ap (λ z. knote r.asked r.user z k.dispatch k.enabled k.active) h.clears ∙ ap (λ z. knote r.asked r.user (edge_bit r.asked) z k.enabled k.active) h.dispatches ∙ ap (λ z. knote r.asked r.user (edge_bit r.asked) (one_shot_bit r.asked) z k.active) (sym h.enabled));
}

pub whole_by : (r k : Knote) → is_pair r k ≡ true → IsWhole (Some r) (Some k)
whole_by r k h = pair_whole r k (pair_is r k h)

-- the knotes of one interest are a pair
pub pair_of : (asked user : ℕ) (enabled x y : Bool) → is_pair (knote_of asked user enabled x) (knote_of asked user enabled y) ≡ true
pair_of asked user enabled x y = rw (eq_self asked, eq_self user, same_self enabled, same_self (edge_bit asked), same_self (one_shot_bit asked)) refl

-- an interest with these knotes
abbrev pub watch_with : ℕ → ℕ → Option Knote → Option Knote → Watch
watch_with file descriptor r k = record { file = file; descriptor = descriptor; read = r; write = k }

-- who tells of a file these events, each filter its half
pub record Tells (R : ℕ → Filter → ℕ) (file events : ℕ) : Type 0 where
  pub reads : R file Read ≡ bit_and events 17
  pub writes : R file Write ≡ bit_and events 12

module _ (R : ℕ → Filter → ℕ) (file descriptor events asked user : ℕ) (t : Tells R file events) (h : Halved events (wanted asked)) where
  -- the bits of a pair are the events that hold and are asked for, EPOLLERR or EPOLLHUP: one event for both knotes
  pub pair_bits : (enabled x y : Bool) → watch_bits R (watch_with file descriptor (Some (knote_of asked user enabled x)) (Some (knote_of asked user enabled y))) ≡ bit_and events (wanted asked)
  pair_bits enabled x y = rw (t.reads, t.writes) h.bits

  due_by : (e x y edge z : Bool) → ((e && (((x || y) && edge) || not edge) && not z) && not (not z && (not (x || y) && not edge))) ≡ (not z && ((e && x) || (e && y)))
  due_by false x y edge true = refl
  due_by false x y edge false = refl
  due_by true true y true true = refl
  due_by true true y true false = refl
  due_by true true y false true = refl
  due_by true true y false false = refl
  due_by true false true true true = refl
  due_by true false true true false = refl
  due_by true false true false true = refl
  due_by true false true false false = refl
  due_by true false false true true = refl
  due_by true false false true false = refl
  due_by true false false false true = refl
  due_by true false false false false = refl

  -- a pair is reported exactly where its interest is due: enabled, with such events, and with EPOLLET one of both active; unless it
  -- is lost
  pub pair_due : (enabled x y : Bool) → let w = watch_with file descriptor (Some (knote_of asked user enabled x)) (Some (knote_of asked user enabled y)) in
      ((enabled && (((x || y) && edge_bit asked) || not (edge_bit asked)) && not (bit_and events (wanted asked) == 0)) && not (is_lost R w)) ≡ is_reported R w
  pair_due enabled x y = rw (pair_bits enabled x y) (due_by enabled x y (edge_bit asked) (bit_and events (wanted asked) == 0))

-- a report leaves a pair: with EPOLLET none of both is active, with EPOLLONESHOT none is enabled
pub told_pair : (asked user : ℕ) (enabled x : Bool) → told_knote (Some (knote_of asked user enabled x)) ≡ Some (knote_of asked user (enabled && not (one_shot_bit asked)) (x && not (edge_bit asked)))
told_pair asked user enabled x = refl
