-- A change of one knote leaves the interests of other names.
use Rattle.std.proofs.Common.{◌≡◌, ℕ, Bool, true, false, not, ◌&&◌, List, [], ◌∷◌, ◌++◌, map, Option, refl, ◌∙◌, arith}
use Rattle.std.specs.Prelude.{◌==◌, filter, if◌then◌else◌}
use Rattle.kqueue_core.specs.declared.knotes.Filter.{Filter}
use Rattle.kqueue_core.specs.declared.knotes.Filter.TheVariants.{Read, Write}
use Rattle.kqueue_core.specs.declared.knotes.Knote.{Knote}
use Rattle.kqueue_core.specs.declared.knotes.Watch.{Watch}
use Rattle.kqueue_core.specs.Knotes.{adds, made, remade}
use Rattle.kqueue_core.specs.Watches.{is_of, knote_at, with_knote, has_knote, fresh, changed_watch}
use Rattle.kqueue_core.specs.Changes.{tally, is_named, stays, changed_by}
use Rattle.kqueue_core.proofs.Tallies.{tally-append, tally-map, tally-filter, tally-same}

pub and_false : (b : Bool) → (b && false) ≡ false
and_false true = refl
and_false false = refl

pub and_true : (b : Bool) → (b && true) ≡ b
and_true true = refl
and_true false = refl

pub eq_is : (n m : ℕ) → (n == m) ≡ true → n ≡ m
eq_is n m h = grind arith

pub eq_self : (n : ℕ) → (n == n) ≡ true
eq_self n = grind arith

pub both_true : (a b : Bool) → (a && b) ≡ true → (a ≡ true) × (b ≡ true)
both_true true b h = (refl, h)
both_true false b h = let k : false ≡ true = h in absurd (cc)

-- a fresh interest has the name that it was made for
pub own_fresh : (file d : ℕ) (f : Filter) (k : Knote) → is_of file d (fresh file d f k) ≡ true
own_fresh file d Read k = rw (eq_self file, eq_self d) refl
own_fresh file d Write k = rw (eq_self file, eq_self d) refl

module _ (file descriptor : ℕ) where
  abbrev changed_if : Bool → Filter → Option Knote → Watch → Watch
  changed_if b f k w = if b then with_knote f k w else w

  apart_point : (b : Bool) (f : Filter) (k : Option Knote) (w : Watch) (t : Watch → Bool) → is_of file descriptor w ≡ b → (stays file descriptor (changed_if b f k w) && (not (is_of file descriptor (changed_if b f k w)) && t (changed_if b f k w))) ≡ (not (is_of file descriptor w) && t w)
  apart_point true Read k w t e = rw e (and_false (has_knote (record w { read = k })))
  apart_point true Write k w t e = rw e (and_false (has_knote (record w { write = k })))
  apart_point false f k w t e = rw e refl

  named_point : (b : Bool) (f : Filter) (k : Option Knote) (w : Watch) (t : Watch → Bool) → is_of file descriptor w ≡ b → (stays file descriptor (changed_if b f k w) && (is_of file descriptor (changed_if b f k w) && t (changed_if b f k w))) ≡ (is_of file descriptor w && (has_knote (with_knote f k w) && t (with_knote f k w)))
  named_point true Read k w t e = rw e refl
  named_point true Write k w t e = rw e refl
  named_point false f k w t e = rw e refl

  -- a change of a name that stands leaves the interests of other names
  pub apart_changed : (f : Filter) (flags asked user : ℕ) (ready : Bool) (t : Watch → Bool) (ws : List Watch) → tally (λ w. not (is_of file descriptor w) && t w) (filter (stays file descriptor) (map (changed_watch file descriptor f flags asked user ready) ws)) ≡ tally (λ w. not (is_of file descriptor w) && t w) ws
  apart_changed f flags asked user ready t ws =
      tally-filter (stays file descriptor) (λ w. not (is_of file descriptor w) && t w) (map (changed_watch file descriptor f flags asked user ready) ws)
      ∙ tally-map (changed_watch file descriptor f flags asked user ready) (λ w. stays file descriptor w && (not (is_of file descriptor w) && t w)) ws
      ∙ tally-same _ _ (λ w. apart_point (is_of file descriptor w) f (remade flags asked user ready (knote_at f w)) w t refl) ws

  -- and of its own name what the remade form passes
  pub named_changed : (f : Filter) (flags asked user : ℕ) (ready : Bool) (t : Watch → Bool) (ws : List Watch) → tally (λ w. is_of file descriptor w && t w) (filter (stays file descriptor) (map (changed_watch file descriptor f flags asked user ready) ws)) ≡ tally (λ w. is_of file descriptor w && (has_knote (with_knote f (remade flags asked user ready (knote_at f w)) w) && t (with_knote f (remade flags asked user ready (knote_at f w)) w))) ws
  named_changed f flags asked user ready t ws =
      tally-filter (stays file descriptor) (λ w. is_of file descriptor w && t w) (map (changed_watch file descriptor f flags asked user ready) ws)
      ∙ tally-map (changed_watch file descriptor f flags asked user ready) (λ w. stays file descriptor w && (is_of file descriptor w && t w)) ws
      ∙ tally-same _ _ (λ w. named_point (is_of file descriptor w) f (remade flags asked user ready (knote_at f w)) w t refl) ws

  -- any change leaves the interests of other names
  pub apart_by : (f : Filter) (flags asked user : ℕ) (ready : Bool) (t : Watch → Bool) (ws : List Watch) → tally (λ w. not (is_of file descriptor w) && t w) (changed_by file descriptor f flags asked user ready ws) ≡ tally (λ w. not (is_of file descriptor w) && t w) ws
  apart_by f flags asked user ready t ws = by (adds flags && not (is_named file descriptor ws))
    where
      by : (b : Bool) → tally (λ w. not (is_of file descriptor w) && t w) (if b then ws ++ fresh file descriptor f (made flags asked user ready true) ∷ [] else filter (stays file descriptor) (map (changed_watch file descriptor f flags asked user ready) ws)) ≡ tally (λ w. not (is_of file descriptor w) && t w) ws
      by true =
          let s = tally-append (λ w. not (is_of file descriptor w) && t w) ws (fresh file descriptor f (made flags asked user ready true) ∷ []) in
          let z : tally (λ w. not (is_of file descriptor w) && t w) (fresh file descriptor f (made flags asked user ready true) ∷ []) ≡ 0 = rw (own_fresh file descriptor f (made flags asked user ready true)) refl in
          omega arith
      by false = apart_changed f flags asked user ready t ws
