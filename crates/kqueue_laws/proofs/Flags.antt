-- What the flags of a change for an interest make of a knote.
use Rattle.std.proofs.Common.{◌≡◌, ℕ, ◌+◌, ◌*◌, Bool, true, false, Option, Some, None, refl, ap}
use Rattle.std.specs.Int.{from_bool}
use Rattle.kqueue_core.specs.declared.knotes.Knote.{Knote}
use Rattle.kqueue_core.specs.Knotes.{adds, deletes, made, remade}
use Rattle.kqueue_laws.specs.Pairs.{edge_bit, one_shot_bit, kept_flags, knote_of}

abbrev both : ℕ → Bool → Bool → ℕ
both n e o = n + (from_bool e * 0x20 + from_bool o * 0x80)

add_adds : (e o : Bool) → adds (both 1 e o) ≡ true
add_adds true true = refl
add_adds true false = refl
add_adds false true = refl
add_adds false false = refl

change_adds : (e o : Bool) → adds (both 4 e o) ≡ false
change_adds true true = refl
change_adds true false = refl
change_adds false true = refl
change_adds false false = refl

change_deletes : (e o : Bool) → deletes (both 4 e o) ≡ false
change_deletes true true = refl
change_deletes true false = refl
change_deletes false true = refl
change_deletes false false = refl

add_made : (e o : Bool) (asked user : ℕ) (ready : Bool) → made (both 1 e o) asked user ready true ≡ record { asked = asked; user = user; clear = e; dispatch = o; enabled = true; active = ready }
add_made true true asked user ready = refl
add_made true false asked user ready = refl
add_made false true asked user ready = refl
add_made false false asked user ready = refl

change_made : (e o was : Bool) (asked user : ℕ) (ready : Bool) → made (both 4 e o) asked user ready was ≡ record { asked = asked; user = user; clear = e; dispatch = o; enabled = true; active = ready }
change_made true true true asked user ready = refl
change_made true true false asked user ready = refl
change_made true false true asked user ready = refl
change_made true false false asked user ready = refl
change_made false true true asked user ready = refl
change_made false true false asked user ready = refl
change_made false false true asked user ready = refl
change_made false false false asked user ready = refl

-- EV_ADD with the flags of an interest adds, EV_ENABLE with them changes
pub adds_add : (asked : ℕ) → adds (1 + kept_flags asked) ≡ true
adds_add asked = add_adds (edge_bit asked) (one_shot_bit asked)

pub adds_change : (asked : ℕ) → adds (4 + kept_flags asked) ≡ false
adds_change asked = change_adds (edge_bit asked) (one_shot_bit asked)

-- and the knote that they make is one of the interest, enabled
pub made_add : (asked user : ℕ) (ready : Bool) → made (1 + kept_flags asked) asked user ready true ≡ knote_of asked user true ready
made_add asked user ready = add_made (edge_bit asked) (one_shot_bit asked) asked user ready

pub remade_add : (asked user : ℕ) (ready : Bool) → remade (1 + kept_flags asked) asked user ready None ≡ Some (knote_of asked user true ready)
remade_add asked user ready = ap {B = Option Knote} (λ k. Some k) (made_add asked user ready)

pub remade_change : (asked user : ℕ) (ready : Bool) (k : Knote) → remade (4 + kept_flags asked) asked user ready (Some k) ≡ Some (knote_of asked user true ready)
remade_change asked user ready k = rw (change_deletes (edge_bit asked) (one_shot_bit asked)) (ap {B = Option Knote} (λ z. Some z) (change_made (edge_bit asked) (one_shot_bit asked) k.enabled asked user ready))
