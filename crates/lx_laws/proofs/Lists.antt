-- What no element of a list has, none has after a change.
use Rattle.std.proofs.Common.{◌≡◌, ℕ, zero, suc, Bool, true, false, cond, ◌||◌, List, [], ◌∷◌, ◌++◌, filter, refl, if◌then◌else◌}
use Rattle.std.specs.List.{list_any}
use Rattle.lx_machine.specs.Queue.{without_first}

pub neither : (a b : Bool) → (a || b) ≡ false → (a ≡ false) × (b ≡ false)
neither false false e = (refl, refl)
neither false true e = absurd (cc)
neither true b e = absurd (cc)

module _ {X : Type 0} (test : X → Bool) where
  pub none_filtered : (keeps : X → Bool) (ws : List X) → list_any test ws ≡ false → list_any test (filter keeps ws) ≡ false
  none_filtered keeps [] h = refl
  none_filtered keeps (w ∷ ws) h =
      let two = neither (test w) (list_any test ws) h in by (keeps w) two.0 (none_filtered keeps ws two.1)
    where
      by : (b : Bool) → test w ≡ false → list_any test (filter keeps ws) ≡ false → list_any test (cond b (w ∷ filter keeps ws) (filter keeps ws)) ≡ false
      by true e f = rw (e, f) refl
      by false e f = f

  pub none_left : (n : ℕ) (picks : X → Bool) (ws : List X) → list_any test ws ≡ false → list_any test (without_first n picks ws) ≡ false
  none_left zero picks ws h = h
  none_left (suc n) picks [] h = refl
  none_left (suc n) picks (w ∷ ws) h =
      let two = neither (test w) (list_any test ws) h in by (picks w) two.0 (none_left n picks ws two.1) (none_left (suc n) picks ws two.1)
    where
      by : (b : Bool) → test w ≡ false → list_any test (without_first n picks ws) ≡ false → list_any test (without_first (suc n) picks ws) ≡ false → list_any test (if b then without_first n picks ws else (w ∷ without_first (suc n) picks ws)) ≡ false
      by true e f g = f
      by false e f g = rw (e, g) refl

  pub none_joined : (ws vs : List X) → list_any test ws ≡ false → list_any test vs ≡ false → list_any test (ws ++ vs) ≡ false
  none_joined [] vs h k = k
  none_joined (w ∷ ws) vs h k =
      let two = neither (test w) (list_any test ws) h in let a = two.0 in let b = none_joined ws vs two.1 k in rw (a, b) refl
