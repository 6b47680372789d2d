-- Where the first waiter for a lock is told, there is one.
use Rattle.std.proofs.Common.{◌≡◌, ◌∙◌, ap, sym, refl, ℕ, Bool, true, false, ◌||◌, List, [], ◌∷◌, Option, Some, cond}
use Rattle.std.specs.Prelude.{is_some}
use Rattle.std.specs.List.{list_any}
use Rattle.umtx_queue.specs.PiLines.{pi_first_of, pi_has_key}
use Rattle.umtx_queue.specs.declared.pi.PiWaiter.{PiWaiter}

is_there : (key : ℕ) (ws : List PiWaiter) → is_some (pi_first_of key ws) ≡ list_any (pi_has_key key) ws
is_there key [] = refl
is_there key (w ∷ ws) = by (pi_has_key key w) (is_there key ws)
  where
    by : (b : Bool) → is_some (pi_first_of key ws) ≡ list_any (pi_has_key key) ws → is_some (let o : Option (ℕ × Bool) = cond b (Some (w.tid, list_any (pi_has_key key) ws)) (pi_first_of key ws) in o) ≡ (b || list_any (pi_has_key key) ws)
    by true rest = refl
    by false rest = rest

pub found : (key : ℕ) (ws : List PiWaiter) (told : ℕ × Bool) → pi_first_of key ws ≡ Some told → list_any (pi_has_key key) ws ≡ true
found key ws told is = sym (is_there key ws) ∙ ap (λ (o : Option (ℕ × Bool)). is_some o) is
