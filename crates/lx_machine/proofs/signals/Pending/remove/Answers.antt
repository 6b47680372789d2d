use Rattle.std.proofs.Common.{◌≡◌, ◌+◌, ◌++◌, ℕ, List, Bool, take, drop, refl, add-one, arith}
use Rattle.std.specs.List.{after_first, before_first, position_or_len, remove}
use Rattle.lx_machine.specs.Signal.{is_of}
use Rattle.lx_machine.proofs.signals.Pending.remove.Goals as goal

-- a list without the first element that passes
removed : {X : Type 0} (p : X → Bool) (xs : List X) (at : ℕ) → at ≡ position_or_len p xs → remove xs at ≡ before_first p xs ++ after_first p xs
removed p xs at e = rw (e, add-one) refl

pub returns-then-at-len : goal.returns-then-at-len
returns-then-at-len c =
    grind (arith, removed (is_of c.args.signal) c.args.self.now c.place_of-at.result, c.place_of-at.ensures.place, c.remove.ensures.items, c.deref.ensures, c.self.view_is)
