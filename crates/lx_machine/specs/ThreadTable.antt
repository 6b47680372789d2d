-- The places for threads, as the code keeps them. This project's own.
use Rattle.std.specs.Prelude.{◌≡◌, List, Option, ℕ, drop, is_none, true}
use Rattle.std.specs.List.{list_all}
use Rattle.lx_machine.specs.declared.threads.LxThread.{LxThread}

-- all places from this one on are free
abbrev pub IsFreeFrom : ℕ → List (Option LxThread) → Type 0
IsFreeFrom used places = list_all is_none (drop used places) ≡ true
