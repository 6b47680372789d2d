-- A store leaves the rights of pages, so the areas stand for the pages after it.
use Rattle.std.proofs.Common.{ℕ, Bool, true, false, List, take, Option, Some, None, if◌then◌else◌, sym, ◌∙◌}
use Rattle.vm_areas.specs.declared.runs.Area.{Area}
use Rattle.page_store.specs.Pages.{Pages}
use Rattle.lx_memory.specs.Bytes.{with_bytes}
use Rattle.lx_memory.proofs.Codes.{rights_bytes}
use Rattle.lx_memory.specs.Queries.{first_lacking}
use Rattle.lx_memory.specs.declared.right.Right.TheVariants.{Read, Write}
use Rattle.a64_model.specs.Swaps.{has_outcome}
use Rattle.a64_model.specs.declared.access.Access.{Access}
use Rattle.a64_model.specs.declared.access.Access.TheVariants as access
use Rattle.a64_model.specs.declared.access.SwapOp.{SwapOp}
use Rattle.places.specs.Places.{number_of}
use Rattle.lx_memory.specs.Bytes.{bytes_at}
use Rattle.lx_machine.specs.Instruction as linux
use Rattle.lx_machine.specs.Instruction.{Answered}
use Rattle.shards_stand.specs.Clause.{AreasStand}

pub areas-written : (areas : List Area) (pages : Pages) (at : ℕ) (bytes : List ℕ) → AreasStand areas pages → AreasStand areas (with_bytes pages at bytes)
areas-written areas pages at bytes st = record {
  areas_are = st.areas_are;
  rights_are = λ p. st.rights_are p ∙ sym (rights_bytes pages at bytes p);
  below = st.below;
}

module _ (areas : List Area) (pages : Pages) (mark : Option ℕ) (st : AreasStand areas pages) where
  either : (b : Bool) (x y : Answered) → AreasStand areas x.pages → AreasStand areas y.pages → AreasStand areas (if b then x else y).pages
  either true x y one other = one
  either false x y one other = other

  loads : (at len : ℕ) (marks : Bool) (r : Option ℕ) → AreasStand areas (linux.loaded pages mark at len marks r).pages
  loads at len marks None = st
  loads at len marks (Some a) = st

  stores : (at : ℕ) (bytes : List ℕ) (r : Option ℕ) → AreasStand areas (linux.stored_at pages mark at bytes r).pages
  stores at bytes None = areas-written areas pages at bytes st
  stores at bytes (Some a) = st

  exclusive : (at : ℕ) (bytes : List ℕ) (r : Option ℕ) → AreasStand areas (linux.store_exclusive pages mark at bytes r).pages
  exclusive at bytes None = either (linux.has_mark mark at) _ _ (areas-written areas pages at bytes st) st
  exclusive at bytes (Some a) = st

  swaps : (at len : ℕ) (op : SwapOp) (value expected : ℕ) (r : Option ℕ) → AreasStand areas (linux.swapped pages mark at len op value expected r).pages
  swaps at len op value expected None = either (has_outcome op (number_of (bytes_at pages at len)) expected) _ _ (areas-written areas pages at _ st) st
  swaps at len op value expected (Some a) = st

  pub areas-accessed : (a : Access) → AreasStand areas (linux.accessed pages mark a).pages
  areas-accessed access.None = st
  areas-accessed (access.Load at len marks) = loads at len marks (first_lacking Read pages at len)
  areas-accessed (access.Store at len bytes false) = stores at (take len bytes) (first_lacking Write pages at len)
  areas-accessed (access.Store at len bytes true) = exclusive at (take len bytes) (first_lacking Write pages at len)
  areas-accessed (access.Swap at len op value expected) = swaps at len op value expected (first_lacking Write pages at len)
  areas-accessed access.ClearMark = st
