-- What the fields of `Kqueue` keep.
use Rattle.std.specs.Prelude.{◌≤◌, vec_capacity}
use Rattle.kqueue_core.specs.declared.queue.Kqueue.TheInside.{Inside}
use Rattle.kqueue_core.specs.Changes.{IsWatches}
use Rattle.kqueue_core.specs.Watched.{Covers}

-- the watches, each in an open file that may have some, and room in either vector for all that can stand, so that nothing but `make`
-- takes memory
pub record HasRoom (q : Inside) : Type 0 where
  pub watches : IsWatches q.watches.items
  pub covers : Covers q.watched q.watches.items
  pub room : 512 ≤ vec_capacity q.watches
  pub reported : 512 ≤ vec_capacity q.reported
