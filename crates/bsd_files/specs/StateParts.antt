-- What contracts see of the fields of the files, and what these keep.
use Rattle.std.specs.Prelude.{◌≤◌, vec_len}
use Rattle.bsd_files.specs.State.{FilesState}
use Rattle.bsd_files.specs.declared.files.Files.TheInside.{Inside}
use Rattle.open_files.specs.Named.{IsKept}
use Rattle.open_files.specs.PlainParts.{plain_in}

abbrev pub state_in : Inside → FilesState
state_in f = record { plain = plain_in f.plain.value; queues = f.queues }

-- there is room for the events of a whole queue, and places for all open files that are named
pub record IsSound (f : Inside) : Type 0 where
  pub events : 512 ≤ vec_len f.events
  pub kept : IsKept (plain_in f.plain.value)
