use Rattle.std.proofs.Common.{refl}
use Rattle.lx_machine.specs.Files.{held_in}
use Rattle.lx_machine.specs.Lists.{at_place}
use Rattle.open_files.proofs.Fronts.{front_put}
use Rattle.open_files.proofs.rooms.take_to_front.Goals as goal

pub returns-clause-buffer : goal.returns-clause-buffer
returns-clause-buffer c =
    front_put c.args.len (held_in (at_place c.args.places.now c.args.at)) c.args.buffer.now _ _
    c.requires refl c.take_from_place.ensures.taken
