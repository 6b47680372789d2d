-- The new file stands behind the others, and of one name the last counts.
use Rattle.outside.specs.Memory.{file_of}
use Rattle.outside.proofs.FilesOfAShelf.{file_in-same, file_in-other}
use Rattle.outside.proofs.memory_shelf.MemShelf.put.Goals as goal

pub returns-clause-same : goal.returns-clause-same
returns-clause-same c =
    rw c.in_ok-push.ensures.items
    (file_in-same file_of c.self.inside.files.items c.in_ok-file.file c.args.name.now c.args.bytes.now
    c.in_ok-file.ensures.name c.in_ok-file.ensures.bytes)

pub returns-clause-others : goal.returns-clause-others
returns-clause-others c = λ other apart.
    rw (c.in_ok-push.ensures.items, ← c.self.view_is)
    (file_in-other file_of c.self.inside.files.items c.in_ok-file.file c.args.name.now other c.in_ok-file.ensures.name apart)
