-- What contracts see of an open file's fields.
use Rattle.std.specs.Prelude.{◌≡◌}
use Rattle.std.proofs.Common.{ap}
use Rattle.lx_machine.specs.declared.files.OpenFile.{OpenFile}
use Rattle.open_files.specs.Kinds.{kind_out, kind_in, kind_back}
use Rattle.open_files.specs.declared.open_file.OpenFile.TheInside.{Inside}

abbrev pub file_out : Inside → OpenFile
file_out f = record { kind = kind_out f.file; nonblocking = f.nonblocking; holds = f.holds }

abbrev pub file_in : OpenFile → Inside
file_in f = record { file = kind_in f.kind; nonblocking = f.nonblocking; holds = f.holds }

-- there and back is nothing
pub file_back : (f : Inside) → file_in (file_out f) ≡ f
file_back f = ap (λ k. record f { file = k }) (kind_back f.file)
