-- What contracts see of the files without the queues.
use Rattle.std.specs.Prelude.{[]}
use Rattle.lx_machine.specs.declared.files.Files.{Files}
use Rattle.open_files.specs.declared.plain.Plain.{Plain}

abbrev pub plain_in : Plain → Files
plain_in p = record {
  descriptors = p.descriptors;
  files = p.files;
  pipes = p.pipes;
  counters = p.counters;
  epolls = [];
  input = p.input;
  out = p.out;
  err = p.err;
  put_out = [];
  put_err = [];
}
