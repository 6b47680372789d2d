use Rattle.lx_start.proofs.start.first_files.Goals as goal

pub returns : goal.returns
returns c = λ i. record {
  descriptors = c.first_descriptors.ensures i;
  files = c.first_open_files.ensures i;
  pipes = c.no_pipes.ensures i;
  counters = c.no_counters.ensures i;
  epolls = c.no_epolls.ensures i;
  input = c.in_ok-input.ensures i;
  out = c.in_ok-out.ensures i;
  err = c.in_ok-err.ensures i;
  put_out = c.empty.ensures i;
  put_err = c.empty-2.ensures i;
}
