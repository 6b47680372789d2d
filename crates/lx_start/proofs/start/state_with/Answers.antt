use Rattle.std.proofs.Common.{◌∷◌, replicate, Some, None, ap, ◌∙◌}
use Rattle.lx_machine.specs.declared.threads.LxThread.{LxThread}
use Rattle.lx_machine.specs.Start.{first_thread}
use Rattle.lx_start.proofs.start.state_with.Goals as goal

pub returns : goal.returns
returns c =
    let threads = c.in_ok-threads.ensures ∙ ap (λ (thread : LxThread). Some thread ∷ replicate 127 None) (c.first_thread-thread.ensures ∙ ap first_thread c.first_regs.ensures) in
    λ i. record {
      rules = c.args.rules;
      threads = threads i;
      space = c.in_ok-space.ensures i;
      queue = c.in_ok-queue.ensures i;
      pi_queue = c.empty.ensures i;
      files = c.in_ok-files.ensures i;
      actions = c.first_actions.ensures i;
      pending = c.empty-2.ensures i;
      clock = 0;
      next_tid = 1001;
      end = None;
    }
