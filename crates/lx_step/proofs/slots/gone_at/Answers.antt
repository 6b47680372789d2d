use Rattle.std.proofs.Common.{◌≡◌, false, List, Option, ◌∙◌, ap, sym}
use Rattle.lx_machine.specs.Threads.{with_thread}
use Rattle.lx_machine.specs.declared.threads.LxThread.{LxThread}
use Rattle.lx_step.specs.CallSteps.{is_gone}
use Rattle.lx_step.proofs.PutBack.{thread_back}
use Rattle.lx_step.proofs.Staged.{stays}
use Rattle.lx_step.proofs.slots.gone_at.Goals as goal

pub returns-else-is_gone : goal.returns-else-is_gone
returns-else-is_gone c =
    let not_gone : is_gone c.in-Some.thread ≡ false = sym c.is_gone.ensures ∙ c.if-is_gone.false in
    record {
      steps = (
        stays c.args.state.now c.args.slot c.in-Some.thread c.in-Some.ensures.there not_gone,
        c.put_back.ensures
            ∙ ap (λ (threads : List (Option LxThread)). with_thread (record c.args.state.now { threads = threads }) c.args.slot c.in-Some.thread) c.in-Some.ensures.out
            ∙ thread_back c.args.state.now c.args.slot c.in-Some.thread c.in-Some.ensures.there,
      );
      decided = tt;
    }
