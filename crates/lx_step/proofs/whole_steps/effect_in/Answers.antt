use Rattle.std.proofs.Common.{◌≡◌, List, Option, None, ◌∙◌, ap, sym}
use Rattle.lx_machine.specs.declared.threads.LxThread.{LxThread}
use Rattle.lx_step.specs.Wholes.{taken_at}
use Rattle.lx_step.proofs.WholeStepped.{ends, no_step, unchanged, wants}
use Rattle.lx_step.proofs.whole_steps.effect_in.Goals as goal

pub returns-in_default-clause-steps : goal.returns-in_default-clause-steps
returns-in_default-clause-steps c =
    let none : taken_at c.args.state.now.threads c.args.slot ≡ None = sym c.take_call.ensures.taken ∙ c.in_default.is in (
      no_step c.args.state.now c.args.slot none,
      ap (λ (threads : List (Option LxThread)). record c.args.state.now { threads = threads }) c.take_call.ensures.left
          ∙ unchanged c.args.state.now c.args.slot none,
    )

pub returns-clause-steps : goal.returns-clause-steps
returns-clause-steps c =
    ends c.args.state.now (record c.args.state.now { threads = c.take_call.new.threads }) c.effect_at-result.new.state c.args.slot
    c.in-Some.taken c.effect_at-result.new.taken.call c.put_call.new.threads c.effect_at-result.result
    (sym c.take_call.ensures.taken ∙ c.in-Some.is)
    (ap (λ (threads : List (Option LxThread)). record c.args.state.now { threads = threads }) c.take_call.ensures.left)
    c.effect_at-result.ensures.goes c.put_call.ensures

pub returns-clause-wants : goal.returns-clause-wants
returns-clause-wants c =
    wants c.args.state.now c.args.slot c.args.slot c.in-Some.taken c.effect_at-result.result (sym c.take_call.ensures.taken ∙ c.in-Some.is) c.effect_at-result.ensures.decided
