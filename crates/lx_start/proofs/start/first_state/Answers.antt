use Rattle.std.proofs.Common.{◌≡◌, map, string_bytes, subst, IfOk}
use Rattle.lx_machine.specs.declared.state.LinuxState.{LinuxState}
use Rattle.lx_start.proofs.Started.{started}
use Rattle.lx_start.proofs.start.first_state.Goals as goal

pub returns : goal.returns
returns c =
    subst (λ (made : LinuxState). IfOk c.state_with.result (λ state. state ≡ made))
    (started c.args.image.now c.name_in.result.now _ (map string_bytes c.arguments_in.result.now) _ c.args.seed c.in_ok-stack.stack c.args.input.now c.args.rules c.in_ok-stack.ensures c.name_in.ensures c.arguments_in.ensures)
    c.state_with.ensures
