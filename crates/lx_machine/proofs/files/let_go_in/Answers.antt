use Rattle.std.proofs.Common.{rules}
use Rattle.lx_machine.specs.Interests.{is_elsewhere}
use Rattle.std.proofs.lemmas.Fn.{filter_same}
use Rattle.lx_machine.proofs.files.let_go_in.Goals as goal

pub returns : goal.returns
returns c = filter_same _ (is_elsewhere c.args.file) _ (λ x b f' k. search rules) _ _ c.retain.ensures.filtered
