use Rattle.std.proofs.Common.{rules}
use Rattle.lx_machine.specs.Interests.{is_other}
use Rattle.std.proofs.lemmas.Fn.{filter_same}
use Rattle.lx_machine.proofs.files.let_go_of.Goals as goal

pub returns : goal.returns
returns c = filter_same _ (is_other c.args.file c.args.descriptor) _ (λ x b f' k. search rules) _ _ c.retain.ensures.filtered
