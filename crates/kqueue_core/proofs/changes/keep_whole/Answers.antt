use Rattle.std.proofs.Common.{rules}
use Rattle.std.proofs.lemmas.Fn.{filter_same}
use Rattle.kqueue_core.specs.Changes.{stays}
use Rattle.kqueue_core.proofs.changes.keep_whole.Goals as goal

pub returns-clause-items : goal.returns-clause-items
returns-clause-items c = filter_same _ (stays c.args.ident.file c.args.ident.fd) _ (λ x b f' k. search rules) _ _ c.retain.ensures.filtered
