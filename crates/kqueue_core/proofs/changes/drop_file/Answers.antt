use Rattle.std.proofs.Common.{rules}
use Rattle.std.proofs.lemmas.Fn.{filter_same}
use Rattle.kqueue_core.specs.Changes.{is_apart_from}
use Rattle.kqueue_core.proofs.changes.drop_file.Goals as goal

pub returns-clause-items : goal.returns-clause-items
returns-clause-items c = filter_same _ (is_apart_from c.args.file) _ (λ x b f' k. search rules) _ _ c.retain.ensures.filtered
