use Rattle.std.proofs.Common.{rules}
use Rattle.std.specs.Prelude.{not}
use Rattle.std.proofs.lemmas.Fn.{filter_same}
use Rattle.bsd_proc.specs.Signals.{is_of}
use Rattle.bsd_proc.proofs.pending.remove_each.Goals as goal

pub returns-clause-left : goal.returns-clause-left
returns-clause-left c = filter_same _ (λ signal. not (is_of c.args.sig signal)) _ (λ x b f' k. search rules) _ _ c.retain.ensures.filtered
