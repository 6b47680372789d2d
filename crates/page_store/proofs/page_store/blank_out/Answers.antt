use Rattle.std.proofs.Common.{ap, ◌∙◌, replicate}
use Rattle.page_store.specs.Pages.{blank}
use Rattle.page_store.proofs.page_store.blank_out.Goals as goal

pub returns-clause-zeros : goal.returns-clause-zeros
unfolding blank
returns-clause-zeros c = c.fill.ensures.after (λ y e. e) ∙ ap (λ n. replicate n 0) c.told-frame
