use Rattle.std.proofs.Common.{refl}
use Rattle.page_store.specs.Pages.{blank}
use Rattle.page_store.proofs.page_store.blank_frame.Goals as goal

pub returns-clause-zeros : goal.returns-clause-zeros
unfolding blank
returns-clause-zeros c = refl
