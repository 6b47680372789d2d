use Rattle.std.proofs.Common.{ap, ◌∙◌}
use Rattle.page_store.specs.Pages.{Keeping, with_rights, blanked}
use Rattle.lx_memory.proofs.Changes.{changed-with_page}
use Rattle.lx_memory.proofs.change.change_page.Goals as goal

pub returns-in-Protect : goal.returns-in-Protect
returns-in-Protect c = rw c.in-Protect.is (ap (λ (k : Keeping). k.pages) c.set_rights.ensures.after ∙ changed-with_page c.args.pages.now.pages c.args.page (with_rights c.in-Protect.rights))

pub returns-in-Zero : goal.returns-in-Zero
returns-in-Zero c = rw c.in-Zero.is (ap (λ (k : Keeping). k.pages) c.zero.ensures.after ∙ changed-with_page c.args.pages.now.pages c.args.page blanked)
