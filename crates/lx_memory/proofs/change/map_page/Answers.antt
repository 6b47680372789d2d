use Rattle.std.proofs.Common.{◌≡◌, true, sym, ap, ◌∙◌}
use Rattle.std.specs.FinMap as finite
use Rattle.page_store.specs.Pages.{Keeping, changed, blanked}
use Rattle.page_store.proofs.Changed.{renewed}
use Rattle.lx_memory.proofs.change.map_page.Goals as goal

-- a mapped page gets the rights and is made zeros
pub returns-then-set_rights-clause-after : goal.returns-then-set_rights-clause-after
returns-then-set_rights-clause-after c =
    let pages = c.args.pages.now.pages in
    let page = c.args.page in
    let there : finite.contains_key pages page ≡ true = sym c.set_rights.ensures.kept ∙ c.if-set_rights.true in
    ap (λ (k : Keeping). k.pages) c.zero.ensures.after ∙ ap (λ (k : Keeping). changed k.pages page blanked) c.set_rights.ensures.after ∙ renewed pages page c.args.rights there
