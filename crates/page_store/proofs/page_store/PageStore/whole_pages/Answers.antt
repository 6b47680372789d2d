use Rattle.std.proofs.Common.{get_or, sym, ◌∙◌, arith}
use Rattle.std.specs.Cmp.{nat_cmp_total}
use Rattle.std.specs.FinMap as finite
use Rattle.std.proofs.lemmas.List.{get_or_default}
use Rattle.sorted_entries.specs.Entries.{entries_of}
use Rattle.page_store.specs.Row.{entries}
use Rattle.page_store.specs.Kept.{number_of, page_in}
use Rattle.page_store.proofs.Owned.{owned}
use Rattle.page_store.proofs.Whole.{find_whole}
use Rattle.page_store.proofs.page_store.PageStore.whole_pages.Goals as goal

pub returns : goal.returns
returns c =
    let frames = c.self.inside.frames.items in
    let items = entries c.self.inside.kept in
    rw (← c.self.view_is) (λ number page there. find_whole frames items number page c.self.invariant.whole
    (λ i d lt. omega (arith, (owned items c.self.inside.free.items _ i (get_or items i d) c.self.invariant.owners lt (get_or_default items i d _ lt)).0, c.self.inside.frames.ok.0))
    (sym (finite.get-from_entries nat_cmp_total (entries_of number_of (page_in frames) items) number) ∙ there))
