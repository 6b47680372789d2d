use Rattle.std.proofs.Common.{◌<◌, List, length, slice_set, ap, ◌∙◌, arith}
use Rattle.std.specs.List.{insert}
use Rattle.page_store.specs.declared.kept_row.Kept.{Kept}
use Rattle.page_store.specs.Row.{entries, allowing}
use Rattle.page_store.proofs.RowEdits.{entries-count, replaced}
use Rattle.page_store.proofs.kept_row.KeptRow.set_rights.Goals as goal

pub returns-clause-items : goal.returns-clause-items
returns-clause-items c d =
    let old = entries c.args.self.now in
    let place = c.args.place in
    let new : Kept = allowing c.args.rights c.remove-kept.result in
    let in_range : place < length old = omega (arith, c.requires.place, entries-count c.args.self.now) in
    c.insert.ensures.items
    ∙ ap (λ (l : List Kept). insert l place new) c.remove-kept.ensures.items
    ∙ replaced old place new in_range
    ∙ ap (λ (k : Kept). slice_set old place (allowing c.args.rights k)) (c.remove-kept.ensures.value d)
