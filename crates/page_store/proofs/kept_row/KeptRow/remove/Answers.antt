use Rattle.std.proofs.Common.{◌≡◌, ◌++◌, ◌∷◌, [], List, length, reverse, sym, ap, ◌∙◌, arith}
use Rattle.std.specs.List.{remove}
use Rattle.std.proofs.lemmas.List.{reverse-append}
use Rattle.page_store.specs.declared.kept_row.Kept.{Kept}
use Rattle.page_store.proofs.RowEdits.{removed}
use Rattle.page_store.proofs.kept_row.KeptRow.remove.Goals as goal

pub returns-clause-items : goal.returns-clause-items
returns-clause-items c =
    let moved = c.move_border.new.self in
    let below = moved.below.items in
    let above = c.pop.new.self.items in
    let kept = c.in-Some.kept in
    let place : length below ≡ c.args.place = omega (arith, moved.below.ok.0, c.move_border.ensures.below) in
    sym (removed below (reverse above) c.args.place kept place) ∙ ap (λ (l : List Kept). remove l c.args.place)
    (ap (λ (l : List Kept). below ++ l) (sym (reverse-append above (kept ∷ []))) ∙ ap (λ (l : List Kept). below ++ reverse l) (sym c.in-Some.ensures.items) ∙ c.move_border.ensures.moved.items)
