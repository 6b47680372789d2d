use Rattle.std.proofs.Common.{◌≡◌, refl, Some, None}
use Rattle.std.specs.FinMap as finite
use Rattle.page_store.specs.Kept.{page_in}
use Rattle.page_store.proofs.Found.{page_there, page_missing}
use Rattle.page_store.proofs.page_store.PageStore.rights.Goals as goal

pub returns-in-Ok : goal.returns-in-Ok
returns-in-Ok c =
    let frames = c.self.inside.frames.items in
    let there : finite.get c.args.self.now.pages c.args.page ≡ Some (page_in frames c.at.result) = rw (← c.self.view_is) (page_there frames _ _ _ _ c.self.invariant.rising c.in-Ok.ensures.found (c.at.ensures c.at.result)) in
    rw there refl

pub returns-in-Err : goal.returns-in-Err
returns-in-Err c =
    let missing : finite.get c.args.self.now.pages c.args.page ≡ None = rw (← c.self.view_is) (page_missing c.self.inside.frames.items _ _ _ c.in-Err.ensures.absent) in
    rw missing refl
