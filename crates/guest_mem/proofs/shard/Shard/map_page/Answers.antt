use Rattle.std.proofs.Common.{◌≡◌, ◌-◌, true, sym, ap, ◌∙◌, if◌then◌else◌}
use Rattle.std.specs.FinMap as finite
use Rattle.page_store.specs.Pages.{Keeping, has_any, with_changed, with_rights, blanked, blank}
use Rattle.page_store.proofs.Changed.{renewed}
use Rattle.guest_mem.proofs.shard.Shard.map_page.Goals as goal

-- a kept page gets the rights and is made zeros
pub returns-then-set_rights-clause-ok : goal.returns-then-set_rights-clause-ok
returns-then-set_rights-clause-ok c =
    let pages = c.self.inside.pages.value.pages in
    let spare = c.self.inside.pages.value.spare in
    let page = c.args.page in
    let rights = c.args.rights in
    let has : has_any rights ≡ true = sym c.has_any_right.ensures ∙ c.if-not-has_any_right.false in
    let first : c.deref_mut.result.now ≡ c.self.inside.pages.value = c.deref_mut.ensures.value in
    let given : c.set_rights.new.self ≡ with_changed c.self.inside.pages.value page (with_rights rights) =
    c.set_rights.ensures.after ∙ ap (λ (k : Keeping). with_changed k page (with_rights rights)) first in
    let zeroed : c.zero.new.self ≡ with_changed (with_changed c.self.inside.pages.value page (with_rights rights)) page blanked =
    c.zero.ensures.after ∙ ap (λ (k : Keeping). with_changed k page blanked) (c.deref_mut-then-set_rights.ensures.value ∙ given) in
    let kept : finite.contains_key pages page ≡ true =
    ap (λ (k : Keeping). finite.contains_key k.pages page) (sym first) ∙ sym c.set_rights.ensures.kept ∙ c.if-set_rights.true in
    let pages_are : c.zero.new.self.pages ≡ finite.insert pages page record { rights = rights; bytes = blank } =
    ap (λ (k : Keeping). k.pages) zeroed ∙ renewed pages page rights kept in
    let spare_is : c.zero.new.self.spare ≡ (if finite.contains_key pages page then spare else spare - 1) = rw kept (ap (λ (k : Keeping). k.spare) zeroed) in
    rw (← c.self.view_is) (rw has (λ i. record { index = c.self.inside.index; pages = pages_are i; marks = c.end_on_page.ensures i; spare = spare_is i }))
