use Rattle.std.proofs.Common.{◌≡◌, List, ap, sym, subst, ◌∙◌, arith, vec_capacity, vec_len}
use Rattle.vm_areas.specs.declared.runs.Area.{Area}
use Rattle.vm_areas.specs.PageMap.{IsMaximal}
use Rattle.vm_areas.specs.Painted.{painted}
use Rattle.vm_areas.proofs.Painting.{painted-is}
use Rattle.vm_areas.proofs.page_map.Areas.change.Goals as goal

maximal_along : (xs ys : List Area) → xs ≡ ys → IsMaximal xs → IsMaximal ys
maximal_along xs ys e maximal = subst (λ (zs : List Area). IsMaximal zs) e maximal

pub returns-clause-painted : goal.returns-clause-painted
returns-clause-painted c =
    painted-is c.args.self.now c.args.first c.args.pages c.args.rights c.requires
    (maximal_along c.self.inside.areas.items c.args.self.now c.self.view_is c.self.invariant.areas.maximal)

pub returns-then-len-gt-MOST_AREAS-clause-painted : goal.returns-then-len-gt-MOST_AREAS-clause-painted
returns-then-len-gt-MOST_AREAS-clause-painted c =
    painted-is c.args.self.now c.args.first c.args.pages c.args.rights c.requires
    (maximal_along c.self.inside.areas.items c.args.self.now c.self.view_is c.self.invariant.areas.maximal)

-- the areas that the vectors hold once they have changed places
pub returns-clause-areas : goal.returns-clause-areas
returns-clause-areas c =
    let old = c.self.inside.areas.items in
    let new = painted old c.args.first c.args.pages c.args.rights in
    let is : c.swap.new.x.items ≡ new = ap (λ v. v.items) c.swap.ensures.x_after ∙ c.paint.ensures.items ∙ ap (λ xs. painted xs c.args.first c.args.pages c.args.rights) c.deref.ensures.value in
    let what = painted-is old c.args.first c.args.pages c.args.rights c.requires c.self.invariant.areas.maximal in
    record {
      maximal = maximal_along new c.swap.new.x.items (sym is) what.maximal;
      few = omega (arith, ap vec_len c.swap.ensures.x_after, c.swap.new.x.ok);
    }

pub invariant_of-self-2 : goal.invariant_of-self-2
invariant_of-self-2 c =
    let old = c.self.inside.areas.items in
    let new = painted old c.args.first c.args.pages c.args.rights in
    let is : c.swap.new.x.items ≡ new = ap (λ v. v.items) c.swap.ensures.x_after ∙ c.paint.ensures.items ∙ ap (λ xs. painted xs c.args.first c.args.pages c.args.rights) c.deref.ensures.value in
    let what = painted-is old c.args.first c.args.pages c.args.rights c.requires c.self.invariant.areas.maximal in
    record {
      areas = record {
        maximal = maximal_along new c.swap.new.x.items (sym is) what.maximal;
        few = omega (arith, ap vec_len c.swap.ensures.x_after, c.swap.new.x.ok);
      };
      room = omega (arith, ap vec_capacity c.swap.ensures.x_after, c.paint.ensures.capacity, c.self.invariant.spare);
      spare = omega (arith, ap vec_capacity c.swap.ensures.y_after, c.self.invariant.room);
    }
