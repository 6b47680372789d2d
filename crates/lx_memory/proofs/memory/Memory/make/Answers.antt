use Rattle.std.proofs.Common.{ap, ◌∙◌}
use Rattle.std.specs.FinMap as finite
use Rattle.std.specs.Ordering.{nat_cmp}
use Rattle.page_store.specs.Pages.{Keeping}
use Rattle.lx_memory.proofs.memory.Memory.make.Goals as goal

-- nothing is mapped
pub invariant_of-result : goal.invariant_of-result
invariant_of-result c = λ q past. ap (λ (k : Keeping). finite.get k.pages q) c.in_ok-pages.ensures ∙ finite.get-empty nat_cmp q
