use Rattle.vm_areas.proofs.OneList.{one_list}
use Rattle.vm_areas.proofs.laws.one_list_for_a_page_map.Goals as goal

pub returns : goal.returns
returns c = one_list
