-- What the fields of `Areas` keep.
use Rattle.std.specs.Prelude.{◌≤◌, vec_capacity}
use Rattle.vm_areas.specs.declared.page_map.Areas.TheInside.{Inside}
use Rattle.vm_areas.specs.PageMap.{IsAreas}

-- the areas, and room in either vector for two pieces of each area and one more, so that a change takes no memory
pub record HasRoom (s : Inside) : Type 0 where
  pub areas : IsAreas s.areas.items
  pub room : 2049 ≤ vec_capacity s.areas
  pub spare : 2049 ≤ vec_capacity s.spare
