-- What the fields of a memory say.
use Rattle.page_store.specs.Pages.{Pages}
use Rattle.lx_memory.specs.declared.memory.Memory.TheInside.{Inside}
use Rattle.lx_memory.specs.Space.{IsInSpace}

abbrev pub pages_in : Inside → Pages
pages_in inside = inside.pages.pages

abbrev pub IsWithin : Inside → Type 0
IsWithin inside = IsInSpace inside.pages.pages
