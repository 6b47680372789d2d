-- The interests of an epoll have different names. Source: epoll_ctl(2), EEXIST.
use Rattle.std.specs.Prelude.{List, Option, Some, true, ℕ, ◌≡◌}
use Rattle.lx_machine.specs.Epoll.{are_apart}
use Rattle.lx_machine.specs.Lists.{at_place}
use Rattle.lx_machine.specs.declared.files.Interest.{Interest}
use Rattle.lx_machine.specs.declared.state.LinuxState.{LinuxState}

-- in each of these epolls no two interests have the same name
abbrev pub AreApart : List (Option (List Interest)) → Type 0
AreApart epolls = (n : ℕ) (is : List Interest) → at_place epolls n ≡ Some is → are_apart is ≡ true

-- no two interests of an epoll have the same name
abbrev pub InterestsApart : LinuxState → Type 0
InterestsApart L = AreApart L.files.epolls
