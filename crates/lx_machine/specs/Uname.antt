-- uname. Source: uname(2). Which names these are is this project's own.
use Rattle.std.specs.Prelude.{List, [], codes, length, replicate, ℕ, ◌++◌, ◌-◌, ◌∷◌}
use Rattle.lx_machine.specs.Calls.{answered_with, argument}
use Rattle.lx_machine.specs.Pieces.{piece}
use Rattle.lx_machine.specs.declared.calls.LxCall.{LxCall}

-- a name in 65 bytes
abbrev pub name_field : List ℕ → List ℕ
name_field name = name ++ replicate (65 - length name) 0

-- struct utsname: system, node, release, version, machine and domain
abbrev pub names : List ℕ
names =
    name_field (codes "Linux") ++ name_field (codes "freebsd") ++ name_field (codes "5.15.0") ++ name_field (codes "Linuxulator") ++
    name_field (codes "aarch64") ++ name_field (codes "(none)")

abbrev pub uname : LxCall → LxCall
uname c = answered_with c 0 (piece (argument c 0) 390 ∷ []) names
