-- When pages have equal rights.
-- Source: mmap(2): PROT_READ, PROT_WRITE, PROT_EXEC.
use Rattle.std.specs.Prelude.{Bool, ◌&&◌}
use Rattle.std.specs.Bool.{beq}
use Rattle.page_ranges.specs.declared.rights.Rights.{Rights}

-- whether two pages have equal rights
abbrev pub same_rights : Rights → Rights → Bool
same_rights one other = beq one.read other.read && beq one.write other.write && beq one.execute other.execute
