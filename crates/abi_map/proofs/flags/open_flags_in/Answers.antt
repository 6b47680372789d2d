-- The four masks are what the table's rows make.
use Rattle.std.proofs.Common.{sym, subst}
use Rattle.abi_map.specs.Flags.{IsMovedBy, open_flag_table, open_flags_in_of}
use Rattle.abi_map.proofs.FlagTables.{four_rows, open_flags_in-moves}
use Rattle.abi_map.proofs.flags.open_flags_in.Goals as goal

pub returns-clause-value : goal.returns-clause-value
unfolding open_flags_in_of
returns-clause-value c =
    four_rows (1, 1) (2, 2) (0x800, 0x4) (0x80000, 0x100000) c.args.flags _ _ _ _
    c.moved.ensures c.moved-2.ensures c.moved-3.ensures c.moved-4.ensures

pub returns-clause-table : goal.returns-clause-table
returns-clause-table c =
    subst (IsMovedBy open_flag_table c.args.flags) (sym (returns-clause-value c)) (open_flags_in-moves c.args.flags)
