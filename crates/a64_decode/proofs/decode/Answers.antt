use Rattle.std.proofs.Common.{ℕ, List, refl, rules, [], ◌∷◌}
use Rattle.a64_model.specs.declared.rows.Form.TheVariants as form
use Rattle.a64_decode.proofs.FirstByte.{under, no_row_above}
use Rattle.a64_decode.proofs.Rows.{row_at}
use Rattle.a64_decode.proofs.decode.Goals as goal

pub pc_relative-requires : goal.pc_relative-requires
pc_relative-requires c = under 0x1F00_0000 0x1000_0000 (0x10 ∷ 0x30 ∷ 0x50 ∷ 0x70 ∷ 0x90 ∷ 0xB0 ∷ 0xD0 ∷ 0xF0 ∷ []) c.args.word refl refl c.in-16.is

pub add_immediate-requires : goal.add_immediate-requires
add_immediate-requires c = under 0x1F00_0000 0x1100_0000 (0x11 ∷ 0x31 ∷ 0x51 ∷ 0x71 ∷ 0x91 ∷ 0xB1 ∷ 0xD1 ∷ 0xF1 ∷ []) c.args.word refl refl c.in-17.is

pub logical_or_move-requires : goal.logical_or_move-requires
logical_or_move-requires c = under 0x1F00_0000 0x1200_0000 (0x12 ∷ 0x32 ∷ 0x52 ∷ 0x72 ∷ 0x92 ∷ 0xB2 ∷ 0xD2 ∷ 0xF2 ∷ []) c.args.word refl refl c.in-18.is

pub bitfield_or_extract-requires : goal.bitfield_or_extract-requires
bitfield_or_extract-requires c = under 0x1F00_0000 0x1300_0000 (0x13 ∷ 0x33 ∷ 0x53 ∷ 0x73 ∷ 0x93 ∷ 0xB3 ∷ 0xD3 ∷ 0xF3 ∷ []) c.args.word refl refl c.in-19.is

pub branch-word-requires : goal.branch-word-requires
branch-word-requires c = under 0x7C00_0000 0x1400_0000 (0x14 ∷ 0x16 ∷ 0x94 ∷ 0x96 ∷ []) c.args.word refl refl c.in-20.is

pub branch-word-requires-in-21 : goal.branch-word-requires-in-21
branch-word-requires-in-21 c = under 0x7C00_0000 0x1400_0000 (0x15 ∷ 0x17 ∷ 0x95 ∷ 0x97 ∷ []) c.args.word refl refl c.in-21.is

pub compare_branch-requires : goal.compare_branch-requires
compare_branch-requires c = under 0x7E00_0000 0x3400_0000 (0x34 ∷ 0xB4 ∷ []) c.args.word refl refl c.in-52.is

pub compare_branch-requires-in-53 : goal.compare_branch-requires-in-53
compare_branch-requires-in-53 c = under 0x7E00_0000 0x3400_0000 (0x35 ∷ 0xB5 ∷ []) c.args.word refl refl c.in-53.is

pub test_branch-requires : goal.test_branch-requires
test_branch-requires c = under 0x7E00_0000 0x3600_0000 (0x36 ∷ 0xB6 ∷ []) c.args.word refl refl c.in-54.is

pub test_branch-requires-in-55 : goal.test_branch-requires-in-55
test_branch-requires-in-55 c = under 0x7E00_0000 0x3600_0000 (0x37 ∷ 0xB7 ∷ []) c.args.word refl refl c.in-55.is

pub exclusive_or_ordered-requires : goal.exclusive_or_ordered-requires
exclusive_or_ordered-requires c = under 0x3F00_0000 0x0800_0000 (0x08 ∷ 0x48 ∷ 0x88 ∷ 0xC8 ∷ []) c.args.word refl refl c.in-8.is

pub pair-requires : goal.pair-requires
pair-requires c = under 0x3E00_0000 0x2800_0000 (0x28 ∷ 0x68 ∷ 0xA8 ∷ 0xE8 ∷ []) c.args.word refl refl c.in-40.is

pub pair-requires-in-41 : goal.pair-requires-in-41
pair-requires-in-41 c = under 0x3E00_0000 0x2800_0000 (0x29 ∷ 0x69 ∷ 0xA9 ∷ 0xE9 ∷ []) c.args.word refl refl c.in-41.is

pub indexed_or_atomic-requires : goal.indexed_or_atomic-requires
indexed_or_atomic-requires c = under 0x3F00_0000 0x3800_0000 (0x38 ∷ 0x78 ∷ 0xB8 ∷ 0xF8 ∷ []) c.args.word refl refl c.in-56.is

pub add_register-requires : goal.add_register-requires
add_register-requires c = under 0x1F00_0000 0x0B00_0000 (0x0B ∷ 0x2B ∷ 0x4B ∷ 0x6B ∷ 0x8B ∷ 0xAB ∷ 0xCB ∷ 0xEB ∷ []) c.args.word refl refl c.in-11.is

pub select_or_two_source-requires : goal.select_or_two_source-requires
select_or_two_source-requires c = under 0x7F00_0000 0x1A00_0000 (0x1A ∷ 0x9A ∷ []) c.args.word refl refl c.in-26.is

pub select_or_one_source-requires : goal.select_or_one_source-requires
select_or_one_source-requires c = under 0x7F00_0000 0x5A00_0000 (0x5A ∷ 0xDA ∷ []) c.args.word refl refl c.in-90.is

pub carry_or_compare-requires : goal.carry_or_compare-requires
carry_or_compare-requires c = under 0x3F00_0000 0x3A00_0000 (0x3A ∷ 0x7A ∷ 0xBA ∷ 0xFA ∷ []) c.args.word refl refl c.in-58.is

pub three_source_w-requires : goal.three_source_w-requires
three_source_w-requires c = under 0xFF00_0000 0x1B00_0000 (0x1B ∷ []) c.args.word refl refl c.in-27.is

pub three_source_x-requires : goal.three_source_x-requires
three_source_x-requires c = under 0xFF00_0000 0x9B00_0000 (0x9B ∷ []) c.args.word refl refl c.in-155.is

pub duplicate-requires : goal.duplicate-requires
duplicate-requires c = under 0xBF00_0000 0x0E00_0000 (0x0E ∷ 0x4E ∷ []) c.args.word refl refl c.in-14.is

pub load_store-requires : goal.load_store-requires
load_store-requires c = under 0xFF00_0000 0x3D00_0000 (0x3D ∷ []) c.args.word refl refl c.in-61.is

pub pair-requires-in-173 : goal.pair-requires-in-173
pair-requires-in-173 c = under 0xFF00_0000 0xAD00_0000 (0xAD ∷ []) c.args.word refl refl c.in-173.is

pub returns-in-24-clause-row : goal.returns-in-24-clause-row
returns-in-24-clause-row c =
    row_at 0x3F00_0000 0x1800_0000 c.args.word form.LoadLiteral (under 0x3F00_0000 0x1800_0000 (0x18 ∷ 0x58 ∷ 0x98 ∷ 0xD8 ∷ []) c.args.word refl refl c.in-24.is) refl refl c.load_literal.ensures.value

pub returns-in-57-clause-row : goal.returns-in-57-clause-row
returns-in-57-clause-row c =
    row_at 0x3F00_0000 0x3900_0000 c.args.word form.LoadStoreUnsigned (under 0x3F00_0000 0x3900_0000 (0x39 ∷ 0x79 ∷ 0xB9 ∷ 0xF9 ∷ []) c.args.word refl refl c.in-57.is) refl refl c.load_store_unsigned.ensures.value

pub returns-in-10-clause-row : goal.returns-in-10-clause-row
returns-in-10-clause-row c =
    row_at 0x1F00_0000 0x0A00_0000 c.args.word form.LogicalShifted (under 0x1F00_0000 0x0A00_0000 (0x0A ∷ 0x2A ∷ 0x4A ∷ 0x6A ∷ 0x8A ∷ 0xAA ∷ 0xCA ∷ 0xEA ∷ []) c.args.word refl refl c.in-10.is) refl refl c.logical_shifted.ensures.value

-- the first bytes of each arm
abbrev groups : List (List ℕ)
groups =
    (0x10 ∷ 0x30 ∷ 0x50 ∷ 0x70 ∷ 0x90 ∷ 0xB0 ∷ 0xD0 ∷ 0xF0 ∷ [])
    ∷ (0x11 ∷ 0x31 ∷ 0x51 ∷ 0x71 ∷ 0x91 ∷ 0xB1 ∷ 0xD1 ∷ 0xF1 ∷ [])
    ∷ (0x12 ∷ 0x32 ∷ 0x52 ∷ 0x72 ∷ 0x92 ∷ 0xB2 ∷ 0xD2 ∷ 0xF2 ∷ [])
    ∷ (0x13 ∷ 0x33 ∷ 0x53 ∷ 0x73 ∷ 0x93 ∷ 0xB3 ∷ 0xD3 ∷ 0xF3 ∷ [])
    ∷ (0x14 ∷ 0x16 ∷ 0x94 ∷ 0x96 ∷ [])
    ∷ (0x15 ∷ 0x17 ∷ 0x95 ∷ 0x97 ∷ [])
    ∷ (0x34 ∷ 0xB4 ∷ [])
    ∷ (0x35 ∷ 0xB5 ∷ [])
    ∷ (0x36 ∷ 0xB6 ∷ [])
    ∷ (0x37 ∷ 0xB7 ∷ [])
    ∷ (0x54 ∷ [])
    ∷ (0xD4 ∷ [])
    ∷ (0xD5 ∷ [])
    ∷ (0xD6 ∷ [])
    ∷ (0x08 ∷ 0x48 ∷ 0x88 ∷ 0xC8 ∷ [])
    ∷ (0x18 ∷ 0x58 ∷ 0x98 ∷ 0xD8 ∷ [])
    ∷ (0x28 ∷ 0x68 ∷ 0xA8 ∷ 0xE8 ∷ [])
    ∷ (0x29 ∷ 0x69 ∷ 0xA9 ∷ 0xE9 ∷ [])
    ∷ (0x38 ∷ 0x78 ∷ 0xB8 ∷ 0xF8 ∷ [])
    ∷ (0x39 ∷ 0x79 ∷ 0xB9 ∷ 0xF9 ∷ [])
    ∷ (0x0A ∷ 0x2A ∷ 0x4A ∷ 0x6A ∷ 0x8A ∷ 0xAA ∷ 0xCA ∷ 0xEA ∷ [])
    ∷ (0x0B ∷ 0x2B ∷ 0x4B ∷ 0x6B ∷ 0x8B ∷ 0xAB ∷ 0xCB ∷ 0xEB ∷ [])
    ∷ (0x1A ∷ 0x9A ∷ [])
    ∷ (0x5A ∷ 0xDA ∷ [])
    ∷ (0x3A ∷ 0x7A ∷ 0xBA ∷ 0xFA ∷ [])
    ∷ (0x1B ∷ [])
    ∷ (0x9B ∷ [])
    ∷ (0x0E ∷ 0x4E ∷ [])
    ∷ (0x3D ∷ [])
    ∷ (0xAD ∷ [])
    ∷ []

pub returns-in_default-clause-row : goal.returns-in_default-clause-row
returns-in_default-clause-row c = no_row_above groups c.args.word c.ranges.word.fits (search rules) refl
