-- What a table makes of flags, from one test of the whole table: no two of its rows give a bit in common.
use Rattle.std.proofs.Common.{◌≡◌, ℕ, min, ◌==◌, ◌∙◌, if◌then◌else◌, Bool, true, false, List, [], ◌∷◌, bit_and, bit_or, refl, sym, ap, arith}
use Rattle.std.specs.Prelude.{◌&&◌}
use Rattle.std.specs.List.{list_all, AllByRecursion}
use Rattle.std.specs.Int.Bits.{and_zero_l, and_self, or_zero_r}
use Rattle.std.proofs.lemmas.Bool.{and_parts, eqb-true}
use Rattle.std.proofs.lemmas.Nat.{and_or_apart, or_comm, and_comm}
use Rattle.std.specs.Int.{bit_at}
use Rattle.std.proofs.lemmas.Nat.Bits.{bit_at_and, bit_at_or, same_from_bits}
use Rattle.std.proofs.lemmas.List.Elements.{All-from_recursion}
use Rattle.bsd_abi.proofs.Bits.{or_assoc}
use Rattle.abi_map.specs.Flags.{open_flag_table, map_flag_table, turned, bit_of, moved_by, given_by, open_flags_in_of, open_flags_out_of, map_flags_in_of, IsMovedBy}

-- what lies within masks lies within them joined
within-joined : (a p b q : ℕ) → bit_and a p ≡ a → bit_and b q ≡ b → bit_and (bit_or a b) (bit_or p q) ≡ bit_or a b
within-joined a p b q a_within b_within = same_from_bits _ _ (λ i.
    let a_bit : min (bit_at a i) (bit_at p i) ≡ bit_at a i = sym (bit_at_and a p i) ∙ ap (λ n. bit_at n i) a_within in
    let b_bit : min (bit_at b i) (bit_at q i) ≡ bit_at b i = sym (bit_at_and b q i) ∙ ap (λ n. bit_at n i) b_within in
    simp (bit_at_and, bit_at_or) (omega arith))

-- whether no row gives a bit of the mask
abbrev pub is_free_of : ℕ → List (ℕ × ℕ) → Bool
is_free_of mask rows = list_all (λ row. bit_and row.1 mask == 0) rows

-- whether no two rows give a bit in common
abbrev pub is_apart : List (ℕ × ℕ) → Bool
is_apart [] = true
is_apart (row ∷ rows) = is_free_of row.1 rows && is_apart rows

-- a mask or none has no bit that the mask lacks
bit-free : (none : Bool) (given mask : ℕ) → bit_and given mask ≡ 0 → bit_and (if none then 0 else given) mask ≡ 0
bit-free true given mask free = and_zero_l mask
bit-free false given mask free = free

-- and each bit of its own
bit-own : (none : Bool) (given : ℕ) → bit_and (if none then 0 else given) given ≡ (if none then 0 else given)
bit-own true given = and_zero_l given
bit-own false given = and_self given

-- a table gives no bit of a mask of which no row gives one
pub moved_by-free : (rows : List (ℕ × ℕ)) (flags mask : ℕ) → is_free_of mask rows ≡ true
    → bit_and (moved_by rows flags) mask ≡ 0
moved_by-free [] flags mask free = and_zero_l mask
moved_by-free (row ∷ rows) flags mask free =
    let parts = and_parts _ _ free in
    and_or_apart mask (bit_of row flags) (moved_by rows flags) (moved_by-free rows flags mask parts.1)
    ∙ bit-free (bit_and flags row.0 == 0) row.1 mask (eqb-true _ _ parts.0)

-- one more mask changes no row that gives no bit of it
named-more : (given : ℕ) (none : Bool) (flags rest : ℕ) (rows : List (ℕ × ℕ)) → is_free_of given rows ≡ true
    → AllByRecursion (λ row. bit_and rest row.1 ≡ bit_of row flags) rows
    → AllByRecursion (λ row. bit_and (bit_or (if none then 0 else given) rest) row.1 ≡ bit_of row flags) rows
named-more given none flags rest [] free named = tt
named-more given none flags rest (row ∷ rows) free named =
    let parts = and_parts _ _ free in
    let apart : bit_and given row.1 ≡ 0 = and_comm given row.1 ∙ eqb-true _ _ parts.0 in
    let moved = if none then 0 else given in (
      ap (λ joined. bit_and joined row.1) (or_comm moved rest)
          ∙ and_or_apart row.1 rest moved (bit-free none given row.1 apart)
          ∙ named.0,
      named-more given none flags rest rows parts.1 named.1,
    )

-- what a table makes of flags has each row's second mask exactly where the flags have its first
named-all : (rows : List (ℕ × ℕ)) (flags : ℕ) → is_apart rows ≡ true
    → AllByRecursion (λ row. bit_and (moved_by rows flags) row.1 ≡ bit_of row flags) rows
named-all [] flags apart = tt
named-all (row ∷ rows) flags apart =
    let parts = and_parts _ _ apart in
    let none = bit_and flags row.0 == 0 in (
      and_or_apart row.1 (bit_of row flags) (moved_by rows flags) (moved_by-free rows flags row.1 parts.0) ∙ bit-own none row.1,
      named-more row.1 none flags (moved_by rows flags) rows parts.0 (named-all rows flags parts.1),
    )

-- and no bit that the table can't give
given-all : (rows : List (ℕ × ℕ)) (flags : ℕ) → bit_and (moved_by rows flags) (given_by rows) ≡ moved_by rows flags
given-all [] flags = refl
given-all (row ∷ rows) flags =
    within-joined (bit_of row flags) row.1 (moved_by rows flags) (given_by rows)
    (bit-own (bit_and flags row.0 == 0) row.1) (given-all rows flags)

-- so it is moved by the table
pub moved_by-moves : (rows : List (ℕ × ℕ)) (flags : ℕ) → is_apart rows ≡ true → IsMovedBy rows flags (moved_by rows flags)
moved_by-moves rows flags apart = record {
  named = All-from_recursion _ rows (named-all rows flags apart);
  no_other = given-all rows flags;
}

-- four masks, joined from the left, are what a table of those four rows makes
pub four_rows : (p q r s : ℕ × ℕ) (flags a b c d : ℕ)
    → a ≡ bit_of p flags → b ≡ bit_of q flags → c ≡ bit_of r flags → d ≡ bit_of s flags
    → bit_or (bit_or (bit_or a b) c) d ≡ moved_by (p ∷ q ∷ r ∷ s ∷ []) flags
four_rows p q r s flags a b c d p_is q_is r_is s_is =
    let joined : bit_or (bit_or (bit_or a b) c) d ≡ bit_or a (bit_or b (bit_or c (bit_or d 0))) = simp (or_assoc, or_zero_r) in
    cc

-- the three tables pass the test
pub open_flags_in-moves : (flags : ℕ) → IsMovedBy open_flag_table flags (open_flags_in_of flags)
unfolding open_flags_in_of
open_flags_in-moves flags = moved_by-moves open_flag_table flags refl

pub open_flags_out-moves : (flags : ℕ) → IsMovedBy (turned open_flag_table) flags (open_flags_out_of flags)
unfolding open_flags_out_of
open_flags_out-moves flags = moved_by-moves (turned open_flag_table) flags refl

pub map_flags_in-moves : (flags : ℕ) → IsMovedBy map_flag_table flags (map_flags_in_of flags)
unfolding map_flags_in_of
map_flags_in-moves flags = moved_by-moves map_flag_table flags refl
