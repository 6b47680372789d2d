-- The entries of a tape, and the rules that it names. This project's own.
use Rattle.std.specs.Prelude.{ℕ, ◌^◌, ◌<◌, ◌≤◌, Bool, ◌==◌, ◌&&◌, ◌||◌, nat_lt, nat_le, if◌then◌else◌, List, ◌∷◌}
use Rattle.places.specs.Places.{bytes_of}
use Rattle.tape.specs.declared.entry.Entry.{Entry}

-- the rules that a tape may name are 1 and 2
pub record IsRules (rules : ℕ) : Type 0 where
  pub first : 1 ≤ rules
  pub last : rules ≤ 2

-- how many slots there are for threads: 32 under rules 1, else 128
abbrev pub slots : ℕ → ℕ
slots rules = if rules == 1 then 32 else 128

-- whether a byte names an actor: a slot, or 253 for the clock, 254 for the drain of standard output, 255 for that of standard error
abbrev pub is_actor : ℕ → ℕ → Bool
is_actor rules actor = nat_lt actor (slots rules) || nat_le 253 actor

-- whether two entries are equal
abbrev pub same_entry : Entry → Entry → Bool
same_entry a b = a.actor == b.actor && a.amount == b.amount

-- the numbers of an entry fit their types, as those of each `Entry` do
pub record FitsEntry (entry : Entry) : Type 0 where
  pub actor_fits : entry.actor < 2 ^ 8
  pub amount_fits : entry.amount < 2 ^ 64

-- the nine bytes of an entry in a file of version 1: its actor, then its amount, little-endian
abbrev pub entry_text : Entry → List ℕ
entry_text entry = entry.actor ∷ bytes_of entry.amount 8
