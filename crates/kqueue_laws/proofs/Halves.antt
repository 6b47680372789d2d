-- The events of an open file are those that its two filters tell of.
use Rattle.std.proofs.Common.{◌≡◌, ℕ, ◌+◌, ◌-◌, ◌*◌, ◌/◌, ◌%◌, ◌^◌, Bool, true, false, not, ◌||◌, refl, sym, ap, ap₂, ◌∙◌, arith}
use Rattle.std.specs.Prelude.{◌==◌, nat_lt, bit_and, bit_or}
use Rattle.std.proofs.lemmas.Nat.{or_disjoint, and_comm, or_comm, shr_split, and_block, and_le_l, or_shifted}
use Rattle.ready_bits.specs.Ready.{if_so, has_space, input_events, read_end_events, write_end_events, console_events, counter_events}

-- how the events r show in the halves, for what is wanted
pub record Halved (r w : ℕ) : Type 0 where
  pub bits : bit_or (bit_and (bit_and r 17) w) (bit_and (bit_and r 12) w) ≡ bit_and r w
  pub some : (not (bit_and (bit_and r 17) w == 0) || not (bit_and (bit_and r 12) w == 0)) ≡ not (bit_and r w == 0)

or_zero : (n : ℕ) → bit_or n 0 ≡ n
or_zero n = or_disjoint n 0 (and_comm n 0) ∙ omega arith

zero_or : (n : ℕ) → bit_or 0 n ≡ n
zero_or n = or_comm 0 n ∙ or_zero n

or_false : (b : Bool) → (b || false) ≡ b
or_false true = refl
or_false false = refl

-- what can be both read and written
record Both (w : ℕ) : Type 0 where
  one : bit_and 1 w ≡ bit_and 1 (w % 2 ^ 2)
  four : bit_and 4 w ≡ bit_and 1 (w / 2 ^ 2) * 2 ^ 2
  five : bit_and 5 w ≡ bit_and 1 (w / 2 ^ 2) * 2 ^ 2 + bit_and 1 (w % 2 ^ 2)

both_of : (w : ℕ) → Both w
both_of w =
    let split = shr_split w 2 in
    let one = and_block 2 0 (w / 2 ^ 2) 1 (w % 2 ^ 2) (omega arith) (omega arith) in
    let four = and_block 2 1 (w / 2 ^ 2) 0 (w % 2 ^ 2) (omega arith) (omega arith) in
    let all = and_block 2 1 (w / 2 ^ 2) 1 (w % 2 ^ 2) (omega arith) (omega arith) in
    record {
      one = ap (bit_and 1) (sym split) ∙ one ∙ omega arith;
      four = ap (bit_and 4) (sym split) ∙ four ∙ omega arith;
      five = ap (bit_and 5) (sym split) ∙ all;
    }

five : (w : ℕ) → bit_or (bit_and 1 w) (bit_and 4 w) ≡ bit_and 5 w
five w =
    let b = both_of w in
    let low = and_le_l 1 (w % 2 ^ 2) in
    let joined = or_shifted (bit_and 1 (w / 2 ^ 2)) 2 (bit_and 1 (w % 2 ^ 2)) (omega arith) in
    ap₂ bit_or b.one b.four ∙ or_comm (bit_and 1 (w % 2 ^ 2)) (bit_and 1 (w / 2 ^ 2) * 2 ^ 2) ∙ joined ∙ sym b.five

sum_some : (x y n : ℕ) → n ≡ x + y → (not (x == 0) || not (y == 0)) ≡ not (n == 0)
sum_some x y n e = grind arith

five_some : (w : ℕ) → (not (bit_and 1 w == 0) || not (bit_and 4 w == 0)) ≡ not (bit_and 5 w == 0)
five_some w = let b = both_of w in let x = b.one in let y = b.four in let z = b.five in sum_some (bit_and 1 w) (bit_and 4 w) (bit_and 5 w) (omega arith)

reads : (b h : Bool) (w : ℕ) → Halved (if_so b 1 + if_so h 16) w
reads true true w = record { bits = or_zero (bit_and 17 w); some = or_false _ }
reads true false w = record { bits = or_zero (bit_and 1 w); some = or_false _ }
reads false true w = record { bits = or_zero (bit_and 16 w); some = or_false _ }
reads false false w = record { bits = or_zero (bit_and 0 w); some = or_false _ }

writes : (b h : Bool) (w : ℕ) → Halved (if_so b 4 + if_so h 8) w
writes true true w = record { bits = zero_or (bit_and 12 w); some = refl }
writes true false w = record { bits = zero_or (bit_and 4 w); some = refl }
writes false true w = record { bits = zero_or (bit_and 8 w); some = refl }
writes false false w = record { bits = zero_or (bit_and 0 w); some = refl }

counts : (b h : Bool) (w : ℕ) → Halved (if_so b 1 + if_so h 4) w
counts true true w = record { bits = five w; some = five_some w }
counts true false w = record { bits = or_zero (bit_and 1 w); some = or_false _ }
counts false true w = record { bits = zero_or (bit_and 4 w); some = refl }
counts false false w = record { bits = or_zero (bit_and 0 w); some = refl }

consoles : (b : Bool) (w : ℕ) → Halved (if_so b 4) w
consoles true w = record { bits = zero_or (bit_and 4 w); some = refl }
consoles false w = record { bits = zero_or (bit_and 0 w); some = refl }

-- each kind of open file

pub input_halved : (left w : ℕ) → Halved (input_events left) w
input_halved left w = reads (nat_lt 0 left) true w

pub read_end_halved : (held : ℕ) (has_writer : Bool) (w : ℕ) → Halved (read_end_events held has_writer) w
read_end_halved held has_writer w = reads (nat_lt 0 held) (not has_writer) w

pub write_end_halved : (held : ℕ) (has_reader : Bool) (w : ℕ) → Halved (write_end_events held has_reader) w
write_end_halved held has_reader w = writes (has_space held) (not has_reader) w

pub console_halved : (held w : ℕ) → Halved (console_events held) w
console_halved held w = consoles (has_space held) w

pub counter_halved : (value w : ℕ) → Halved (counter_events value) w
counter_halved value w = counts (nat_lt 0 value) (nat_lt value (2 ^ 64 - 2)) w

pub none_halved : (w : ℕ) → Halved 0 w
none_halved w = record { bits = refl; some = refl }
