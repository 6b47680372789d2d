-- The number of a slot and place, and what stands at a chain's number once one changes.
use Rattle.std.proofs.Common.{◌≡◌, ◌≢◌, ℕ, ◌<◌, Bool, true, false, refl, ap, arith, cond}
use Rattle.std.specs.Prelude.{◌==◌}
use Rattle.std.proofs.Math.Path.{fun_ext}
use Rattle.umtx_queue.specs.Waiters.{slot_of, who_at}
use Rattle.umtx_queue.specs.Lines.{Line}
use Rattle.umtx_queue.specs.PiLines.{PiLine}
use Rattle.umtx_queue.specs.Chains.{ChainState}
use Rattle.chains_stand.specs.Chains.{at_chain, at_chains, lines_of, on_line, on_pi, pis_of}
use Rattle.chains_stand.specs.Board.{place_of}
use Rattle.chains_stand.proofs.Lists.{is_other, is_same}

pub place_is : (slot place : ℕ) → place < 256 → place_of (who_at slot place) ≡ place
place_is slot place small = omega arith

-- each number is that of its slot and place
pub number_is : (i : ℕ) → who_at (slot_of i) (place_of i) ≡ i
number_is i = omega arith

-- ---- what stands at a number

pub in_these : {X : Type 0} (among : ℕ → Bool) (f : X → X) (V : ℕ → X) (c : ℕ) → among c ≡ true → at_chains among f V c ≡ f (V c)
in_these among f V c h = ap (λ b. cond b (f (V c)) (V c)) h

pub in_others : {X : Type 0} (among : ℕ → Bool) (f : X → X) (V : ℕ → X) (c : ℕ) → among c ≡ false → at_chains among f V c ≡ V c
in_others among f V c h = ap (λ b. cond b (f (V c)) (V c)) h

pub at_same : {X : Type 0} (d : ℕ) (f : X → X) (V : ℕ → X) (c : ℕ) → c ≡ d → at_chain d f V c ≡ f (V c)
at_same d f V c e = in_these (λ k. k == d) f V c (is_same c d e)

pub at_other : {X : Type 0} (d : ℕ) (f : X → X) (V : ℕ → X) (c : ℕ) → c ≢ d → at_chain d f V c ≡ V c
at_other d f V c ne = in_others (λ k. k == d) f V c (is_other c d ne)

-- ---- the lines of chains of which some have changed

line_by : (b : Bool) (f : Line → Line) (ch : ChainState) → (cond b (on_line f ch) ch).line ≡ cond b (f ch.line) ch.line
line_by true f ch = refl
line_by false f ch = refl

pi_by : (b : Bool) (f : PiLine → PiLine) (ch : ChainState) → (cond b (on_pi f ch) ch).pi ≡ cond b (f ch.pi) ch.pi
pi_by true f ch = refl
pi_by false f ch = refl

pi_stays_by : (b : Bool) (f : Line → Line) (ch : ChainState) → (cond b (on_line f ch) ch).pi ≡ ch.pi
pi_stays_by true f ch = refl
pi_stays_by false f ch = refl

line_stays_by : (b : Bool) (f : PiLine → PiLine) (ch : ChainState) → (cond b (on_pi f ch) ch).line ≡ ch.line
line_stays_by true f ch = refl
line_stays_by false f ch = refl

pub lines_change : (among : ℕ → Bool) (f : Line → Line) (V : ℕ → ChainState) → lines_of (at_chains among (on_line f) V) ≡ at_chains among f (lines_of V)
lines_change among f V = fun_ext (λ c. line_by (among c) f (V c))

pub pis_change : (among : ℕ → Bool) (f : PiLine → PiLine) (V : ℕ → ChainState) → pis_of (at_chains among (on_pi f) V) ≡ at_chains among f (pis_of V)
pis_change among f V = fun_ext (λ c. pi_by (among c) f (V c))

pub pis_stay : (among : ℕ → Bool) (f : Line → Line) (V : ℕ → ChainState) → pis_of (at_chains among (on_line f) V) ≡ pis_of V
pis_stay among f V = fun_ext (λ c. pi_stays_by (among c) f (V c))

pub lines_stay : (among : ℕ → Bool) (f : PiLine → PiLine) (V : ℕ → ChainState) → lines_of (at_chains among (on_pi f) V) ≡ lines_of V
lines_stay among f V = fun_ext (λ c. line_stays_by (among c) f (V c))
