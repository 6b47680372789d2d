-- Runs of a file have no fault exactly where they are the longest ones, of actors, with as many entries as the file claims, up to its end.
use Rattle.std.proofs.Common.{◌≡◌, ℕ, ◌+◌, ◌*◌, ◌≤◌, true, false, eqb, ltb, List, [], ◌∷◌, length, None, refl, arith, inl, inr}
use Rattle.std.specs.Prelude.{IsTrue, not, ◌||◌}
use Rattle.std.specs.List.{flat_map, AllByRecursion}
use Rattle.std.proofs.lemmas.Bool.{cases_Bool, not-false, ltb-false, eqb-true, eqb-false, lt-ltb, le-ltb, eq-eqb, ne_eqb, or_parts}
use Rattle.tape.specs.declared.header.Header.{Header}
use Rattle.tape.specs.declared.front.Front.{Front}
use Rattle.tape.specs.declared.run.Run.{Run}
use Rattle.tape.specs.Entry.{is_actor}
use Rattle.tape.specs.Runs.{entries_of, goes_on, AreLongestAfter}
use Rattle.tape.specs.TapeFault.{past, is_bad_run, run_fault, end_fault, runs_fault}
use Rattle.tape.proofs.Tests.{passes, ends, neither}
use Rattle.tape.proofs.Runs.{length-entries}

pub record IsWhole (size : ℕ) (header : Header) (front : Front) (runs : List Run) : Type 0 where
  pub exact : size ≡ 40 + 13 * (front.runs + length runs)
  pub total : front.entries + length (flat_map entries_of runs) ≡ header.count
  pub longest : AreLongestAfter front.before runs
  pub known : AllByRecursion (λ run. IsTrue (is_actor header.rules run.entry.actor)) runs

-- what a run without a fault is
record IsGood (header : Header) (front : Front) (run : Run) : Type 0 where
  some : 1 ≤ run.length
  next : goes_on front.before run.entry ≡ false
  few : front.entries + run.length ≤ header.count
  known : is_actor header.rules run.entry.actor ≡ true

good_from_none : (header : Header) (front : Front) (run : Run) → run_fault header front run ≡ None → IsGood header front run
unfolding run_fault
good_from_none header front run e =
    let a = passes (is_bad_run header front run) _ _ e in
    let b = passes (not (is_actor header.rules run.entry.actor)) _ _ a.1 in
    let parts = or_parts (eqb run.length 0) (goes_on front.before run.entry || ltb header.count (front.entries + run.length)) a.0 in
    let more = or_parts (goes_on front.before run.entry) (ltb header.count (front.entries + run.length)) parts.1 in
    let no_zero = eqb-false run.length 0 parts.0 in
    record {
      some = omega (arith, no_zero);
      next = more.0;
      few = ltb-false _ _ more.1;
      known = not-false _ b.0;
    }

none_from_good : (header : Header) (front : Front) (run : Run) → IsGood header front run → run_fault header front run ≡ None
unfolding run_fault
none_from_good header front run good =
    let zero_not : eqb run.length 0 ≡ false = ne_eqb run.length 0 (λ (none : run.length ≡ 0). omega (arith, good.some)) in
    let few : ltb header.count (front.entries + run.length) ≡ false = le-ltb header.count (front.entries + run.length) good.few in
    rw (zero_not, good.next, few, good.known) refl

at_end : (size : ℕ) (front : Front) → end_fault size front ≡ None → size ≡ 40 + 13 * front.runs
at_end size front e = eqb-true _ _ (ends (eqb size (40 + 13 * front.runs)) _ e)

pub whole_from_none : (size : ℕ) (header : Header) (front : Front) (runs : List Run) → 40 + 13 * (front.runs + length runs) ≤ size → front.entries ≤ header.count
    → runs_fault size header front runs ≡ None → IsWhole size header front runs
unfolding runs_fault
whole_from_none size header front [] long few e =
    let a = passes (ltb front.entries header.count) _ _ e in
    let reached = ltb-false front.entries header.count a.0 in
    record { exact = omega (arith, at_end size front a.1); total = omega arith; longest = tt; known = tt }
whole_from_none size header front (run ∷ runs) long few e = elim (cases_Bool (ltb front.entries header.count)) [
  | inl less ↦
      let both = neither (run_fault header front run) (runs_fault size header (past front run) runs) (rw less at e) in
      let good = good_from_none header front run both.0 in
      let rest = whole_from_none size header (past front run) runs (omega arith) good.few both.1 in
      record {
        exact = omega (arith, rest.exact);
        total = omega (arith, rest.total, length-entries run runs);
        longest = (good.some, good.next, rest.longest);
        known = (good.known, rest.known);
      }
  | inr reached ↦ absurd (omega (arith, at_end size front (rw reached at e)))
]

pub none_from_whole : (size : ℕ) (header : Header) (front : Front) (runs : List Run) → IsWhole size header front runs → runs_fault size header front runs ≡ None
unfolding runs_fault
none_from_whole size header front [] whole =
    let reached : ltb front.entries header.count ≡ false = le-ltb front.entries header.count (omega (arith, whole.total)) in
    let exact : eqb size (40 + 13 * front.runs) ≡ true = eq-eqb size (40 + 13 * front.runs) (omega (arith, whole.exact)) in
    rw (reached, exact) refl
none_from_whole size header front (run ∷ runs) whole =
    let number = length-entries run runs in
    let some : 1 ≤ run.length = whole.longest.0 in
    let less : ltb front.entries header.count ≡ true = lt-ltb front.entries header.count (omega (arith, whole.total)) in
    let good : IsGood header front run = record { some = some; next = whole.longest.1; few = omega (arith, whole.total); known = whole.known.0 } in
    let rest = none_from_whole size header (past front run) runs (record {
      exact = omega (arith, whole.exact);
      total = omega (arith, whole.total);
      longest = whole.longest.2;
      known = whole.known.1;
    }) in
    rw (less, none_from_good header front run good) rest
