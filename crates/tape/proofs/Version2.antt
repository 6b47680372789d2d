-- Files of version 2: the text of a tape has no fault, and bytes without a fault are the text of the tape that stands in them.
use Rattle.std.proofs.Common.{◌≡◌, ℕ, zero, suc, ◌+◌, ◌-◌, ◌*◌, ◌/◌, ◌^◌, ◌<◌, ◌≤◌, Bool, true, false, cond, eqb, ltb, List, [], ◌∷◌, ◌++◌, length, map, take, drop, Option, Some, None, refl, sym, ap, ◌∙◌, subst, append_assoc, add-zero, arith, length-append, length-drop}
use Rattle.std.specs.Prelude.{IsTrue, slice_index, nat_eq, ◌||◌}
use Rattle.std.specs.List.{flat_map, range_with_len, AllByRecursion, starts_with}
use Rattle.std.specs.Cmp.Lexicographic.{same_text}
use Rattle.std.specs.Simd.{first_chunks}
use Rattle.std.proofs.lemmas.Bool.{ltb-false, le-ltb, eqb-false, ne_eqb, or_parts}
use Rattle.std.proofs.lemmas.List.{drop_more, drop-drop, take-append-drop, drop_all, get_or_at, length_push, get_or-take, get_or-drop}
use Rattle.std.proofs.lemmas.List.FromFn.{length-map-range_with_len}
use Rattle.std.proofs.lemmas.List.Folds.{flat_map-map}
use Rattle.places.specs.Places.{bytes_of, number_at}
use Rattle.places.proofs.Numbers.{length-bytes_of, number_at-bytes_of, number_at-lt}
use Rattle.tape.specs.declared.entry.Entry.{Entry}
use Rattle.tape.specs.declared.run.Run.{Run}
use Rattle.tape.specs.declared.header.Header.{Header}
use Rattle.tape.specs.declared.fault.TapeFault.{TapeFault}
use Rattle.tape.specs.declared.fault.TapeFault.TheVariants.{Torn, TooLong, BadPages, BadRules, BadRun, BadActor, NoMemory}
use Rattle.tape.specs.declared.front.Front.{Front}
use Rattle.tape.specs.Entry.{is_actor, FitsEntry}
use Rattle.tape.specs.Runs.{run_text, entries_of, runs_of, FitsRun}
use Rattle.tape.specs.TapeText.{magic, tape_text, FitsFile}
use Rattle.tape.specs.TapeFile.{seed_in, pages_in, rules_in, count_in, run_at, runs_in, header_in_2}
use Rattle.tape.specs.TapeFault.{header_fault, run_fault, runs_fault, past, at_start, end_fault, fault_2}
use Rattle.tape.proofs.Tests.{passes, neither, no_fault, no_last, no_either, none_not}
use Rattle.tape.proofs.Places.{IsBytes, number_text-at, number-taken}
use Rattle.tape.proofs.Runs.{runs_stand, runs_longest, one_after, each_run, each_entry, runs_fit, entries_fit_each}
use Rattle.tape.proofs.Judged.{IsWhole, whole_from_none, none_from_whole}

-- ---- the text, read again

length-runs_text : (runs : List Run) → length (flat_map run_text runs) ≡ 13 * length runs
length-runs_text [] = refl
length-runs_text (run ∷ runs) = omega (arith, length-runs_text runs)

pub length-tape_text : (seed pages rules : ℕ) (entries : List Entry) → length (tape_text seed pages rules entries) ≡ 40 + 13 * length (runs_of entries)
unfolding tape_text
length-tape_text seed pages rules entries = omega (arith, length-runs_text (runs_of entries))

seed_in-text : (seed pages rules : ℕ) (entries : List Entry) → seed < 2 ^ 64 → seed_in (tape_text seed pages rules entries) ≡ seed
unfolding seed_in tape_text
seed_in-text seed pages rules entries lt =
    number_at-bytes_of magic (bytes_of pages 8 ++ (bytes_of rules 8 ++ (bytes_of (length entries) 8 ++ flat_map run_text (runs_of entries)))) seed 8 8 refl lt

pages_in-text : (seed pages rules : ℕ) (entries : List Entry) → pages < 2 ^ 64 → pages_in (tape_text seed pages rules entries) ≡ pages
unfolding pages_in tape_text
pages_in-text seed pages rules entries lt =
    number_at-bytes_of (magic ++ bytes_of seed 8) (bytes_of rules 8 ++ (bytes_of (length entries) 8 ++ flat_map run_text (runs_of entries))) pages 16 8 refl lt

rules_in-text : (seed pages rules : ℕ) (entries : List Entry) → rules < 2 ^ 64 → rules_in (tape_text seed pages rules entries) ≡ rules
unfolding rules_in tape_text
rules_in-text seed pages rules entries lt =
    number_at-bytes_of (magic ++ bytes_of seed 8 ++ bytes_of pages 8) (bytes_of (length entries) 8 ++ flat_map run_text (runs_of entries)) rules 24 8 refl lt

count_in-text : (seed pages rules : ℕ) (entries : List Entry) → length entries < 2 ^ 64 → count_in (tape_text seed pages rules entries) ≡ length entries
unfolding count_in tape_text
count_in-text seed pages rules entries lt =
    number_at-bytes_of (magic ++ bytes_of seed 8 ++ bytes_of pages 8 ++ bytes_of rules 8) (flat_map run_text (runs_of entries)) (length entries) 32 8 refl lt

pub header_in_2-text : (seed pages rules : ℕ) (entries : List Entry) → FitsFile seed pages rules entries
    → header_in_2 (tape_text seed pages rules entries) ≡ record { seed = seed; pages = pages; rules = rules; count = length entries }
header_in_2-text seed pages rules entries fits =
    let its_seed = seed_in-text seed pages rules entries fits.seed_fits in
    let its_pages = pages_in-text seed pages rules entries (omega (arith, fits.allowed.few_pages)) in
    let its_rules = rules_in-text seed pages rules entries (omega (arith, fits.allowed.known_rules.last)) in
    let its_count = count_in-text seed pages rules entries (omega (arith, fits.allowed.few_entries)) in
    λ i. record { seed = its_seed i; pages = its_pages i; rules = its_rules i; count = its_count i }

-- a run among other bytes
run_at-text : (front : List ℕ) (run : Run) (rest : List ℕ) (at : ℕ) → length front ≡ at → FitsRun run → run_at (front ++ (run_text run ++ rest)) at ≡ run
run_at-text front run rest at len fits =
    let first = run.entry.actor in
    let count = bytes_of run.length 4 in
    let number = bytes_of run.entry.amount 8 in
    let actor : slice_index (front ++ (run_text run ++ rest)) at ≡ first = get_or_at front first ((count ++ number) ++ rest) 0 at len in
    let next : length (front ++ first ∷ []) ≡ at + 1 = omega (arith, length_push front first) in
    let later : length ((front ++ first ∷ []) ++ count) ≡ at + 5 = omega (arith, length-append (front ++ first ∷ []) count, length-bytes_of run.length 4) in
    let behind_actor : (front ++ first ∷ []) ++ (count ++ (number ++ rest)) ≡ front ++ (run_text run ++ rest) =
    append_assoc front (first ∷ []) (count ++ (number ++ rest)) in
    let behind_length : ((front ++ first ∷ []) ++ count) ++ (number ++ rest) ≡ front ++ (run_text run ++ rest) =
    append_assoc (front ++ first ∷ []) count (number ++ rest) ∙ behind_actor in
    let its_length : number_at (front ++ (run_text run ++ rest)) (at + 1) 4 ≡ run.length =
    subst (λ (bytes : List ℕ). number_at bytes (at + 1) 4 ≡ run.length) behind_actor (number_at-bytes_of (front ++ first ∷ []) (number ++ rest) run.length (at + 1) 4 next fits.length_fits) in
    let amount : number_at (front ++ (run_text run ++ rest)) (at + 5) 8 ≡ run.entry.amount =
    subst (λ (bytes : List ℕ). number_at bytes (at + 5) 8 ≡ run.entry.amount) behind_length (number_at-bytes_of ((front ++ first ∷ []) ++ count) rest run.entry.amount (at + 5) 8 later fits.entry_fits.amount_fits) in
    λ i. record { entry = record { actor = actor i; amount = amount i }; length = its_length i }

-- the runs behind other bytes
runs_at-text : (front : List ℕ) (runs : List Run) (first : ℕ) → length front ≡ 40 + 13 * first → AllByRecursion FitsRun runs
    → map (λ i. run_at (front ++ flat_map run_text runs) (40 + 13 * i)) (range_with_len first (length runs)) ≡ runs
runs_at-text front [] first len fits = refl
runs_at-text front (run ∷ runs) first len fits =
    let rest = flat_map run_text runs in
    let head : run_at (front ++ (run_text run ++ rest)) (40 + 13 * first) ≡ run = run_at-text front run rest (40 + 13 * first) len fits.0 in
    let longer : length (front ++ run_text run) ≡ 40 + 13 * (first + 1) = omega (arith, length-append front (run_text run)) in
    let tail : map (λ i. run_at (front ++ (run_text run ++ rest)) (40 + 13 * i)) (range_with_len (first + 1) (length runs)) ≡ runs =
    subst (λ (bytes : List ℕ). map (λ i. run_at bytes (40 + 13 * i)) (range_with_len (first + 1) (length runs)) ≡ runs)
    (append_assoc front (run_text run) rest) (runs_at-text (front ++ run_text run) runs (first + 1) longer fits.1) in
    λ i. head i ∷ tail i

pub runs_in-text : (seed pages rules : ℕ) (entries : List Entry) → FitsFile seed pages rules entries → runs_in (tape_text seed pages rules entries) ≡ runs_of entries
unfolding runs_in tape_text
runs_in-text seed pages rules entries fits =
    let number : (length (tape_text seed pages rules entries) - 40) / 13 ≡ length (runs_of entries) = omega (arith, length-tape_text seed pages rules entries) in
    rw number
    (runs_at-text (magic ++ bytes_of seed 8 ++ bytes_of pages 8 ++ bytes_of rules 8 ++ bytes_of (length entries) 8) (runs_of entries) 0 refl (runs_fit entries fits.entries_fit (omega (arith, fits.allowed.few_entries))))

header_fault-text : (seed pages rules : ℕ) (entries : List Entry) → FitsFile seed pages rules entries → header_fault (tape_text seed pages rules entries) ≡ None
unfolding header_fault
header_fault-text seed pages rules entries fits =
    let whole = length-tape_text seed pages rules entries in
    let long : ltb (length (tape_text seed pages rules entries)) 40 ≡ false = le-ltb _ 40 (omega arith) in
    let some : eqb pages 0 ≡ false = ne_eqb pages 0 (λ (none : pages ≡ 0). omega (arith, fits.allowed.some_pages)) in
    let few : ltb 65536 pages ≡ false = le-ltb 65536 pages fits.allowed.few_pages in
    let some_rules : eqb rules 0 ≡ false = ne_eqb rules 0 (λ (none : rules ≡ 0). omega (arith, fits.allowed.known_rules.first)) in
    let few_rules : ltb 2 rules ≡ false = le-ltb 2 rules fits.allowed.known_rules.last in
    let few_entries : ltb 20000000 (length entries) ≡ false = le-ltb 20000000 (length entries) fits.allowed.few_entries in
    rw (
      long,
      pages_in-text seed pages rules entries (omega (arith, fits.allowed.few_pages)),
      some,
      few,
      rules_in-text seed pages rules entries (omega (arith, fits.allowed.known_rules.last)),
      some_rules,
      few_rules,
      count_in-text seed pages rules entries (omega (arith, fits.allowed.few_entries)),
      few_entries,
    ) refl

pub fault_2-text : (seed pages rules : ℕ) (entries : List Entry) → FitsFile seed pages rules entries → fault_2 (tape_text seed pages rules entries) ≡ None
unfolding fault_2
fault_2-text seed pages rules entries fits =
    let header : Header = record { seed = seed; pages = pages; rules = rules; count = length entries } in
    let longest = runs_longest entries in
    let stand = runs_stand entries in
    let whole : IsWhole (length (tape_text seed pages rules entries)) header at_start (runs_of entries) = record {
      exact = omega (arith, length-tape_text seed pages rules entries);
      total = omega (arith, ap length stand);
      longest = longest;
      known = each_run (λ entry. IsTrue (is_actor rules entry.actor)) None (runs_of entries) longest (rw stand fits.allowed.known_actors);
    } in
    rw (header_fault-text seed pages rules entries fits, header_in_2-text seed pages rules entries fits, runs_in-text seed pages rules entries fits)
    (none_from_whole (length (tape_text seed pages rules entries)) header at_start (runs_of entries) whole)

-- ---- bytes without a fault

-- what a header without a fault says
pub record IsHeader (bytes : List ℕ) : Type 0 where
  pub long : 40 ≤ length bytes
  pub some_pages : 1 ≤ pages_in bytes
  pub few_pages : pages_in bytes ≤ 65536
  pub some_rules : 1 ≤ rules_in bytes
  pub few_rules : rules_in bytes ≤ 2
  pub few_entries : count_in bytes ≤ 20000000

header_from_none : (bytes : List ℕ) → header_fault bytes ≡ None → IsHeader bytes
unfolding header_fault
header_from_none bytes e =
    let a = passes (ltb (length bytes) 40) _ _ e in
    let b = passes (eqb (pages_in bytes) 0 || ltb 65536 (pages_in bytes)) _ _ a.1 in
    let c = passes (eqb (rules_in bytes) 0 || ltb 2 (rules_in bytes)) _ _ b.1 in
    let d = passes (ltb 20000000 (count_in bytes)) _ _ c.1 in
    let range = or_parts (eqb (pages_in bytes) 0) (ltb 65536 (pages_in bytes)) b.0 in
    let rules = or_parts (eqb (rules_in bytes) 0) (ltb 2 (rules_in bytes)) c.0 in
    let no_pages = eqb-false (pages_in bytes) 0 range.0 in
    let no_rules = eqb-false (rules_in bytes) 0 rules.0 in
    record {
      long = ltb-false (length bytes) 40 a.0;
      some_pages = omega (arith, no_pages);
      few_pages = ltb-false 65536 (pages_in bytes) range.1;
      some_rules = omega (arith, no_rules);
      few_rules = ltb-false 2 (rules_in bytes) rules.1;
      few_entries = ltb-false 20000000 (count_in bytes) d.0;
    }

pub length-runs_in : (bytes : List ℕ) → length (runs_in bytes) ≡ (length bytes - 40) / 13
unfolding runs_in
length-runs_in bytes = length-map-range_with_len (λ i. run_at bytes (40 + 13 * i)) 0 ((length bytes - 40) / 13)

-- what a file without a fault is
pub record IsFile (bytes : List ℕ) : Type 0 where
  pub header : IsHeader bytes
  pub whole : IsWhole (length bytes) (header_in_2 bytes) at_start (runs_in bytes)

pub file_from_none : (bytes : List ℕ) → fault_2 bytes ≡ None → IsFile bytes
unfolding fault_2
file_from_none bytes e =
    let none = neither (header_fault bytes) (runs_fault (length bytes) (header_in_2 bytes) at_start (runs_in bytes)) e in
    let header = header_from_none bytes none.0 in
    let number = length-runs_in bytes in
    let long : 40 + 13 * (0 + length (runs_in bytes)) ≤ length bytes = omega (arith, header.long) in
    record { header = header; whole = whole_from_none (length bytes) (header_in_2 bytes) at_start (runs_in bytes) long (omega arith) none.1 }

-- the thirteen bytes of a run, in front of the bytes after it
run_text-at : (bytes : List ℕ) (at next : ℕ) → at + 13 ≡ next → next ≤ length bytes → IsBytes bytes → run_text (run_at bytes at) ++ drop next bytes ≡ drop at bytes
run_text-at bytes at next e long fits =
    let run = run_at bytes at in
    let amount = number_text-at bytes (at + 5) 8 next (omega arith) long fits in
    let number = number_text-at bytes (at + 1) 4 (at + 5) (omega arith) (omega arith) fits in
    let numbers : (bytes_of run.length 4 ++ bytes_of run.entry.amount 8) ++ drop next bytes ≡ drop (at + 1) bytes =
    append_assoc (bytes_of run.length 4) (bytes_of run.entry.amount 8) (drop next bytes) ∙ ap (λ (rest : List ℕ). bytes_of run.length 4 ++ rest) amount ∙ number in
    ap (λ (rest : List ℕ). slice_index bytes at ∷ rest) numbers ∙ sym (drop_more bytes at 0 (omega arith))

runs_text-at : (bytes : List ℕ) (count first : ℕ) → 40 + 13 * (first + count) ≡ length bytes → IsBytes bytes
    → flat_map run_text (map (λ i. run_at bytes (40 + 13 * i)) (range_with_len first count)) ≡ drop (40 + 13 * first) bytes
runs_text-at bytes zero first exact fits = sym (drop_all (40 + 13 * first) bytes (omega arith))
runs_text-at bytes (suc count) first exact fits =
    ap (λ (rest : List ℕ). run_text (run_at bytes (40 + 13 * first)) ++ rest) (runs_text-at bytes count (first + 1) (omega arith) fits)
    ∙ run_text-at bytes (40 + 13 * first) (40 + 13 * (first + 1)) (omega arith) (omega arith) fits

runs_text : (bytes : List ℕ) → IsFile bytes → IsBytes bytes → flat_map run_text (runs_in bytes) ≡ drop 40 bytes
unfolding runs_in
runs_text bytes file fits = runs_text-at bytes ((length bytes - 40) / 13) 0 (omega (arith, file.whole.exact, length-runs_in bytes)) fits

entries_text : (bytes : List ℕ) → IsFile bytes → IsBytes bytes → flat_map run_text (runs_of (flat_map entries_of (runs_in bytes))) ≡ drop 40 bytes
entries_text bytes file fits = ap (flat_map run_text) (one_after None (runs_in bytes) file.whole.longest) ∙ runs_text bytes file fits

-- the eight bytes of the count
count_text : (bytes : List ℕ) → IsFile bytes → IsBytes bytes → bytes_of (length (flat_map entries_of (runs_in bytes))) 8 ++ drop 40 bytes ≡ drop 32 bytes
unfolding count_in
count_text bytes file fits =
    let total : length (flat_map entries_of (runs_in bytes)) ≡ number_at bytes 32 8 = omega (arith, file.whole.total) in
    ap (λ (n : ℕ). bytes_of n 8 ++ drop 40 bytes) total ∙ number_text-at bytes 32 8 40 refl file.header.long fits

is_spelled : (bytes : List ℕ) → magic ≡ take 8 bytes → IsFile bytes → IsBytes bytes
    → bytes ≡ tape_text (seed_in bytes) (pages_in bytes) (rules_in bytes) (flat_map entries_of (runs_in bytes))
unfolding tape_text seed_in pages_in rules_in
is_spelled bytes begins file fits =
    let long : 40 ≤ length bytes = file.header.long in
    let entries = flat_map entries_of (runs_in bytes) in
    let count : bytes_of (length entries) 8 ++ flat_map run_text (runs_of entries) ≡ drop 32 bytes =
    ap (λ (rest : List ℕ). bytes_of (length entries) 8 ++ rest) (entries_text bytes file fits) ∙ count_text bytes file fits in
    let rules = ap (λ (rest : List ℕ). bytes_of (number_at bytes 24 8) 8 ++ rest) count ∙ number_text-at bytes 24 8 32 refl (omega arith) fits in
    let pages = ap (λ (rest : List ℕ). bytes_of (number_at bytes 16 8) 8 ++ rest) rules ∙ number_text-at bytes 16 8 24 refl (omega arith) fits in
    let seed = ap (λ (rest : List ℕ). bytes_of (number_at bytes 8 8) 8 ++ rest) pages ∙ number_text-at bytes 8 8 16 refl (omega arith) fits in
    sym (ap (λ (rest : List ℕ). magic ++ rest) seed ∙ ap (λ (front : List ℕ). front ++ drop 8 bytes) begins ∙ take-append-drop 8 bytes)

run_fits : (bytes : List ℕ) (at : ℕ) → IsBytes bytes → FitsRun (run_at bytes at)
run_fits bytes at fits = record {
  entry_fits = record { actor_fits = fits at; amount_fits = number_at-lt bytes (at + 5) 8 fits };
  length_fits = number_at-lt bytes (at + 1) 4 fits;
}

runs_fit-in : (bytes : List ℕ) (count first : ℕ) → IsBytes bytes → AllByRecursion FitsRun (map (λ i. run_at bytes (40 + 13 * i)) (range_with_len first count))
runs_fit-in bytes zero first fits = tt
runs_fit-in bytes (suc count) first fits = (run_fits bytes (40 + 13 * first) fits, runs_fit-in bytes count (first + 1) fits)

entries_fit : (bytes : List ℕ) → IsBytes bytes → AllByRecursion FitsEntry (flat_map entries_of (runs_in bytes))
unfolding runs_in
entries_fit bytes fits = entries_fit_each (runs_in bytes) (runs_fit-in bytes ((length bytes - 40) / 13) 0 fits)

fits_from_file : (bytes : List ℕ) → IsFile bytes → IsBytes bytes → FitsFile (seed_in bytes) (pages_in bytes) (rules_in bytes) (flat_map entries_of (runs_in bytes))
unfolding seed_in
fits_from_file bytes file fits = record {
  allowed = record {
    some_pages = file.header.some_pages;
    few_pages = file.header.few_pages;
    known_rules = record { first = file.header.some_rules; last = file.header.few_rules };
    few_entries = omega (arith, file.whole.total, file.header.few_entries);
    known_actors = each_entry (λ entry. IsTrue (is_actor (rules_in bytes) entry.actor)) (runs_in bytes) file.whole.known;
  };
  seed_fits = number_at-lt bytes 8 8 fits;
  entries_fit = entries_fit bytes fits;
}

pub spelled_2 : (bytes : List ℕ) → IsBytes bytes → starts_with nat_eq bytes magic ≡ true → fault_2 bytes ≡ None
    → FitsFile (seed_in bytes) (pages_in bytes) (rules_in bytes) (flat_map entries_of (runs_in bytes))
    × (bytes ≡ tape_text (seed_in bytes) (pages_in bytes) (rules_in bytes) (flat_map entries_of (runs_in bytes)))
spelled_2 bytes fits begins e =
    let file = file_from_none bytes e in
    (fits_from_file bytes file fits, is_spelled bytes (same_text magic (take 8 bytes) (sym begins)) file fits)

pub long_2 : (bytes : List ℕ) → fault_2 bytes ≡ None → 40 ≤ length bytes
long_2 bytes e = (file_from_none bytes e).header.long

pub total_2 : (bytes : List ℕ) → fault_2 bytes ≡ None → length (flat_map entries_of (runs_in bytes)) ≡ count_in bytes
total_2 bytes e = omega (arith, (file_from_none bytes e).whole.total)

-- ---- no fault is want of memory

header_fault-other : (bytes : List ℕ) → header_fault bytes ≡ Some NoMemory → ⊥
unfolding header_fault
header_fault-other bytes =
    let torn : Torn (length bytes) ≡ NoMemory → ⊥ = λ e. cc in
    let many : TooLong (count_in bytes) ≡ NoMemory → ⊥ = λ e. cc in
    let pages : BadPages (pages_in bytes) ≡ NoMemory → ⊥ = λ e. cc in
    let rules : BadRules (rules_in bytes) ≡ NoMemory → ⊥ = λ e. cc in
    no_fault _ _ _ _ torn (no_fault _ _ _ _ pages (no_fault _ _ _ _ rules (no_fault _ _ _ _ many (none_not NoMemory))))

run_fault-other : (header : Header) (front : Front) (run : Run) → run_fault header front run ≡ Some NoMemory → ⊥
unfolding run_fault
run_fault-other header front run =
    let bad_run : BadRun front.runs ≡ NoMemory → ⊥ = λ e. cc in
    let actor : BadActor front.entries ≡ NoMemory → ⊥ = λ e. cc in
    no_fault _ _ _ _ bad_run (no_fault _ _ _ _ actor (none_not NoMemory))

end_fault-other : (size : ℕ) (front : Front) → end_fault size front ≡ Some NoMemory → ⊥
end_fault-other size front =
    let torn : Torn size ≡ NoMemory → ⊥ = λ e. cc in
    no_last (eqb size (40 + 13 * front.runs)) (Torn size) NoMemory torn

chosen : (b : Bool) (first second : Option TapeFault) → (first ≡ Some NoMemory → ⊥) → (second ≡ Some NoMemory → ⊥) → cond b first second ≡ Some NoMemory → ⊥
chosen true first second differs second_differs e = differs e
chosen false first second differs second_differs e = second_differs e

runs_fault-other : (size : ℕ) (header : Header) (front : Front) (runs : List Run) → runs_fault size header front runs ≡ Some NoMemory → ⊥
unfolding runs_fault
runs_fault-other size header front [] =
    let torn : Torn size ≡ NoMemory → ⊥ = λ e. cc in
    no_fault _ _ _ _ torn (end_fault-other size front)
runs_fault-other size header front (run ∷ runs) =
    chosen _ _ _ (no_either (run_fault header front run) (runs_fault size header (past front run) runs) NoMemory (run_fault-other header front run) (runs_fault-other size header (past front run) runs)) (end_fault-other size front)

pub fault_2-other : (bytes : List ℕ) → fault_2 bytes ≡ Some NoMemory → ⊥
unfolding fault_2
fault_2-other bytes = no_either _ _ NoMemory (header_fault-other bytes) (runs_fault-other (length bytes) (header_in_2 bytes) at_start (runs_in bytes))

-- ---- the bytes of each run

-- a run by itself, and where it stands
run_at-take : (bytes : List ℕ) (at : ℕ) → run_at (take 13 (drop at bytes)) 0 ≡ run_at bytes at
run_at-take bytes at =
    let actor : slice_index (take 13 (drop at bytes)) 0 ≡ slice_index bytes at = get_or-take 13 (drop at bytes) 0 0 (omega arith) ∙ get_or-drop at bytes 0 0 ∙ ap (slice_index bytes) (add-zero at) in
    let its_length : number_at (take 13 (drop at bytes)) 1 4 ≡ number_at bytes (at + 1) 4 = number-taken bytes at 1 4 12 (omega arith) in
    let amount : number_at (take 13 (drop at bytes)) 5 8 ≡ number_at bytes (at + 5) 8 = number-taken bytes at 5 8 8 (omega arith) in
    λ i. record { entry = record { actor = actor i; amount = amount i }; length = its_length i }

runs_at-chunks : (bytes : List ℕ) (count first : ℕ) → map (λ bytes. run_at bytes 0) (first_chunks 13 count (drop (40 + 13 * first) bytes)) ≡ map (λ i. run_at bytes (40 + 13 * i)) (range_with_len first count)
runs_at-chunks bytes zero first = refl
runs_at-chunks bytes (suc count) first =
    let next : 40 + 13 * first + 13 ≡ 40 + 13 * (first + 1) = omega arith in
    let rest : drop 13 (drop (40 + 13 * first) bytes) ≡ drop (40 + 13 * (first + 1)) bytes = drop-drop 13 (40 + 13 * first) bytes ∙ ap (λ (n : ℕ). drop n bytes) next in
    let head = run_at-take bytes (40 + 13 * first) in
    let tail = ap (λ (part : List ℕ). map (λ bytes. run_at bytes 0) (first_chunks 13 count part)) rest ∙ runs_at-chunks bytes count (first + 1) in
    λ i. head i ∷ tail i

pub runs_in-chunks : (bytes : List ℕ) (records : List (List ℕ)) → records ≡ first_chunks 13 (length (drop 40 bytes) / 13) (drop 40 bytes) → map (λ bytes. run_at bytes 0) records ≡ runs_in bytes
unfolding runs_in
runs_in-chunks bytes records e =
    let count : length (drop 40 bytes) / 13 ≡ (length bytes - 40) / 13 = ap (λ (n : ℕ). n / 13) (length-drop 40 bytes) in
    rw (e, count) (runs_at-chunks bytes ((length bytes - 40) / 13) 0)

-- the bytes of a run, in front of others
pub written_more : (old new whole : List ℕ) (run : Run) (runs rest : List Run) → old ++ flat_map run_text rest ≡ whole → rest ≡ run ∷ runs → new ≡ old ++ run_text run → new ++ flat_map run_text runs ≡ whole
written_more old new whole run runs rest is first more =
    ap (λ (text : List ℕ). text ++ flat_map run_text runs) more ∙ append_assoc old (run_text run) (flat_map run_text runs) ∙ ap (λ (left : List Run). old ++ flat_map run_text left) (sym first) ∙ is

-- the entries of the runs, from their bytes
pub entries-records : (bytes : List ℕ) (records : List (List ℕ)) → map (λ bytes. run_at bytes 0) records ≡ runs_in bytes
    → flat_map (λ bytes. entries_of (run_at bytes 0)) records ≡ flat_map entries_of (runs_in bytes)
entries-records bytes records e = sym (flat_map-map entries_of (λ bytes. run_at bytes 0) records) ∙ ap (flat_map entries_of) e
