-- What a scan reports and leaves.
use Rattle.std.proofs.Common.{◌≡◌, ℕ, zero, suc, ◌+◌, ◌<◌, ◌≤◌, Bool, true, not, ◌&&◌, List, [], ◌∷◌, map, take, length, refl, sym, ap, arith}
use Rattle.std.specs.Prelude.{◌==◌, filter}
use Rattle.std.specs.List.{list_any}
use Rattle.std.proofs.lemmas.List.{take_all}
use Rattle.std.proofs.lemmas.Grind.{common_steps}
use Rattle.kqueue_core.specs.declared.knotes.Filter.{Filter}
use Rattle.kqueue_core.specs.declared.knotes.Watch.{Watch}
use Rattle.kqueue_core.specs.Watches.{is_of, told_watch}
use Rattle.kqueue_core.specs.Changes.{tally}
use Rattle.kqueue_core.specs.Reports.{is_reported, without_first, reports, scanned}
use Rattle.kqueue_core.proofs.Reporting.{split_first, few_first}
use Rattle.kqueue_core.proofs.Tallies.{tally-append, tally-map, none_tally, some_tally}
use Rattle.kqueue_laws.proofs.Changes.{eq_self}

module _ {X : Type 0} (p : X → Bool) where
  all_first : (most : ℕ) (xs : List X) → tally (λ x. not (p x)) (take most (filter p xs)) ≡ 0
  all_first zero [] = refl
  all_first zero (x ∷ xs) = let a = all_first zero xs in grind (arith, common_steps)
  all_first (suc most) [] = refl
  all_first (suc most) (x ∷ xs) = let a = all_first most xs in let b = all_first (suc most) xs in grind (arith, common_steps)

  none_behind : (most : ℕ) (xs : List X) → length (take most (filter p xs)) < most → tally p (without_first p most xs) ≡ 0
  none_behind zero xs h = absurd (omega arith)
  none_behind (suc most) [] h = refl
  none_behind (suc most) (x ∷ xs) h = let a = none_behind most xs in let b = none_behind (suc most) xs in grind (arith, common_steps)

  some_first : (most : ℕ) (xs : List X) → 1 ≤ most → 1 ≤ tally p xs → 1 ≤ length (take most (filter p xs))
  some_first zero xs m h = absurd (omega arith)
  some_first (suc most) [] m h = h
  some_first (suc most) (x ∷ xs) m h = let b = some_first (suc most) xs m in grind (arith, common_steps)

  length_filter : (xs : List X) → length (filter p xs) ≤ length xs
  length_filter [] = omega arith
  length_filter (x ∷ xs) = let a = length_filter xs in grind (arith, common_steps)

module _ (R : ℕ → Filter → ℕ) where
  -- what passes a test is split in what is reported and the others
  pub split_scan : (q : Watch → Bool) (most : ℕ) (ws : List Watch) → tally q (without_first (is_reported R) most ws) + tally q (reports R most ws) ≡ tally q ws
  split_scan q most ws = split_first (is_reported R) q most ws

  pub few : (most : ℕ) (ws : List Watch) → length (reports R most ws) ≤ most
  few most ws = few_first (is_reported R) most ws

  pub all_reported : (most : ℕ) (ws : List Watch) → tally (λ w. not (is_reported R w)) (reports R most ws) ≡ 0
  all_reported most ws = all_first (is_reported R) most ws

  -- where fewer than `most` are reported, none of the others would be
  pub none_left : (most : ℕ) (ws : List Watch) → length (reports R most ws) < most → tally (is_reported R) (without_first (is_reported R) most ws) ≡ 0
  none_left most ws h = none_behind (is_reported R) most ws h

  pub some_reported : (most : ℕ) (ws : List Watch) → 1 ≤ most → 1 ≤ tally (is_reported R) ws → 1 ≤ length (reports R most ws)
  some_reported most ws m h = some_first (is_reported R) most ws m h

  -- a scan without a bound reports all that are reported, and one with a bound the first of these
  pub all_reports : (more : ℕ) (ws : List Watch) → length ws ≤ more → reports R more ws ≡ filter (is_reported R) ws
  all_reports more ws h = let l = length_filter (is_reported R) ws in take_all more (filter (is_reported R) ws) (omega arith)

  pub first_reports : (most more : ℕ) (ws : List Watch) → length ws ≤ more → reports R most ws ≡ take most (reports R more ws)
  first_reports most more ws h = ap (take most) (sym (all_reports more ws h))

  -- a scan leaves as many of each name
  pub scanned_names : (most : ℕ) (ws : List Watch) (file descriptor : ℕ) → tally (is_of file descriptor) (scanned R most ws) ≡ tally (is_of file descriptor) ws
  scanned_names most ws file descriptor =
      let a = tally-append (is_of file descriptor) (without_first (is_reported R) most ws) (map told_watch (reports R most ws)) in
      let b = tally-map told_watch (is_of file descriptor) (reports R most ws) in
      let c = split_scan (is_of file descriptor) most ws in
      omega arith

-- ---- names

pub eq_flip : (a b : ℕ) → (a == b) ≡ (b == a)
eq_flip a b = grind arith

-- some of these has the name
abbrev pub is_among : List Watch → ℕ → ℕ → Bool
is_among rs file descriptor = list_any (is_of file descriptor) rs

pub own_name : (w : Watch) → is_of w.file w.descriptor w ≡ true
own_name w = own w.file w.descriptor
  where
    own : (n m : ℕ) → ((n == n) && (m == m)) ≡ true
    own n m = rw (eq_self n, eq_self m) refl

-- who has the name of another doesn't stand beside it
pub not_among : (rs os : List Watch) → ((f d : ℕ) → tally (is_of f d) os + tally (is_of f d) rs ≤ 1) → tally (λ w. is_among rs w.file w.descriptor) os ≡ 0
not_among rs [] h = refl
not_among rs (w ∷ os) h =
    let a = not_among rs os (λ f d. less f d) in
    let none = none_tally (is_of w.file w.descriptor) rs (zero_of (own_name w) (h w.file w.descriptor)) in
    grind (arith, common_steps)
  where
    less : (f d : ℕ) → tally (is_of f d) os + tally (is_of f d) rs ≤ 1
    less f d = let z = h f d in grind (arith, common_steps)

    zero_of : is_of w.file w.descriptor w ≡ true → tally (is_of w.file w.descriptor) (w ∷ os) + tally (is_of w.file w.descriptor) rs ≤ 1 → tally (is_of w.file w.descriptor) rs ≡ 0
    zero_of k z = let y : 1 + tally (is_of w.file w.descriptor) os + tally (is_of w.file w.descriptor) rs ≤ 1 = rw k at z in omega arith

-- each of these is among those that hold as many of each name
pub each_among : (rs ys : List Watch) → ((f d : ℕ) → tally (is_of f d) ys ≤ tally (is_of f d) rs) → tally (λ w. not (is_among rs w.file w.descriptor)) ys ≡ 0
each_among rs [] h = refl
each_among rs (w ∷ ys) h =
    let a = each_among rs ys (λ f d. less f d) in
    let some = some_tally (is_of w.file w.descriptor) rs (one (own_name w) (h w.file w.descriptor)) in
    grind (arith, common_steps)
  where
    less : (f d : ℕ) → tally (is_of f d) ys ≤ tally (is_of f d) rs
    less f d = let z = h f d in grind (arith, common_steps)

    one : is_of w.file w.descriptor w ≡ true → tally (is_of w.file w.descriptor) (w ∷ ys) ≤ tally (is_of w.file w.descriptor) rs → 1 ≤ tally (is_of w.file w.descriptor) rs
    one k z = let y : 1 + tally (is_of w.file w.descriptor) ys ≤ tally (is_of w.file w.descriptor) rs = rw k at z in omega arith
