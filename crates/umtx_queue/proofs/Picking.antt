-- The first elements that pass a test and the rest, one element at a time: what a loop that puts the rest in their places keeps.
use Rattle.std.proofs.Common.{◌≡◌, ℕ, zero, suc, ◌+◌, ◌-◌, ◌<◌, ◌≤◌, Bool, true, false, ◌&&◌, nat_lt, List, [], ◌∷◌, ◌++◌, length, take, drop, map, append_assoc, append-nil, refl, sym, ap, ◌∙◌, arith}
use Rattle.std.specs.Prelude.{slice_index_or, slice_set}
use Rattle.std.specs.List.{list_any, remove}
use Rattle.std.proofs.lemmas.Bool.Decides.{nat_tests}
use Rattle.std.proofs.lemmas.Grind.{common_steps}
use Rattle.umtx_queue.specs.Lists.{first_of, without_first}

pub none_first : {X : Type 0} (p : X → Bool) (xs : List X) → first_of p 0 xs ≡ []
none_first p [] = refl
none_first p (x ∷ xs) = refl

pub all_left : {X : Type 0} (p : X → Bool) (xs : List X) → without_first p 0 xs ≡ xs
all_left p [] = refl
all_left p (x ∷ xs) = refl

-- what it means that one more is picked
pub picks_some : (n : ℕ) (b : Bool) → (nat_lt 0 n && b) ≡ true → 0 < n
picks_some n b h = grind (arith, nat_tests)

pub picks_passes : (n : ℕ) (b : Bool) → (nat_lt 0 n && b) ≡ true → b ≡ true
picks_passes n b h = grind (arith, nat_tests)

pub skips_failing : (n : ℕ) (b : Bool) → (nat_lt 0 (suc n) && b) ≡ false → b ≡ false
skips_failing n b h = grind (arith, nat_tests)

-- one more that is picked
pub first_hit : {X : Type 0} (p : X → Bool) (n : ℕ) (x : X) (xs : List X) → (nat_lt 0 n && p x) ≡ true → first_of p n (x ∷ xs) ≡ x ∷ first_of p (n - 1) xs
first_hit p zero x xs h = absurd (let z = picks_some 0 (p x) h in omega arith)
first_hit p (suc n) x xs h = let t = picks_passes (suc n) (p x) h in let e : suc n - 1 ≡ n = omega arith in rw (e, t) refl

pub left_hit : {X : Type 0} (p : X → Bool) (n : ℕ) (x : X) (xs : List X) → (nat_lt 0 n && p x) ≡ true → without_first p n (x ∷ xs) ≡ without_first p (n - 1) xs
left_hit p zero x xs h = absurd (let z = picks_some 0 (p x) h in omega arith)
left_hit p (suc n) x xs h = let t = picks_passes (suc n) (p x) h in let e : suc n - 1 ≡ n = omega arith in rw (e, t) refl

-- one more that is not
pub first_miss : {X : Type 0} (p : X → Bool) (n : ℕ) (x : X) (xs : List X) → (nat_lt 0 n && p x) ≡ false → first_of p n (x ∷ xs) ≡ first_of p n xs
first_miss p zero x xs h = sym (none_first p xs)
first_miss p (suc n) x xs h = let t = skips_failing n (p x) h in rw t refl

pub left_miss : {X : Type 0} (p : X → Bool) (n : ℕ) (x : X) (xs : List X) → (nat_lt 0 n && p x) ≡ false → without_first p n (x ∷ xs) ≡ x ∷ without_first p n xs
left_miss p zero x xs h = ap (λ l. x ∷ l) (sym (all_left p xs))
left_miss p (suc n) x xs h = let t = skips_failing n (p x) h in rw t refl

-- a list from a place on
pub at_front : {X : Type 0} (xs : List X) (i : ℕ) (d : X) → i < length xs → drop i xs ≡ slice_index_or xs i d ∷ drop (i + 1) xs
at_front xs i d h = grind (arith, common_steps)

pub drop_past : {X : Type 0} (xs : List X) (i j : ℕ) (x : X) → i < j → drop j (slice_set xs i x) ≡ drop j xs
drop_past [] i j x h = refl
drop_past (y ∷ xs) zero zero x h = absurd (omega arith)
drop_past (y ∷ xs) zero (suc j) x h = refl
drop_past (y ∷ xs) (suc i) zero x h = absurd (omega arith)
drop_past (y ∷ xs) (suc i) (suc j) x h = drop_past xs i j x (omega arith)

pub take_set : {X : Type 0} (xs : List X) (i : ℕ) (x : X) → i < length xs → take (i + 1) (slice_set xs i x) ≡ take i xs ++ x ∷ []
take_set xs i x h = grind (arith, common_steps)

pub same_rest : {X : Type 0} (ws xs : List X) (i : ℕ) (d : X) → i < length ws → i < length xs → drop i ws ≡ drop i xs → drop (i + 1) ws ≡ drop (i + 1) xs
same_rest ws xs i d h k e = let a = at_front ws i d h in let b = at_front xs i d k in cc

pub same_front : {X : Type 0} (ws xs : List X) (i : ℕ) (d : X) → i < length ws → i < length xs → drop i ws ≡ drop i xs → slice_index_or ws i d ≡ slice_index_or xs i d
same_front ws xs i d h k e = let a = at_front ws i d h in let b = at_front xs i d k in cc

-- of the list xs the elements below place `at` have been looked at: those of them that are kept stand first in ws, `left` more are
-- to be picked, and from place `at` on nothing has changed
pub record Picked {X : Type 0} (p : X → Bool) (n : ℕ) (xs : List X) (at kept left : ℕ) (ws : List X) : Type 0 where
  pub kept_is : take kept ws ++ without_first p left (drop at xs) ≡ without_first p n xs
  pub rest : drop at ws ≡ drop at xs
  pub within : kept ≤ at

module _ {X : Type 0} (p : X → Bool) (n : ℕ) (xs : List X) (at kept left : ℕ) (ws : List X) (d : X) (before : Picked p n xs at kept left ws) (here : at < length ws) (there : at < length xs) where
  pub front : drop at xs ≡ slice_index_or ws at d ∷ drop (at + 1) xs
  front = at_front xs at d there ∙ ap (λ x. x ∷ drop (at + 1) xs) (sym (same_front ws xs at d here there before.rest))

  pub picked_hit : (nat_lt 0 left && p (slice_index_or ws at d)) ≡ true → Picked p n xs (at + 1) kept (left - 1) ws
  picked_hit h = record {
    kept_is = sym (ap (λ l. take kept ws ++ l) (ap (without_first p left) front ∙ left_hit p left (slice_index_or ws at d) (drop (at + 1) xs) h)) ∙ before.kept_is;
    rest = same_rest ws xs at d here there before.rest;
    within = (let w = before.within in omega arith);
  }

  pub picked_miss : (nat_lt 0 left && p (slice_index_or ws at d)) ≡ false → Picked p n xs (at + 1) (kept + 1) left (slice_set ws kept (slice_index_or ws at d))
  picked_miss h = record {
    kept_is =
        ap (λ l. l ++ without_first p left (drop (at + 1) xs)) (take_set ws kept (slice_index_or ws at d) (let w = before.within in omega arith))
        ∙ append_assoc (take kept ws) (slice_index_or ws at d ∷ []) (without_first p left (drop (at + 1) xs))
        ∙ sym (ap (λ l. take kept ws ++ l) (ap (without_first p left) front ∙ left_miss p left (slice_index_or ws at d) (drop (at + 1) xs) h)) ∙ before.kept_is;
    rest = drop_past ws kept (at + 1) (slice_index_or ws at d) (let w = before.within in omega arith) ∙ same_rest ws xs at d here there before.rest;
    within = (let w = before.within in omega arith);
  }

  -- what was picked so far, and what is to come
  pub out_hit : {Y : Type 0} (f : X → Y) (out goal : List Y) → (nat_lt 0 left && p (slice_index_or ws at d)) ≡ true → out ++ map f (first_of p left (drop at xs)) ≡ goal → (out ++ f (slice_index_or ws at d) ∷ []) ++ map f (first_of p (left - 1) (drop (at + 1) xs)) ≡ goal
  out_hit f out goal h e =
      append_assoc out (f (slice_index_or ws at d) ∷ []) (map f (first_of p (left - 1) (drop (at + 1) xs)))
      ∙ sym (ap (λ l. out ++ map f l) (ap (first_of p left) front ∙ first_hit p left (slice_index_or ws at d) (drop (at + 1) xs) h)) ∙ e

  pub out_miss : {Y : Type 0} (f : X → Y) (out goal : List Y) → (nat_lt 0 left && p (slice_index_or ws at d)) ≡ false → out ++ map f (first_of p left (drop at xs)) ≡ goal → out ++ map f (first_of p left (drop (at + 1) xs)) ≡ goal
  out_miss f out goal h e = sym (ap (λ l. out ++ map f l) (ap (first_of p left) front ∙ first_miss p left (slice_index_or ws at d) (drop (at + 1) xs) h)) ∙ e

-- once all have been looked at
pub past_end : {X : Type 0} (xs : List X) (i : ℕ) → length xs ≤ i → drop i xs ≡ []
past_end [] i h = grind (arith, common_steps)
past_end (x ∷ xs) zero h = absurd (omega arith)
past_end (x ∷ xs) (suc i) h = past_end xs i (omega arith)

pub picked_all : {X : Type 0} (p : X → Bool) (n : ℕ) (xs : List X) (at kept left : ℕ) (ws : List X) → Picked p n xs at kept left ws → length xs ≤ at → take kept ws ≡ without_first p n xs
picked_all p n xs at kept left ws before end = sym (ap (λ l. take kept ws ++ without_first p left l) (past_end xs at end) ∙ append-nil (take kept ws)) ∙ before.kept_is

pub out_all : {X Y : Type 0} (p : X → Bool) (f : X → Y) (xs : List X) (at left : ℕ) (out goal : List Y) → length xs ≤ at → out ++ map f (first_of p left (drop at xs)) ≡ goal → out ≡ goal
out_all p f xs at left out goal end e = sym (ap (λ l. out ++ map f (first_of p left l)) (past_end xs at end) ∙ append-nil out) ∙ e

pub length_kept : {X : Type 0} (n : ℕ) (xs ys : List X) → n ≤ length xs → take n xs ≡ ys → length ys ≡ n
length_kept n xs ys h e = sym (ap length e) ∙ grind (arith, common_steps)

-- none of the elements before a place passes
abbrev pub NoneBefore : {X : Type 0} → (X → Bool) → List X → ℕ → Type 0
NoneBefore {X} p xs i = (j : ℕ) (d : X) → j < i → p (slice_index_or xs j d) ≡ false

tail_none : {X : Type 0} (p : X → Bool) (x : X) (xs : List X) (i : ℕ) → NoneBefore p (x ∷ xs) (suc i) → NoneBefore p xs i
tail_none p x xs i none j d h = none (suc j) d (omega arith)

-- the place of the first that passes
pub first_at : {X : Type 0} (p : X → Bool) (xs : List X) (i : ℕ) (d : X) → i < length xs → NoneBefore p xs i → p (slice_index_or xs i d) ≡ true → first_of p 1 xs ≡ slice_index_or xs i d ∷ []
first_at p [] i d h none is = absurd (omega arith)
first_at p (x ∷ xs) zero d h none is = rw is (ap (λ l. x ∷ l) (none_first p xs))
first_at p (x ∷ xs) (suc i) d h none is = let n = none 0 x (omega arith) in rw n (first_at p xs i d (omega arith) (tail_none p x xs i none) is)

pub left_at : {X : Type 0} (p : X → Bool) (xs : List X) (i : ℕ) (d : X) → i < length xs → NoneBefore p xs i → p (slice_index_or xs i d) ≡ true → remove xs i ≡ without_first p 1 xs
left_at p [] i d h none is = absurd (omega arith)
left_at p (x ∷ xs) zero d h none is = rw is (sym (all_left p xs))
left_at p (x ∷ xs) (suc i) d h none is = let n = none 0 x (omega arith) in rw n (ap (λ l. x ∷ l) (left_at p xs i d (omega arith) (tail_none p x xs i none) is))

-- where none before a place passes, and some does, and only this place is left
pub only_last : {X : Type 0} (p : X → Bool) (xs : List X) (i : ℕ) (d : X) → length xs ≤ i + 1 → NoneBefore p xs i → list_any p xs ≡ true → p (slice_index_or xs i d) ≡ true
only_last p [] i d h none any = cc
only_last p (x ∷ []) zero d h none any = grind (arith, common_steps)
only_last p (x ∷ y ∷ xs) zero d h none any = absurd (omega arith)
only_last p (x ∷ xs) (suc i) d h none any = let n = none 0 x (omega arith) in only_last p xs i d (omega arith) (tail_none p x xs i none) (grind (arith, common_steps))

pub same_element : {X : Type 0} (xs : List X) (i : ℕ) (d e : X) → i < length xs → slice_index_or xs i d ≡ slice_index_or xs i e
same_element [] i d e h = absurd (omega arith)
same_element (x ∷ xs) zero d e h = refl
same_element (x ∷ xs) (suc i) d e h = same_element xs i d e (omega arith)
