-- The first elements that pass a test and the rest, one element at a time: what a loop that puts the rest in their places keeps. Of
-- the waiters of any queue.
use Rattle.std.proofs.Common.{◌≡◌, ℕ, zero, suc, ◌+◌, ◌-◌, ◌<◌, ◌≤◌, Bool, true, false, ◌&&◌, nat_lt, List, [], ◌∷◌, ◌++◌, length, take, drop, map, Some, None, append_assoc, append-nil, refl, sym, ap, ◌∙◌, arith}
use Rattle.std.specs.Prelude.{position, slice_index_or, slice_set}
use Rattle.std.specs.List.{filter, position_or_len, remove}
use Rattle.std.proofs.lemmas.Bool.Decides.{nat_tests}
use Rattle.std.proofs.lemmas.Grind.{common_steps}
use Rattle.lx_machine.specs.Queue.{first_of, without_first}

-- each is picked or left
pub lengths : {X : Type 0} (n : ℕ) (p : X → Bool) (xs : List X) → length (first_of n p xs) + length (without_first n p xs) ≡ length xs
lengths zero p xs = omega arith
lengths (suc n) p [] = refl
lengths (suc n) p (x ∷ xs) = let a = lengths n p xs in let b = lengths (suc n) p xs in grind arith

-- what it means that one more is picked
picks_some : (n : ℕ) (b : Bool) → (nat_lt 0 n && b) ≡ true → 0 < n
picks_some n b h = grind (arith, nat_tests)

picks_passes : (n : ℕ) (b : Bool) → (nat_lt 0 n && b) ≡ true → b ≡ true
picks_passes n b h = grind (arith, nat_tests)

skips_failing : (n : ℕ) (b : Bool) → (nat_lt 0 (suc n) && b) ≡ false → b ≡ false
skips_failing n b h = grind (arith, nat_tests)

-- one more that is picked
first_hit : {X : Type 0} (n : ℕ) (p : X → Bool) (x : X) (xs : List X) → (nat_lt 0 n && p x) ≡ true → first_of n p (x ∷ xs) ≡ x ∷ first_of (n - 1) p xs
first_hit zero p x xs h = absurd (let z = picks_some 0 (p x) h in omega arith)
first_hit (suc n) p x xs h = let t = picks_passes (suc n) (p x) h in let e : suc n - 1 ≡ n = omega arith in rw (e, t) refl

left_hit : {X : Type 0} (n : ℕ) (p : X → Bool) (x : X) (xs : List X) → (nat_lt 0 n && p x) ≡ true → without_first n p (x ∷ xs) ≡ without_first (n - 1) p xs
left_hit zero p x xs h = absurd (let z = picks_some 0 (p x) h in omega arith)
left_hit (suc n) p x xs h = let t = picks_passes (suc n) (p x) h in let e : suc n - 1 ≡ n = omega arith in rw (e, t) refl

-- one more that is not
first_miss : {X : Type 0} (n : ℕ) (p : X → Bool) (x : X) (xs : List X) → (nat_lt 0 n && p x) ≡ false → first_of n p (x ∷ xs) ≡ first_of n p xs
first_miss zero p x xs h = refl
first_miss (suc n) p x xs h = let t = skips_failing n (p x) h in rw t refl

left_miss : {X : Type 0} (n : ℕ) (p : X → Bool) (x : X) (xs : List X) → (nat_lt 0 n && p x) ≡ false → without_first n p (x ∷ xs) ≡ x ∷ without_first n p xs
left_miss zero p x xs h = refl
left_miss (suc n) p x xs h = let t = skips_failing n (p x) h in rw t refl

none_picked : {X : Type 0} (n : ℕ) (p : X → Bool) → first_of n p [] ≡ []
none_picked zero p = refl
none_picked (suc n) p = refl

none_left : {X : Type 0} (n : ℕ) (p : X → Bool) → without_first n p [] ≡ []
none_left zero p = refl
none_left (suc n) p = refl

-- a list from a place on
at_front : {X : Type 0} (xs : List X) (i : ℕ) (d : X) → i < length xs → drop i xs ≡ slice_index_or xs i d ∷ drop (i + 1) xs
at_front xs i d h = grind (arith, common_steps)

drop_past : {X : Type 0} (xs : List X) (i j : ℕ) (x : X) → i < j → drop j (slice_set xs i x) ≡ drop j xs
drop_past [] i j x h = refl
drop_past (y ∷ xs) zero zero x h = absurd (omega arith)
drop_past (y ∷ xs) zero (suc j) x h = refl
drop_past (y ∷ xs) (suc i) zero x h = absurd (omega arith)
drop_past (y ∷ xs) (suc i) (suc j) x h = drop_past xs i j x (omega arith)

take_set : {X : Type 0} (xs : List X) (i : ℕ) (x : X) → i < length xs → take (i + 1) (slice_set xs i x) ≡ take i xs ++ x ∷ []
take_set xs i x h = grind (arith, common_steps)

same_rest : {X : Type 0} (ws xs : List X) (i : ℕ) (d : X) → i < length ws → i < length xs → drop i ws ≡ drop i xs → drop (i + 1) ws ≡ drop (i + 1) xs
same_rest ws xs i d h k e = let a = at_front ws i d h in let b = at_front xs i d k in cc

same_front : {X : Type 0} (ws xs : List X) (i : ℕ) (d : X) → i < length ws → i < length xs → drop i ws ≡ drop i xs → slice_index_or ws i d ≡ slice_index_or xs i d
same_front ws xs i d h k e = let a = at_front ws i d h in let b = at_front xs i d k in cc

-- of the list xs the elements below place `at` have been looked at: those of them that are kept stand first in ws, `left` more are
-- to be picked, and from place `at` on nothing has changed
pub record Picked {X : Type 0} (n : ℕ) (p : X → Bool) (xs : List X) (at kept left : ℕ) (ws : List X) : Type 0 where
  pub kept_is : take kept ws ++ without_first left p (drop at xs) ≡ without_first n p xs
  pub rest : drop at ws ≡ drop at xs
  pub within : kept ≤ at

module _ {X : Type 0} (n : ℕ) (p : X → Bool) (xs : List X) (at kept left : ℕ) (ws : List X) (d : X) (before : Picked n p xs at kept left ws) (here : at < length ws) (there : at < length xs) where
  front : drop at xs ≡ slice_index_or ws at d ∷ drop (at + 1) xs
  front = at_front xs at d there ∙ ap (λ x. x ∷ drop (at + 1) xs) (sym (same_front ws xs at d here there before.rest))

  pub picked_hit : (nat_lt 0 left && p (slice_index_or ws at d)) ≡ true → Picked n p xs (at + 1) kept (left - 1) ws
  picked_hit h = record {
    kept_is = sym (ap (λ l. take kept ws ++ l) (ap (without_first left p) front ∙ left_hit left p (slice_index_or ws at d) (drop (at + 1) xs) h)) ∙ before.kept_is;
    rest = same_rest ws xs at d here there before.rest;
    within = (let w = before.within in omega arith);
  }

  pub picked_miss : (nat_lt 0 left && p (slice_index_or ws at d)) ≡ false → Picked n p xs (at + 1) (kept + 1) left (slice_set ws kept (slice_index_or ws at d))
  picked_miss h = record {
    kept_is =
        ap (λ l. l ++ without_first left p (drop (at + 1) xs)) (take_set ws kept (slice_index_or ws at d) (let w = before.within in omega arith))
        ∙ append_assoc (take kept ws) (slice_index_or ws at d ∷ []) (without_first left p (drop (at + 1) xs))
        ∙ sym (ap (λ l. take kept ws ++ l) (ap (without_first left p) front ∙ left_miss left p (slice_index_or ws at d) (drop (at + 1) xs) h)) ∙ before.kept_is;
    rest = drop_past ws kept (at + 1) (slice_index_or ws at d) (let w = before.within in omega arith) ∙ same_rest ws xs at d here there before.rest;
    within = (let w = before.within in omega arith);
  }

  -- what was picked so far, and what is to come
  pub out_hit : {Y : Type 0} (f : X → Y) (out goal : List Y) → (nat_lt 0 left && p (slice_index_or ws at d)) ≡ true → out ++ map f (first_of left p (drop at xs)) ≡ goal → (out ++ f (slice_index_or ws at d) ∷ []) ++ map f (first_of (left - 1) p (drop (at + 1) xs)) ≡ goal
  out_hit f out goal h e =
      append_assoc out (f (slice_index_or ws at d) ∷ []) (map f (first_of (left - 1) p (drop (at + 1) xs)))
      ∙ sym (ap (λ l. out ++ map f l) (ap (first_of left p) front ∙ first_hit left p (slice_index_or ws at d) (drop (at + 1) xs) h)) ∙ e

  pub out_miss : {Y : Type 0} (f : X → Y) (out goal : List Y) → (nat_lt 0 left && p (slice_index_or ws at d)) ≡ false → out ++ map f (first_of left p (drop at xs)) ≡ goal → out ++ map f (first_of left p (drop (at + 1) xs)) ≡ goal
  out_miss f out goal h e = sym (ap (λ l. out ++ map f l) (ap (first_of left p) front ∙ first_miss left p (slice_index_or ws at d) (drop (at + 1) xs) h)) ∙ e

-- once all have been looked at
past_end : {X : Type 0} (xs : List X) (i : ℕ) → length xs ≤ i → drop i xs ≡ []
past_end [] i h = grind (arith, common_steps)
past_end (x ∷ xs) zero h = absurd (omega arith)
past_end (x ∷ xs) (suc i) h = past_end xs i (omega arith)

pub picked_all : {X : Type 0} (n : ℕ) (p : X → Bool) (xs : List X) (at kept left : ℕ) (ws : List X) → Picked n p xs at kept left ws → length xs ≤ at → take kept ws ≡ without_first n p xs
picked_all n p xs at kept left ws before end = sym (ap (λ l. take kept ws ++ l) (ap (without_first left p) (past_end xs at end) ∙ none_left left p) ∙ append-nil (take kept ws)) ∙ before.kept_is

pub out_all : {X Y : Type 0} (p : X → Bool) (f : X → Y) (xs : List X) (at left : ℕ) (out goal : List Y) → length xs ≤ at → out ++ map f (first_of left p (drop at xs)) ≡ goal → out ≡ goal
out_all p f xs at left out goal end e = sym (ap (λ l. out ++ map f l) (ap (first_of left p) (past_end xs at end) ∙ none_picked left p) ∙ append-nil out) ∙ e

pub length_kept : {X : Type 0} (n : ℕ) (xs ys : List X) → n ≤ length xs → take n xs ≡ ys → length ys ≡ n
length_kept n xs ys h e = sym (ap length e) ∙ grind (arith, common_steps)

-- no more are left than there were
pub fewer : {X : Type 0} (p : X → Bool) (xs : List X) → length (filter p xs) ≤ length xs
fewer p [] = omega arith
fewer p (x ∷ xs) = let ih = fewer p xs in grind arith

-- where the first that passes stands
left_from : {X : Type 0} (p : X → Bool) (xs : List X) (i : ℕ) → i ≡ position_or_len p xs → i < length xs → remove xs i ≡ without_first 1 p xs
left_from p [] i e h = absurd (omega arith)
left_from p (x ∷ xs) zero e h = grind (arith, nat_tests)
left_from p (x ∷ xs) (suc i) e h = let ih = left_from p xs i in grind (arith, nat_tests)

none_from : {X : Type 0} (p : X → Bool) (xs : List X) → length xs ≤ position_or_len p xs → xs ≡ without_first 1 p xs
none_from p [] h = refl
none_from p (x ∷ xs) h = let ih = none_from p xs in grind (arith, nat_tests)

pub left_at : {X : Type 0} (p : X → Bool) (xs : List X) (i : ℕ) → position p xs ≡ Some i → remove xs i ≡ without_first 1 p xs
left_at p xs i h = let a = left_from p xs i in grind (arith, nat_tests)

pub none_at : {X : Type 0} (p : X → Bool) (xs : List X) → position p xs ≡ None → xs ≡ without_first 1 p xs
none_at p xs h = let a = none_from p xs in grind (arith, nat_tests)
