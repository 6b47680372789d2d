-- The queue at each address, after its first waiters have left, and waiters that get another key.
use Rattle.std.proofs.Common.{◌≡◌, ◌≢◌, ℕ, Bool, true, false, List, [], ◌∷◌, map, refl, sym, ap, ◌∙◌, arith, ◌⊎◌, inl, inr}
use Rattle.std.specs.List.{AllByRecursion, filter, list_any}
use Rattle.std.proofs.lemmas.Grind.{common_steps}
use Rattle.umtx_queue.specs.declared.waiter.Waiter.{Waiter}
use Rattle.umtx_queue.specs.Lists.{first_of, without_first, tally}
use Rattle.umtx_queue.specs.Waiters.{has_key, is_of, is_queued, rekeyed, with_key}
use Rattle.umtx_queue.proofs.Tallies.{tally-map}
use Rattle.lx_machine.specs.Queue.{moved_to}
use Rattle.places.specs.Places.{chain}
use Rattle.chains_stand.specs.Queues.{linux_waiter}
use Rattle.chains_stand.proofs.Lists.{any-filter, any-filter_both, any-map, filter-without_first, filter-without_first_apart, first_of-filter, first_of-map, none-filter, none_by_parts, same_or_not, some_part, without_first-map}

-- what passes stands at the address a
abbrev pub Within : {X : Type 0} → (X → Bool) → (X → Bool) → Type 0
Within {X} p q = (w : X) → p w ≡ true → q w ≡ true

module _ {W U : Type 0} (shown : W → U) (at : ℕ → U → Bool) (has : ℕ → W → Bool) (agree : (a : ℕ) (w : W) → at a (shown w) ≡ has a w) where
  in_part : (p : U → Bool) (a : ℕ) → Within p (at a) → (w : W) → p (shown w) ≡ true → has a w ≡ true
  in_part p a within w h = sym (agree a w) ∙ within (shown w) h

  -- the same pass on both sides
  pub same_first : (p : U → Bool) (a : ℕ) → Within p (at a) → (n : ℕ) (q : List U) (ws : List W) → filter (at a) q ≡ map shown (filter (has a) ws) → first_of p n q ≡ map shown (first_of (λ w. p (shown w)) n ws)
  same_first p a within n q ws e =
      sym (first_of-filter p (at a) within n q) ∙ ap (first_of p n) e ∙ first_of-map shown p n (filter (has a) ws)
      ∙ ap (map shown) (first_of-filter (λ w. p (shown w)) (has a) (in_part p a within) n ws)

  pub same_left : (p : U → Bool) (a : ℕ) → Within p (at a) → (n : ℕ) (q : List U) (ws : List W) → filter (at a) q ≡ map shown (filter (has a) ws) → filter (at a) (without_first p n q) ≡ map shown (filter (has a) (without_first (λ w. p (shown w)) n ws))
  same_left p a within n q ws e =
      filter-without_first p (at a) within n q ∙ ap (without_first p n) e ∙ without_first-map shown p n (filter (has a) ws)
      ∙ ap (map shown) (sym (filter-without_first (λ w. p (shown w)) (has a) (in_part p a within) n ws))

  -- of each address of the chain
  pub queue_cut : (p : U → Bool) (a b : ℕ) → Within p (at a) → (b ≢ a → (w : U) → p w ≡ true → at b w ≡ false) → (n : ℕ) (q : List U) (ws : List W) → filter (at a) q ≡ map shown (filter (has a) ws) → filter (at b) q ≡ map shown (filter (has b) ws) → filter (at b) (without_first p n q) ≡ map shown (filter (has b) (without_first (λ w. p (shown w)) n ws))
  queue_cut p a b within apart n q ws e f = by (same_or_not a b)
    where
      by : (b ≡ a) ⊎ (b ≢ a) → filter (at b) (without_first p n q) ≡ map shown (filter (has b) (without_first (λ w. p (shown w)) n ws))
      by (inl g) = rw g (same_left p a within n q ws e)
      by (inr ne) =
          filter-without_first_apart p (at b) (apart ne) n q ∙ f
          ∙ ap (map shown) (sym (filter-without_first_apart (λ w. p (shown w)) (has b) (λ w h. sym (agree b w) ∙ apart ne (shown w) h) n ws))

  pub filter-shown : (a : ℕ) (ws : List W) → filter (at a) (map shown ws) ≡ map shown (filter (has a) ws)
  filter-shown a [] = refl
  filter-shown a (w ∷ ws) = let b = filter-shown a ws in let c = agree a w in grind (arith, common_steps)

-- ---- a queue and the waiters of chains that stand for it

module _ {W U : Type 0} (shown : W → U) (at : ℕ → U → Bool) (address : U → ℕ) (own : (u : U) → at (address u) u ≡ true) (has : ℕ → W → Bool) (key : W → ℕ) (own_key : (w : W) → has (key w) w ≡ true) (ws : ℕ → List W) (q : List U) (st : (a : ℕ) → filter (at a) q ≡ map shown (filter (has a) (ws (chain a)))) (p : U → Bool) where
  -- none passes in the queue where none does in any chain
  pub none_in_queue : ((c : ℕ) → list_any (λ w. p (shown w)) (ws c) ≡ false) → list_any p q ≡ false
  none_in_queue none = none_by_parts p at address own q each
    where
      each : (a : ℕ) → list_any p (filter (at a) q) ≡ false
      each a = ap (list_any p) (st a) ∙ any-map shown p (filter (has a) (ws (chain a))) ∙ none-filter (λ w. p (shown w)) (has a) (ws (chain a)) (none (chain a))

  -- one passes there where one does in some chain
  pub some_in_queue : ((c a : ℕ) → list_any (has a) (ws c) ≡ true → chain a ≡ c) → (c : ℕ) → list_any (λ w. p (shown w)) (ws c) ≡ true → list_any p q ≡ true
  some_in_queue keys c h =
      let r = some_part (λ w. p (shown w)) has key own_key (ws c) h in
      let e : chain r.0 ≡ c = keys c r.0 (any-filter_both (λ w. p (shown w)) (has r.0) (ws c) r.1) in
      let f = any-map shown p (filter (has r.0) (ws (chain r.0))) in
      let g : list_any (λ w. p (shown w)) (filter (has r.0) (ws (chain r.0))) ≡ true = ap (λ (d : ℕ). list_any (λ w. p (shown w)) (filter (has r.0) (ws d))) e ∙ r.1 in
      any-filter p (at r.0) q (ap (list_any p) (st r.0) ∙ f ∙ g)

-- two tests that pass the same
pub same_any : {X : Type 0} (p p' : X → Bool) (P : X → Type 0) → ((x : X) → P x → p x ≡ p' x) → (xs : List X) → AllByRecursion P xs → list_any p xs ≡ list_any p' xs
same_any p p' P same [] e = refl
same_any p p' P same (x ∷ xs) e = let a = same x e.0 in let b = same_any p p' P same xs e.1 in grind (arith, common_steps)

-- ---- waiters that get the key b

pub same_rekeyed : (tids : ℕ → ℕ) (b : ℕ) (ws : List Waiter) → map (moved_to b) (map (linux_waiter tids) ws) ≡ map (linux_waiter tids) (rekeyed b ws)
same_rekeyed tids b [] = refl
same_rekeyed tids b (w ∷ ws) = ap (λ l. linux_waiter tids (with_key b w) ∷ l) (same_rekeyed tids b ws)

pub rekeyed_key : (b x : ℕ) (ws : List Waiter) → list_any (has_key x) (rekeyed b ws) ≡ true → x ≡ b
rekeyed_key b x [] h = absurd (grind arith)
rekeyed_key b x (w ∷ ws) h = let a = rekeyed_key b x ws in grind (arith, common_steps)

pub rekeyed_none : (b x : ℕ) (ws : List Waiter) → x ≢ b → filter (has_key x) (rekeyed b ws) ≡ []
rekeyed_none b x [] ne = refl
rekeyed_none b x (w ∷ ws) ne = let a = rekeyed_none b x ws ne in grind (arith, common_steps)

pub rekeyed_any : (b i : ℕ) (ws : List Waiter) → is_queued i (rekeyed b ws) ≡ is_queued i ws
rekeyed_any b i ws = any-map (with_key b) (is_of i) ws

pub rekeyed_tally : (b i : ℕ) (ws : List Waiter) → tally (is_of i) (rekeyed b ws) ≡ tally (is_of i) ws
rekeyed_tally b i ws = tally-map (with_key b) (is_of i) ws
