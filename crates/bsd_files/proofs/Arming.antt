-- What an event of the open files that are this does to all queues, one of these files after the other.
use Rattle.std.specs.Prelude.{◌≡◌, refl, ℕ, zero, suc, ◌+◌, ◌≤◌, ◌<◌, ◌==◌, Bool, true, false, ◌&&◌, ◌||◌, nat_le, nat_lt, min, max, if◌then◌else◌, List, [], ◌∷◌, map, length, take, Option, Some, None, slice_index_or}
use Rattle.std.proofs.Common.{arith, ap, ap₂, sym, ◌∙◌}
use Rattle.std.specs.List.{list_all}
use Rattle.std.specs.Option.{option_map}
use Rattle.kqueue_core.specs.Changes.{activated_by, activated_where}
use Rattle.kqueue_core.specs.Knotes.{awake}
use Rattle.kqueue_core.specs.Queues.{Queue}
use Rattle.kqueue_core.specs.Watches.{activated_watch}
use Rattle.kqueue_core.specs.declared.knotes.Filter.{Filter}
use Rattle.kqueue_core.specs.declared.knotes.Filter.TheVariants.{Read, Write}
use Rattle.kqueue_core.specs.declared.knotes.Knote.{Knote}
use Rattle.kqueue_core.specs.declared.knotes.Watch.{Watch}
use Rattle.lx_machine.specs.Interests.{is_open_of}
use Rattle.lx_machine.specs.Lists.{at_place}
use Rattle.lx_machine.specs.declared.files.FileKind.{FileKind}
use Rattle.lx_machine.specs.declared.files.OpenFile.{OpenFile}
use Rattle.bsd_files.specs.Ops.{active_after, is_below, is_this}

-- ---- places

pub place_is : {X : Type 0} (xs : List (Option X)) (i : ℕ) (x : Option X) → i < length xs → slice_index_or xs i x ≡ x → at_place xs i ≡ x
place_is [] i x h e = absurd (omega (arith, h))
place_is (o ∷ xs) zero x h e = e
place_is (o ∷ xs) (suc i) x h e = place_is xs i x (omega (arith, h)) e

past : {X : Type 0} (xs : List (Option X)) (i : ℕ) → length xs ≤ i → at_place xs i ≡ None
past [] i h = refl
past (x ∷ xs) zero h = absurd (omega (arith, h))
past (x ∷ xs) (suc i) h = past xs i (omega (arith, h))

both : (a b : Bool) → (a && b) ≡ true → (a ≡ true) × (b ≡ true)
both true b e = (refl, e)
both false b e = let z : false ≡ true = e in absurd (cc)

-- ---- one interest

awake_twice : (k : Option Knote) → awake (awake k) ≡ awake k
awake_twice None = refl
awake_twice (Some k) = refl

settles : {X : Type 0} (b : Bool) (u v : X) → u ≡ v → (if b then u else v) ≡ v
settles true u v e = e
settles false u v e = refl

twice_by : (f : Filter) (a : Bool) (q : ℕ → Bool) (w : Watch) → (let v : Watch = if a then activated_watch f w else w in if q v.file then activated_watch f v else v) ≡ (if a || q w.file then activated_watch f w else w)
twice_by f false q w = refl
twice_by Read true q w = settles (q w.file) _ (activated_watch Read w) (ap (λ k. record w { read = k }) (awake_twice w.read))
twice_by Write true q w = settles (q w.file) _ (activated_watch Write w) (ap (λ k. record w { write = k }) (awake_twice w.write))

module _ (f : Filter) where
  twice_one : (p q r : ℕ → Bool) → ((i : ℕ) → (p i || q i) ≡ r i) → (w : Watch) → activated_where q f (activated_where p f w) ≡ activated_where r f w
  twice_one p q r h w = twice_by f (p w.file) q w ∙ ap (λ b. if b then activated_watch f w else w) (h w.file)

  twice_in : (p q r : ℕ → Bool) → ((i : ℕ) → (p i || q i) ≡ r i) → (ws : List Watch) → activated_by q f (activated_by p f ws) ≡ activated_by r f ws
  twice_in p q r h [] = refl
  twice_in p q r h (w ∷ ws) = ap₂ (λ v vs. v ∷ vs) (twice_one p q r h w) (twice_in p q r h ws)

  -- first the files that pass one test, then those that pass another
  pub twice : (p q r : ℕ → Bool) → ((i : ℕ) → (p i || q i) ≡ r i) → (qs : List (Option Queue)) → map (option_map (active_after q f)) (map (option_map (active_after p f)) qs) ≡ map (option_map (active_after r f)) qs
  twice p q r h [] = refl
  twice p q r h (None ∷ qs) = ap (λ os. None ∷ os) (twice p q r h qs)
  twice p q r h (Some x ∷ qs) = ap₂ (λ (ws : List Watch) os. Some (record x { watches = ws }) ∷ os) (twice_in p q r h x.watches) (twice p q r h qs)

  -- no file passes
  none_in : (p : ℕ → Bool) → ((i : ℕ) → p i ≡ false) → (ws : List Watch) → activated_by p f ws ≡ ws
  none_in p h [] = refl
  none_in p h (w ∷ ws) = ap₂ (λ v vs. v ∷ vs) (ap (λ b. if b then activated_watch f w else w) (h w.file)) (none_in p h ws)

  pub nobody : (p : ℕ → Bool) → ((i : ℕ) → p i ≡ false) → (qs : List (Option Queue)) → map (option_map (active_after p f)) qs ≡ qs
  nobody p h [] = refl
  nobody p h (None ∷ qs) = ap (λ os. None ∷ os) (nobody p h qs)
  nobody p h (Some x ∷ qs) = ap₂ (λ (ws : List Watch) os. Some (record x { watches = ws }) ∷ os) (none_in p h x.watches) (nobody p h qs)

  -- tests that agree on all files that have interests
  same_in : (p q : ℕ → Bool) (last : ℕ) → ((i : ℕ) → nat_le i last ≡ true → p i ≡ q i) → (ws : List Watch) → list_all (λ w. nat_le w.file last) ws ≡ true → activated_by p f ws ≡ activated_by q f ws
  same_in p q last h [] b = refl
  same_in p q last h (w ∷ ws) b =
      let parts = both (nat_le w.file last) (list_all (λ w. nat_le w.file last) ws) b in
      ap₂ (λ v vs. v ∷ vs) (ap (λ c. if c then activated_watch f w else w) (h w.file parts.0)) (same_in p q last h ws parts.1)

  pub same : (p q : ℕ → Bool) (last : ℕ) → ((i : ℕ) → nat_le i last ≡ true → p i ≡ q i) → (qs : List (Option Queue)) → list_all (is_below last) qs ≡ true → map (option_map (active_after p f)) qs ≡ map (option_map (active_after q f)) qs
  same p q last h [] b = refl
  same p q last h (None ∷ qs) b = ap (λ os. None ∷ os) (same p q last h qs b)
  same p q last h (Some x ∷ qs) b =
      let parts = both (list_all (λ w. nat_le w.file last) x.watches) (list_all (is_below last) qs) b in
      ap₂ (λ (ws : List Watch) os. Some (record x { watches = ws }) ∷ os) (same_in p q last h x.watches parts.0) (same p q last h qs parts.1)

-- ---- the walk over the files

-- those before a place that are this
abbrev pub so_far : FileKind → List (Option OpenFile) → ℕ → ℕ → Bool
so_far k files at i = nat_lt i at && is_this k files i

eq_is : (n m : ℕ) → (n == m) ≡ true → n ≡ m
eq_is n m h = grind arith

module _ (t : ℕ → Bool) (at i : ℕ) where
  one_more : t at ≡ true → ((nat_lt i at && t i) || (i == at)) ≡ (nat_lt i (at + 1) && t i)
  one_more h = by (i == at) refl
    where
      last : (n m : Bool) (b : Bool) → n ≡ false → m ≡ true → b ≡ true → ((n && b) || true) ≡ (m && b)
      last false true true e g k = refl
      last true m b e g k = let z : true ≡ false = e in absurd (cc)
      last false false b e g k = let z : false ≡ true = g in absurd (cc)
      last false true false e g k = let z : false ≡ true = k in absurd (cc)

      other : (n m : Bool) (b : Bool) → n ≡ m → ((n && b) || false) ≡ (m && b)
      other true m true e = ap (λ c. c && true) e
      other true m false e = ap (λ c. c && false) e
      other false m b e = ap (λ c. c && b) e

      by : (e : Bool) → (i == at) ≡ e → ((nat_lt i at && t i) || (i == at)) ≡ (nat_lt i (at + 1) && t i)
      by true e = ap (λ c. (nat_lt i at && t i) || c) e ∙ last (nat_lt i at) (nat_lt i (at + 1)) (t i) (grind arith) (grind arith) (ap t (eq_is i at e) ∙ h)
      by false e = ap (λ c. (nat_lt i at && t i) || c) e ∙ other (nat_lt i at) (nat_lt i (at + 1)) (t i) (grind arith)

  none_more : t at ≡ false → (nat_lt i at && t i) ≡ (nat_lt i (at + 1) && t i)
  none_more h = by (i == at) refl
    where
      never : (n m b : Bool) → b ≡ false → (n && b) ≡ (m && b)
      never true true b e = refl
      never false false b e = refl
      never true false b e = e
      never false true b e = sym e

      by : (e : Bool) → (i == at) ≡ e → (nat_lt i at && t i) ≡ (nat_lt i (at + 1) && t i)
      by true e = never (nat_lt i at) (nat_lt i (at + 1)) (t i) (ap t (eq_is i at e) ∙ h)
      by false e = ap (λ c. c && t i) (grind arith)

module _ (k : FileKind) (f : Filter) (files : List (Option OpenFile)) (qs : List (Option Queue)) where
  before_none : (i : ℕ) → nat_lt i 0 ≡ false
  before_none i = grind arith

  pub walk_begins : qs ≡ map (option_map (active_after (so_far k files 0) f)) qs
  walk_begins = sym (nobody f (so_far k files 0) (λ i. ap (λ b. b && is_this k files i) (before_none i)) qs)

  pub walk_takes : (at : ℕ) (now : List (Option Queue)) → now ≡ map (option_map (active_after (so_far k files at) f)) qs → is_this k files at ≡ true
      → map (option_map (active_after (λ i. i == at) f)) now ≡ map (option_map (active_after (so_far k files (at + 1)) f)) qs
  walk_takes at now e h =
      ap (map (option_map (active_after (λ i. i == at) f))) e
      ∙ twice f (so_far k files at) (λ i. i == at) (so_far k files (at + 1)) (λ i. one_more (is_this k files) at i h) qs

  any_bound : (qs : List (Option Queue)) (p q : ℕ → Bool) → ((i : ℕ) → p i ≡ q i) → map (option_map (active_after p f)) qs ≡ map (option_map (active_after q f)) qs
  any_bound [] p q h = refl
  any_bound (None ∷ qs) p q h = ap (λ os. None ∷ os) (any_bound qs p q h)
  any_bound (Some x ∷ qs) p q h = ap₂ (λ (ws : List Watch) os. Some (record x { watches = ws }) ∷ os) (alike x.watches) (any_bound qs p q h)
    where
      alike : (ws : List Watch) → activated_by p f ws ≡ activated_by q f ws
      alike [] = refl
      alike (w ∷ ws) = ap₂ (λ v vs. v ∷ vs) (ap (λ c. if c then activated_watch f w else w) (h w.file)) (alike ws)

  pub walk_passes : (at : ℕ) (now : List (Option Queue)) → now ≡ map (option_map (active_after (so_far k files at) f)) qs → is_this k files at ≡ false
      → now ≡ map (option_map (active_after (so_far k files (at + 1)) f)) qs
  walk_passes at now e h = e ∙ any_bound qs (so_far k files at) (so_far k files (at + 1)) (λ i. none_more (is_this k files) at i h)

  -- all files that have interests have been passed
  pub walk_ends : (last count : ℕ) → list_all (is_below last) qs ≡ true → count ≡ min (length files) (last + 1)
      → map (option_map (active_after (so_far k files count) f)) qs ≡ map (option_map (active_after (is_this k files) f)) qs
  walk_ends last count b e = same f (so_far k files count) (is_this k files) last one qs b
    where
      one : (i : ℕ) → nat_le i last ≡ true → so_far k files count i ≡ is_this k files i
      one i h = by (nat_lt i count) refl
        where
          by : (c : Bool) → nat_lt i count ≡ c → (nat_lt i count && is_this k files i) ≡ is_this k files i
          by true g = ap (λ c. c && is_this k files i) g
          by false g =
              let out : length files ≤ i = grind (arith, e) in
              let z : is_this k files i ≡ false = ap (λ o. is_open_of k o) (past files i out) in
              ap (λ c. c && is_this k files i) g ∙ sym z

-- ---- the bound of all queues

wider : (a b : ℕ) → a ≤ b → (o : Option Queue) → is_below a o ≡ true → is_below b o ≡ true
wider a b h None e = refl
wider a b h (Some q) e = all q.watches e
  where
    all : (ws : List Watch) → list_all (λ w. nat_le w.file a) ws ≡ true → list_all (λ w. nat_le w.file b) ws ≡ true
    all [] e = refl
    all (w ∷ ws) e =
        let parts = both (nat_le w.file a) (list_all (λ w. nat_le w.file a) ws) e in
        let low = parts.0 in
        let here : nat_le w.file b ≡ true = grind (arith, low, h) in
        ap (λ c. c && list_all (λ w. nat_le w.file b) ws) here ∙ all ws parts.1

pub all_wider : (a b : ℕ) → a ≤ b → (qs : List (Option Queue)) → list_all (is_below a) qs ≡ true → list_all (is_below b) qs ≡ true
all_wider a b h [] e = refl
all_wider a b h (o ∷ qs) e =
    let parts = both (is_below a o) (list_all (is_below a) qs) e in
    ap (λ c. c && list_all (is_below b) qs) (wider a b h o parts.0) ∙ all_wider a b h qs parts.1

-- one place more
next_suc : (qs : List (Option Queue)) (i a b : ℕ) (x : Option Queue) → i < length qs → list_all (is_below a) (take i qs) ≡ true → slice_index_or qs i x ≡ x → is_below b x ≡ true
    → list_all (is_below (max a b)) (take (suc i) qs) ≡ true
next_suc [] i a b x h e is g = absurd (omega (arith, h))
next_suc (o ∷ qs) zero a b x h e is g = ap (λ c. c && true) (wider b (max a b) (omega arith) o (ap (is_below b) is ∙ g))
next_suc (o ∷ qs) (suc i) a b x h e is g =
    let parts = both (is_below a o) (list_all (is_below a) (take i qs)) e in
    ap (λ c. c && list_all (is_below (max a b)) (take (suc i) qs)) (wider a (max a b) (omega arith) o parts.0) ∙ next_suc qs i a b x (omega (arith, h)) parts.1 is g

pub next_below : (qs : List (Option Queue)) (i a b m : ℕ) (x : Option Queue) → m ≡ max a b → i < length qs → list_all (is_below a) (take i qs) ≡ true → slice_index_or qs i x ≡ x → is_below b x ≡ true
    → list_all (is_below m) (take (i + 1) qs) ≡ true
next_below qs i a b m x most h e is g =
    let next : i + 1 ≡ suc i = omega arith in
    ap₂ (λ n j. list_all (is_below n) (take j qs)) most next ∙ next_suc qs i a b x h e is g
