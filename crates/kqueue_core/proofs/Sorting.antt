-- A scan in the middle: which interests it has reported, and which it has moved to the front.
use Rattle.std.proofs.Common.{◌≡◌, ℕ, zero, suc, ◌+◌, ◌<◌, Bool, true, false, ◌&&◌, List, [], ◌∷◌, ◌++◌, map, take, drop, length, get_or, refl, sym, ap, ap₂, ◌∙◌, subst, arith, Some, None, append_assoc, length-append}
use Rattle.std.specs.Prelude.{nat_lt, slice_set, if◌then◌else◌}
use Rattle.kqueue_core.specs.declared.knotes.Filter.{Filter}
use Rattle.kqueue_core.specs.declared.knotes.Event.{Event}
use Rattle.kqueue_core.specs.declared.knotes.Watch.{Watch}
use Rattle.kqueue_core.specs.Watches.{told_watch}
use Rattle.kqueue_core.specs.Reports.{is_reported, event_of, without_first, reports}
use Rattle.kqueue_core.proofs.Reporting.{first_more, others_more}

-- the first `at` interests of ws have been looked at: `front` of them went to the front of vs, what is left of the others is rs,
-- and their events stand in front of those of es
pub record IsSortedOut (R : ℕ → Filter → ℕ) (most : ℕ) (ws : List Watch) (es : List Event) (at front : ℕ) (vs rs : List Watch) (fs : List Event) : Type 0 where
  pub count : front + length rs ≡ at
  pub others : take front vs ≡ without_first (is_reported R) most (take at ws)
  pub rest : drop at vs ≡ drop at ws
  pub told : rs ≡ map told_watch (reports R most (take at ws))
  pub events : fs ≡ map (event_of R) (reports R most (take at ws)) ++ drop (length rs) es

module _ {X : Type 0} where
  set_there : (xs zs : List X) (y z : X) (n : ℕ) → n ≡ length xs → slice_set (xs ++ y ∷ zs) n z ≡ xs ++ z ∷ zs
  set_there [] zs y z zero e = refl
  set_there [] zs y z (suc n) e = absurd (omega arith)
  set_there (x ∷ xs) zs y z zero e = absurd (omega arith)
  set_there (x ∷ xs) zs y z (suc n) e = ap (λ l. x ∷ l) (set_there xs zs y z n (omega arith))

  drop_head : (xs : List X) (n : ℕ) (d : X) → n < length xs → drop n xs ≡ get_or xs n d ∷ drop (suc n) xs
  drop_head [] n d h = absurd (omega arith)
  drop_head (x ∷ xs) zero d h = refl
  drop_head (x ∷ xs) (suc n) d h = drop_head xs n d (omega arith)

  take_last : (xs : List X) (n : ℕ) (d : X) → n < length xs → take (suc n) xs ≡ take n xs ++ get_or xs n d ∷ []
  take_last [] n d h = absurd (omega arith)
  take_last (x ∷ xs) zero d h = refl
  take_last (x ∷ xs) (suc n) d h = ap (λ l. x ∷ l) (take_last xs n d (omega arith))

  take_set : (xs : List X) (n : ℕ) (x : X) → n < length xs → take (suc n) (slice_set xs n x) ≡ take n xs ++ x ∷ []
  take_set [] n x h = absurd (omega arith)
  take_set (y ∷ ys) zero x h = refl
  take_set (y ∷ ys) (suc n) x h = ap (λ l. y ∷ l) (take_set ys n x (omega arith))

  drop_set : (xs : List X) (n m : ℕ) (x : X) → n < m → drop m (slice_set xs n x) ≡ drop m xs
  drop_set [] n m x h = refl
  drop_set (y ∷ ys) n zero x h = absurd (omega arith)
  drop_set (y ∷ ys) zero (suc m) x h = refl
  drop_set (y ∷ ys) (suc n) (suc m) x h = drop_set ys n m x (omega arith)

  at_front : (xs : List X) (n : ℕ) (d : X) → get_or (drop n xs) 0 d ≡ get_or xs n d
  at_front xs zero d = refl
  at_front [] (suc n) d = refl
  at_front (x ∷ xs) (suc n) d = at_front xs n d

  drop_next : (xs ys : List X) (n : ℕ) → drop n xs ≡ drop n ys → drop (suc n) xs ≡ drop (suc n) ys
  drop_next xs ys n e = sym (further xs n) ∙ ap (drop 1) e ∙ further ys n
    where
      further : (zs : List X) (k : ℕ) → drop 1 (drop k zs) ≡ drop (suc k) zs
      further zs zero = refl
      further [] (suc k) = refl
      further (z ∷ zs) (suc k) = further zs k

  map_snoc : {Y : Type 0} (f : X → Y) (xs : List X) (x : X) → map f (xs ++ x ∷ []) ≡ map f xs ++ f x ∷ []
  map_snoc f [] x = refl
  map_snoc f (y ∷ ys) x = ap (λ l. f y ∷ l) (map_snoc f ys x)

  long_map : {Y : Type 0} (f : X → Y) (xs : List X) → length (map f xs) ≡ length xs
  long_map f [] = refl
  long_map f (x ∷ xs) = ap suc (long_map f xs)

module _ (R : ℕ → Filter → ℕ) (most : ℕ) (ws : List Watch) (es : List Event) where
  pub begun : IsSortedOut R most ws es 0 0 ws [] es
  begun = record {
    count = refl;
    others = refl;
    rest = refl;
    told = sym (ap (map told_watch) none);
    events = ap (λ (l : List Watch). map (event_of R) l ++ es) (sym none);
  }
    where
      none_of : (n : ℕ) → take {A = Watch} n [] ≡ []
      none_of zero = refl
      none_of (suc n) = refl

      none : reports R most (take 0 ws) ≡ []
      none = none_of most

  module _ (at front : ℕ) (vs rs : List Watch) (fs : List Event) (w d : Watch) (h : IsSortedOut R most ws es at front vs rs fs) (within : at < length ws) (is : w ≡ get_or vs at d) where
    abbrev seen : List Watch
    seen = take at ws

    one : take (suc at) ws ≡ seen ++ w ∷ []
    one = take_last ws at d within ∙ ap (λ x. seen ++ x ∷ []) (sym (at_front ws at d) ∙ ap (λ l. get_or l 0 d) (sym h.rest) ∙ at_front vs at d ∙ sym is)

    many : length (reports R most seen) ≡ length rs
    many = sym (ap length h.told ∙ long_map told_watch (reports R most seen))

    next_reports : (b : Bool) → (nat_lt (length rs) most && is_reported R w) ≡ b → reports R most (take (suc at) ws) ≡ (if b then reports R most seen ++ w ∷ [] else reports R most seen)
    next_reports b e = ap (reports R most) one ∙ first_more (is_reported R) most seen w ∙ ap (λ n. if nat_lt n most && is_reported R w then reports R most seen ++ w ∷ [] else reports R most seen) many ∙ ap (λ c. if c then reports R most seen ++ w ∷ [] else reports R most seen) e

    next_others : (b : Bool) → (nat_lt (length rs) most && is_reported R w) ≡ b → without_first (is_reported R) most (take (suc at) ws) ≡ (if b then without_first (is_reported R) most seen else without_first (is_reported R) most seen ++ w ∷ [])
    next_others b e = ap (without_first (is_reported R) most) one ∙ others_more (is_reported R) most seen w ∙ ap (λ n. if nat_lt n most && is_reported R w then without_first (is_reported R) most seen else without_first (is_reported R) most seen ++ w ∷ []) many ∙ ap (λ c. if c then without_first (is_reported R) most seen else without_first (is_reported R) most seen ++ w ∷ []) e

    many_events : length rs ≡ length (map (event_of R) (reports R most seen))
    many_events = sym (long_map (event_of R) (reports R most seen) ∙ many)

    abbrev event : Event
    event = event_of R w

    with_event : length rs < length es → slice_set fs (length rs) event ≡ (map (event_of R) (reports R most seen) ++ event ∷ []) ++ drop (suc (length rs)) es
    with_event room =
        ap (λ (l : List Event). slice_set l (length rs) event) (h.events ∙ ap (λ (l : List Event). map (event_of R) (reports R most seen) ++ l) (drop_head es (length rs) event room))
        ∙ set_there (map (event_of R) (reports R most seen)) (drop (suc (length rs)) es) (get_or es (length rs) event) event (length rs) many_events
        ∙ sym (append_assoc (map (event_of R) (reports R most seen)) (event ∷ []) (drop (suc (length rs)) es))

    one_more : (n : ℕ) → n + 1 ≡ suc n
    one_more n = omega arith

    -- the next interest is reported
    reported_next : (nat_lt (length rs) most && is_reported R w) ≡ true → length rs < length es → IsSortedOut R most ws es (suc at) front vs (rs ++ told_watch w ∷ []) (slice_set fs (length rs) (event_of R w))
    reported_next e room = let n = next_reports true e in let o = next_others true e in let d' = drop_next vs ws at h.rest in record {
      count = omega (arith, length-append rs (told_watch w ∷ []), h.count);
      others = h.others ∙ sym o;
      rest = d';
      told = ap (λ (l : List Watch). l ++ told_watch w ∷ []) h.told ∙ sym (map_snoc told_watch (reports R most seen) w) ∙ ap (map told_watch) (sym n);
      events = let longer : suc (length rs) ≡ length (rs ++ told_watch w ∷ []) = omega (arith, length-append rs (told_watch w ∷ [])) in with_event room ∙ ap₂ (λ (l : List Event) k. l ++ drop k es) (sym (map_snoc (event_of R) (reports R most seen) w) ∙ ap (map (event_of R)) (sym n)) longer;
    }

    pub with_report : (nat_lt (length rs) most && is_reported R w) ≡ true → length rs < length es → IsSortedOut R most ws es (at + 1) front vs (rs ++ told_watch w ∷ []) (slice_set fs (length rs) event)
    with_report e room = subst (λ (n : ℕ). IsSortedOut R most ws es n front vs (rs ++ told_watch w ∷ []) (slice_set fs (length rs) event)) (sym (one_more at)) (reported_next e room)

    -- it isn't
    other_next : (nat_lt (length rs) most && is_reported R w) ≡ false → front < length vs → IsSortedOut R most ws es (suc at) (suc front) (slice_set vs front w) rs fs
    other_next e room = let n = next_reports false e in let o = next_others false e in record {
      count = omega (arith, h.count);
      others = take_set vs front w room ∙ ap (λ (l : List Watch). l ++ w ∷ []) h.others ∙ sym o;
      rest = drop_set vs front (suc at) w (omega (arith, h.count)) ∙ drop_next vs ws at h.rest;
      told = h.told ∙ ap (map told_watch) (sym n);
      events = h.events ∙ ap (λ (l : List Watch). map (event_of R) l ++ drop (length rs) es) (sym n);
    }

    pub with_other : (nat_lt (length rs) most && is_reported R w) ≡ false → front < length vs → IsSortedOut R most ws es (at + 1) (front + 1) (slice_set vs front w) rs fs
    with_other e room =
        subst (λ (n : ℕ). IsSortedOut R most ws es n (front + 1) (slice_set vs front w) rs fs) (sym (one_more at))
        (subst (λ (n : ℕ). IsSortedOut R most ws es (suc at) n (slice_set vs front w) rs fs) (sym (one_more front)) (other_next e room))

-- what the answer on one interest says
pub some_next : (b : Bool) (bits n : ℕ) → Some bits ≡ (if b then Some n else None) → (b ≡ true) × (bits ≡ n)
some_next true bits n e = (refl, cc)
some_next false bits n e = absurd (cc)

pub none_next : (b : Bool) (n : ℕ) → None ≡ (if b then Some n else None) → b ≡ false
none_next true n e = absurd (cc)
none_next false n e = refl
