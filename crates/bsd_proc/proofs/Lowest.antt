-- The lowest unblocked signal of a list is the first of the table that is ready there.
use Rattle.std.proofs.Common.{◌≡◌, ℕ, ◌+◌, ◌<◌, ◌≤◌, ◌==◌, Bool, true, false, List, [], ◌∷◌, length, refl, sym, ap, ◌∙◌, subst, arith, inl, inr}
use Rattle.std.proofs.lemmas.Bool.{eqb-true, eq-eqb}
use Rattle.std.specs.Prelude.{nat_lt, not, ◌&&◌, ◌||◌, ◌⊎◌, fold, find, Option, Some, None, is_some, IfSome, if◌then◌else◌}
use Rattle.std.specs.List.{list_any}
use Rattle.std.proofs.lemmas.Bool.Decides.{nat_tests}
use Rattle.bsd_abi.specs.declared.signals.BsdSig.{BsdSig}
use Rattle.bsd_abi.specs.BsdSig.{linux_signal_number, place_of, is_real_time, all_signals}
use Rattle.bsd_abi.proofs.SignalTable.{all_signals-place, number-at, is_counted}
use Rattle.bsd_proc.specs.declared.signals.Signal.{Signal}
use Rattle.bsd_proc.specs.Signals.{first_of, has_signal, is_of, has_unblocked}
use Rattle.bsd_proc.specs.Taking.{is_ready, is_before, may_take, first_ready}
use Rattle.bsd_proc.specs.Steps.{lower, found_with}
use Rattle.bsd_proc.proofs.SignalPlaces.{same_place}

-- ---- bits of tests

and-true : (a b : Bool) → (a && b) ≡ true → (a ≡ true) × (b ≡ true)
and-true true b e = (refl, e)
and-true false b e = absurd (cc)

both-true : (a b : Bool) → a ≡ true → b ≡ true → (a && b) ≡ true
both-true true b e f = f
both-true false b e f = absurd (cc)

and-false : (a b : Bool) → (a ≡ true → b ≡ false) → (a && b) ≡ false
and-false true b f = f refl
and-false false b f = refl

or-left : (a b : Bool) → a ≡ true → (a || b) ≡ true
or-left true b e = refl
or-left false b e = absurd (cc)

or-right : (a b : Bool) → b ≡ true → (a || b) ≡ true
or-right true b e = refl
or-right false b e = e

not-true : (a : Bool) → not a ≡ true → a ≡ false
not-true true e = absurd (cc)
not-true false e = refl

not-false : (a : Bool) → a ≡ false → not a ≡ true
not-false true e = absurd (cc)
not-false false e = refl

-- ---- what a walk over a list finds

-- every signal of the list is blocked; every unblocked one stands at place k or above
abbrev NoneReady : ℕ → List Signal → Type 0
NoneReady mask [] = Unit {0}
NoneReady mask (x ∷ xs) = (has_signal mask x.sig ≡ true) × NoneReady mask xs

abbrev AboveAll : ℕ → ℕ → List Signal → Type 0
AboveAll mask k [] = Unit {0}
AboveAll mask k (x ∷ xs) = (has_signal mask x.sig ≡ false → k ≤ place_of x.sig) × AboveAll mask k xs

abbrev NotAbove : Option BsdSig → BsdSig → Type 0
NotAbove None b = Unit {0}
NotAbove (Some a) b = place_of b ≤ place_of a

-- the walk over the list began with `o`, and found `r`
abbrev Walked : ℕ → List Signal → Option BsdSig → Option BsdSig → Type 0
Walked mask xs o None = (o ≡ None) × NoneReady mask xs
Walked mask xs o (Some b) = ((o ≡ Some b) ⊎ (is_ready mask xs b ≡ true)) × NotAbove o b × AboveAll mask (place_of b) xs

ready-later : (mask : ℕ) (x : Signal) (xs : List Signal) (b : BsdSig) → is_ready mask xs b ≡ true → is_ready mask (x ∷ xs) b ≡ true
ready-later mask x xs b e =
    let both : (list_any (is_of b) xs ≡ true) × (not (has_signal mask b) ≡ true) = and-true (list_any (is_of b) xs) (not (has_signal mask b)) e in
    both-true (list_any (is_of b) (x ∷ xs)) (not (has_signal mask b)) (or-right (is_of b x) (list_any (is_of b) xs) both.0) both.1

ready-here : (mask : ℕ) (x : Signal) (xs : List Signal) (b : BsdSig) → has_signal mask x.sig ≡ false → x.sig ≡ b → is_ready mask (x ∷ xs) b ≡ true
ready-here mask x xs b e same =
    both-true (list_any (is_of b) (x ∷ xs)) (not (has_signal mask b))
    (or-left (is_of b x) (list_any (is_of b) xs) (eq-eqb (place_of x.sig) (place_of b) (ap place_of same)))
    (not-false (has_signal mask b) (sym (ap (λ s. has_signal mask s) same) ∙ e))

some-is : (a b : BsdSig) → Some a ≡ Some b → a ≡ b
some-is a b e = cc

lt-of : (p q : ℕ) → nat_lt p q ≡ true → p < q
lt-of p q e = grind (arith, nat_tests)

ge-of : (p q : ℕ) → nat_lt p q ≡ false → q ≤ p
ge-of p q e = grind (arith, nat_tests)

module _ (mask : ℕ) (x : Signal) (xs : List Signal) where
  -- the signal itself is the lowest so far
  with-this : (o : Option BsdSig) (b : BsdSig) → has_signal mask x.sig ≡ false → (place_of b ≤ place_of x.sig → NotAbove o b)
      → Walked mask xs (Some x.sig) (Some b) → Walked mask (x ∷ xs) o (Some b)
  with-this o b e under w = (
    elim w.0 [ inl same ↦ inr (ready-here mask x xs b e (some-is x.sig b same)) | inr later ↦ inr (ready-later mask x xs b later) ],
    under w.1,
    ((λ f. w.1), w.2),
  )

  -- what was found before stays
  with-older : (a b : BsdSig) → place_of a ≤ place_of x.sig → Walked mask xs (Some a) (Some b) → Walked mask (x ∷ xs) (Some a) (Some b)
  with-older a b under w = (
    elim w.0 [ inl same ↦ inl same | inr later ↦ inr (ready-later mask x xs b later) ],
    w.1,
    ((λ f. (let at-most : place_of b ≤ place_of a = w.1 in omega arith)), w.2),
  )

  unblocked-some : (a b : BsdSig) (t : Bool) → nat_lt (place_of x.sig) (place_of a) ≡ t → Walked mask xs (if t then Some x.sig else Some a) (Some b)
      → has_signal mask x.sig ≡ false → Walked mask (x ∷ xs) (Some a) (Some b)
  unblocked-some a b true lt w e = with-this (Some a) b e (λ h. (let below : place_of x.sig < place_of a = lt-of (place_of x.sig) (place_of a) lt in omega arith)) w
  unblocked-some a b false ge w e = with-older a b (ge-of (place_of x.sig) (place_of a) ge) w

  unblocked-none : (a : BsdSig) (t : Bool) → Walked mask xs (if t then Some x.sig else Some a) None → Walked mask (x ∷ xs) (Some a) None
  unblocked-none a true w = absurd (let e : Some x.sig ≡ None = w.0 in (cc))
  unblocked-none a false w = absurd (let e : Some a ≡ None = w.0 in (cc))

  unblocked : (o r : Option BsdSig) → has_signal mask x.sig ≡ false → Walked mask xs (lower o x.sig) r → Walked mask (x ∷ xs) o r
  unblocked None None e w = absurd (let f : Some x.sig ≡ None = w.0 in (cc))
  unblocked None (Some b) e w = with-this None b e (λ h. tt) w
  unblocked (Some a) None e w = unblocked-none a (nat_lt (place_of x.sig) (place_of a)) w
  unblocked (Some a) (Some b) e w = unblocked-some a b (nat_lt (place_of x.sig) (place_of a)) refl w e

  blocked : (o r : Option BsdSig) → has_signal mask x.sig ≡ true → Walked mask xs o r → Walked mask (x ∷ xs) o r
  blocked o None e w = (w.0, (e, w.1))
  blocked o (Some b) e w = (
    elim w.0 [ inl same ↦ inl same | inr later ↦ inr (ready-later mask x xs b later) ],
    w.1,
    ((λ f. absurd (let g : true ≡ false = sym e ∙ f in (cc))), w.2),
  )

  step : (o r : Option BsdSig) (t : Bool) → has_signal mask x.sig ≡ t → Walked mask xs (if t then o else lower o x.sig) r → Walked mask (x ∷ xs) o r
  step o r true e w = blocked o r e w
  step o r false e w = unblocked o r e w

walked : (mask : ℕ) (xs : List Signal) (o : Option BsdSig) → Walked mask xs o (fold (found_with mask) o xs)
walked mask [] None = (refl, tt)
walked mask [] (Some b) = (inl refl, omega arith, tt)
walked mask (x ∷ xs) o =
    step mask x xs o (fold (found_with mask) (found_with mask o x) xs) (has_signal mask x.sig) refl (walked mask xs (found_with mask o x))

-- ---- against the table

number-is : (s : BsdSig) → linux_signal_number s ≡ place_of s + 1
number-is s = sym (ap linux_signal_number (all_signals-place s).1) ∙ number-at (place_of s) s (all_signals-place s).0

find-none : (test : BsdSig → Bool) (ss : List BsdSig) → ((s : BsdSig) → test s ≡ false) → find test ss ≡ None
find-none test [] h = refl
find-none test (s ∷ ss) h = by (test s) (h s) (find-none test ss h)
  where
    by : (b : Bool) → b ≡ false → find test ss ≡ None → (if b then Some s else find test ss) ≡ None
    by true e next = absurd (cc)
    by false e next = next

module _ (test : BsdSig → Bool) (b : BsdSig) (passes : test b ≡ true) (least : (s : BsdSig) → test s ≡ true → place_of b ≤ place_of s) where
  find-from : (ss : List BsdSig) (n : ℕ) → is_counted n ss ≡ true → n ≤ linux_signal_number b → linux_signal_number b < n + length ss → find test ss ≡ Some b
  find-from [] n counted from within = absurd (omega arith)
  find-from (s ∷ ss) n counted from within = by (test s) refl (find-from ss)
    where
      both : ((linux_signal_number s == n) ≡ true) × (is_counted (n + 1) ss ≡ true)
      both = and-true (linux_signal_number s == n) (is_counted (n + 1) ss) counted

      here : linux_signal_number s ≡ n
      here = eqb-true (linux_signal_number s) n both.0

      same-as : linux_signal_number b ≡ n → s ≡ b
      same-as e = same_place s b (omega (arith, number-is s, number-is b, here, e))

      by : (t : Bool) → test s ≡ t → ((m : ℕ) → is_counted m ss ≡ true → m ≤ linux_signal_number b → linux_signal_number b < m + length ss → find test ss ≡ Some b) → (if t then Some s else find test ss) ≡ Some b
      by true e next = ap Some (same-as (omega (arith, least s e, number-is s, number-is b, here)))
      by false e next = next (n + 1) both.1 (after (linux_signal_number b == n) refl) (omega arith)
        where
          after : (t : Bool) → (linux_signal_number b == n) ≡ t → n + 1 ≤ linux_signal_number b
          after true f = absurd (let g : true ≡ false = sym passes ∙ sym (ap test (same-as (eqb-true (linux_signal_number b) n f))) ∙ e in (cc))
          after false f = grind (arith, nat_tests)

  pub find-least : find test all_signals ≡ Some b
  find-least = find-from all_signals 1 refl (omega (arith, number-is b)) (omega (arith, number-is b, (all_signals-place b).0))

-- ---- the walk, signal by signal

there-of : (s : BsdSig) (x : Signal) → is_of s x ≡ true → x.sig ≡ s
there-of s x e = same_place x.sig s (eqb-true (place_of x.sig) (place_of s) e)

blocked-all : (mask : ℕ) (xs : List Signal) (s : BsdSig) → NoneReady mask xs → list_any (is_of s) xs ≡ true → has_signal mask s ≡ true
blocked-all mask [] s none any = absurd (cc)
blocked-all mask (x ∷ xs) s none any = by (is_of s x) refl any (blocked-all mask xs s none.1)
  where
    by : (t : Bool) → is_of s x ≡ t → (t || list_any (is_of s) xs) ≡ true → (list_any (is_of s) xs ≡ true → has_signal mask s ≡ true) → has_signal mask s ≡ true
    by true e f next = sym (ap (λ z. has_signal mask z) (there-of s x e)) ∙ none.0
    by false e f next = next f

above-each : (mask k : ℕ) (xs : List Signal) (s : BsdSig) → AboveAll mask k xs → list_any (is_of s) xs ≡ true → has_signal mask s ≡ false → k ≤ place_of s
above-each mask k [] s above any open' = absurd (cc)
above-each mask k (x ∷ xs) s above any open' = by (is_of s x) refl any (λ f. above-each mask k xs s above.1 f open')
  where
    by : (t : Bool) → is_of s x ≡ t → (t || list_any (is_of s) xs) ≡ true → (list_any (is_of s) xs ≡ true → k ≤ place_of s) → k ≤ place_of s
    by true e f next = subst (λ (z : BsdSig). k ≤ place_of z) (there-of s x e) (above.0 (ap (λ z. has_signal mask z) (there-of s x e) ∙ open'))
    by false e f next = next f

ready-of : (mask : ℕ) (xs : List Signal) (b : BsdSig) → ((None ≡ Some b) ⊎ (is_ready mask xs b ≡ true)) → is_ready mask xs b ≡ true
ready-of mask xs b w = elim w [ inl same ↦ absurd (cc) | inr ready ↦ ready ]

found-as : (mask : ℕ) (xs : List Signal) (r : Option BsdSig) → Walked mask xs None r → first_ready mask xs ≡ r
unfolding first_ready
found-as mask xs None w =
    find-none (is_ready mask xs) all_signals (λ s. and-false (list_any (is_of s) xs) (not (has_signal mask s)) (λ any. ap not (blocked-all mask xs s w.1 any)))
found-as mask xs (Some b) w =
    find-least (is_ready mask xs) b (ready-of mask xs b w.0)
    (λ s ready.
    let both : (list_any (is_of s) xs ≡ true) × (not (has_signal mask s) ≡ true) = and-true (list_any (is_of s) xs) (not (has_signal mask s)) ready in
    above-each mask (place_of b) xs s w.2 both.0 (not-true (has_signal mask s) both.1))

-- a walk over the whole list finds the first ready signal of the table
pub found-first : (mask : ℕ) (xs : List Signal) → fold (found_with mask) None xs ≡ first_ready mask xs
found-first mask xs = sym (found-as mask xs (fold (found_with mask) None xs) (walked mask xs None))

walked-first : (mask : ℕ) (xs : List Signal) → Walked mask xs None (first_ready mask xs)
walked-first mask xs = subst (λ (r : Option BsdSig). Walked mask xs None r) (found-first mask xs) (walked mask xs None)

-- ---- it may be taken, and there is none exactly where nothing unblocked is pending

none-before : (mask : ℕ) (xs : List Signal) (b : BsdSig) → AboveAll mask (place_of b) xs → list_any (is_before mask b) xs ≡ false
none-before mask [] b above = refl
none-before mask (x ∷ xs) b above = by (has_signal mask x.sig) refl (none-before mask xs b above.1)
  where
    later : (rt t : Bool) → t ≡ false → (rt && t && true) ≡ false
    later true t e = ap (λ (z : Bool). z && true) e
    later false t e = refl

    hidden : (rt t : Bool) → (rt && t && false) ≡ false
    hidden true true = refl
    hidden true false = refl
    hidden false t = refl

    by : (t : Bool) → has_signal mask x.sig ≡ t → list_any (is_before mask b) xs ≡ false → (is_real_time x.sig && nat_lt (place_of x.sig) (place_of b) && not t || list_any (is_before mask b) xs) ≡ false
    by true e next = ap (λ (z : Bool). z || list_any (is_before mask b) xs) (hidden (is_real_time x.sig) (nat_lt (place_of x.sig) (place_of b))) ∙ next
    by false e next =
        let at-least : place_of b ≤ place_of x.sig = above.0 e in
        let not-below : nat_lt (place_of x.sig) (place_of b) ≡ false = grind (arith, nat_tests) in
        ap (λ (z : Bool). z || list_any (is_before mask b) xs) (later (is_real_time x.sig) (nat_lt (place_of x.sig) (place_of b)) not-below) ∙ next

pub may_take-first : (mask : ℕ) (xs : List Signal) (b : BsdSig) → first_ready mask xs ≡ Some b → may_take mask xs b ≡ true
may_take-first mask xs b e =
    let w : Walked mask xs None (Some b) = subst (λ (r : Option BsdSig). Walked mask xs None r) e (walked-first mask xs) in
    both-true (is_ready mask xs b) (not (is_real_time b && list_any (is_before mask b) xs)) (ready-of mask xs b w.0)
    (not-false (is_real_time b && list_any (is_before mask b) xs) (and-false (is_real_time b) (list_any (is_before mask b) xs) (λ _. none-before mask xs b w.2)))

nothing-unblocked : (mask : ℕ) (xs : List Signal) → NoneReady mask xs → has_unblocked mask xs ≡ false
nothing-unblocked mask [] none = refl
nothing-unblocked mask (x ∷ xs) none = ap (λ (z : Bool). not z || has_unblocked mask xs) none.0 ∙ nothing-unblocked mask xs none.1

something-unblocked : (mask : ℕ) (xs : List Signal) (b : BsdSig) → list_any (is_of b) xs ≡ true → has_signal mask b ≡ false → has_unblocked mask xs ≡ true
something-unblocked mask [] b any open' = absurd (cc)
something-unblocked mask (x ∷ xs) b any open' = by (is_of b x) refl any (λ f. something-unblocked mask xs b f open')
  where
    by : (t : Bool) → is_of b x ≡ t → (t || list_any (is_of b) xs) ≡ true → (list_any (is_of b) xs ≡ true → has_unblocked mask xs ≡ true) → has_unblocked mask (x ∷ xs) ≡ true
    by true e f next = or-left (not (has_signal mask x.sig)) (has_unblocked mask xs) (not-false (has_signal mask x.sig) (ap (λ z. has_signal mask z) (there-of b x e) ∙ open'))
    by false e f next = or-right (not (has_signal mask x.sig)) (has_unblocked mask xs) (next f)

unblocked-by : (mask : ℕ) (xs : List Signal) (r : Option BsdSig) → Walked mask xs None r → is_some r ≡ has_unblocked mask xs
unblocked-by mask xs None w = sym (nothing-unblocked mask xs w.1)
unblocked-by mask xs (Some b) w =
    let both : (list_any (is_of b) xs ≡ true) × (not (has_signal mask b) ≡ true) = and-true (list_any (is_of b) xs) (not (has_signal mask b)) (ready-of mask xs b w.0) in
    sym (something-unblocked mask xs b both.0 (not-true (has_signal mask b) both.1))

pub some-unblocked : (mask : ℕ) (xs : List Signal) → is_some (first_ready mask xs) ≡ has_unblocked mask xs
some-unblocked mask xs = unblocked-by mask xs (first_ready mask xs) (walked-first mask xs)

-- of no signals none is ready
pub nothing_ready : (mask : ℕ) → first_ready mask [] ≡ None
unfolding first_ready
nothing_ready mask = refl

-- what is found may be taken
pub if_may : (mask : ℕ) (xs : List Signal) (r : Option BsdSig) → r ≡ first_ready mask xs → IfSome r (λ sig. may_take mask xs sig ≡ true)
if_may mask xs None e = tt
if_may mask xs (Some b) e = may_take-first mask xs b (sym e)

-- what may be taken is there
find-some : (p : Signal → Bool) (xs : List Signal) → list_any p xs ≡ true → is_some (find p xs) ≡ true
find-some p [] e = absurd (cc)
find-some p (x ∷ xs) e = by (p x) e (find-some p xs)
  where
    by : (b : Bool) → (b || list_any p xs) ≡ true → (list_any p xs ≡ true → is_some (find p xs) ≡ true) → is_some (if b then Some x else find p xs) ≡ true
    by true f next = refl
    by false f next = next f

pub taken-there : (mask : ℕ) (xs : List Signal) (sig : BsdSig) → may_take mask xs sig ≡ true → is_some (first_of sig xs) ≡ true
taken-there mask xs sig e =
    find-some (is_of sig) xs
    (and-true (list_any (is_of sig) xs) (not (has_signal mask sig))
    (and-true (is_ready mask xs sig) (not (is_real_time sig && list_any (is_before mask sig) xs)) e).0).0
