-- What changes, events of a file and scans keep of the interests: no two have one name, each has a knote, and there are at most
-- 512.
use Rattle.std.proofs.Common.{◌≡◌, ℕ, suc, ◌<◌, ◌≤◌, Bool, true, false, not, ◌||◌, ◌&&◌, List, [], ◌∷◌, ◌++◌, map, length, Option, Some, None, refl, sym, ap, ap₂, ◌∙◌, arith, length-append}
use Rattle.std.specs.Prelude.{◌==◌, filter, nat_le, is_some, if◌then◌else◌}
use Rattle.std.specs.List.{list_any}
use Rattle.std.proofs.lemmas.Grind.{common_steps}
use Rattle.kqueue_core.specs.declared.knotes.Filter.{Filter}
use Rattle.kqueue_core.specs.declared.knotes.Filter.TheVariants.{Read, Write}
use Rattle.kqueue_core.specs.declared.knotes.Knote.{Knote}
use Rattle.kqueue_core.specs.declared.knotes.Watch.{Watch}
use Rattle.kqueue_core.specs.Knotes.{adds, made, remade, awake, told_knote}
use Rattle.kqueue_core.specs.Watches.{is_of, knote_at, with_knote, has_knote, fresh, changed_watch, activated_watch, told_watch}
use Rattle.kqueue_core.specs.Changes.{tally, IsWatches, is_named, has_filter, change_fault, stays, changed_by, activated_where, activated_by}
use Rattle.kqueue_core.specs.Reports.{is_reported, without_first, reports, scanned}
use Rattle.kqueue_core.proofs.Tallies.{tally-append, tally-map, tally-filter, tally-same, tally_within, tally_none}
use Rattle.kqueue_core.proofs.Reporting.{split_first, length_parts}

long_map : {X Y : Type 0} (f : X → Y) (xs : List X) → length (map f xs) ≡ length xs
long_map f [] = refl
long_map f (x ∷ xs) = ap suc (long_map f xs)

long_filter : {X : Type 0} (p : X → Bool) (xs : List X) → length (filter p xs) ≤ length xs
long_filter p [] = omega arith
long_filter p (x ∷ xs) = let a = long_filter p xs in grind (arith, common_steps)

pub both : (a b : Bool) → (a && b) ≡ true → (a ≡ true) × (b ≡ true)
both true b e = (refl, e)
both false b e = let z : false ≡ true = e in absurd (cc)

-- of those that stay, no more pass than of all
fewer : {X : Type 0} (q p : X → Bool) (xs : List X) → tally p (filter q xs) ≤ tally p xs
fewer q p xs = let a = tally-filter q p xs in let b = tally_within (λ x. q x && p x) p (λ x e. (both (q x) (p x) e).1) xs in omega arith

-- ---- names

module _ (file descriptor : ℕ) where
  named_with : (f : Filter) (k : Option Knote) (w : Watch) → is_of file descriptor (with_knote f k w) ≡ is_of file descriptor w
  named_with Read k w = refl
  named_with Write k w = refl

  named_changed : (a b : ℕ) (f : Filter) (flags asked user : ℕ) (ready : Bool) (w : Watch) → is_of file descriptor (changed_watch a b f flags asked user ready w) ≡ is_of file descriptor w
  named_changed a b f flags asked user ready w = by (is_of a b w)
    where
      by : (c : Bool) → is_of file descriptor (if c then with_knote f (remade flags asked user ready (knote_at f w)) w else w) ≡ is_of file descriptor w
      by true = named_with f (remade flags asked user ready (knote_at f w)) w
      by false = refl

  named_activated : (p : ℕ → Bool) (f : Filter) (w : Watch) → is_of file descriptor (activated_where p f w) ≡ is_of file descriptor w
  named_activated p f w = by f (p w.file)
    where
      by : (g : Filter) (c : Bool) → is_of file descriptor (if c then activated_watch g w else w) ≡ is_of file descriptor w
      by Read true = refl
      by Write true = refl
      by g false = refl

some_awake : (k : Option Knote) → is_some (awake k) ≡ is_some k
some_awake None = refl
some_awake (Some k) = refl

some_told : (k : Option Knote) → is_some (told_knote k) ≡ is_some k
some_told None = refl
some_told (Some k) = refl

whole_activated : (p : ℕ → Bool) (f : Filter) (w : Watch) → has_knote (activated_where p f w) ≡ has_knote w
whole_activated p f w = by f (p w.file)
  where
    by : (g : Filter) (c : Bool) → has_knote (if c then activated_watch g w else w) ≡ has_knote w
    by Read true = ap (λ b. b || is_some w.write) (some_awake w.read)
    by Write true = ap (λ b. is_some w.read || b) (some_awake w.write)
    by g false = refl

whole_told : (w : Watch) → has_knote (told_watch w) ≡ has_knote w
whole_told w = ap₂ (λ a b. a || b) (some_told w.read) (some_told w.write)

-- ---- events of a file

pub kept_activated : (p : ℕ → Bool) (f : Filter) (ws : List Watch) → IsWatches ws → IsWatches (activated_by p f ws)
kept_activated p f ws h = record {
  once = λ a b.
      let m = tally-map (activated_where p f) (is_of a b) ws in
      let s = tally-same (λ w. is_of a b (activated_where p f w)) (is_of a b) (named_activated a b p f) ws in
      let o = h.once a b in
      omega arith;
  whole =
      let m = tally-map (activated_where p f) (λ w. not (has_knote w)) ws in
      let s = tally-same (λ w. not (has_knote (activated_where p f w))) (λ w. not (has_knote w)) (λ w. ap not (whole_activated p f w)) ws in
      let o = h.whole in
      omega arith;
  few = let l = long_map (activated_where p f) ws in let o = h.few in omega arith;
}

pub kept_without : (q : Watch → Bool) (ws : List Watch) → IsWatches ws → IsWatches (filter q ws)
kept_without q ws h = record {
  once = λ a b. let l = fewer q (is_of a b) ws in let o = h.once a b in omega arith;
  whole = let l = fewer q (λ w. not (has_knote w)) ws in let o = h.whole in omega arith;
  few = let l = long_filter q ws in let o = h.few in omega arith;
}

-- ---- a scan

module _ (R : ℕ → Filter → ℕ) (most : ℕ) (ws : List Watch) where
  abbrev os : List Watch
  os = without_first (is_reported R) most ws

  pub same_scanned : (t : Watch → Bool) → ((w : Watch) → t (told_watch w) ≡ t w) → tally t (scanned R most ws) ≡ tally t ws
  same_scanned t h =
      let a = tally-append t os (map told_watch (reports R most ws)) in
      let b = tally-map told_watch t (reports R most ws) in
      let c = tally-same (λ w. t (told_watch w)) t h (reports R most ws) in
      let d = split_first (is_reported R) t most ws in
      omega arith

  pub kept_scanned : IsWatches ws → IsWatches (scanned R most ws)
  kept_scanned h = record {
    once = λ a b. let s = same_scanned (is_of a b) (λ w. refl) in let o = h.once a b in omega arith;
    whole = let s = same_scanned (λ w. not (has_knote w)) (λ w. ap not (whole_told w)) in let o = h.whole in omega arith;
    few =
        let l = length-append os (map told_watch (reports R most ws)) in
        let m = long_map told_watch (reports R most ws) in
        let p = length_parts (is_reported R) most ws in
        let o = h.few in
        omega arith;
  }

-- ---- a change

fresh_name : (a b file descriptor : ℕ) (f : Filter) (k : Knote) → is_of a b (fresh file descriptor f k) ≡ ((file == a) && (descriptor == b))
fresh_name a b file descriptor Read k = refl
fresh_name a b file descriptor Write k = refl

fresh_whole : (file descriptor : ℕ) (f : Filter) (k : Knote) → has_knote (fresh file descriptor f k) ≡ true
fresh_whole file descriptor Read k = refl
fresh_whole file descriptor Write k = refl

pub eq_is : (n m : ℕ) → (n == m) ≡ true → n ≡ m
eq_is n m h = grind arith

module _ (file descriptor : ℕ) (f : Filter) (flags asked user : ℕ) (ready : Bool) (ws : List Watch) (h : IsWatches ws) where
  abbrev new : Watch
  new = fresh file descriptor f (made flags asked user ready true)

  -- a new name
  added_once : is_named file descriptor ws ≡ false → (a b : ℕ) → tally (is_of a b) (ws ++ new ∷ []) ≤ 1
  added_once apart a b = by ((file == a) && (descriptor == b)) refl
    where
      by : (c : Bool) → ((file == a) && (descriptor == b)) ≡ c → tally (is_of a b) (ws ++ new ∷ []) ≤ 1
      by true e =
          let n = both (file == a) (descriptor == b) e in
          let none = tally_none (is_of file descriptor) ws apart in
          let none' : tally (is_of a b) ws ≡ 0 = ap₂ (λ x y. tally (is_of x y) ws) (sym (eq_is file a n.0)) (sym (eq_is descriptor b n.1)) ∙ none in
          let s = tally-append (is_of a b) ws (new ∷ []) in
          let one : tally (is_of a b) (new ∷ []) ≡ 1 = rw (fresh_name a b file descriptor f (made flags asked user ready true), e) refl in
          omega arith
      by false e =
          let s = tally-append (is_of a b) ws (new ∷ []) in
          let none : tally (is_of a b) (new ∷ []) ≡ 0 = rw (fresh_name a b file descriptor f (made flags asked user ready true), e) refl in
          let o = h.once a b in
          omega arith

  added_whole : tally (λ w. not (has_knote w)) (ws ++ new ∷ []) ≤ 0
  added_whole =
      let s = tally-append (λ w. not (has_knote w)) ws (new ∷ []) in
      let none : tally (λ w. not (has_knote w)) (new ∷ []) ≡ 0 = rw (fresh_whole file descriptor f (made flags asked user ready true)) refl in
      let o = h.whole in
      omega arith

  kept_added : is_named file descriptor ws ≡ false → length ws < 512 → IsWatches (ws ++ new ∷ [])
  kept_added apart room = record {
    once = added_once apart;
    whole = added_whole;
    few = let l = length-append ws (new ∷ []) in omega arith;
  }

  -- a name that stands
  abbrev change : Watch → Watch
  change w = changed_watch file descriptor f flags asked user ready w

  -- who stays without a knote had none
  stays_whole : (w : Watch) → (stays file descriptor (change w) && not (has_knote (change w))) ≡ true → not (has_knote w) ≡ true
  stays_whole w e = by (is_of file descriptor w) refl
    where
      by : (c : Bool) → is_of file descriptor w ≡ c → not (has_knote w) ≡ true
      by true g =
          let n : is_of file descriptor (change w) ≡ true = named_changed file descriptor file descriptor f flags asked user ready w ∙ g in
          let z : ((not true || has_knote (change w)) && not (has_knote (change w))) ≡ true = ap (λ c. (not c || has_knote (change w)) && not (has_knote (change w))) (sym n) ∙ e in
          absurd (never (has_knote (change w)) z)
        where
          never : (c : Bool) → (c && not c) ≡ true → ⊥
          never true k = let y : false ≡ true = k in cc
          never false k = let y : false ≡ true = k in cc
      by false g =
          let n : change w ≡ w = ap (λ c. if c then with_knote f (remade flags asked user ready (knote_at f w)) w else w) g in
          ap (λ v. not (has_knote v)) (sym n) ∙ (both (stays file descriptor (change w)) (not (has_knote (change w))) e).1

  kept_remade : IsWatches (filter (stays file descriptor) (map change ws))
  kept_remade = record {
    once = λ a b.
        let l = fewer (stays file descriptor) (is_of a b) (map change ws) in
        let m = tally-map change (is_of a b) ws in
        let s = tally-same (λ w. is_of a b (change w)) (is_of a b) (named_changed a b file descriptor f flags asked user ready) ws in
        let o = h.once a b in
        omega arith;
    whole =
        let l = tally-filter (stays file descriptor) (λ w. not (has_knote w)) (map change ws) in
        let m = tally-map change (λ w. stays file descriptor w && not (has_knote w)) ws in
        let s = tally_within (λ w. stays file descriptor (change w) && not (has_knote (change w))) (λ w. not (has_knote w)) stays_whole ws in
        let o = h.whole in
        omega arith;
    few = let l = long_filter (stays file descriptor) (map change ws) in let m = long_map change ws in let o = h.few in omega arith;
  }

  -- an add of a new name that isn't refused has room
  pub has_room : change_fault file descriptor f flags ws ≡ None → (adds flags && not (is_named file descriptor ws)) ≡ true → length ws < 512
  has_room e g = by (list_any (has_filter file descriptor f) ws) refl (nat_le 512 (length ws)) refl
    where
      by : (s : Bool) → list_any (has_filter file descriptor f) ws ≡ s → (l : Bool) → nat_le 512 (length ws) ≡ l → length ws < 512
      by true a l b = let n = both (adds flags) (not (is_named file descriptor ws)) g in let z = rw (a, n.0) at e in absurd (cc)
      by false a true b = let n = both (adds flags) (not (is_named file descriptor ws)) g in let z = rw (a, n.0, n.1, b) at e in absurd (cc)
      by false a false b = grind arith

  pub kept_changed : change_fault file descriptor f flags ws ≡ None → IsWatches (changed_by file descriptor f flags asked user ready ws)
  kept_changed e = by (adds flags && not (is_named file descriptor ws)) refl
    where
      by : (c : Bool) → (adds flags && not (is_named file descriptor ws)) ≡ c → IsWatches (if c then ws ++ new ∷ [] else filter (stays file descriptor) (map change ws))
      by true g = kept_added (negated _ (both _ _ g).1) (has_room e g)
        where
          negated : (b : Bool) → not b ≡ true → b ≡ false
          negated true k = let y : false ≡ true = k in absurd (cc)
          negated false k = refl
      by false g = kept_remade
