-- The open files in which there may be interests: changes, events of a file and scans keep that they have each interest, and what
-- is done to the interests in any other changes none.
use Rattle.std.proofs.Common.{◌≡◌, ℕ, zero, suc, Bool, true, false, not, ◌||◌, ◌&&◌, List, [], ◌∷◌, ◌++◌, map, Option, refl, sym, ap, ap₂, ◌∙◌, arith}
use Rattle.std.specs.Prelude.{◌==◌, filter, nat_le, slice_index_or, slice_set, if◌then◌else◌}
use Rattle.std.specs.List.{list_all, list_any}
use Rattle.kqueue_core.specs.declared.knotes.Filter.{Filter}
use Rattle.kqueue_core.specs.declared.knotes.Filter.TheVariants.{Read, Write}
use Rattle.kqueue_core.specs.declared.knotes.Knote.{Knote}
use Rattle.kqueue_core.specs.declared.knotes.Watch.{Watch}
use Rattle.kqueue_core.specs.declared.watched.Watched.{Watched}
use Rattle.kqueue_core.specs.Knotes.{adds, made, remade}
use Rattle.kqueue_core.specs.Watches.{is_of, knote_at, with_knote, fresh, changed_watch, activated_watch}
use Rattle.kqueue_core.specs.Changes.{tally, is_named, stays, changed_by, activated, activated_where, is_apart_from, without_file}
use Rattle.kqueue_core.specs.Reports.{scanned}
use Rattle.kqueue_core.specs.Watched.{Covers, forgotten, is_amiss, is_maybe, noted}
use Rattle.kqueue_core.proofs.Keeping.{both, eq_is, same_scanned}
use Rattle.kqueue_core.proofs.Tallies.{none_tally, tally-append, tally-map, tally-filter, tally-same, tally_within}

neither : (a b : Bool) → (a || b) ≡ false → (a ≡ false) × (b ≡ false)
neither true b e = let z : true ≡ false = e in absurd (cc)
neither false b e = (refl, e)

-- ---- flags

set_same : (fs : List Bool) (i : ℕ) → slice_index_or (slice_set fs i true) i true ≡ true
set_same [] i = refl
set_same (f ∷ fs) zero = refl
set_same (f ∷ fs) (suc i) = set_same fs i

set_keeps : (fs : List Bool) (i j : ℕ) → slice_index_or fs j true ≡ true → slice_index_or (slice_set fs i true) j true ≡ true
set_keeps [] i j h = refl
set_keeps (f ∷ fs) zero zero h = refl
set_keeps (f ∷ fs) zero (suc j) h = h
set_keeps (f ∷ fs) (suc i) zero h = h
set_keeps (f ∷ fs) (suc i) (suc j) h = set_keeps fs i j h

set_other : (fs : List Bool) (i j : ℕ) (b : Bool) → (j == i) ≡ false → slice_index_or (slice_set fs i b) j true ≡ slice_index_or fs j true
set_other [] i j b h = refl
set_other (f ∷ fs) zero zero b h = absurd (grind arith)
set_other (f ∷ fs) zero (suc j) b h = refl
set_other (f ∷ fs) (suc i) zero b h = refl
set_other (f ∷ fs) (suc i) (suc j) b h = set_other fs i j b (let e : (suc j == suc i) ≡ false = h in grind arith)

-- ---- one file

all_of : (a b : Bool) → a ≡ true → b ≡ true → (a && b) ≡ true
all_of true true e f = refl
all_of false b e f = e
all_of true false e f = f

pub noted_here : (s : Watched) (file : ℕ) → is_maybe (noted s file) file ≡ true
noted_here s file = all_of _ _ (grind arith) (set_same s.flags file)

noted_keeps : (s : Watched) (file i : ℕ) → is_maybe s i ≡ true → is_maybe (noted s file) i ≡ true
noted_keeps s file i h =
    let parts = both (nat_le i s.last) (slice_index_or s.flags i true) h in
    let low = parts.0 in
    all_of _ _ (grind arith) (set_keeps s.flags file i parts.1)

forgotten_other : (s : Watched) (file i : ℕ) → (i == file) ≡ false → is_maybe (forgotten s file) i ≡ is_maybe s i
forgotten_other s file i h = ap (λ b. nat_le i s.last && b) (set_other s.flags file i false h)

-- an interest that is had is in no file that has none
apart : (s : Watched) (file : ℕ) (w : Watch) → is_maybe s file ≡ false → is_amiss s w ≡ false → (w.file == file) ≡ false
apart s file w none here = by (w.file == file) refl
  where
    by : (b : Bool) → (w.file == file) ≡ b → (w.file == file) ≡ false
    by false e = e
    by true e =
        let same : is_maybe s w.file ≡ is_maybe s file = ap (is_maybe s) (eq_is w.file file e) in
        let z : true ≡ false = sym (ap not (same ∙ none)) ∙ here in
        absurd (cc)

-- ---- all interests

module _ (s : Watched) where
  none_amiss : (ws : List Watch) → Covers s ws → list_any (is_amiss s) ws ≡ false
  none_amiss ws h = none_tally (is_amiss s) ws (omega (arith, h))

  pub covers_more : (file : ℕ) (ws : List Watch) → Covers s ws → Covers (noted s file) ws
  covers_more file ws h = let l = tally_within (is_amiss (noted s file)) (is_amiss s) still ws in omega (arith, h, l)
    where
      still : (w : Watch) → is_amiss (noted s file) w ≡ true → is_amiss s w ≡ true
      still w e = by (is_maybe s w.file) refl
        where
          by : (b : Bool) → is_maybe s w.file ≡ b → not (is_maybe s w.file) ≡ true
          by false g = ap not g
          by true g = let z : false ≡ true = sym (ap not (noted_keeps s file w.file g)) ∙ e in absurd (cc)

  -- interests that are as they were but for their knotes
  pub covers_map : (g : Watch → Watch) → ((w : Watch) → is_amiss s (g w) ≡ is_amiss s w) → (ws : List Watch) → Covers s ws → Covers s (map g ws)
  covers_map g h ws c = let m = tally-map g (is_amiss s) ws in let e = tally-same (λ w. is_amiss s (g w)) (is_amiss s) h ws in omega (arith, m, e, c)

  pub covers_filter : (q : Watch → Bool) (ws : List Watch) → Covers s ws → Covers s (filter q ws)
  covers_filter q ws c =
      let m = tally-filter q (is_amiss s) ws in
      let l = tally_within (λ w. q w && is_amiss s w) (is_amiss s) (λ w e. (both (q w) (is_amiss s w) e).1) ws in
      omega (arith, m, l, c)

  pub covers_active : (file : ℕ) (f : Filter) (ws : List Watch) → Covers s ws → Covers s (activated file f ws)
  covers_active file f ws c = covers_map (activated_where (λ i. i == file) f) one ws c
    where
      one : (w : Watch) → is_amiss s (activated_where (λ i. i == file) f w) ≡ is_amiss s w
      one w = by f (w.file == file)
        where
          by : (g : Filter) (b : Bool) → is_amiss s (if b then activated_watch g w else w) ≡ is_amiss s w
          by Read true = refl
          by Write true = refl
          by g false = refl

  pub covers_changed : (file d : ℕ) (f : Filter) (flags asked user : ℕ) (ready : Bool) (ws : List Watch) → is_maybe s file ≡ true → Covers s ws → Covers s (changed_by file d f flags asked user ready ws)
  covers_changed file d f flags asked user ready ws here c = by (adds flags && not (is_named file d ws))
    where
      one : (w : Watch) → is_amiss s (changed_watch file d f flags asked user ready w) ≡ is_amiss s w
      one w = at (is_of file d w) f (remade flags asked user ready (knote_at f w))
        where
          at : (b : Bool) (g : Filter) (k : Option Knote) → is_amiss s (if b then with_knote g k w else w) ≡ is_amiss s w
          at true Read k = refl
          at true Write k = refl
          at false g k = refl

      first : (g : Filter) (k : Knote) → is_amiss s (fresh file d g k) ≡ false
      first Read k = ap not here
      first Write k = ap not here

      by : (b : Bool) → Covers s (if b then ws ++ fresh file d f (made flags asked user ready true) ∷ [] else filter (stays file d) (map (changed_watch file d f flags asked user ready) ws))
      by true =
          let t = tally-append (is_amiss s) ws (fresh file d f (made flags asked user ready true) ∷ []) in
          let z : tally (is_amiss s) (fresh file d f (made flags asked user ready true) ∷ []) ≡ 0 = rw (first f (made flags asked user ready true)) refl in
          omega (arith, t, z, c)
      by false = covers_filter (stays file d) (map (changed_watch file d f flags asked user ready) ws) (covers_map (changed_watch file d f flags asked user ready) one ws c)

  pub covers_left : (file : ℕ) (ws : List Watch) → Covers s ws → Covers (forgotten s file) (without_file file ws)
  covers_left file ws c =
      let m = tally-filter (is_apart_from file) (is_amiss (forgotten s file)) ws in
      let l = tally_within (λ w. is_apart_from file w && is_amiss (forgotten s file) w) (is_amiss s) still ws in
      omega (arith, m, l, c)
    where
      still : (w : Watch) → (is_apart_from file w && is_amiss (forgotten s file) w) ≡ true → is_amiss s w ≡ true
      still w e =
          let parts = both (is_apart_from file w) (is_amiss (forgotten s file) w) e in
          ap not (sym (forgotten_other s file w.file (negated (w.file == file) parts.0))) ∙ parts.1
        where
          negated : (b : Bool) → not b ≡ true → b ≡ false
          negated true k = let y : false ≡ true = k in absurd (cc)
          negated false k = refl

  pub covers_scanned : (R : ℕ → Filter → ℕ) (most : ℕ) (ws : List Watch) → Covers s ws → Covers s (scanned R most ws)
  covers_scanned R most ws c = let e = same_scanned R most ws (is_amiss s) (λ w. refl) in omega (arith, e, c)

  -- ---- a file without interests

  active_none : (file : ℕ) (f : Filter) → is_maybe s file ≡ false → (ws : List Watch) → list_any (is_amiss s) ws ≡ false → activated file f ws ≡ ws
  active_none file f none [] h = refl
  active_none file f none (w ∷ ws) h =
      let parts = neither (is_amiss s w) (list_any (is_amiss s) ws) h in
      ap₂ (λ v vs. v ∷ vs) (ap (λ b. if b then activated_watch f w else w) (apart s file w none parts.0)) (active_none file f none ws parts.1)

  pub none_active : (file : ℕ) (f : Filter) (ws : List Watch) → is_maybe s file ≡ false → Covers s ws → activated file f ws ≡ ws
  none_active file f ws none c = active_none file f none ws (none_amiss ws c)

  left_none : (file : ℕ) → is_maybe s file ≡ false → (ws : List Watch) → list_any (is_amiss s) ws ≡ false → without_file file ws ≡ ws
  left_none file none [] h = refl
  left_none file none (w ∷ ws) h =
      let parts = neither (is_amiss s w) (list_any (is_amiss s) ws) h in
      let rest = left_none file none ws parts.1 in
      by (is_apart_from file w) (ap not (apart s file w none parts.0)) rest
    where
      by : (b : Bool) → b ≡ true → without_file file ws ≡ ws → (if b then (w ∷ without_file file ws) else without_file file ws) ≡ (w ∷ ws)
      by true e rest = ap (λ vs. w ∷ vs) rest
      by false e rest = let z : false ≡ true = e in absurd (cc)

  pub none_left : (file : ℕ) (ws : List Watch) → is_maybe s file ≡ false → Covers s ws → without_file file ws ≡ ws
  none_left file ws none c = left_none file none ws (none_amiss ws c)

  -- ---- the bound

  below : (ws : List Watch) → list_any (is_amiss s) ws ≡ false → list_all (λ w. nat_le w.file s.last) ws ≡ true
  below [] h = refl
  below (w ∷ ws) h =
      let parts = neither (is_amiss s w) (list_any (is_amiss s) ws) h in
      let here = both (nat_le w.file s.last) (slice_index_or s.flags w.file true) (kept (is_maybe s w.file) parts.0) in
      all_of _ _ here.0 (below ws parts.1)
    where
      kept : (b : Bool) → not b ≡ false → b ≡ true
      kept true e = refl
      kept false e = let z : true ≡ false = e in absurd (cc)

  pub all_below : (ws : List Watch) → Covers s ws → list_all (λ w. nat_le w.file s.last) ws ≡ true
  all_below ws c = below ws (none_amiss ws c)
