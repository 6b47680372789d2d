-- Interests that have different names, after a change of their list.
use Rattle.std.proofs.Common.{◌≡◌, ℕ, zero, suc, Bool, true, false, cond, not, ◌&&◌, ◌||◌, List, [], ◌∷◌, ◌++◌, map, Option, Some, None, option_map, refl, ap, ◌∙◌, sym, arith, filter, if◌then◌else◌, ◌==◌}
use Rattle.std.proofs.lemmas.Grind.{common_steps}
use Rattle.std.specs.Prelude.{slice_set}
use Rattle.lx_machine.specs.Epoll.{are_apart}
use Rattle.lx_machine.specs.Interests.{after_report, armed_for, changed, if_armed, if_reported, in_place_of, is_named, is_open_of, is_picked, stands}
use Rattle.lx_machine.specs.Lists.{at_place}
use Rattle.lx_machine.specs.declared.files.FileKind.{FileKind}
use Rattle.lx_machine.specs.declared.files.Interest.{Interest}
use Rattle.lx_machine.specs.declared.files.OpenFile.{OpenFile}
use Rattle.lx_machine.specs.declared.label.Pick.{Pick}
use Rattle.lx_laws.specs.Interests.{AreApart}

pub some_is : {A : Type 0} (x y : A) → ◌≡◌ {A = Option A} (Some x) (Some y) → x ≡ y
some_is x y e = cc

-- a change of a list that keeps names apart
abbrev pub KeepsApart : (List Interest → List Interest) → Type 0
KeepsApart g = (is : List Interest) → are_apart is ≡ true → are_apart (g is) ≡ true

-- an interest that keeps its name
pub record SameName (i j : Interest) : Type 0 where
  pub file : j.file ≡ i.file
  pub descriptor : j.descriptor ≡ i.descriptor

-- ---- changes in place

module _ (g : Interest → Interest) (same : (i : Interest) → SameName i (g i)) where
  stands_map : (file descriptor : ℕ) (is : List Interest) → stands file descriptor (map g is) ≡ stands file descriptor is
  stands_map file descriptor [] = refl
  stands_map file descriptor (i ∷ is) =
      let a = (same i).file in let b = (same i).descriptor in let ih = stands_map file descriptor is in rw (a, b, ih) refl

  apart_map : (is : List Interest) → are_apart (map g is) ≡ are_apart is
  apart_map [] = refl
  apart_map (i ∷ is) =
      let a = (same i).file in let b = (same i).descriptor in let st = stands_map i.file i.descriptor is in let ih = apart_map is in rw (a, b, st, ih) refl

  pub keeps_map : KeepsApart (map g)
  keeps_map is h = apart_map is ∙ h

same_if : (b : Bool) (i j : Interest) → (b ≡ true → SameName i j) → SameName i (if b then j else i)
same_if true i j h = h refl
same_if false i j h = record { file = refl; descriptor = refl }

pub both : (a b : Bool) → (a && b) ≡ true → (a ≡ true) × (b ≡ true)
both true true e = (refl, refl)
both true false e = absurd (cc)
both false b e = absurd (cc)

pub equal : (m n : ℕ) → (m == n) ≡ true → n ≡ m
equal m n e = grind (arith, common_steps)

in_place : (new i : Interest) → is_named new.file new.descriptor i ≡ true → SameName i new
in_place new i e =
    let two = both (i.file == new.file) (i.descriptor == new.descriptor) e in
    record { file = equal i.file new.file two.0; descriptor = equal i.descriptor new.descriptor two.1 }

pub keeps_report : (picks : List Pick) → KeepsApart (after_report picks)
keeps_report picks = keeps_map (if_reported picks) (λ i. same_if (is_picked picks i) i _ (λ e. record { file = refl; descriptor = refl }))

pub keeps_changed : (new : Interest) → KeepsApart (changed new)
keeps_changed new = keeps_map (in_place_of new) (λ i. same_if (is_named new.file new.descriptor i) i new (in_place new i))

pub keeps_armed : (k : FileKind) (files : List (Option OpenFile)) → KeepsApart (armed_for k files)
keeps_armed k files =
    keeps_map (if_armed k files) (λ i. same_if (is_open_of k (at_place files i.file)) i (record i { armed = true }) (λ e. record { file = refl; descriptor = refl }))

-- ---- fewer interests

module _ (test : Interest → Bool) where
  stands_filter : (file descriptor : ℕ) (is : List Interest) → stands file descriptor is ≡ false → stands file descriptor (filter test is) ≡ false
  stands_filter file descriptor [] h = refl
  stands_filter file descriptor (i ∷ is) h = by (stands_filter file descriptor is) (test i) (is_named file descriptor i) refl h
    where
      by : (stands file descriptor is ≡ false → stands file descriptor (filter test is) ≡ false) → (b c : Bool) → is_named file descriptor i ≡ c → (c || stands file descriptor is) ≡ false → stands file descriptor (cond b (i ∷ filter test is) (filter test is)) ≡ false
      by rest b true e f = absurd (cc)
      by rest true false e f = let ih = rest f in rw (e, ih) refl
      by rest false false e f = rest f

  pub keeps_filter : KeepsApart (filter test)
  keeps_filter [] h = refl
  keeps_filter (i ∷ is) h = by (keeps_filter is) (test i) (stands i.file i.descriptor is) refl h
    where
      by : (are_apart is ≡ true → are_apart (filter test is) ≡ true) → (b c : Bool) → stands i.file i.descriptor is ≡ c → (not c && are_apart is) ≡ true → are_apart (cond b (i ∷ filter test is) (filter test is)) ≡ true
      by rest b true e f = absurd (cc)
      by rest true false e f = let st = stands_filter i.file i.descriptor is e in let ih = rest f in rw (st, ih) refl
      by rest false false e f = rest f

-- ---- one more

stands_push : (file descriptor : ℕ) (is : List Interest) (new : Interest) → stands file descriptor is ≡ false → is_named file descriptor new ≡ false → stands file descriptor (is ++ new ∷ []) ≡ false
stands_push file descriptor [] new h k = rw k refl
stands_push file descriptor (i ∷ is) new h k = by (λ f. stands_push file descriptor is new f k) (is_named file descriptor i) refl h
  where
    by : (stands file descriptor is ≡ false → stands file descriptor (is ++ new ∷ []) ≡ false) → (c : Bool) → is_named file descriptor i ≡ c → (c || stands file descriptor is) ≡ false → (is_named file descriptor i || stands file descriptor (is ++ new ∷ [])) ≡ false
    by rest true e f = absurd (cc)
    by rest false e f = let ih = rest f in rw (e, ih) refl

pub apart_push : (is : List Interest) (new : Interest) → are_apart is ≡ true → stands new.file new.descriptor is ≡ false → are_apart (is ++ new ∷ []) ≡ true
apart_push [] new h k = refl
apart_push (i ∷ is) new h k = by (apart_push is new) (stands i.file i.descriptor is) refl h (is_named new.file new.descriptor i) refl k
  where
    turned : is_named new.file new.descriptor i ≡ false → is_named i.file i.descriptor new ≡ false
    turned e = grind (arith, common_steps)

    by : (are_apart is ≡ true → stands new.file new.descriptor is ≡ false → are_apart (is ++ new ∷ []) ≡ true) → (c : Bool) → stands i.file i.descriptor is ≡ c → (not c && are_apart is) ≡ true → (d : Bool) → is_named new.file new.descriptor i ≡ d → (d || stands new.file new.descriptor is) ≡ false →
        (not (stands i.file i.descriptor (is ++ new ∷ [])) && are_apart (is ++ new ∷ [])) ≡ true
    by rest true e f d g k' = absurd (cc)
    by rest false e f true g k' = absurd (cc)
    by rest false e f false g k' =
        let st = stands_push i.file i.descriptor is new e (turned g) in let ih = rest f k' in rw (st, ih) refl

-- ---- all epolls

place_map : {X : Type 0} (g : X → X) (xs : List (Option X)) (n : ℕ) → at_place (map (option_map g) xs) n ≡ option_map g (at_place xs n)
place_map g [] n = refl
place_map g (x ∷ xs) zero = refl
place_map g (x ∷ xs) (suc n) = place_map g xs n

pub from_map : {X Y : Type 0} (g : X → Y) (o : Option X) (y : Y) → option_map g o ≡ Some y → (x : X) × (o ≡ Some x) × (g x ≡ y)
from_map g None y e = absurd (cc)
from_map g (Some x) y e = (x, refl, some_is (g x) y e)

pub apart_mapped : (g : List Interest → List Interest) → KeepsApart g → (epolls : List (Option (List Interest))) → AreApart epolls → AreApart (map (option_map g) epolls)
apart_mapped g keeps epolls h n is e =
    let was = from_map g (at_place epolls n) is (sym (place_map g epolls n) ∙ e) in
    sym (ap are_apart was.2) ∙ keeps was.0 (h n was.0 was.1)

-- a place gets these interests, or none
pub apart_set : (epolls : List (Option (List Interest))) (n : ℕ) (o : Option (List Interest)) → ((is : List Interest) → o ≡ Some is → are_apart is ≡ true) → AreApart epolls → AreApart (slice_set epolls n o)
apart_set [] n o ho h m is e = h m is e
apart_set (x ∷ epolls) zero o ho h zero is e = ho is e
apart_set (x ∷ epolls) zero o ho h (suc m) is e = h (suc m) is e
apart_set (x ∷ epolls) (suc n) o ho h zero is e = h zero is e
apart_set (x ∷ epolls) (suc n) o ho h (suc m) is e = apart_set epolls n o ho (λ k js f. h (suc k) js f) m is e
