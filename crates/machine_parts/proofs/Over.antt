-- What is held, put over the parts of a machine.
use Rattle.std.proofs.Common.{◌≡◌, ℕ, zero, suc, ◌<◌, List, [], ◌∷◌, length, map, Option, Some, None, is_some, true, sym, refl, ap, ◌∙◌, arith}
use Rattle.std.specs.Prelude.{slice_set}
use Rattle.machine_parts.specs.Parts.{part_at, lacking}
use Rattle.machine_parts.specs.Held.{over, SameObjects}
use Rattle.machine_parts.proofs.Places.{some_value}

module _ {P : Type 0} where
  pub length-over : (h m : List (Option P)) → length (over h m) ≡ length m
  length-over [] m = refl
  length-over (h ∷ hs) [] = refl
  length-over (Some p ∷ hs) (q ∷ m) = ap suc (length-over hs m)
  length-over (None ∷ hs) (q ∷ m) = ap suc (length-over hs m)

  -- the parts over themselves
  pub over-self : (m : List (Option P)) → over m m ≡ m
  over-self [] = refl
  over-self (Some p ∷ m) = ap (λ l. Some p ∷ l) (over-self m)
  over-self (None ∷ m) = ap (λ l. None ∷ l) (over-self m)

  pub over-held : (h m : List (Option P)) (k : ℕ) (p : P) → length h ≡ length m → part_at h k ≡ Some p → part_at (over h m) k ≡ Some p
  over-held [] m k p long e = absurd (cc)
  over-held (h ∷ hs) [] k p long e = absurd (omega arith)
  over-held (Some x ∷ hs) (q ∷ m) zero p long e = e
  over-held (None ∷ hs) (q ∷ m) zero p long e = absurd (cc)
  over-held (Some x ∷ hs) (q ∷ m) (suc k) p long e = over-held hs m k p (omega arith) e
  over-held (None ∷ hs) (q ∷ m) (suc k) p long e = over-held hs m k p (omega arith) e

  pub over-put : (h m : List (Option P)) (k : ℕ) (p : P) → length h ≡ length m → over (slice_set h k (Some p)) m ≡ slice_set (over h m) k (Some p)
  over-put [] [] k p long = refl
  over-put [] (m ∷ ms) k p long = absurd (omega arith)
  over-put (h ∷ hs) [] k p long = absurd (omega arith)
  over-put (Some x ∷ hs) (m ∷ ms) zero p long = refl
  over-put (None ∷ hs) (m ∷ ms) zero p long = refl
  over-put (Some x ∷ hs) (m ∷ ms) (suc k) p long = ap (λ l. Some x ∷ l) (over-put hs ms k p (omega arith))
  over-put (None ∷ hs) (m ∷ ms) (suc k) p long = ap (λ l. m ∷ l) (over-put hs ms k p (omega arith))

  -- both without the same part
  pub over-lacking : (h m : List (Option P)) (k : ℕ) → length h ≡ length m → over (lacking h k) (lacking m k) ≡ lacking (over h m) k
  over-lacking [] [] k long = refl
  over-lacking [] (m ∷ ms) k long = absurd (omega arith)
  over-lacking (h ∷ hs) [] k long = absurd (omega arith)
  over-lacking (Some x ∷ hs) (m ∷ ms) zero long = refl
  over-lacking (None ∷ hs) (m ∷ ms) zero long = refl
  over-lacking (Some x ∷ hs) (m ∷ ms) (suc k) long = ap (λ l. Some x ∷ l) (over-lacking hs ms k (omega arith))
  over-lacking (None ∷ hs) (m ∷ ms) (suc k) long = ap (λ l. m ∷ l) (over-lacking hs ms k (omega arith))

  -- a part that is put back comes over a machine that has it there or not
  pub over-put_back : (h m : List (Option P)) (k : ℕ) (p : P) → length h ≡ length m → slice_set (over h (lacking m k)) k (Some p) ≡ over (slice_set h k (Some p)) m
  over-put_back [] [] k p long = refl
  over-put_back [] (m ∷ ms) k p long = absurd (omega arith)
  over-put_back (h ∷ hs) [] k p long = absurd (omega arith)
  over-put_back (Some x ∷ hs) (m ∷ ms) zero p long = refl
  over-put_back (None ∷ hs) (m ∷ ms) zero p long = refl
  over-put_back (Some x ∷ hs) (m ∷ ms) (suc k) p long = ap (λ l. Some x ∷ l) (over-put_back hs ms k p (omega arith))
  over-put_back (None ∷ hs) (m ∷ ms) (suc k) p long = ap (λ l. m ∷ l) (over-put_back hs ms k p (omega arith))

  -- ---- what is held agrees with the machine

  pub over-drop : (h m : List (Option P)) (k : ℕ) → over h m ≡ m → over (lacking h k) m ≡ m
  over-drop [] m k e = refl
  over-drop (h ∷ hs) [] zero e = refl
  over-drop (h ∷ hs) [] (suc k) e = refl
  over-drop (Some x ∷ hs) (m ∷ ms) zero e = let rest : over hs ms ≡ ms = cc in ap (λ l. m ∷ l) rest
  over-drop (None ∷ hs) (m ∷ ms) zero e = e
  over-drop (Some x ∷ hs) (m ∷ ms) (suc k) e = let rest : over hs ms ≡ ms = cc in let first : Some x ≡ m = cc in let more = over-drop hs ms k rest in cc
  over-drop (None ∷ hs) (m ∷ ms) (suc k) e = let rest : over hs ms ≡ ms = cc in ap (λ l. m ∷ l) (over-drop hs ms k rest)

  -- what is held is what stands there
  pub agrees-held : (h m : List (Option P)) (k : ℕ) (p : P) → length h ≡ length m → over h m ≡ m → part_at h k ≡ Some p → part_at m k ≡ Some p
  agrees-held h m k p long agrees e = ap (λ l. part_at l k) (sym agrees) ∙ over-held h m k p long e

  pub agrees-same : (h m : List (Option P)) (k : ℕ) → length h ≡ length m → over h m ≡ m → is_some (part_at h k) ≡ true → part_at m k ≡ part_at h k
  agrees-same h m k long agrees there = let q = some_value (part_at h k) there in agrees-held h m k q.0 long agrees q.1 ∙ sym q.1

  -- a part that is put into both
  pub agrees-put : (h m : List (Option P)) (k : ℕ) (p : P) → length h ≡ length m → over h m ≡ m → over (slice_set h k (Some p)) m ≡ slice_set m k (Some p)
  agrees-put h m k p long agrees = over-put h m k p long ∙ ap (λ l. slice_set l k (Some p)) agrees

  -- both without the same part
  pub agrees-lacking : (h m : List (Option P)) (k : ℕ) → length h ≡ length m → over h m ≡ m → over (lacking h k) (lacking m k) ≡ lacking m k
  agrees-lacking h m k long agrees = over-lacking h m k long ∙ ap (λ l. lacking l k) agrees

  -- ---- the same objects

  pub same-put : (h : List (Option P)) (k : ℕ) (p q : P) → part_at h k ≡ Some p → SameObjects h (slice_set h k (Some q))
  same-put [] k p q e = refl
  same-put (Some x ∷ hs) zero p q e = refl
  same-put (None ∷ hs) zero p q e = absurd (cc)
  same-put (x ∷ hs) (suc k) p q e = ap (λ l. is_some x ∷ l) (same-put hs k p q e)

  pub same-put_back : (h x : List (Option P)) (k : ℕ) (p q : P) → part_at h k ≡ Some p → SameObjects (lacking h k) x → SameObjects h (slice_set x k (Some q))
  same-put_back [] x k p q e f = absurd (cc)
  same-put_back (h ∷ hs) [] zero p q e f = absurd (cc)
  same-put_back (h ∷ hs) [] (suc k) p q e f = absurd (cc)
  same-put_back (Some h ∷ hs) (y ∷ x) zero p q e f = cc
  same-put_back (None ∷ hs) (y ∷ x) zero p q e f = absurd (cc)
  same-put_back (h ∷ hs) (y ∷ x) (suc k) p q e f = let rest : map is_some (lacking hs k) ≡ map is_some x = cc in let more = same-put_back hs x k p q e rest in let first : is_some h ≡ is_some y = cc in cc

  pub same-length : (h x : List (Option P)) → SameObjects h x → length h ≡ length x
  same-length [] [] e = refl
  same-length [] (x ∷ xs) e = absurd (cc)
  same-length (h ∷ hs) [] e = absurd (cc)
  same-length (h ∷ hs) (x ∷ xs) e = let rest : map is_some hs ≡ map is_some xs = cc in ap suc (same-length hs xs rest)
