-- Places that are free from one on.
use Rattle.std.proofs.Common.{◌≡◌, ℕ, zero, suc, ◌-◌, ◌<◌, ◌≤◌, true, List, [], ◌∷◌, ◌++◌, append_assoc, length, map, replicate, slice_index_or, Option, Some, None, refl, arith}
use Rattle.std.specs.List.{list_all}
use Rattle.std.specs.Prelude.{is_none, slice_set}
use Rattle.linux_abi.specs.declared.signals.LinuxSig.{LinuxSig}
use Rattle.lx_machine.specs.Lists.{at_place}
use Rattle.lx_machine.specs.Signal.{forgotten_at}
use Rattle.lx_machine.specs.ThreadTable.{IsFreeFrom}
use Rattle.lx_machine.specs.Threads.{unmarked_from}
use Rattle.lx_machine.specs.declared.threads.LxThread.{LxThread}

-- a write below leaves them free
pub free_after_set : (n k : ℕ) (x : Option LxThread) (ts : List (Option LxThread)) → k < n → IsFreeFrom n ts → IsFreeFrom n (slice_set ts k x)
free_after_set zero k x ts h free = absurd (omega arith)
free_after_set (suc n) k x [] h free = refl
free_after_set (suc n) zero x (t ∷ ts) h free = free
free_after_set (suc n) (suc k) x (t ∷ ts) h free = free_after_set n k x ts (omega arith) free

-- so does one that makes a place free
pub free_after_none : (n k : ℕ) (ts : List (Option LxThread)) → IsFreeFrom n ts → IsFreeFrom n (slice_set ts k None)
free_after_none zero k [] free = refl
free_after_none zero zero (None ∷ ts) free = free
free_after_none zero (suc k) (None ∷ ts) free = free_after_none zero k ts free
free_after_none zero k (Some t ∷ ts) free = absurd (cc free)
free_after_none (suc n) k [] free = refl
free_after_none (suc n) zero (t ∷ ts) free = free
free_after_none (suc n) (suc k) (t ∷ ts) free = free_after_none n k ts free

-- as many free places as there are to be
pub free_at_first : (n : ℕ) → IsFreeFrom 0 (replicate n None)
free_at_first zero = refl
free_at_first (suc n) = free_at_first n

-- one free place, and then the others
pub free_and_more : (n : ℕ) (ts : List (Option LxThread)) → 0 < n → (ts ++ None ∷ []) ++ replicate (n - 1) None ≡ ts ++ replicate n None
free_and_more zero ts h = absurd (omega arith)
free_and_more (suc n) ts h = let e : suc n - 1 ≡ n = omega arith in rw (e, append_assoc ts (None ∷ []) (replicate n None)) refl

-- more of them are left out
pub free_further : (n m : ℕ) (ts : List (Option LxThread)) → n ≤ m → IsFreeFrom n ts → IsFreeFrom m ts
free_further n zero [] h free = refl
free_further n (suc m) [] h free = refl
free_further zero zero (t ∷ ts) h free = free
free_further zero (suc m) (None ∷ ts) h free = free_further zero m ts (omega arith) free
free_further zero (suc m) (Some t ∷ ts) h free = absurd (cc free)
free_further (suc n) zero (t ∷ ts) h free = absurd (omega arith)
free_further (suc n) (suc m) (t ∷ ts) h free = free_further n m ts (omega arith) free

-- what stands at a place of the list
pub at_index : (i : ℕ) (d : Option LxThread) (ts : List (Option LxThread)) → i < length ts → slice_index_or ts i d ≡ at_place ts i
at_index i d [] h = absurd (omega arith)
at_index zero d (t ∷ ts) h = refl
at_index (suc i) d (t ∷ ts) h = at_index i d ts (omega arith)

-- free places have no marks to end and no signals to forget
pub unmarked_free : (at s first last : ℕ) (ts : List (Option LxThread)) → list_all is_none ts ≡ true → unmarked_from at s first last ts ≡ ts
unmarked_free at s first last [] free = refl
unmarked_free at s first last (None ∷ ts) free = let ih = unmarked_free (suc at) s first last ts free in grind arith
unmarked_free at s first last (Some t ∷ ts) free = absurd (cc free)

-- no place comes or goes
pub unmarked_length : (at s first last : ℕ) (ts : List (Option LxThread)) → length (unmarked_from at s first last ts) ≡ length ts
unmarked_length at s first last [] = refl
unmarked_length at s first last (t ∷ ts) = let ih = unmarked_length (suc at) s first last ts in grind arith

pub forgotten_free : (sig : LinuxSig) (ts : List (Option LxThread)) → list_all is_none ts ≡ true → map (forgotten_at sig) ts ≡ ts
forgotten_free sig [] free = refl
forgotten_free sig (None ∷ ts) free = let ih = forgotten_free sig ts free in grind arith
forgotten_free sig (Some t ∷ ts) free = absurd (cc free)
