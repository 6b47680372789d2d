-- Bytes over the first ones of 32 zeros.
use Rattle.std.proofs.Common.{◌≡◌, ℕ, zero, suc, ◌-◌, ◌++◌, length, take, drop, replicate, arith, refl, ap, subst}
use Rattle.std.proofs.Math.Seq.{take-append_seam}
use Rattle.page_store.specs.Pages.{Pages}
use Rattle.lx_memory.specs.Bytes.{bytes_at}
use Rattle.lx_memory.proofs.Stored.{length-bytes_at}
use Rattle.lx_machine.specs.Instruction.{filled}

drop_zeros : (count most : ℕ) → drop {A = ℕ} count (replicate most 0) ≡ replicate (most - count) 0
drop_zeros zero most = let same : most ≡ most - 0 = omega arith in ap (λ n. replicate n 0) same
drop_zeros (suc count) zero = let none : 0 - suc count ≡ 0 = omega arith in rw none refl
drop_zeros (suc count) (suc most) = let less : suc most - suc count ≡ most - count = omega arith in rw less (drop_zeros count most)

pub filled_bytes : (pages : Pages) (at len : ℕ) → bytes_at pages at len ++ drop {A = ℕ} len (replicate 32 0) ≡ filled (bytes_at pages at len)
filled_bytes pages at len = rw (drop_zeros len 32, length-bytes_at pages at len) refl

pub taken_bytes : (pages : Pages) (at len : ℕ) → take len (filled (bytes_at pages at len)) ≡ bytes_at pages at len
taken_bytes pages at len = subst (λ n. take n (filled (bytes_at pages at len)) ≡ bytes_at pages at len) (length-bytes_at pages at len) (take-append_seam (bytes_at pages at len) (replicate (32 - length (bytes_at pages at len)) 0))
