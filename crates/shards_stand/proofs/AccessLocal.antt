-- An access of what is held is the access of the whole machine.
use Rattle.std.proofs.Common.{◌≡◌, ℕ, suc, ◌+◌, ◌-◌, ◌/◌, ◌%◌, ◌<◌, ◌≤◌, Bool, true, false, ◌==◌, ◌&&◌, is_some, List, length, take, Option, Some, None, if◌then◌else◌, refl, sym, ap, subst, ◌∙◌, arith}
use Rattle.std.proofs.lemmas.Bool.Decides.{nat_tests}
use Rattle.std.proofs.lemmas.List.{length-take-le}
use Rattle.page_ranges.specs.declared.rights.Rights.{Rights}
use Rattle.places.proofs.Numbers.{length-bytes_of}
use Rattle.places.specs.Places.{bytes_of, number_of}
use Rattle.guest_mem.specs.Held.{Held, marked_by}
use Rattle.a64_model.specs.Swaps.{outcome, has_outcome}
use Rattle.a64_model.specs.declared.access.Access.{Access}
use Rattle.a64_model.specs.declared.access.Access.TheVariants as access
use Rattle.a64_model.specs.declared.access.Answer.{Answer}
use Rattle.a64_model.specs.declared.access.Answer.TheVariants as answer
use Rattle.a64_model.specs.declared.access.SwapOp.{SwapOp}
use Rattle.lx_machine.specs.Instruction.{filled}
use Rattle.page_store.specs.Pages.{reads, writes}
use Rattle.machine_parts.specs.Parts.{Parts, shard_at}
use Rattle.shards_stand.specs.Kept.{is_mark, mark_in, marked}
use Rattle.shards_stand.specs.Pieces.{touched, byte_on, lacking, bytes_in, store_in, store_all}
use Rattle.shards_stand.specs.Accesses.{answers, accessed, load, store, store_exclusive, swap, has_mark, IsFit}
use Rattle.shards_stand.specs.Holding.{HoldsPages, HoldsBytes, HoldsAccess, AreParts, IsLocal, IsAccessLocal}
use Rattle.shards_stand.proofs.Local.{local-refl, change-local, stored-local, lacking-local, bytes-local}

-- pages and bytes of a range
holds-bytes : (h : Parts) (at len : ℕ) → HoldsPages h (at / 4096) (touched at len) → HoldsBytes h at len
holds-bytes h at len held a from below = held (a / 4096) (omega arith) (omega arith)

holds-less : (h : Parts) (at len most : ℕ) → len ≤ most → HoldsPages h (at / 4096) (touched at most) → HoldsPages h (at / 4096) (touched at len)
holds-less h at len most less held p from below = held p from (omega arith)

module _ (h M : Parts) (parts : AreParts h M) where
  pub range-lacking : (right : Rights → Bool) (at len : ℕ) → HoldsPages h (at / 4096) (touched at len) → lacking right h at len ≡ lacking right M at len
  range-lacking right at len held = ap (byte_on at) (lacking-local right h M (at / 4096) (touched at len) parts held)

  pub range-bytes : (at len : ℕ) → HoldsPages h (at / 4096) (touched at len) → bytes_in h at len ≡ bytes_in M at len
  range-bytes at len held = bytes-local len h M at parts (holds-bytes h at len held)

  pub all-local : (slot at : ℕ) (xs : List ℕ) → 0 < length xs → HoldsPages h (at / 4096) (touched at (length xs)) → IsLocal h M (store_all h slot at xs) (store_all M slot at xs)
  all-local slot at xs some held =
      let n = touched at (length xs) - 1 in
      let n_is : suc n ≡ touched at (length xs) = omega arith in
      subst (λ (k : ℕ). IsLocal h M (store_in k h slot at xs) (store_in k M slot at xs)) n_is
      (stored-local n h M slot at xs parts (λ i lt. held (at / 4096 + i) (omega arith) (omega arith)) (omega arith) (omega arith))

module _ (h M : Parts) (s : ℕ) (granule : Option ℕ) (parts : AreParts h M) where
  -- nothing changes
  same : (g : Option ℕ) (a b : Answer) → a ≡ b → IsAccessLocal h M (answers h g a) (answers M g b)
  same g a b is = record { parts_are = local-refl h M parts; granule_is = refl; answer_is = is }

  mark-same : (at : ℕ) → is_some (shard_at h (at / 4096 % 16)) ≡ true → has_mark h s granule at ≡ has_mark M s granule at
  mark-same at held = by granule
    where
      there : (g : ℕ) → g ≡ at / 16 → marked h s g ≡ marked M s g
      there g is =
          let page_is : g / 256 % 16 ≡ at / 4096 % 16 = omega arith in
          ap (λ (i : ℕ). is_mark (mark_in (shard_at h i) s) g) page_is
          ∙ ap (λ (o : Option Held). is_mark (mark_in o s) g) (sym (parts (at / 4096 % 16) held))
          ∙ sym (ap (λ (i : ℕ). is_mark (mark_in (shard_at M i) s) g) page_is)

      and : (e x y : Bool) → (e ≡ true → x ≡ y) → (e && x) ≡ (e && y)
      and true x y is = is refl
      and false x y is = refl

      by : (o : Option ℕ) → has_mark h s o at ≡ has_mark M s o at
      by None = refl
      by (Some g) = and (g == at / 16) (marked h s g) (marked M s g) (λ e. there g (grind (arith, nat_tests, e)))

  load-same : (at len : ℕ) (m : Bool) (r : Option ℕ) → 0 < len → HoldsPages h (at / 4096) (touched at len) → IsAccessLocal h M (load h s granule at len m r) (load M s granule at len m r)
  load-same at len m (Some a) some held = same granule _ _ refl
  load-same at len false None some held = same granule _ _ (ap (λ (b : List ℕ). answer.Bytes (filled b)) (range-bytes h M parts at len held))
  load-same at len true None some held = record {
    parts_are = change-local h M (at / 4096 % 16) (λ g. marked_by g s (at / 16)) parts (held (at / 4096) (omega arith) (omega arith));
    granule_is = refl;
    answer_is = ap (λ (b : List ℕ). answer.Bytes (filled b)) (range-bytes h M parts at len held);
  }

  -- bytes are written
  wrote-same : (at : ℕ) (xs : List ℕ) (g : Option ℕ) (a b : Answer) → 0 < length xs → HoldsPages h (at / 4096) (touched at (length xs)) → a ≡ b → IsAccessLocal h M (answers (store_all h s at xs) g a) (answers (store_all M s at xs) g b)
  wrote-same at xs g a b some held is = record { parts_are = all-local h M parts s at xs some held; granule_is = refl; answer_is = is }

  store-same : (at : ℕ) (xs : List ℕ) (r : Option ℕ) → 0 < length xs → HoldsPages h (at / 4096) (touched at (length xs)) → IsAccessLocal h M (store h s granule at xs r) (store M s granule at xs r)
  store-same at xs (Some a) some held = same granule _ _ refl
  store-same at xs None some held = wrote-same at xs granule _ _ some held refl

  exclusive-same : (at : ℕ) (xs : List ℕ) (r : Option ℕ) → 0 < length xs → HoldsPages h (at / 4096) (touched at (length xs)) → IsAccessLocal h M (store_exclusive h s granule at xs r) (store_exclusive M s granule at xs r)
  exclusive-same at xs (Some a) some held = same granule _ _ refl
  exclusive-same at xs None some held =
      subst (λ (b : Bool). IsAccessLocal h M (store_exclusive h s granule at xs None) (if b then answers (store_all M s at xs) None answer.Done else answers M None answer.NoMark)) (mark-same at (held (at / 4096) (omega arith) (omega arith)))
      (by (has_mark h s granule at))
    where
      by : (b : Bool) → IsAccessLocal h M (if b then answers (store_all h s at xs) None answer.Done else answers h None answer.NoMark) (if b then answers (store_all M s at xs) None answer.Done else answers M None answer.NoMark)
      by true = wrote-same at xs None _ _ some held refl
      by false = same None _ _ refl

  swap-same : (at len : ℕ) (op : SwapOp) (value expected : ℕ) (r : Option ℕ) → 0 < len → HoldsPages h (at / 4096) (touched at len) → IsAccessLocal h M (swap h s granule at len op value expected r) (swap M s granule at len op value expected r)
  swap-same at len op value expected (Some a) some held = same granule _ _ refl
  swap-same at len op value expected None some held =
      subst (λ (bs : List ℕ). IsAccessLocal h M (swap h s granule at len op value expected None) (if has_outcome op (number_of bs) expected then answers (store_all M s at (bytes_of (outcome op (number_of bs) value) len)) granule (answer.Bytes (filled bs)) else answers M granule (answer.Bytes (filled bs)))) (range-bytes h M parts at len held)
      (by (bytes_in h at len) (has_outcome op (number_of (bytes_in h at len)) expected))
    where
      by : (bs : List ℕ) (b : Bool) → IsAccessLocal h M (if b then answers (store_all h s at (bytes_of (outcome op (number_of bs) value) len)) granule (answer.Bytes (filled bs)) else answers h granule (answer.Bytes (filled bs))) (if b then answers (store_all M s at (bytes_of (outcome op (number_of bs) value) len)) granule (answer.Bytes (filled bs)) else answers M granule (answer.Bytes (filled bs)))
      by bs true =
          let long : length (bytes_of (outcome op (number_of bs) value) len) ≡ len = length-bytes_of (outcome op (number_of bs) value) len in
          wrote-same at (bytes_of (outcome op (number_of bs) value) len) granule _ _ (omega (arith, long)) (λ p from below. held p from (omega (arith, long))) refl
      by bs false = same granule _ _ refl

  -- the shards of the access are held
  pub accessed-local : (a : Access) → IsFit a → HoldsAccess h a → IsAccessLocal h M (accessed h s granule a) (accessed M s granule a)
  accessed-local access.None fit held = same granule _ _ refl
  accessed-local (access.Load at len m) fit held =
      subst (λ (r : Option ℕ). IsAccessLocal h M (load h s granule at len m (lacking reads h at len)) (load M s granule at len m r)) (range-lacking h M parts reads at len held)
      (load-same at len m (lacking reads h at len) fit.0 held)
  accessed-local (access.Store at len bytes false) fit held =
      let xs = take len bytes in
      let long : length xs ≡ len = length-take-le len bytes fit.1 in
      subst (λ (r : Option ℕ). IsAccessLocal h M (store h s granule at xs (lacking writes h at len)) (store M s granule at xs r)) (range-lacking h M parts writes at len held)
      (store-same at xs (lacking writes h at len) (omega (arith, long, fit.0)) (λ p from below. held p from (omega (arith, long))))
  accessed-local (access.Store at len bytes true) fit held =
      let xs = take len bytes in
      let long : length xs ≡ len = length-take-le len bytes fit.1 in
      subst (λ (r : Option ℕ). IsAccessLocal h M (store_exclusive h s granule at xs (lacking writes h at len)) (store_exclusive M s granule at xs r)) (range-lacking h M parts writes at len held)
      (exclusive-same at xs (lacking writes h at len) (omega (arith, long, fit.0)) (λ p from below. held p from (omega (arith, long))))
  accessed-local (access.Swap at len op value expected) fit held =
      subst (λ (r : Option ℕ). IsAccessLocal h M (swap h s granule at len op value expected (lacking writes h at len)) (swap M s granule at len op value expected r)) (range-lacking h M parts writes at len held)
      (swap-same at len op value expected (lacking writes h at len) fit.0 held)
  accessed-local access.ClearMark fit held = same None _ _ refl
