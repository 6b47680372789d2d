-- Where notes lead.
use Rattle.std.proofs.Common.{◌≡◌, ◌≢◌, ℕ, zero, suc, ◌+◌, ◌≤◌, refl, sym, ap, ◌∙◌, arith, ◌⊎◌, inl, inr, Option, Some}
use Rattle.chains_stand.proofs.Lists.{same_or_not}
use Rattle.umtx_queue.specs.declared.waiter.Looked.{Looked}
use Rattle.umtx_queue.specs.declared.waiter.Looked.TheVariants as looked
use Rattle.places.specs.Places.{chain}
use Rattle.chains_stand.specs.Notes.{Leads}

-- the notes on the way stay
pub leads_kept : (n : ℕ) (look look' : ℕ → Option Looked) (p c : ℕ) → ((d k : ℕ) → look d ≡ Some (looked.Moved k) → look' d ≡ Some (looked.Moved k)) → Leads n look p c → Leads n look' p c
leads_kept zero look look' p c kept way = way
leads_kept (suc n) look look' p c kept (k, note, way) = (k, kept p k note, leads_kept n look look' (chain k) c kept way)

-- the way ends at one chain
pub leads_once : (n m : ℕ) (look : ℕ → Option Looked) (p c d : ℕ) → ((k : ℕ) → look c ≢ Some (looked.Moved k)) → ((k : ℕ) → look d ≢ Some (looked.Moved k)) → Leads n look p c → Leads m look p d → c ≡ d
leads_once zero zero look p c d end end' e f = sym e ∙ f
leads_once zero (suc m) look p c d end end' e (k, note, way) = absurd (end k (ap look (sym e) ∙ note))
leads_once (suc n) zero look p c d end end' (k, note, way) f = absurd (end' k (ap look (sym f) ∙ note))
leads_once (suc n) (suc m) look p c d end end' (k, note, way) (j, note', way') =
    let e : k ≡ j = cc in
    leads_once n m look (chain k) c d end end' way (rw e way')

-- who was queued in c and now is in d: a note leads from c to d, other notes but d's stay, and the way has at most one note more
pub leads_moved : (n : ℕ) (look look' : ℕ → Option Looked) (p c b : ℕ) → ((k : ℕ) → look c ≢ Some (looked.Moved k)) → (c ≢ chain b → look' c ≡ Some (looked.Moved b)) → ((d k : ℕ) → d ≢ chain b → look d ≡ Some (looked.Moved k) → look' d ≡ Some (looked.Moved k)) → Leads n look p c → (m : ℕ) × (m ≤ suc n) × Leads m look' p (chain b)
leads_moved n look look' p c b end note kept way = by n p (same_or_not (chain b) p) way
  where
    by : (n' p' : ℕ) → (p' ≡ chain b) ⊎ (p' ≢ chain b) → Leads n' look p' c → (m : ℕ) × (m ≤ suc n') × Leads m look' p' (chain b)
    by n' p' (inl e) w = (0, omega arith, e)
    by zero p' (inr ne) e = (1, omega arith, (b, ap look' e ∙ note (λ f. ne (e ∙ f)), refl))
    by (suc n') p' (inr ne) (k, old, w) =
        let r = by n' (chain k) (same_or_not (chain b) (chain k)) w in
        (suc r.0, omega arith, (k, kept p' k ne old, r.2))

-- ways one after the other
pub leads_on : (n m l : ℕ) (look : ℕ → Option Looked) (p c d : ℕ) → l ≡ n + m → Leads n look p c → Leads m look c d → Leads l look p d
leads_on zero m l look p c d h e way = let f : l ≡ m = omega arith in rw (f, e) way
leads_on (suc n) m zero look p c d h (k, note, way) on = absurd (omega arith)
leads_on (suc n) m (suc l) look p c d h (k, note, way) on = (k, note, leads_on n m l look (chain k) c d (omega arith) way on)

-- the way has one length
pub leads_length : (n m : ℕ) (look : ℕ → Option Looked) (p c : ℕ) → ((k : ℕ) → look c ≢ Some (looked.Moved k)) → Leads n look p c → Leads m look p c → n ≡ m
leads_length zero zero look p c end e f = refl
leads_length zero (suc m) look p c end e (k, note, way) = absurd (end k (ap look (sym e) ∙ note))
leads_length (suc n) zero look p c end (k, note, way) f = absurd (end k (ap look (sym f) ∙ note))
leads_length (suc n) (suc m) look p c end (k, note, way) (j, note', way') = let e : k ≡ j = cc in ap suc (leads_length n m look (chain k) c end way (rw e way'))

-- a way that ends passes no chain twice
pub no_return : (n m : ℕ) (look : ℕ → Option Looked) (d c : ℕ) → ((k : ℕ) → look c ≢ Some (looked.Moved k)) → Leads n look d c → Leads (suc m) look d d → ⊥
no_return n m look d c end way round = let e = leads_length n (suc m + n) look d c end way (leads_on (suc m) n (suc m + n) look d d c refl round way) in omega arith
