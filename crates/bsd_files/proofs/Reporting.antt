-- A scan of at most as many interests as stand reports what one of any more does.
use Rattle.std.specs.Prelude.{◌≡◌, refl, ℕ, ◌-◌, ◌*◌, ◌≤◌, ◌⊎◌, Bool, true, false, ◌&&◌, nat_le, nat_lt, min, if◌then◌else◌, List, [], ◌∷◌, ◌++◌, map, filter, flat_map, take, drop, length}
use Rattle.std.proofs.Common.{arith, ap, sym, ◌∙◌, inl, inr}
use Rattle.std.proofs.Math.Nat.{min-eq_left, le-min, le_trans}
use Rattle.std.proofs.lemmas.Bool.{leb-true}
use Rattle.std.proofs.lemmas.List.{take_all, length-append, length-map}
use Rattle.std.proofs.Math.Seq.{take-append_seam}
use Rattle.kqueue_core.specs.Reports.{event_of, is_reported, reports, scanned, without_first}
use Rattle.kqueue_core.specs.Queues.{Queue}
use Rattle.kqueue_core.specs.Watches.{told_watch}
use Rattle.kqueue_core.specs.declared.knotes.Event.{Event}
use Rattle.kqueue_core.specs.declared.knotes.Filter.{Filter}
use Rattle.kqueue_core.specs.declared.knotes.Watch.{Watch}
use Rattle.lx_machine.specs.declared.files.Files.{Files}
use Rattle.bsd_files.specs.Queues.{event_bytes, report_bytes}
use Rattle.open_files.specs.Plain.{readiness}

fewer_by : {X : Type 0} (b : Bool) (x : X) (xs fs : List X) → length fs ≤ length xs → length (if b then (x ∷ fs) else fs) ≤ length (x ∷ xs)
fewer_by true x xs fs h = omega (arith, h)
fewer_by false x xs fs h = omega (arith, h)

fewer : {X : Type 0} (p : X → Bool) (xs : List X) → length (filter p xs) ≤ length xs
fewer p [] = omega arith
fewer p (x ∷ xs) = fewer_by (p x) x xs (filter p xs) (fewer p xs)

-- of two numbers that are both enough, either serves
gone_by : {X : Type 0} (p : X → Bool) (n m : ℕ) (x : X) (xs : List X) (b : Bool) → nat_lt 0 n ≡ true → nat_lt 0 m ≡ true
    → without_first p (n - 1) xs ≡ without_first p (m - 1) xs → without_first p n xs ≡ without_first p m xs
    → (if nat_lt 0 n && b then without_first p (n - 1) xs else (x ∷ without_first p n xs)) ≡ (if nat_lt 0 m && b then without_first p (m - 1) xs else (x ∷ without_first p m xs))
gone_by p n m x xs true hn hm less same = rw (hn, hm) less
gone_by p n m x xs false hn hm less same = rw (hn, hm) (ap (λ ys. x ∷ ys) same)

all_gone : {X : Type 0} (p : X → Bool) (n m : ℕ) (xs : List X) → length xs ≤ n → length xs ≤ m → without_first p n xs ≡ without_first p m xs
all_gone p n m [] hn hm = refl
all_gone p n m (x ∷ xs) hn hm =
    gone_by p n m x xs (p x) (grind (arith, hn)) (grind (arith, hm)) (all_gone p (n - 1) (m - 1) xs (omega (arith, hn)) (omega (arith, hm))) (all_gone p n m xs (omega (arith, hn)) (omega (arith, hm)))

which_by : (m l : ℕ) (b : Bool) → nat_le m l ≡ b → (min m l ≡ m) ⊎ ((l ≤ m) × (l ≤ min m l))
which_by m l true e = inl (min-eq_left (leb-true m l e))
which_by m l false e = let h : l ≤ m = grind (arith, e) in inr (h, le-min h (omega arith))

enough_by : (R : ℕ → Filter → ℕ) (m : ℕ) (ws : List Watch) → (min m (length ws) ≡ m) ⊎ ((length ws ≤ m) × (length ws ≤ min m (length ws)))
    → (reports R (min m (length ws)) ws ≡ reports R m ws) × (without_first (is_reported R) (min m (length ws)) ws ≡ without_first (is_reported R) m ws)
enough_by R m ws (inl e) = (ap (λ n. reports R n ws) e, ap (λ n. without_first (is_reported R) n ws) e)
enough_by R m ws (inr h) =
    let few : length (filter (is_reported R) ws) ≤ length ws = fewer (is_reported R) ws in
    let a : length (filter (is_reported R) ws) ≤ min m (length ws) = le_trans few h.1 in
    let b : length (filter (is_reported R) ws) ≤ m = le_trans few h.0 in
    (take_all (min m (length ws)) (filter (is_reported R) ws) a ∙ sym (take_all m (filter (is_reported R) ws) b), all_gone (is_reported R) (min m (length ws)) m ws h.1 h.0)

pub enough : (R : ℕ → Filter → ℕ) (m : ℕ) (ws : List Watch) → reports R (min m (length ws)) ws ≡ reports R m ws
enough R m ws = (enough_by R m ws (which_by m (length ws) (nat_le m (length ws)) refl)).0

pub enough_scanned : (R : ℕ → Filter → ℕ) (m : ℕ) (ws : List Watch) → scanned R (min m (length ws)) ws ≡ scanned R m ws
enough_scanned R m ws =
    let h = enough_by R m ws (which_by m (length ws) (nat_le m (length ws)) refl) in
    ap (λ vs. vs ++ map told_watch (reports R (min m (length ws)) ws)) h.1 ∙ ap (λ vs. without_first (is_reported R) m ws ++ map told_watch vs) h.0

-- ---- bytes

bytes_length : (es : List Event) → length (flat_map event_bytes es) ≡ length es * 16
bytes_length [] = refl
bytes_length (e ∷ es) =
    let both = length-append (event_bytes e) (flat_map event_bytes es) in
    let one : length (event_bytes e) ≡ 16 = refl in
    let rest = bytes_length es in
    omega (arith, both, one, rest)

pub report_length : (F : Files) (most n m : ℕ) (q : Queue) → m ≡ min most (length q.watches) → n ≡ length (reports (readiness F) m q.watches)
    → n * 16 ≡ length (report_bytes F most q)
report_length F most n m q em en =
    let all = bytes_length (map (event_of (readiness F)) (reports (readiness F) most q.watches)) in
    let each = length-map (reports (readiness F) most q.watches) (event_of (readiness F)) in
    let count : n ≡ length (reports (readiness F) most q.watches) = en ∙ ap (λ k. length (reports (readiness F) k q.watches)) em ∙ ap length (enough (readiness F) most q.watches) in
    ap (λ k. k * 16) (count ∙ sym each) ∙ sym all

pub report_buffer : (F : Files) (most n m : ℕ) (q : Queue) (into old : List Event) (buffer : List ℕ) → m ≡ min most (length q.watches) → n ≡ length (reports (readiness F) m q.watches)
    → into ≡ map (event_of (readiness F)) (reports (readiness F) m q.watches) ++ drop n old
    → flat_map event_bytes (take n into) ++ drop (length (flat_map event_bytes (take n into))) buffer ≡ report_bytes F most q ++ drop (n * 16) buffer
report_buffer F most n m q into old buffer em en h =
    let told : List Event = map (event_of (readiness F)) (reports (readiness F) m q.watches) in
    let count : n ≡ length told = en ∙ sym (length-map (reports (readiness F) m q.watches) (event_of (readiness F))) in
    let front : take n into ≡ told = ap (take n) h ∙ ap (λ k. take k (told ++ drop n old)) count ∙ take-append_seam told (drop n old) in
    let same : told ≡ map (event_of (readiness F)) (reports (readiness F) most q.watches) = ap (map (event_of (readiness F))) (ap (λ k. reports (readiness F) k q.watches) em ∙ enough (readiness F) most q.watches) in
    ap (λ es. flat_map event_bytes es ++ drop (length (flat_map event_bytes es)) buffer) (front ∙ same)
    ∙ ap (λ k. report_bytes F most q ++ drop k buffer) (sym (report_length F most n m q em en))
