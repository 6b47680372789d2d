-- What has been read of a source, piece by piece.
use Rattle.std.proofs.Common.{◌≡◌, List, [], ℕ, ◌+◌, ◌<◌, ◌++◌, length, length-append, ap, sym, ◌∙◌, subst, arith, append-nil}
use Rattle.std.specs.Prelude.{None, Some, IfSome}
use Rattle.std.specs.declared.option.Option.{Option}
use Rattle.std.specs.Io.KnownBytes.{Consumes, IsAtEnd}
use Rattle.std.proofs.KnownBytes.{Consumes-nil, Consumes-trans}

-- nothing has been read
pub read-nothing : (t : Option (List ℕ)) (bytes : List ℕ) → bytes ≡ [] → Consumes t t bytes
read-nothing t bytes none = subst (Consumes t t) (sym none) (Consumes-nil t)

-- and a piece more
pub read-more : (t u v : Option (List ℕ)) (bytes piece more : List ℕ) → Consumes t u bytes → Consumes u v piece → more ≡ bytes ++ piece → Consumes t v more
read-more t u v bytes piece more first next is = subst (Consumes t v) (sym is) (Consumes-trans t u v bytes piece first next)

-- at the end all has been read
pub read-all : (t u v : Option (List ℕ)) (bytes piece : List ℕ) → Consumes t u bytes → Consumes u v piece → piece ≡ [] → IsAtEnd v → IfSome t (λ xs. bytes ≡ xs)
read-all None u v bytes piece first next none end = tt
read-all (Some xs) None v bytes piece first next none end = absurd first
read-all (Some xs) (Some ys) None bytes piece first next none end = absurd next
read-all (Some xs) (Some ys) (Some zs) bytes piece first next none end =
    let rest : ys ≡ [] = next ∙ ap (λ (p : List ℕ). p ++ zs) none ∙ end in
    sym (first ∙ ap (λ (r : List ℕ). bytes ++ r) rest ∙ append-nil bytes)

-- a piece that passes the limit shows that there is more than the limit
pub read-too_much : (t u v : Option (List ℕ)) (bytes piece : List ℕ) (limit : ℕ) → Consumes t u bytes → Consumes u v piece → limit < length bytes + length piece →
    IfSome t (λ xs. limit < length xs)
read-too_much None u v bytes piece limit first next much = tt
read-too_much (Some xs) None v bytes piece limit first next much = absurd first
read-too_much (Some xs) (Some ys) None bytes piece limit first next much = absurd next
read-too_much (Some xs) (Some ys) (Some zs) bytes piece limit first next much =
    let all : length xs ≡ length bytes + length ys = ap length first ∙ length-append bytes ys in
    let left : length ys ≡ length piece + length zs = ap length next ∙ length-append piece zs in
    omega (arith, all, left, much)
