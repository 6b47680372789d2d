use Rattle.std.proofs.Common.{◌≡◌, List, ℕ, ◌-◌, ◌+◌, ◌≤◌, ◌++◌, length, take, drop, ap, sym, ◌∙◌, arith, subst, length-drop}
use Rattle.std.proofs.lemmas.Grind.{common_steps}
use Rattle.std.proofs.lemmas.List.{drop-drop}
use Rattle.std.proofs.Math.Seq.{take-add}
use Rattle.std.specs.Prelude.{Some, None}
use Rattle.std.specs.declared.option.Option.{Option}
use Rattle.std.specs.Io.KnownBytes.{Appends}
use Rattle.outside.specs.Sinks.{AppendsSome}

-- two writes, one after the other
pub appends_more : (t u v : Option (List ℕ)) (a b : List ℕ) → Appends t u a → Appends u v b → Appends t v (a ++ b)
appends_more None u v a b first next = tt
appends_more (Some xs) None v a b first next = absurd first
appends_more (Some xs) (Some ys) None a b first next = absurd next
appends_more (Some xs) (Some ys) (Some zs) a b first next = grind (arith, common_steps)

-- what is written of some bytes, and what is left of them
pub record Partly (bytes rest : List ℕ) (before now : Option (List ℕ)) : Type 0 where
  pub fits : length rest ≤ length bytes
  pub left : rest ≡ drop (length bytes - length rest) bytes
  pub written : Appends before now (take (length bytes - length rest) bytes)

pub partly_more : (bytes rest next : List ℕ) (t u v : Option (List ℕ)) (n : ℕ) → length rest ≤ length bytes → rest ≡ drop (length bytes - length rest) bytes →
    Appends t u (take (length bytes - length rest) bytes) → n ≤ length rest → next ≡ drop n rest → Appends u v (take n rest) → Partly bytes next t v
partly_more bytes rest next t u v n fits left written within is more =
    let k : ℕ = length bytes - length rest in
    let long : length next ≡ length rest - n = ap length is ∙ length-drop n rest in
    let at : length bytes - length next ≡ k + n = omega arith in
    let front : take (k + n) bytes ≡ take k bytes ++ take n (drop k bytes) = take-add k n bytes in
    record {
      fits = omega arith;
      left = is ∙ ap (drop n) left ∙ drop-drop n k bytes ∙ ap (λ m. drop m bytes) (sym at);
      written = subst (Appends t v) (ap (λ r. take k bytes ++ take n r) left ∙ sym front ∙ ap (λ m. take m bytes) (sym at)) (appends_more t u v (take k bytes) (take n rest) written more);
    }

-- all is some
pub part_of_whole : (t u : Option (List ℕ)) (a : List ℕ) → Appends t u a → AppendsSome t u a
part_of_whole None u a whole = tt
part_of_whole (Some xs) None a whole = absurd whole
part_of_whole (Some xs) (Some ys) a whole = (length a, grind (arith, common_steps))
