-- The name, and what is left of 65 zeros.
use Rattle.std.proofs.Common.{◌≡◌, ℕ, ◌-◌, List, ◌++◌, length, drop, replicate, ap, ◌∙◌}
use Rattle.std.proofs.lemmas.List.{drop-replicate}
use Rattle.lx_calls.proofs.process_calls.field_of.Goals as goal

padded : (new name : List ℕ) → new ≡ name → new ++ drop (length name) (replicate 65 0) ≡ name ++ replicate (65 - length name) 0
padded new name e = ap (λ xs. xs ++ drop (length name) (replicate 65 0)) e ∙ ap (λ xs. name ++ xs) (drop-replicate (length name) 65 0)

pub returns : goal.returns
returns c = padded c.copy_from_slice.new.self c.args.name.now c.copy_from_slice.ensures.after
