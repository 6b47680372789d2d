use Rattle.std.proofs.Common.{ℕ, List, ap, ◌∙◌, drop, arith}
use Rattle.std.proofs.lemmas.List.{take_all, length-drop}
use Rattle.a64_model.specs.VectorRecord.{vectors_in}
use Rattle.vector_moves.proofs.records.vectors_behind.Goals as goal

pub returns : goal.returns
returns c =
    c.read_vectors.ensures
    ∙ ap (λ (rest : List ℕ). vectors_in rest 32) (take_all 512 (drop 16 c.args.bytes.now) (omega (arith, length-drop 16 c.args.bytes.now, c.told-bytes)))
