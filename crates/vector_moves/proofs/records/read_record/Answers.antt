use Rattle.std.proofs.Common.{List, ℕ, Bool, Option, Some, None, if◌then◌else◌, drop, ap, sym, ◌∙◌}
use Rattle.a64_model.specs.VectorRecord.{vectors_in}
use Rattle.vector_moves.proofs.records.read_record.Goals as goal

-- what is read where the bytes begin as a record does, or don't
abbrev read : List ℕ → Bool → Option (List ℕ)
read bytes is = if is then Some (vectors_in (drop 16 bytes) 32) else None

pub returns-then-is_record : goal.returns-then-is_record
returns-then-is_record c = ap Some c.vectors_behind.ensures ∙ ap (read c.args.bytes.now) (sym c.if-is_record.true ∙ c.is_record.ensures)

pub returns-else-is_record : goal.returns-else-is_record
returns-else-is_record c = ap (read c.args.bytes.now) (sym c.if-is_record.false ∙ c.is_record.ensures)
