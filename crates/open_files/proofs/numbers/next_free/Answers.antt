use Rattle.std.specs.Prelude.{position, is_none, drop}
use Rattle.std.proofs.Common.{ap, sym, ◌∙◌}
use Rattle.std.proofs.lemmas.List.{take_rest}
use Rattle.open_files.proofs.Free.{later_some, later_none}
use Rattle.open_files.proofs.numbers.next_free.Goals as goal

pub returns-in-Some-clause-place : goal.returns-in-Some-clause-place
returns-in-Some-clause-place g c =
    sym (later_some c.args.from c.in-Some.at (drop c.args.from c.args.places.now)
    (ap (position is_none) (sym (take_rest c.args.places.now c.args.from)) ∙ sym c.in-Some.ensures.place))

pub returns-in-None-clause-place : goal.returns-in-None-clause-place
returns-in-None-clause-place g c =
    sym (later_none c.args.from (drop c.args.from c.args.places.now)
    (ap (position is_none) (sym (take_rest c.args.places.now c.args.from)) ∙ sym c.in-None.ensures.place))
