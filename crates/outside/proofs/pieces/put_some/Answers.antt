use Rattle.std.proofs.Common.{Result, Ok, Err, List, ℕ, OnOk, OnErr, arith}
use Rattle.std.specs.Io.KnownBytes.{Appends}
use Rattle.outside.specs.Causes.{HasCause}
use Rattle.outside.specs.Sinks.{AppendsSome, TookAsFaults, SinkView}
use Rattle.outside.specs.declared.traits.Failed.{Failed}
use Rattle.outside.proofs.Parts.{part_of_whole}
use Rattle.outside.proofs.pieces.put_some.Goals as goal

told : (before now : SinkView) (bytes : List ℕ) (r : Result (Unit {0}) Failed) → OnOk r (Appends before.taken now.taken bytes) → OnErr r (AppendsSome before.taken now.taken bytes) →
    HasCause before.faults now.faults r → TookAsFaults before now bytes
told before now bytes (Ok u) whole part cause = record { later = omega (arith, cause.kept); part = part_of_whole _ _ _ whole; whole = λ _ _. whole }
told before now bytes (Err f) whole part cause = record { later = cause.later; part = part; whole = λ same low. absurd (omega (arith, cause.failed, same, low)) }

pub returns : goal.returns
returns g c = told _ _ _ c.put_all.result c.put_all.ensures.whole c.put_all.ensures.part c.put_all.ensures.cause
