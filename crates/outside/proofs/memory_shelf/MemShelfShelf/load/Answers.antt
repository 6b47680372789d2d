-- Which answer comes.
use Rattle.std.proofs.Common.{inl, inr, refl}
use Rattle.outside.proofs.memory_shelf.MemShelfShelf.load.Goals as goal

pub returns-then-fails_next-clause-failed : goal.returns-then-fails_next-clause-failed
returns-then-fails_next-clause-failed c = rw (← c.self.view_is) (λ _. inl (c.if-fails_next.ensures.fails.0 refl))

pub returns-in_default-clause-failed : goal.returns-in_default-clause-failed
returns-in_default-clause-failed c = rw (← c.self.view_is) (λ _. inr (rw c.deref.ensures.value at c.in_default.ensures))

pub returns-in-Ok-clause-missing : goal.returns-in-Ok-clause-missing
returns-in-Ok-clause-missing c = rw (← c.self.view_is) (λ missing. let found = rw c.deref.ensures.value at c.in-Some.ensures in cc)
