-- The links before place i are counted and chained.
use Rattle.drain.proofs.{Laws.Uses.CountingUses}
use Rattle.drain.proofs.uses.Uses.of.Given as goal

abbrev pub invariant-loop-i : goal.invariant-loop-i
invariant-loop-i l = CountingUses l.fn.waiting l.links l.i l.uses
