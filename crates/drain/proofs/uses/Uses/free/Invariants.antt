-- The links of the chain from c on count no more, and nothing below the lowest became free.
use Rattle.drain.proofs.{Laws.Uses.Walking}
use Rattle.drain.proofs.uses.Uses.free.Given as goal

abbrev pub invariant-loop-c : goal.invariant-loop-c
invariant-loop-c l = Walking l.links l.fn.self l.id l.self l.lowest l.c

abbrev pub decreases-loop-c : goal.decreases-loop-c
decreases-loop-c l = l.c
