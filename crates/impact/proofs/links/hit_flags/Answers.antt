use Rattle.model.proofs.Logic.{arith}
use Rattle.impact.proofs.{Laws.Uses.hit_next}
use Rattle.impact.proofs.links.hit_flags.Goals as goal

pub loop-i-preserved : goal.loop-i-preserved
loop-i-preserved c = hit_next c.loop-i.invariant (omega arith) (grind arith)
