use Rattle.model.proofs.Logic.{arith, refl}
use Rattle.impact.proofs.{Laws.Uses.seen_live, Laws.Uses.seen_other, Laws.Uses.seen_start}
use Rattle.impact.proofs.links.uses_of.Goals.{then-l-c, else-l-c}
use Rattle.impact.proofs.links.uses_of.Goals as goal

pub loop-l-init : goal.loop-l-init
loop-l-init c = (seen_start refl, seen_start refl)

pub loop-l-preserved : goal.loop-l-preserved
loop-l-preserved c =
    let (h, f) = c.loop-l.invariant in
    let e = c.consumer_in-c.ensures in
    elim c.if-l-c.branch [
      | then-l-c w ↦ let t = w.if-l-c.true in (seen_live h (omega arith) t e w.relying-is (grind arith), seen_live f (omega arith) t e w.unserved-is (grind arith))
      | else-l-c w ↦ let t = w.if-l-c.false in rw (w.relying-is, w.unserved-is) (seen_other h (omega arith) e t, seen_other f (omega arith) e t)
    ]
