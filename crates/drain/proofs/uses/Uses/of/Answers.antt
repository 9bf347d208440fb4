use Rattle.model.proofs.Logic.{arith, false, get_or, refl}
use Rattle.drain.proofs.{Laws.Uses.counting_other, Laws.Uses.counting_room, Laws.Uses.counting_start, Laws.Uses.counting_use}
use Rattle.drain.proofs.uses.Uses.of.Goals.{then-l-c, else-l-c}
use Rattle.drain.proofs.uses.Uses.of.Goals as goal

pub loop-i-init : goal.loop-i-init
loop-i-init c = counting_start (omega arith) (omega arith) refl refl refl refl

pub overflow_add-uses : goal.overflow_add-uses
overflow_add-uses c = omega (arith, c.from.ensures, counting_room c.loop-i.invariant (omega arith) _ (get_or c.loop-i.uses.waiting c.consumer_in-c.result false) c.provider_in-p.result c.if-l-c.true)

pub loop-i-preserved : goal.loop-i-preserved
loop-i-preserved c =
    let h = c.loop-i.invariant in
    elim c.if-l-c.branch [
      | then-l-c w ↦ rw w.uses-is (counting_use h (omega arith) c.consumer_in-c.ensures c.provider_in-p.ensures w.from.ensures w.if-l-c.true)
      | else-l-c w ↦ rw w.uses-is (counting_other h (omega arith) c.consumer_in-c.ensures c.provider_in-p.ensures w.if-l-c.false)
    ]
