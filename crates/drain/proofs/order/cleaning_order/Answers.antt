use Rattle.model.proofs.Logic.{arith}
use Rattle.drain.proofs.{Laws.Order.ordering_end, Laws.Order.ordering_less, Laws.Order.ordering_next, Laws.Order.ordering_past, Laws.Order.ordering_room, Laws.Order.ordering_start}
use Rattle.drain.proofs.order.cleaning_order.Goals as goal

pub loop-i-init : goal.loop-i-init
loop-i-init c = ordering_start c.of-uses.ensures.tracks c.of-uses.ensures.waiting

pub bounds-ids-count : goal.bounds-ids-count
bounds-ids-count c = ordering_room c.loop-i.invariant c.loop-i-test.true (grind arith) (grind arith)

pub loop-i-smaller-then-uses-i : goal.loop-i-smaller-then-uses-i
loop-i-smaller-then-uses-i c = ordering_less c.loop-i.invariant c.loop-i-test.true (grind arith) (grind arith) c.free-i.ensures

pub loop-i-preserved-then-uses-i : goal.loop-i-preserved-then-uses-i
loop-i-preserved-then-uses-i c = ordering_next c.loop-i.invariant c.loop-i-test.true (grind arith) (grind arith) c.free-i.ensures

pub loop-i-preserved : goal.loop-i-preserved
loop-i-preserved c = ordering_past c.loop-i.invariant c.loop-i-test.true (grind arith)

pub returns : goal.returns
returns c = ordering_end c.loop-i.invariant c.loop-i-test.false
