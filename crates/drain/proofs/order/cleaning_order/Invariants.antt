-- Nothing below place i is ready, and what was found is the beginning of the order.
use Rattle.model.proofs.Logic.{◌*◌, ◌+◌, ◌-◌}
use Rattle.drain.proofs.{Laws.Order.Ordering}
use Rattle.drain.specs.{Order.held}
use Rattle.sizes.specs.{Sizes.IDENTITIES}
use Rattle.drain.proofs.order.cleaning_order.Given as goal

abbrev pub invariant-loop-i : goal.invariant-loop-i
invariant-loop-i l = Ordering l.serving l.links l.uses l.ids l.count l.i

-- one waits no more, or the search goes on
abbrev pub decreases-loop-i : goal.decreases-loop-i
decreases-loop-i l = held l.uses.waiting * (IDENTITIES + 1) + (IDENTITIES - l.i)
