-- How many of the flags read so far are set.
use Rattle.model.proofs.Logic.{◌≡◌, ◌≤◌, take}
use Rattle.drain.specs.{Order.held}
use Rattle.drain.proofs.stopping.count.Given as goal

abbrev pub invariant-loop-flag : goal.invariant-loop-flag
invariant-loop-flag l = (l.count ≡ held (take l.flag-index l.flags)) × (l.count ≤ l.flag-index)
