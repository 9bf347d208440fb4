-- `player::lists::list`: so far all is gathered.
use Rattle.player.specs.Gathered.{Gathers}
use Rattle.player.proofs.lists.list.Given as goal

abbrev pub invariant-loop-id : goal.invariant-loop-id
invariant-loop-id l = Gathers l.fn.out l.out
