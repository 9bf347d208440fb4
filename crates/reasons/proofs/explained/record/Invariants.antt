-- `reasons::explained::record`: so far all is gathered.
use Rattle.player.specs.Gathered.{Gathers}
use Rattle.reasons.proofs.explained.record.Given as goal

abbrev pub invariant-loop-number : goal.invariant-loop-number
invariant-loop-number l = Gathers l.fn.out l.out
