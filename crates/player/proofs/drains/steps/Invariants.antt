-- `player::drains::steps`: so far all is gathered.
use Rattle.player.specs.Gathered.{Gathers}
use Rattle.player.proofs.drains.steps.Given as goal

abbrev pub invariant-loop-step : goal.invariant-loop-step
invariant-loop-step l = Gathers l.fn.out l.out
