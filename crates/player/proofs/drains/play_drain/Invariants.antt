-- `player::drains::play_drain`: so far all is gathered.
use Rattle.player.specs.Gathered.{Gathers}
use Rattle.player.proofs.drains.play_drain.Given as goal

abbrev pub invariant-loop-step : goal.invariant-loop-step
invariant-loop-step l = (goal.iterator-loop-step).can_next l.step-iterator × (goal.iterator-loop-step).is_finite l.step-iterator × Gathers l.initial.steps l.steps
