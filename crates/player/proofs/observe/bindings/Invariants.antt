-- `player::observe::bindings`: so far all is gathered.
use Rattle.player.specs.Gathered.{Gathers}
use Rattle.player.proofs.observe.bindings.Given as goal

abbrev pub invariant-loop-binding : goal.invariant-loop-binding
invariant-loop-binding l = (goal.iterator-loop-binding).can_next l.binding-iterator × (goal.iterator-loop-binding).is_finite l.binding-iterator × Gathers l.fn.out l.out
