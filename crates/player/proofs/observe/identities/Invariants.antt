-- `player::observe::identities`: so far all is gathered.
use Rattle.player.specs.Gathered.{Gathers}
use Rattle.player.proofs.observe.identities.Given as goal

abbrev pub invariant-loop-id : goal.invariant-loop-id
invariant-loop-id l = (goal.iterator-loop-id).can_next l.id-iterator × (goal.iterator-loop-id).is_finite l.id-iterator × Gathers l.fn.out l.out
