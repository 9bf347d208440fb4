-- `player::tables::of`: so far all is gathered.
use Rattle.player.specs.Gathered.{Gathers}
use Rattle.player.proofs.tables.of.Given as goal

abbrev pub invariant-loop-stored : goal.invariant-loop-stored
invariant-loop-stored l = (goal.iterator-loop-stored).can_next l.stored-iterator × (goal.iterator-loop-stored).is_finite l.stored-iterator × Gathers l.fn.out l.out

abbrev pub invariant-loop-stored-2 : goal.invariant-loop-stored-2
invariant-loop-stored-2 l = (goal.iterator-loop-stored-2).can_next l.stored-iterator × (goal.iterator-loop-stored-2).is_finite l.stored-iterator × Gathers l.fn.out l.out

abbrev pub invariant-loop-stored-3 : goal.invariant-loop-stored-3
invariant-loop-stored-3 l = (goal.iterator-loop-stored-3).can_next l.stored-iterator × (goal.iterator-loop-stored-3).is_finite l.stored-iterator × Gathers l.fn.out l.out
