-- What is left of the nodes answers as the whole does.
use Rattle.std.proofs.Common.{◌≡◌, drop}
use Rattle.model.specs.Lists.{all_at}
use Rattle.loops.specs.Passes.{node_passes}
use Rattle.soundness.proofs.nodes.each_passes.Given as goal

abbrev pub invariant-loop-id : goal.invariant-loop-id
invariant-loop-id l = all_at (node_passes l.nodes) l.id (drop l.id l.nodes) ≡ all_at (node_passes l.nodes) 0 l.nodes
