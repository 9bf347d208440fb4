-- The nodes before the index are Inactive and not restoring, the others are as they came in.
use Rattle.model.proofs.Logic.{◌≡◌}
use Rattle.model.specs.{Records.restored_node}
use Rattle.loops.proofs.{Laws.Edit.edited}
use Rattle.drain.proofs.stopping.restore_nodes.Given as goal

abbrev pub invariant-loop-node : goal.invariant-loop-node
invariant-loop-node l = l.nodes ≡ edited restored_node l.node-index l.fn.nodes
