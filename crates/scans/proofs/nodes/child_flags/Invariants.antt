-- The places below i are filled with the answers on the nodes below i.
use Rattle.model.specs.Records.{is_child_of}
use Rattle.scans.proofs.Slices.{Filling}
use Rattle.scans.proofs.nodes.child_flags.Given as goal

abbrev pub invariant-loop-i : goal.invariant-loop-i
invariant-loop-i l = Filling (is_child_of l.parent) l.nodes l.i l.flags
