-- The places below i of each array are filled with the answers on the nodes below i.
use Rattle.model.specs.Records.{is_providing}
use Rattle.scans.proofs.Slices.{Filling}
use Rattle.scans.proofs.nodes.node_flags.Given as goal

abbrev pub invariant-loop-i : goal.invariant-loop-i
invariant-loop-i l = Filling (λ n. n.present) l.nodes l.i l.present × Filling is_providing l.nodes l.i l.providing
