-- The places below i of each array are filled with the answers on the nodes below i.
use Rattle.model.specs.{Drain.is_restoring, Drain.must_leave, Records.is_serving}
use Rattle.scans.proofs.Slices.{Filling}
use Rattle.drain.proofs.stopping.flags_of.Given as goal

abbrev pub invariant-loop-i : goal.invariant-loop-i
invariant-loop-i l = Filling must_leave l.nodes l.i l.leaving × Filling is_restoring l.nodes l.i l.restoring × Filling is_serving l.nodes l.i l.serving
