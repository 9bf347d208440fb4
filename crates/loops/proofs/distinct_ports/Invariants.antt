-- What is left of the list answers as the whole does.
use Rattle.std.proofs.Common.{◌≡◌, drop}
use Rattle.model.specs.Interface.{distinct}
use Rattle.loops.proofs.distinct_ports.Given as goal

abbrev pub invariant-loop-i : goal.invariant-loop-i
invariant-loop-i l = distinct (drop l.i l.ports) ≡ distinct l.ports
