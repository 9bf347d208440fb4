-- The array holds the declarations below the count and those for the first ports, then blanks.
use Rattle.model.proofs.Logic.{◌≡◌, take}
use Rattle.kernel.specs.Ports.{appended}
use Rattle.kernel.proofs.ports.append_ports.Given as goal

abbrev pub invariant-loop-i : goal.invariant-loop-i
invariant-loop-i l = l.declarations ≡ appended l.count l.owner l.provides l.fn.declarations (take l.i l.ports)
