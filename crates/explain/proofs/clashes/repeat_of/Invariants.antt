-- What is left of the ports names what they all do.
use Rattle.std.proofs.Common.{◌≡◌, drop, length}
use Rattle.model.specs.{Explanation.repeat_at, Records.same_port}
use Rattle.explain.proofs.{Laws.Found.found_from}
use Rattle.explain.proofs.clashes.repeat_of.Given as goal

abbrev pub invariant-loop-earlier : goal.invariant-loop-earlier
invariant-loop-earlier l =
    let f = repeat_at l.list (length l.ports) in found_from f (same_port l.port) l.earlier (drop l.earlier l.ports) ≡ found_from f (same_port l.port) 0 l.ports
