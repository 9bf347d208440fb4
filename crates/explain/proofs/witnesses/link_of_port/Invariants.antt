-- What is left of the links names what they all do.
use Rattle.std.proofs.Common.{◌≡◌, drop}
use Rattle.model.specs.{Explanation.link_at, Interface.relies_on}
use Rattle.explain.proofs.{Laws.Found.found_from}
use Rattle.explain.proofs.witnesses.link_of_port.Given as goal

abbrev pub invariant-loop-place : goal.invariant-loop-place
invariant-loop-place l = found_from link_at (relies_on l.id l.port) l.place (drop l.place l.links) ≡ found_from link_at (relies_on l.id l.port) 0 l.links
