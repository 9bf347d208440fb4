-- What is left of the links names what they all do.
use Rattle.std.proofs.Common.{◌≡◌, drop}
use Rattle.model.specs.{Explanation.link_at, Lifecycle.relies}
use Rattle.explain.proofs.{Laws.Found.found_from}
use Rattle.explain.proofs.witnesses.link_of.Given as goal

abbrev pub invariant-loop-place : goal.invariant-loop-place
invariant-loop-place l = found_from link_at (relies l.id) l.place (drop l.place l.links) ≡ found_from link_at (relies l.id) 0 l.links
