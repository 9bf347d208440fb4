-- What is left of the nodes names what they all do.
use Rattle.std.proofs.Common.{◌≡◌, drop}
use Rattle.model.specs.{Records.is_child_of, declared.explanation.Witness.Witness}
use Rattle.explain.proofs.{Laws.Found.found_from}
use Rattle.explain.proofs.witnesses.child_of.Given as goal

abbrev pub invariant-loop-child : goal.invariant-loop-child
invariant-loop-child l = found_from (λ i n. Witness.Child i) (is_child_of l.id) l.child (drop l.child l.nodes) ≡ found_from (λ i n. Witness.Child i) (is_child_of l.id) 0 l.nodes
