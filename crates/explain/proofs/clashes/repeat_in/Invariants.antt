-- What is left of the ports, behind those that were read, names what they all do.
use Rattle.std.proofs.Common.{◌≡◌}
use Rattle.model.specs.{declared.Port.Port, declared.Resolution.Resolution, declared.explanation.ListKind.ListKind}
use Rattle.explain.proofs.{Laws.Scans.left}
use Rattle.explain.proofs.clashes.repeat_in.Given as goal

abbrev pub invariant-loop-later : goal.invariant-loop-later
invariant-loop-later l = let f = λ (p : Port). Resolution.NoOwner in left ListKind.Dependencies f l.ports l.later ≡ left ListKind.Dependencies f l.ports 0
