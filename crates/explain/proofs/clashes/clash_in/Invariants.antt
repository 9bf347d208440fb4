-- What is left of the ports, behind those that were read, names what they all do.
use Rattle.std.proofs.Common.{◌≡◌}
use Rattle.explain.specs.{Explanations.tables_in}
use Rattle.model.specs.{Resolution.resolve, declared.explanation.ListKind.ListKind}
use Rattle.explain.proofs.{Laws.Scans.left}
use Rattle.explain.proofs.clashes.clash_in.Given as goal

abbrev pub invariant-loop-later : goal.invariant-loop-later
invariant-loop-later l = let f = resolve (tables_in l.sound.kernel.now) in left ListKind.Provisions f l.ports l.later ≡ left ListKind.Provisions f l.ports 0
