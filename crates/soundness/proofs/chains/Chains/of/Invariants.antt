-- The declarations met are chained.
use Rattle.soundness.specs.Chains.{BothChained}
use Rattle.soundness.proofs.chains.Chains.of.Given as goal

abbrev pub invariant-loop-i : goal.invariant-loop-i
invariant-loop-i l = BothChained l.declarations l.i l.by_port l.by_owner
