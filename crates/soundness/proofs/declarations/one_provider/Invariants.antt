-- What is left of the chain answers as all declarations do.
use Rattle.model.specs.{Lists.any, Tables.present}
use Rattle.loops.proofs.Laws.Chains.{Walk, is_rival}
use Rattle.loops.specs.Chains.{port_bucket}
use Rattle.soundness.proofs.declarations.one_provider.Given as goal

abbrev pub invariant-loop-c : goal.invariant-loop-c
invariant-loop-c l =
    let clashes = is_rival (present l.nodes) l.d in
    Walk port_bucket l.chains.declarations.now (port_bucket l.d) l.chains.by_port.next clashes (any clashes l.chains.declarations.now) l.c

abbrev pub decreases-loop-c : goal.decreases-loop-c
decreases-loop-c l = l.c
