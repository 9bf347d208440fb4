-- What is left of the chain answers as all declarations do.
use Rattle.model.specs.{Lists.any, Soundness.is_declaration}
use Rattle.loops.proofs.Laws.Chains.{Walk}
use Rattle.loops.specs.Chains.{bucket_of, owner_bucket}
use Rattle.soundness.proofs.chains.Chains.declares.Given as goal

abbrev pub invariant-loop-c : goal.invariant-loop-c
invariant-loop-c l =
    let asked = is_declaration l.owner l.port l.provision in
    Walk owner_bucket l.self.declarations.now (bucket_of l.owner l.port.key l.port.realm) l.self.by_owner.next asked (any asked l.self.declarations.now) l.c

abbrev pub decreases-loop-c : goal.decreases-loop-c
decreases-loop-c l = l.c
