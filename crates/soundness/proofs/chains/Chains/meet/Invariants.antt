-- What is left of the chain, or a dependency found, answers as all declarations do; the entries walked are marked.
use Rattle.model.proofs.Logic.{false}
use Rattle.model.specs.{Lists.any, Soundness.is_declaration}
use Rattle.loops.proofs.Laws.Chains.{Meeting}
use Rattle.loops.specs.Chains.{bucket_of, owner_bucket}
use Rattle.soundness.proofs.chains.Chains.meet.Given as goal

abbrev pub invariant-loop-c : goal.invariant-loop-c
invariant-loop-c l =
    let wanted = is_declaration l.owner l.port false in
    Meeting owner_bucket l.self.declarations.now (bucket_of l.owner l.port.key l.port.realm) l.self.by_owner.next wanted l.initial.met l.met l.found (any wanted l.self.declarations.now) l.c

abbrev pub decreases-loop-c : goal.decreases-loop-c
decreases-loop-c l = l.c
