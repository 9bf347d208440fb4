use Rattle.model.proofs.Logic.{◌∙◌, ap, not, sym}
use Rattle.model.specs.Tables.{present}
use Rattle.loops.proofs.Laws.Chains.{no_rival, not_offered, only_rival, walk_end, walk_hit, walk_less, walk_next, walk_start}
use Rattle.soundness.proofs.declarations.one_provider.Goals as goal

pub returns-then-not-d-is_present : goal.returns-then-not-d-is_present
returns-then-not-d-is_present c =
    sym (not_offered (present c.args.nodes.now) c.args.d _ (rw (c.is_present.ensures, c.owner_in.ensures) at c.if-not-d-is_present.true))

pub loop-c-init : goal.loop-c-init
loop-c-init c = walk_start (rw c.declared_port-port.ensures at c.bucket_of.ensures) c.args.chains.now.chained.ports (only_rival (present c.args.nodes.now) c.args.d)

pub loop-c-smaller : goal.loop-c-smaller
loop-c-smaller c = walk_less c.loop-c.invariant c.loop-c-test.true

pub returns-then-not-same_owner : goal.returns-then-not-same_owner
returns-then-not-same_owner c =
    ap not (walk_hit c.loop-c.invariant c.loop-c-test.true (ap not (sym c.same_owner.ensures ∙ c.if-not-same_owner.true))) ∙ no_rival (present c.args.nodes.now) c.args.d _

pub loop-c-preserved : goal.loop-c-preserved
loop-c-preserved c = walk_next c.loop-c.invariant c.loop-c-test.true (ap not (sym c.same_owner.ensures ∙ c.if-not-same_owner.false))

pub returns : goal.returns
returns c = ap not (walk_end c.loop-c.invariant c.loop-c-test.false) ∙ no_rival (present c.args.nodes.now) c.args.d _
