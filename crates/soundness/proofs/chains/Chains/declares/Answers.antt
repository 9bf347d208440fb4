use Rattle.model.proofs.Logic.{◌∙◌, sym}
use Rattle.loops.proofs.Laws.Chains.{only_declaration, walk_end, walk_hit, walk_less, walk_next, walk_start}
use Rattle.soundness.proofs.chains.Chains.declares.Goals as goal

pub loop-c-init : goal.loop-c-init
loop-c-init c = walk_start c.bucket_of.ensures c.args.self.now.chained.owners (only_declaration c.args.owner c.args.port c.args.provision)

pub loop-c-smaller : goal.loop-c-smaller
loop-c-smaller c = walk_less c.loop-c.invariant c.loop-c-test.true

pub returns-then-is_declaration : goal.returns-then-is_declaration
returns-then-is_declaration c = walk_hit c.loop-c.invariant c.loop-c-test.true (sym c.is_declaration.ensures ∙ c.if-is_declaration.true)

pub loop-c-preserved : goal.loop-c-preserved
loop-c-preserved c = walk_next c.loop-c.invariant c.loop-c-test.true (sym c.is_declaration.ensures ∙ c.if-is_declaration.false)

pub returns : goal.returns
returns c = walk_end c.loop-c.invariant c.loop-c-test.false
