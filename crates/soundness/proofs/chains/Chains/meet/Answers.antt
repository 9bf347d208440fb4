use Rattle.model.proofs.Logic.{◌∙◌, arith, false, sym}
use Rattle.loops.proofs.Laws.Chains.{meet_end, meet_hit, meet_less, meet_miss, meet_start, only_declaration}
use Rattle.soundness.proofs.chains.Chains.meet.Goals as goal
use Rattle.soundness.proofs.chains.Chains.meet.Goals.{then-is_declaration, else-is_declaration}

pub loop-c-init : goal.loop-c-init
loop-c-init c = meet_start c.bucket_of.ensures c.args.self.now.chained.owners (only_declaration c.args.owner c.args.port false)

pub loop-c-smaller : goal.loop-c-smaller
loop-c-smaller c = meet_less c.loop-c.invariant c.loop-c-test.true

pub loop-c-preserved : goal.loop-c-preserved
loop-c-preserved c =
    let h = c.loop-c.invariant in
    elim c.if-is_declaration.branch [
      | then-is_declaration w ↦ meet_hit h c.loop-c-test.true (omega (arith, h.walk.below, h.walk.fits, h.marks.size)) (sym c.is_declaration.ensures ∙ w.if-is_declaration.true) w.met-is w.found-is
      | else-is_declaration w ↦ meet_miss h c.loop-c-test.true (sym c.is_declaration.ensures ∙ w.if-is_declaration.false) w.met-is w.found-is
    ]

pub returns-clause-found : goal.returns-clause-found
returns-clause-found c = meet_end c.loop-c.invariant c.loop-c-test.false
