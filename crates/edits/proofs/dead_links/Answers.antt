use Rattle.std.proofs.Common.{◌∙◌, arith}
use Rattle.loops.proofs.Laws.Edit.{edited-next, edited-whole}
use Rattle.model.specs.Records.{blank_link, dead_for}
use Rattle.edits.proofs.dead_links.Goals as goal

pub loop-l-preserved : goal.loop-l-preserved
loop-l-preserved c = edited-next (dead_for c.args.id) c.args.links.now c.loop-l.l-index blank_link c.loop-l.links _ (omega arith) c.loop-l.invariant c.dead_for.ensures

pub returns : goal.returns
returns c = c.loop-l.invariant ∙ edited-whole (dead_for c.args.id) c.args.links.now c.loop-l.l-index (omega arith)
