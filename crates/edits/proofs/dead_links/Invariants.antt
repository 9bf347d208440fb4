-- The links before the index are dead for the consumer, the others are as they came in.
use Rattle.std.proofs.Common.{◌≡◌}
use Rattle.loops.proofs.Laws.Edit.{edited}
use Rattle.model.specs.Records.{dead_for}
use Rattle.edits.proofs.dead_links.Given as goal

abbrev pub invariant-loop-l : goal.invariant-loop-l
invariant-loop-l l = l.links ≡ edited (dead_for l.id) l.l-index l.fn.links
