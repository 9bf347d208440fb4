-- The links before the index are dead, the others are as they came in.
use Rattle.model.proofs.Logic.{◌≡◌}
use Rattle.model.specs.{Records.dead_link}
use Rattle.loops.proofs.{Laws.Edit.edited}
use Rattle.drain.proofs.stopping.kill_links.Given as goal

abbrev pub invariant-loop-link : goal.invariant-loop-link
invariant-loop-link l = l.links ≡ edited dead_link l.link-index l.fn.links
