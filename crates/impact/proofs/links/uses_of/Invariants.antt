-- Each column tells of the links read so far.
use Rattle.model.specs.{Impact.is_provider, Impact.is_unserved}
use Rattle.loops.specs.{Columns.flag}
use Rattle.impact.proofs.{Laws.Uses.Seen}
use Rattle.sizes.specs.{Sizes.IDENTITIES}
use Rattle.impact.proofs.links.uses_of.Given as goal

abbrev pub invariant-loop-l : goal.invariant-loop-l
invariant-loop-l l = Seen (is_provider l.id) l.links l.l-index l.relying × Seen (is_unserved (flag IDENTITIES l.providing)) l.links l.l-index l.unserved
