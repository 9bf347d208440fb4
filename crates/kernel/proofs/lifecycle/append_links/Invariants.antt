-- The array holds the links below the count and those of the first bindings, then blanks.
use Rattle.model.proofs.Logic.{◌≡◌, take}
use Rattle.kernel.specs.Links.{linked_to}
use Rattle.kernel.proofs.lifecycle.append_links.Given as goal

abbrev pub invariant-loop-i : goal.invariant-loop-i
invariant-loop-i l = l.links ≡ linked_to l.nodes l.id l.count l.fn.links (take l.i l.bindings)
