-- The first such link of what is left of the table is the whole's.
use Rattle.std.proofs.Common.{◌≡◌, drop}
use Rattle.model.specs.Lists.{find}
use Rattle.model.specs.Soundness.{links_to}
use Rattle.scans.proofs.resolution.link_generation_in.Given as goal

abbrev pub invariant-loop-l : goal.invariant-loop-l
invariant-loop-l l = find (links_to l.consumer l.port) (drop l.l-index l.links) ≡ find (links_to l.consumer l.port) l.links
