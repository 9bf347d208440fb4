-- The bindings so far and those of the links that are left are the bindings of the whole.
use Rattle.model.proofs.Logic.{◌++◌, drop, map}
use Rattle.model.specs.{Lists.keep, Records.binding_in, Records.blank_binding, Resolution.is_live_link_of}
use Rattle.loops.proofs.{Laws.Collecting.Collecting}
use Rattle.sizes.specs.{Sizes.LINKS}
use Rattle.scans.proofs.resolution.committed_in.Given as goal

abbrev pub invariant-loop-l : goal.invariant-loop-l
invariant-loop-l l =
    let live = is_live_link_of l.id in
    Collecting LINKS blank_binding l.bindings l.count l.l-index (λ k. k ++ map binding_in (keep live (drop l.l-index l.links))) (map binding_in (keep live l.links))
