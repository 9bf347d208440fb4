-- The bindings so far and those of the entries that are left are the bindings of the whole.
use Rattle.model.specs.{Records.blank_binding, Resolution.bind_ports, Resolution.dependency_ports, Resolution.look_up}
use Rattle.loops.proofs.{Laws.Collecting.Collecting}
use Rattle.loops.specs.{Columns.flag}
use Rattle.sizes.specs.{Sizes.DECLARATIONS, Sizes.IDENTITIES}
use Rattle.scans.proofs.Slices.{bound}
use Rattle.scans.proofs.resolution.target_in.Given as goal

abbrev pub invariant-loop-d : goal.invariant-loop-d
invariant-loop-d l =
    let r = look_up (flag IDENTITIES l.flags.present) (flag IDENTITIES l.flags.providing) l.declarations in
    Collecting DECLARATIONS blank_binding l.bindings l.count l.d-index (bound r l.id l.declarations l.d-index) (bind_ports r (dependency_ports l.declarations l.id))
