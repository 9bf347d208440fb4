-- What is left of the table resolves the port as the whole does.
use Rattle.std.proofs.Common.{◌≡◌, drop}
use Rattle.model.specs.Resolution.{look_up}
use Rattle.loops.specs.Columns.{flag}
use Rattle.sizes.specs.Sizes.{IDENTITIES}
use Rattle.scans.proofs.resolution.resolve_in.Given as goal

abbrev pub invariant-loop-d : goal.invariant-loop-d
invariant-loop-d l =
    let look = look_up (flag IDENTITIES l.flags.present) (flag IDENTITIES l.flags.providing) in
    look (drop l.d-index l.declarations) l.port ≡ look l.declarations l.port
