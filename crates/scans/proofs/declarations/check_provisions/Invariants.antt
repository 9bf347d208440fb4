-- What is left of the list answers as the whole does; no port behind it is the same, and no declaration so far offers it.
use Rattle.std.proofs.Common.{◌≡◌, drop, false, take, true}
use Rattle.model.specs.{Lists.any, Records.same_port, Resolution.offers, declared.Port.Port}
use Rattle.loops.proofs.{Laws.Distinct.distinct_apart}
use Rattle.loops.specs.Columns.{flag}
use Rattle.sizes.specs.Sizes.{IDENTITIES}
use Rattle.scans.proofs.declarations.check_provisions.Given as goal

abbrev pub invariant-loop-q : goal.invariant-loop-q
invariant-loop-q l = (l.ok ≡ true) × (any (same_port l.p) (take l.q-index l.q-items) ≡ false)

abbrev pub invariant-loop-d : goal.invariant-loop-d
invariant-loop-d l = (l.ok ≡ true) × (any (offers (flag IDENTITIES l.present) l.p) (take l.d-index l.declarations) ≡ false)

abbrev pub invariant-scan : goal.invariant-scan
invariant-scan l =
    let taken = λ (p : Port). any (offers (flag IDENTITIES l.present) p) l.declarations in
    (l.ok ≡ true) × (distinct_apart taken (drop l.i l.ports) ≡ distinct_apart taken l.ports)
