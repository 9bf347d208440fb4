use Rattle.model.proofs.Logic.{Bool, ◌∙◌, sym}
use Rattle.std.proofs.lemmas.List.Folds.{list_any_at}
use Rattle.model.specs.{Lists.any, Records.blank_port, Resolution.offers, declared.Port.Port}
use Rattle.loops.specs.Columns.{flag}
use Rattle.sizes.specs.Sizes.{IDENTITIES}
use Rattle.loops.proofs.{Laws.Distinct.apart_end, Laws.Distinct.apart_next, Laws.Distinct.apart_twice}
use Rattle.scans.proofs.Slices.{all_read}
use Rattle.scans.proofs.declarations.check_provisions.Goals as goal

pub scan-preserved : goal.scan-preserved
scan-preserved c =
    let a = c.args in
    let taken : Port → Bool = λ p. any (offers (flag IDENTITIES a.present.now) p) a.declarations.now in
    let apart = all_read _ _ _ c.loop-q.invariant.1 c.loop-q-test.false in
    (c.loop-d.invariant.0, apart_next taken a.ports.now c.scan.i blank_port c.scan-test.true apart (all_read _ _ _ c.loop-d.invariant.1 c.loop-d-test.false) ∙ c.scan.invariant.1)

pub returns-after-scan : goal.returns-after-scan
returns-after-scan c =
    let a = c.args in
    let taken : Port → Bool = λ p. any (offers (flag IDENTITIES a.present.now) p) a.declarations.now in
    c.scan.invariant.0 ∙ sym (apart_end taken a.ports.now c.scan.i c.scan-test.false) ∙ c.scan.invariant.1

pub returns-then-eq : goal.returns-then-eq
returns-then-eq c =
    let a = c.args in
    let taken : Port → Bool = λ p. any (offers (flag IDENTITIES a.present.now) p) a.declarations.now in
    let again = list_any_at _ _ c.loop-q.q-index blank_port c.loop-q-test.true (sym c.eq.ensures ∙ c.if-eq.true) in
    sym (apart_twice taken a.ports.now c.scan.i blank_port c.scan-test.true again) ∙ c.scan.invariant.1
