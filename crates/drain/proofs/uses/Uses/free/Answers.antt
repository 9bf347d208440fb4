use Rattle.model.proofs.Logic.{arith, get_or, ◌-◌}
use Rattle.std.proofs.lemmas.Bool.Decides.{nat_tests}
use Rattle.drain.proofs.{Laws.Uses.Lower, Laws.Uses.walking_next, Laws.Uses.walking_start}
use Rattle.drain.proofs.uses.Uses.free.Goals.{then-left-p, else-left-p}
use Rattle.drain.proofs.uses.Uses.free.Goals as goal

pub loop-c-init : goal.loop-c-init
loop-c-init c = walking_start c.requires.tracks c.requires.waits

pub loop-c-preserved : goal.loop-c-preserved
loop-c-preserved c =
    let j = c.loop-c in
    let p = c.provider_in-p.result in
    let lower : Lower (get_or j.self.relied p 0 - 1) p j.lowest c.if-left-p.lowest =
    elim c.if-left-p.branch [ then-left-p w ↦ (grind (arith, nat_tests), λ z. grind (arith, nat_tests)) | else-left-p w ↦ (grind (arith, nat_tests), λ z. grind (arith, nat_tests)) ] in
    walking_next j.invariant c.loop-c-test.true c.provider_in-p.ensures lower
