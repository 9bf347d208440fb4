use Rattle.model.proofs.Logic.{◌∙◌, arith, sym}
use Rattle.model.specs.Records.{blank_declaration}
use Rattle.scans.proofs.Slices.{look_hit}
use Rattle.scans.proofs.resolution.resolve_in.Goals as goal

pub returns-then-offers : goal.returns-then-offers
returns-then-offers c =
    c.owned.ensures ∙ sym (look_hit _ _ _ _ _ blank_declaration c.loop-d-test.true (sym c.offers.ensures ∙ c.if-offers.true) _ (omega (arith, c.owner_in.ensures))) ∙ c.loop-d.invariant
