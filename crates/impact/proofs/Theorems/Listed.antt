-- Of every kernel value, sound or not, and every identity: what affected answers is what a leave would bring about.
use Rattle.model.proofs.Logic.{ap}
use Rattle.impact.specs.{Affected.EveryImpactListed, Affected.impact_of, Affected.listed}
use Rattle.kernel.specs.{Fields.layout_of}
use Rattle.model.specs.{Answers.answer, Refusals.Reply}
use Rattle.model.proofs.{Theorems.Impact.Rule.impact-fits, Theorems.Impact.Rule.impact-rule}
use Rattle.sizes.specs.{Sizes.sizes}

pub every_impact_listed : EveryImpactListed
every_impact_listed k id =
    let rule = impact-rule sizes (layout_of k) id in
    record { predicts = rule; answers = ap (λ (r : Reply). listed (answer r) (impact_of k id).hit) rule.replies; fits = impact-fits sizes (layout_of k) id }
