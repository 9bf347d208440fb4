-- Of every kernel value, sound or not, and of every command and check: the explanation is what the call would answer, the first test that applies, and a real witness.
use Rattle.explain.specs.{Explanations.EveryExplanation}
use Rattle.kernel.specs.{Fields.layout_of}
use Rattle.model.proofs.{Theorems.Explanation.checks-explained, Theorems.Explanation.every_refusal_explained}
use Rattle.sizes.specs.{Sizes.sizes}

pub every_explanation : EveryExplanation
every_explanation k = (λ c. every_refusal_explained sizes (layout_of k) c, checks-explained sizes (layout_of k))
