-- A row of two tests, both answered by the check of the component's node.
use Rattle.std.proofs.Common.{Bool, [], false, true, ◌≡◌, ◌∷◌}
use Rattle.explain.specs.{Nodes.refused_as}
use Rattle.model.specs.{Answers.Answer, Answers.checked, Explanation.Explanation, Explanation.explain, Refusals.first, declared.Error.Error, declared.explanation.Refusal.Refusal}

-- f says of each refusal what its test names
pub two_tests : (f : Error → Refusal) (b c : Bool) (d e : Error) {a : Answer} {x : Explanation} → a ≡ checked ((b, d) ∷ (c, e) ∷ []) → x ≡ refused_as f a → x ≡ explain ((b, f d) ∷ (c, f e) ∷ [])
unfolding explain first
two_tests f true c d e g h = rw g at h
two_tests f false true d e g h = rw g at h
two_tests f false false d e g h = rw g at h
