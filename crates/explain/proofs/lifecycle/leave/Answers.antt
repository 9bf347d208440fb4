use Rattle.explain.proofs.{Laws.Rows.two_tests}
use Rattle.model.specs.{Explanation.explained}
use Rattle.explain.proofs.lifecycle.leave.Goals as goal

pub returns : goal.returns
unfolding explained
returns c = let t = c.tested.ensures in two_tests _ _ _ _ _ t.1.1 t.2
