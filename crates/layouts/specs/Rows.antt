-- What a row of the rules' table answers of a kernel, sound or not.
use Rattle.std.specs.Prelude.{ℕ, Err}
use Rattle.model.specs.Answers.{Answer}
use Rattle.model.specs.declared.Error.{Error}
use Rattle.model.specs.declared.records.Node.{Node}
use Rattle.model.specs.Answers.{checked}
use Rattle.model.specs.Kernels.{asked}
use Rattle.model.specs.Layouts.{Layout}
use Rattle.model.specs.Refusals.{Tests}
use Rattle.model.specs.Sizes.{Sizes}
use Rattle.model.specs.Tables.{Tables, node_at}

-- 10 of a kernel that is not sound, else the first test that applies
abbrev pub row_answer : Sizes → Layout → (Tables → Tests) → Answer
row_answer S k f = asked S k (Err Error.Damaged) (λ T. checked (f T))

-- a row of tests of an identity's node
abbrev pub of_node : (Node → Tests) → ℕ → Tables → Tests
of_node f id T = f (node_at T.nodes id)
