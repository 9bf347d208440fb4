-- `Line::read`: what is behind the operands that are there is 0.
use Rattle.std.proofs.Common.{◌≡◌, ◌≤◌, ◌<◌, ℕ}
use Rattle.std.specs.Prelude.{slice_index_or}
use Rattle.text.specs.Operands.{number_of}
use Rattle.text.specs.declared.words.Operand.{Operand}
use Rattle.text.proofs.words.Line.read.Given as goal

abbrev pub invariant-loop-word : goal.invariant-loop-word
invariant-loop-word l = (l.known ≤ 7) × ((k : ℕ) → l.known ≤ k → k < 7 → number_of (slice_index_or l.operands k Operand.Dash) ≡ 0)
