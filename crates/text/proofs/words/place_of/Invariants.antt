use Rattle.model.proofs.Logic.{List, ◌+◌, ◌≤◌, drop, ℕ}
use Rattle.text.specs.Words.{names_in}
use Rattle.text.proofs.words.place_of.Given as goal

-- the place is among the names that end before byte i
pub record Passed (row : List ℕ) (place start i : ℕ) : Type 0 where
  pub within : place ≤ i
  pub begun : start ≤ i
  pub names : place + names_in (drop i row) ≤ names_in row

abbrev pub invariant-loop-i : goal.invariant-loop-i
invariant-loop-i l = Passed l.names l.place l.start l.i
