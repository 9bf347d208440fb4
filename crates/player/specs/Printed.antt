-- A played log as text: a line for each command.
use Rattle.std.specs.Prelude.{ℕ, suc, List, [], ◌∷◌, ◌++◌}
use Rattle.player.specs.Played.{played}
use Rattle.text.specs.Written.{decimal}

-- a count, a space, an answer, the end of the line
abbrev pub line : ℕ → ℕ → List ℕ
line count answer = decimal count ++ (32 ∷ decimal answer) ++ (10 ∷ [])

-- a line for each answer, counted from here
unfoldable pub lines_from : ℕ → List ℕ → List ℕ
lines_from count [] = []
lines_from count (answer ∷ answers) = line count answer ++ lines_from (suc count) answers

-- what is printed of a log
abbrev pub printed : List ℕ → List ℕ
printed log = lines_from 0 (played log)
