-- The answers of a log, and what is said of it.
use Rattle.std.specs.Prelude.{ℕ, ◌-◌, cond, List, ◌==◌, ◌++◌, None, Option, Some, codes, slice_index}

-- the last of the first answers, 0 if there is none
abbrev pub last_answer : List ℕ → ℕ → ℕ
last_answer answers count = cond (count == 0) 0 (slice_index answers (count - 1))

-- what is said of a log that ends in this answer
abbrev pub end_said : ℕ → Option (List ℕ)
end_said answer = cond (answer == 11) (Some (codes " ends in 11: a byte that is no command")) (cond (answer == 12) (Some (codes " ends in 12: a command without its operands")) None)

-- a line about a log: the program's name, the log's, what is said
abbrev pub said_of : List ℕ → List ℕ → List ℕ → List ℕ
said_of program name what = program ++ codes ": " ++ name ++ what ++ codes "\n"
