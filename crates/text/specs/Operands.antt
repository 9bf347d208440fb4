-- A line's operands as numbers.
use Rattle.std.specs.Prelude.{ℕ, Bool, false, true, slice_index_or}
use Rattle.std.specs.List.{list_any}
use Rattle.text.specs.declared.words.Line.{Line}
use Rattle.text.specs.declared.words.Operand.{Operand}

-- the number; of `-` the place behind the phases
abbrev pub number_of : Operand → ℕ
number_of (Operand.Number number) = number
number_of Operand.Dash = 4

abbrev pub is_dash : Operand → Bool
is_dash (Operand.Number number) = false
is_dash Operand.Dash = true

-- operand k as a number
abbrev pub operand : Line → ℕ → ℕ
operand line k = number_of (slice_index_or line.operands k Operand.Dash)

-- whether an operand is `-`
abbrev pub has_dash : Line → Bool
has_dash line = list_any is_dash line.operands
