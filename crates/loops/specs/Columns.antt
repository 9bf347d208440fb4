-- Columns: what is told of each identity in an array of its own, and rows made of columns.
use Rattle.std.specs.Prelude.{Bool, ◌&&◌, false, List, [], ◌∷◌, suc, zero, ℕ, ltb, get_or}

-- n rows, from place i on
unfoldable pub rows_from : {A : Type 0} → ℕ → ℕ → (ℕ → A) → List A
rows_from i zero f = []
rows_from i (suc n) f = f i ∷ rows_from (suc i) n f

-- the yes/no of an identity in a column of n; no past the last
abbrev pub flag : ℕ → List Bool → ℕ → Bool
flag n fs id = ltb id n && get_or fs id false
