-- Rows: how many there are, and the one at a place.
use Rattle.model.proofs.Logic.{◌+◌, ◌<◌, ◌∙◌, ◌≡◌, add-zero, ap, arith, get_or, length, refl, suc, zero, zero-add, ℕ}
use Rattle.loops.specs.{Columns.rows_from}

pub length-rows : {A : Type 0} (i n : ℕ) (f : ℕ → A) → length (rows_from i n f) ≡ n
unfolding rows_from
length-rows i zero f = refl
length-rows i (suc n) f = ap suc (length-rows (suc i) n f)

rows_at : {A : Type 0} (i n k : ℕ) (f : ℕ → A) (d : A) → k < n → get_or (rows_from i n f) k d ≡ f (i + k)
unfolding rows_from
rows_at i zero k f d l = absurd (omega arith)
rows_at i (suc n) zero f d l = rw (add-zero i)
rows_at i (suc n) (suc k) f d l = let e : i + suc k ≡ suc i + k = omega arith in rw e (rows_at (suc i) n k f d (omega arith))

-- the row at a place
pub row_at : {A : Type 0} (n k : ℕ) (f : ℕ → A) (d : A) → k < n → get_or (rows_from 0 n f) k d ≡ f k
row_at n k f d l = rows_at 0 n k f d l ∙ ap f (zero-add k)
