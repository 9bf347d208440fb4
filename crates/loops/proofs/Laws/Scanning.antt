-- A loop that leaves early: what is left of a table answers w, as the whole does.
use Rattle.model.proofs.Logic.{Bool, List, Option, ◌≡◌, ◌≤◌, length, slice, ℕ}
use Rattle.model.specs.{Lists.find_at}

-- ---- the first entry of an array that passes, with its place

pub record FindingAt {A : Type 0} (p : A → Bool) (xs : List A) (end i : ℕ) (w : Option (ℕ × A)) : Type 0 where
  pub fits : end ≤ length xs
  pub left : find_at p i (slice i end xs) ≡ w
