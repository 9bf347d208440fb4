-- A count that stops at a size.
use Rattle.std.specs.Prelude.{◌≡◌, ◌<◌, ◌≤◌, ℕ}

-- r is the count, or the size where that is less
pub record AtMost (count size r : ℕ) : Type 0 where
  pub within : r ≤ size
  pub below : r ≤ count
  pub whole : r < count → r ≡ size
