-- What a compaction leaves: the records that a test keeps, then blanks, and how many were kept.
use Rattle.std.specs.Prelude.{◌≡◌, ◌||◌, Bool, false, List, [], ◌∷◌, ℕ, eqb, get_or, length}
use Rattle.model.specs.Lists.{keep, padded}

-- a test answers p: whatever it may answer to a record, p says the same
abbrev pub Answers : {A : Type 0} → (A → Bool → Type 0) → (A → Bool) → Type 0
Answers {A} post p = (x : A) (r : Bool) → post x r → r ≡ p x

-- the records of old that p keeps stand first in new, in order, and behind them blanks; n is how many they are
pub record Retained {A : Type 0} (p : A → Bool) (d : A) (old new : List A) (n : ℕ) : Type 0 where
  pub entries : new ≡ padded (length old) d (keep p old)
  pub counted : n ≡ length (keep p old)

-- whether a place is among these
abbrev pub among : List ℕ → ℕ → Bool
among [] j = false
among (i ∷ is) j = eqb i j || among is j

-- what stands at other places than these is the same
abbrev pub SameBeside : {A : Type 0} → List ℕ → List A → List A → Type 0
SameBeside {A} is xs ys = (j : ℕ) (d : A) → among is j ≡ false → get_or ys j d ≡ get_or xs j d
