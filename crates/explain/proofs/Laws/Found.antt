-- A search through a table: what is left of it names what the whole does. One more record, a hit, and the end.
use Rattle.std.proofs.Common.{Bool, List, None, Option, Some, ◌+◌, ◌<◌, ◌≡◌, ◌≤◌, add-one, drop, false, get_or, length, refl, true, ℕ}
use Rattle.explain.specs.{Explanations.found_if}
use Rattle.loops.proofs.{Laws.Scan.rest-done, Laws.Scan.rest-next}
use Rattle.model.specs.{Explanation.witness, Lists.any, Lists.find_at, declared.explanation.Witness.Witness}

module _ {A : Type 0} (f : ℕ → A → Witness) (p : A → Bool) where
  -- what the records name whose first has this place
  unfoldable pub found_from : ℕ → List A → Option Witness
  found_from i xs = found_if (any p xs) (witness f (find_at p i xs))

  module _ (xs : List A) (i : ℕ) where
    pub found_next : (d : A) → i < length xs → p (get_or xs i d) ≡ false → found_from (i + 1) (drop (i + 1) xs) ≡ found_from i (drop i xs)
    unfolding found_from find_at
    found_next d l t = rw (rest-next d i xs l, find_at, t, add-one i)

    pub found_hit : (d : A) → i < length xs → p (get_or xs i d) ≡ true → found_from i (drop i xs) ≡ Some (f i (get_or xs i d))
    unfolding found_from find_at
    found_hit d l t = rw (rest-next d i xs l, find_at, t)

    pub found_end : length xs ≤ i → found_from i (drop i xs) ≡ None
    unfolding found_from find_at
    found_end l = rw (rest-done i xs l)

  pub found_whole : (xs : List A) → found_from 0 xs ≡ found_if (any p xs) (witness f (find_at p 0 xs))
  unfolding found_from
  found_whole xs = refl

pub ruleset searching = (found_next, found_hit, found_end, found_whole)
