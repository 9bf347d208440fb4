-- What is left of a list: one more entry, and none; a count that stops at a size.
use Rattle.model.proofs.Logic.{List, [], ◌+◌, ◌<◌, ◌∙◌, ◌∷◌, ◌≡◌, ◌≤◌, add-one, ap, arith, dec_lt, drop, drop-cons, drop_of_length-le, get_or, length, length-take-le, sym, take, take_all, ℕ}
use Rattle.loops.specs.{Limits.AtMost}

module _ {A : Type 0} where
  -- from place i on
  pub rest-next : (d : A) (i : ℕ) (xs : List A) → i < length xs → drop i xs ≡ get_or xs i d ∷ drop (i + 1) xs
  rest-next d i xs l = rw (add-one i) (drop-cons xs i d l)

  pub rest-done : (i : ℕ) (xs : List A) → length xs ≤ i → drop i xs ≡ []
  rest-done i xs l = drop_of_length-le xs l

  -- a count that stops at the length takes as much as the count
  pub take-most : (count n end : ℕ) (xs : List A) → length xs ≡ n → AtMost count n end → take end xs ≡ take count xs
  take-most count n end xs e m = go (dec_lt end count)
    where
      go : Dec (end < count) → take end xs ≡ take count xs
      go (yes l) = take_all end xs (omega (arith, m.whole l)) ∙ sym (take_all count xs (omega (arith, m.whole l)))
      go (no l) = let f : end ≡ count = omega (arith, m.below) in rw f

  -- so that is how many it takes
  pub length_most : (count n end : ℕ) (xs : List A) → length xs ≡ n → AtMost count n end → length (take count xs) ≡ end
  length_most count n end xs e m = ap length (sym (take-most count n end xs e m)) ∙ length-take-le end xs (omega (arith, m.within))
