use Rattle.loops.specs.Limits.{AtMost}
use Rattle.model.proofs.Logic.{Bool, List, ◌≡◌, ◌≤◌, drop, ltb, ℕ}
use Rattle.model.specs.{Lists.all}
use Rattle.text.proofs.words.number.Given as goal
use Rattle.text.specs.Words.{digit_of, most, with_digits}

abbrev pub is_digit : ℕ → Bool
is_digit byte = ltb (digit_of byte) 10

-- byte i is the next
pub record Read (word : List ℕ) (value i : ℕ) : Type 0 where
  pub within : value ≤ most
  pub number : (r : ℕ) → AtMost (with_digits value (drop i word)) most r → AtMost (with_digits 0 word) most r
  pub digits : all is_digit (drop i word) ≡ all is_digit word

abbrev pub invariant-loop-byte : goal.invariant-loop-byte
invariant-loop-byte l = Read l.word l.value l.byte-index
