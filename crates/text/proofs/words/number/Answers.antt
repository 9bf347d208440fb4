-- `text::words::number` meets its contract: each turn passes a digit, and what the bytes left make of the number so far is what the word makes.
use Rattle.loops.specs.Limits.{AtMost}
use Rattle.std.proofs.Common.{None, Some, cond, ◌==◌}
use Rattle.model.proofs.Logic.{List, [], ◌&&◌, ◌*◌, ◌+◌, ◌<◌, ◌∙◌, ◌∷◌, ◌≡◌, ◌≤◌, Bool, add-one, arith, dec_lt, drop, drop-cons, drop_of_length-le, false, get_or, length, lt-ltb, ltb, refl, subst, suc, sym, true, ℕ}
use Rattle.model.specs.{Lists.all}
use Rattle.text.proofs.{words.number.Invariants.Read, words.number.Invariants.is_digit}
use Rattle.text.proofs.words.number.Goals as goal
use Rattle.text.specs.Words.{digit_of, is_number, most, with_digits}

-- digits only make a number larger
grows : (n : ℕ) (bytes : List ℕ) → n ≤ with_digits n bytes
unfolding with_digits
grows n [] = omega arith
grows n (byte ∷ bytes) = omega (arith, grows (n * 10 + digit_of byte) bytes)

-- a number that stopped at the largest stays there
stopped : {n m : ℕ} → AtMost n most m → (bytes : List ℕ) (r : ℕ) → AtMost (with_digits m bytes) most r → AtMost (with_digits n bytes) most r
stopped {n} {m} a bytes r h = go (dec_lt m n)
  where
    full : m ≡ most → Dec (r < with_digits m bytes) → r ≡ most
    full e (yes l) = h.whole l
    full e (no l) = omega (arith, h.within, grows m bytes)

    go : Dec (m < n) → AtMost (with_digits n bytes) most r
    go (yes l) =
        let e : r ≡ most = full (a.whole l) (dec_lt r (with_digits m bytes)) in
        record { within = h.within; below = omega (arith, a.whole l, grows n bytes); whole = λ q. e }
    go (no l) = let e : m ≡ n = omega (arith, a.below) in subst (λ (x : ℕ). AtMost (with_digits x bytes) most r) e h

-- a digit is less than ten
digit-is : (digit value : ℕ) → Some value ≡ cond (ltb digit 10) (Some digit) None → (value ≡ digit) × (ltb digit 10 ≡ true)
digit-is digit value e = go (ltb digit 10) e
  where
    go : (small : Bool) → Some value ≡ cond small (Some digit) None → (value ≡ digit) × (small ≡ true)
    go true e = (cc, refl)
    go false e = cc

-- digits alone, and there is one
number-is : (word : List ℕ) → false ≡ (length word == 0) → all is_digit word ≡ true → true ≡ is_number word
number-is [] l e = cc
number-is (byte ∷ bytes) l e = rw (lt-ltb 0 (suc (length bytes)) (omega arith)) (sym e)

module _ {word : List ℕ} {value i : ℕ} (s : Read word value i) where
  -- a byte more
  module _ (l : i < length word) where
    made : with_digits value (drop i word) ≡ with_digits (value * 10 + digit_of (get_or word i 0)) (drop (i + 1) word)
    unfolding with_digits
    made = rw (drop-cons word i 0, add-one i)

    tested : all is_digit word ≡ is_digit (get_or word i 0) && all is_digit (drop (i + 1) word)
    tested = sym s.digits ∙ rw (drop-cons word i 0, add-one i)

    turned : (v : ℕ) → AtMost (value * 10 + digit_of (get_or word i 0)) most v → is_digit (get_or word i 0) ≡ true → Read word v (i + 1)
    turned v a e = record {
      within = a.within;
      number = λ r h. s.number r (rw made (stopped a (drop (i + 1) word) r h));
      digits = sym (rw e at tested);
    }

  -- no byte is left
  module _ (l : length word ≤ i) where
    value-is : AtMost (with_digits 0 word) most value
    unfolding with_digits
    value-is = s.number value (rw (drop_of_length-le word l) (record { within = s.within; below = omega arith; whole = λ q. omega arith }))

    digits_are : all is_digit word ≡ true
    digits_are = sym s.digits ∙ rw (drop_of_length-le word l)

pub loop-byte-init : goal.loop-byte-init
loop-byte-init c = record { within = omega arith; number = λ r h. h; digits = refl }

pub loop-byte-preserved : goal.loop-byte-preserved
loop-byte-preserved c =
    let e = digit-is (digit_of (get_or c.args.word.now c.loop-byte.byte-index 0)) c.in_ok-digit.field-0 c.in_ok-digit.ensures in
    turned c.loop-byte.invariant c.loop-byte-test.true c.with_digit-value.result (rw e.0 at c.with_digit-value.ensures) e.1

pub returns-clause-at_most : goal.returns-clause-at_most
returns-clause-at_most c = value-is c.loop-byte.invariant c.loop-byte-test.false

pub returns-clause-known : goal.returns-clause-known
returns-clause-known c = number-is c.args.word.now c.if-is_empty.ensures (digits_are c.loop-byte.invariant c.loop-byte-test.false)
