-- Text in a buffer: as many bytes as fit, nothing, one text behind another; and a number's digits: how many there are, and how they are put from the last on.
use Rattle.std.proofs.Common.{◌/◌, ◌%◌, ◌^◌, min}
use Rattle.model.proofs.Logic.{List, [], ◌++◌, ◌+◌, ◌-◌, ◌<◌, ◌∙◌, ◌∷◌, ◌≡◌, ◌≤◌, ap, append_assoc, arith, dec_lt, drop, drop_of_length-le, le-ltb, length, length-append, length-drop, length-take, lt-ltb, refl, set, suc, sym, take, take_all, take-append-drop, zero, ℕ}
use Rattle.text.specs.Written.{Puts, decimal, digit_byte, digits_of, written, written_at}
use lib.Seq.{drop-nil, take-nil}

-- ---- a text in a buffer

length-written_at : (at : ℕ) (xs out : List ℕ) → length (written_at at xs out) ≡ length out
length-written_at at xs out = simp (length-append, length-take, length-drop) (omega arith)

-- as many bytes as fit, in the place of as many
copied_front : (bytes rest : List ℕ) (n : ℕ) → n ≡ min (length bytes) (length rest) → take n bytes ++ drop n rest ≡ written bytes rest
copied_front bytes rest n e = go (dec_lt (length rest) (length bytes))
  where
    go : Dec (length rest < length bytes) → take n bytes ++ drop n rest ≡ written bytes rest
    go (yes l) =
        let m : n ≡ length rest = omega (arith, e) in
        let d : (k : ℕ) → length rest ≤ k → drop k rest ≡ [] = λ k h. drop_of_length-le rest h in
        rw (m, d (length rest) (omega arith), d (length bytes) (omega arith)) refl
    go (no l) =
        let m : n ≡ length bytes = omega (arith, e) in
        rw (m, take_all (length bytes) bytes (omega arith), take_all (length rest) bytes (omega arith)) refl

pub puts_front : (bytes out front : List ℕ) (at n k : ℕ) → at ≤ length out → n ≡ min (length bytes) (length out - at) → k ≡ n → front ≡ take k bytes →
    take at out ++ (front ++ drop k (drop at out)) ≡ written_at at bytes out
puts_front bytes out front at n k l e d f =
    let m : k ≡ min (length bytes) (length (drop at out)) = simp (length-drop) (omega arith) in
    rw (f, copied_front bytes (drop at out) k m)

-- nothing
pub puts_none : (out : List ℕ) (at : ℕ) {at' : ℕ} → at' ≡ min at (length out) → Puts [] out at out at'
puts_none out at e = (rw take-nil (sym (take-append-drop at out)), omega arith)

-- one text behind another
written_then : (at : ℕ) (xs ys out : List ℕ) → written_at (min (at + length xs) (length out)) ys (written_at at xs out) ≡ written_at at (xs ++ ys) out
written_then at xs ys [] = simp (take-nil, drop-nil)
written_then zero [] ys (o ∷ out) = let e : min (0 + 0) (suc (length out)) ≡ 0 = omega arith in rw e
written_then zero (x ∷ xs) ys (o ∷ out) =
    let e : min (0 + suc (length xs)) (suc (length out)) ≡ suc (min (0 + length xs) (length out)) = omega arith in
    rw e (ap (◌∷◌ x) (written_then 0 xs ys out))
written_then (suc at) xs ys (o ∷ out) =
    let e : min (suc at + length xs) (suc (length out)) ≡ suc (min (at + length xs) (length out)) = omega arith in
    rw e (ap (◌∷◌ o) (written_then at xs ys out))

pub puts_then :
    (xs ys out : List ℕ) (at : ℕ) {out' out'' : List ℕ} {at' at'' : ℕ} → Puts xs out at out' at' → Puts ys out' at' out'' at'' → Puts (xs ++ ys) out at out'' at''
puts_then xs ys out at (p, a) (q, b) =
    (q ∙ rw (p, a) (written_then at xs ys out), omega (arith, length-append xs ys, ap length p ∙ length-written_at at xs out))

-- the buffer is as long as it was, and the place behind a text is within it
pub puts_length : (bytes out : List ℕ) (at : ℕ) {out' : List ℕ} {at' : ℕ} → Puts bytes out at out' at' → length out' ≡ length out
puts_length bytes out at (p, a) = ap length p ∙ length-written_at at bytes out

pub puts_within : (bytes out : List ℕ) (at : ℕ) {out' : List ℕ} {at' : ℕ} → Puts bytes out at out' at' → at' ≤ length out
puts_within bytes out at (p, a) = omega arith

-- ---- a number's digits

-- a number below ten is its digit; another's last digit stands behind the others
digits_one : (most n : ℕ) → n < 10 → digits_of (suc most) n ≡ digit_byte n ∷ []
unfolding digits_of
digits_one most n l = rw (lt-ltb n 10 l)

digits_more : (most n : ℕ) → 10 ≤ n → digits_of (suc most) n ≡ digits_of most (n / 10) ++ (digit_byte (n % 10) ∷ [])
unfolding digits_of
digits_more most n l = rw (le-ltb n 10 l)

more-than_one : (n k : ℕ) → 10 ≤ n → n < 10 ^ suc k → 0 < k
more-than_one n zero h l = absurd (omega arith)
more-than_one n (suc k) h l = omega arith

-- no more than the number needs
length_digits : (most n k : ℕ) → n < 10 ^ k → 0 < k → length (digits_of most n) ≤ k
unfolding digits_of
length_digits zero n k l z = omega arith
length_digits (suc most) n zero l z = absurd (omega arith)
length_digits (suc most) n (suc k) l z = go (dec_lt n 10) (length_digits most (n / 10) k)
  where
    go : Dec (n < 10) → (n / 10 < 10 ^ k → 0 < k → length (digits_of most (n / 10)) ≤ k) → length (digits_of (suc most) n) ≤ suc k
    go (yes d) h = rw (digits_one most n d) (omega arith)
    go (no d) h = rw (digits_more most n (omega arith), length-append) (omega (arith, h (omega arith) (more-than_one n k (omega arith) l)))

pub length-decimal : (n k : ℕ) → n < 10 ^ k → 0 < k → length (decimal n) ≤ k
length-decimal n k l z = length_digits 20 n k l z

-- ---- digits put from the last on

suc_less : (k : ℕ) → suc k - 1 ≡ k
suc_less k = omega arith

drop_put : (at b : ℕ) (xs : List ℕ) → at < length xs → drop at (set xs at b) ≡ b ∷ drop (suc at) xs
drop_put at b [] l = absurd (omega arith)
drop_put zero b (x ∷ xs) l = refl
drop_put (suc at) b (x ∷ xs) l = drop_put at b xs (omega arith)

-- the last digit of a number that has more, before what is put already
pub digits_step : (at n : ℕ) (xs : List ℕ) → 10 ≤ n → n < 10 ^ at → at ≤ length xs →
    (0 < at - 1) × (n / 10 < 10 ^ (at - 1)) × (digits_of (at - 1) (n / 10) ++ drop (at - 1) (set xs (at - 1) (digit_byte (n % 10))) ≡ digits_of at n ++ drop at xs)
digits_step zero n xs h l f = absurd (omega arith)
digits_step (suc at) n xs h l f =
    rw (suc_less at) (
      more-than_one n at h l,
      omega arith,
      rw (drop_put at (digit_byte (n % 10)) xs (omega arith), digits_more at n h, append_assoc (digits_of at (n / 10))) refl,
    )

-- the first digit
pub digits_last : (at n : ℕ) (xs : List ℕ) → n < 10 → 0 < at → at ≤ length xs →
    drop (at - 1) (set xs (at - 1) (digit_byte n)) ≡ digits_of at n ++ drop at xs
digits_last zero n xs h l f = absurd (omega arith)
digits_last (suc at) n xs h l f = rw (suc_less at, drop_put at (digit_byte n) xs (omega arith), digits_one at n h) refl
