-- Laws of a list cut twice, and of a line's bytes.
use Rattle.std.proofs.Common.{◌/◌, ◌%◌}
use Rattle.model.proofs.Logic.{Bool, List, [], ◌++◌, ◌+◌, ◌<◌, ◌∙◌, ◌∷◌, ◌≡◌, ◌≤◌, ap, arith, cond, eqb, false, length, length-append, ltb, ne_eqb, refl, suc, sym, take, true, zero, ℕ}
use lib.Seq.{take-nil}
use Rattle.model.specs.{Lists.keep}
use Rattle.model.proofs.{Laws.Lists.keep_append}
use Rattle.player.specs.{Log.log_limit, Printed.line, Printed.lines_from, Shifts.line_limit}
use Rattle.text.specs.{Written.digit_byte, Written.digits_of}
use Rattle.text.proofs.{Laws.Written.length-decimal}

-- two cuts, in either order
pub take-swap : {A : Type 0} (m n : ℕ) (l : List A) → take m (take n l) ≡ take n (take m l)
take-swap zero n l = sym (take-nil n)
take-swap (suc m) zero l = refl
take-swap (suc m) (suc n) [] = refl
take-swap {A} (suc m) (suc n) (x ∷ xs) = ap (λ (ys : List A). x ∷ ys) (take-swap m n xs)

-- a count of at most five digits, an answer of at most two
pub length-line : (count answer : ℕ) → count < log_limit → answer ≤ 12 → length (line count answer) ≤ line_limit
length-line count answer h a =
    let c = length-decimal count 5 (omega arith) (omega arith) in
    let d = length-decimal answer 2 (omega arith) (omega arith) in
    simp length-append (omega arith)

-- ---- the byte 10 ends a line, and stands nowhere else

abbrev ends : ℕ → Bool
ends byte = eqb byte 10

no_digit : (d : ℕ) → keep ends (digit_byte d ∷ []) ≡ []
no_digit d = rw (ne_eqb (48 + d) 10 (λ e. omega arith))

digits_only : (most n : ℕ) → keep ends (digits_of most n) ≡ []
unfolding digits_of
digits_only zero n = refl
digits_only (suc most) n = go (ltb n 10) (digits_only most (n / 10))
  where
    go : (b : Bool) → keep ends (digits_of most (n / 10)) ≡ [] → keep ends (cond b (digit_byte n ∷ []) (digits_of most (n / 10) ++ (digit_byte (n % 10) ∷ []))) ≡ []
    go true e = no_digit n
    go false e = keep_append ends (digits_of most (n / 10)) (digit_byte (n % 10) ∷ []) ∙ rw e (no_digit (n % 10))

-- so there are as many as lines
pub line-ends : (count : ℕ) (answers : List ℕ) → length (keep (λ byte. eqb byte 10) (lines_from count answers)) ≡ length answers
unfolding lines_from
line-ends count [] = refl
line-ends count (answer ∷ answers) = simp (keep_append, digits_only) (ap suc (line-ends (suc count) answers))
