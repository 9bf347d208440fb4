-- A command of a log as the code reads it: the test of its byte, and its operands as they are lent.
use Rattle.std.proofs.Common.{not}
use Rattle.model.proofs.Logic.{Bool, List, ◌+◌, ◌-◌, ◌<◌, ◌∙◌, ◌≡◌, ◌≤◌, add-one, ap, arith, drop, false, get_or, length, length-drop, refl, suc, sym, take, take_all, true, ℕ}
use Rattle.player.specs.Log.{operand_length}

-- the test of the byte
pub is_known : (b : Bool) → true ≡ not b → b ≡ false
is_known true e = e
is_known false e = refl

pub is_not-known : (b : Bool) → false ≡ not b → b ≡ true
is_not-known true e = refl
is_not-known false e = e

-- what is behind the byte, as it is lent, and its first part
module _ (log : List ℕ) (at size : ℕ) (e : size ≡ operand_length (get_or log at 0)) where
  abbrev pub behind-lent : List ℕ
  behind-lent = take (length log - (at + 1)) (drop (at + 1) log)

  whole : behind-lent ≡ drop (suc at) log
  whole = take_all (length log - (at + 1)) (drop (at + 1) log) (omega (arith, length-drop (at + 1) log)) ∙ ap (λ (n : ℕ). drop n log) (add-one at)

  pub all_there : size ≤ length behind-lent → operand_length (get_or log at 0) ≤ length (drop (suc at) log)
  all_there l = omega (arith, ap length whole)

  pub short : length behind-lent < size → length (drop (suc at) log) < operand_length (get_or log at 0)
  short l = omega (arith, ap length whole)

  pub lent-is : {operands : List ℕ} → operands ≡ take (size - 0) behind-lent → take (operand_length (get_or log at 0)) (drop (suc at) log) ≡ operands
  lent-is o =
      let n : size - 0 ≡ operand_length (get_or log at 0) = omega arith in
      sym (o ∙ ap (λ (n : ℕ). take n behind-lent) n ∙ ap (λ (xs : List ℕ). take (operand_length (get_or log at 0)) xs) whole)
