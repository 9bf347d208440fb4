-- Eight bytes of a log are its number there.
use Rattle.std.proofs.Common.{replicate, w64}
use Rattle.std.proofs.lemmas.List.{get_or-drop}
use Rattle.std.specs.Int.{from_le_bytes}
use Rattle.model.proofs.Logic.{List, [], ◌+◌, ◌∙◌, ◌∷◌, ◌≡◌, ap, arith, drop, refl, suc, zero, ℕ}
use Rattle.player.specs.Log.{number_at}
use Rattle.text.specs.Written.{written}

-- behind a part that is left away
number-drop : (bytes : List ℕ) (place i n : ℕ) → number_at (drop place bytes) i n ≡ number_at bytes (place + i) n
unfolding number_at
number-drop bytes place i zero = refl
number-drop bytes place i (suc n) =
    let next : number_at (drop place bytes) (suc i) n ≡ number_at bytes (place + suc i) n = number-drop bytes place (suc i) n in
    let at : place + suc i ≡ suc (place + i) = omega arith in
    omega (arith, get_or-drop place bytes i 0, next, ap (λ (j : ℕ). number_at bytes j n) at)

-- of as many as there are, the rest 0
eight : (bytes : List ℕ) → from_le_bytes w64 (written bytes (replicate 8 0)) ≡ number_at bytes 0 8
unfolding number_at
eight [] = refl
eight (a ∷ []) = omega arith
eight (a ∷ b ∷ []) = omega arith
eight (a ∷ b ∷ c ∷ []) = omega arith
eight (a ∷ b ∷ c ∷ d ∷ []) = omega arith
eight (a ∷ b ∷ c ∷ d ∷ e ∷ []) = omega arith
eight (a ∷ b ∷ c ∷ d ∷ e ∷ f ∷ []) = omega arith
eight (a ∷ b ∷ c ∷ d ∷ e ∷ f ∷ g ∷ []) = omega arith
eight (a ∷ b ∷ c ∷ d ∷ e ∷ f ∷ g ∷ h ∷ more) = omega arith

pub word_number : (bytes : List ℕ) (place : ℕ) → from_le_bytes w64 (written (drop place bytes) (replicate 8 0)) ≡ number_at bytes place 8
word_number bytes place =
    let whole : place + 0 ≡ place = omega arith in
    eight (drop place bytes) ∙ number-drop bytes place 0 8 ∙ ap (λ (j : ℕ). number_at bytes j 8) whole
