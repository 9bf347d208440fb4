-- A run from one command to the next.
use Rattle.model.proofs.Logic.{Bool, List, [], ◌+◌, ◌<◌, ◌∙◌, ◌∷◌, ◌≡◌, ◌≤◌, ap, arith, cond, drop, drop-cons, drop-drop, drop_of_length-le, false, get_or, length, refl, suc, true, zero, ℕ}
use Rattle.player.specs.{Log.operand_length, Played.State, Played.Turn, Played.is_last, Played.turn, Played.turns, Played.turns_from}

-- operands are passed over
skipped : (s : State) (n : ℕ) (bytes : List ℕ) → turns_from s n bytes ≡ turns_from s 0 (drop n bytes)
unfolding turns_from
skipped s zero bytes = refl
skipped s (suc n) [] = refl
skipped s (suc n) (byte ∷ bytes) = skipped s n bytes

module _ (s : State) (log : List ℕ) where
  pub ended : length log ≤ s.at → turns s log ≡ []
  unfolding turns_from
  ended l = ap (turns_from s 0) (drop_of_length-le log l)

  -- the turn of the byte at the state's place
  abbrev pub here : Turn
  here = turn s (get_or log s.at 0) (drop (suc s.at) log)

  module _ (h : s.at < length log) where
    abbrev behind : List Turn
    behind = turns_from here.after (operand_length (get_or log s.at 0)) (drop (suc s.at) log)

    pub first-turn : turns s log ≡ here ∷ cond (is_last here.item) [] behind
    unfolding turns_from
    first-turn = ap (turns_from s 0) (drop-cons log s.at 0 h)

    pub turns-last : is_last here.item ≡ true → turns s log ≡ here ∷ []
    turns-last f = first-turn ∙ ap (λ (b : Bool). here ∷ cond b [] behind) f

    pub turns-on : is_last here.item ≡ false → (e : State) → here.after ≡ e → e.at ≡ s.at + suc (operand_length (get_or log s.at 0)) → turns s log ≡ here ∷ turns e log
    turns-on f e q p =
        let n = operand_length (get_or log s.at 0) in
        let place : suc s.at + n ≡ e.at = omega (arith, p) in
        let rest : behind ≡ turns e log =
        skipped here.after n (drop (suc s.at) log)
        ∙ ap (turns_from here.after 0) (drop-drop n (suc s.at) log ∙ ap (λ (m : ℕ). drop m log) place)
        ∙ ap (λ (x : State). turns_from x 0 (drop e.at log)) q in
        first-turn ∙ ap (λ (b : Bool). here ∷ cond b [] behind) f ∙ ap (λ (ts : List Turn). here ∷ ts) rest
