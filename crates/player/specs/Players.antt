-- The code's player: the state of a run, and what playing on promises.
use Rattle.std.specs.Prelude.{◌≡◌, ℕ, List, [], ◌∷◌, length, take, Err, None, Ok, Option, Result, Some}
use Rattle.model.specs.declared.Error.{Error}
use Rattle.player.specs.Played.{State, Turn, answers_of, state_after, turns}
use Rattle.player.specs.declared.commands.Player.{Player}
use Rattle.text.specs.Written.{written}

abbrev pub state_of : Player → State
state_of p = record { kernel = p.kernel; dependencies = p.dependencies; provisions = p.provisions; at = p.at }

-- of the last turn, 0 if there is none
unfoldable pub last_detail : List Turn → ℕ
last_detail [] = 0
last_detail (t ∷ []) = t.detail
last_detail (t ∷ u ∷ us) = last_detail (u ∷ us)

-- a player behind these turns
abbrev pub player_after : State → List Turn → Player
player_after s ts =
    let e = state_after s ts in
    record { kernel = e.kernel; dependencies = e.dependencies; provisions = e.provisions; at = e.at; answered = length ts; detail = last_detail ts }

-- a player that played on, as far as there was room for the answers: where it stands now, and the answers at the front of the buffer
abbrev pub Plays : Player → List ℕ → List ℕ → Player → List ℕ → Type 0
Plays p log answers r answers' =
    let ts = take (length answers) (turns (state_of p) log) in
    (r ≡ player_after (state_of p) ts) × (answers' ≡ written (answers_of ts) answers)

-- the answer of the first of these turns, if there is one
abbrev pub first_answer : List Turn → Option ℕ
first_answer [] = None
first_answer (t ∷ ts) = Some t.answer

-- a player that played the next command, if the log has one: where it stands now, and the answer
abbrev pub Steps : Player → List ℕ → Player → Option ℕ → Type 0
Steps p log r answer =
    let ts = take 1 (turns (state_of p) log) in
    (r ≡ player_after (state_of p) ts) × (answer ≡ first_answer ts)

-- the identity that an insert issued, or the count that a compaction removed; 0 where they are refused
abbrev pub detail_in : Result ℕ Error → ℕ
detail_in (Ok n) = n
detail_in (Err e) = 0
