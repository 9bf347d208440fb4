-- `player::printing::play_log` meets its contract: the part that it lends is that of the first 65,536 bytes.
use Rattle.std.proofs.Common.{min}
use Rattle.model.proofs.Logic.{List, ◌≡◌, ap, arith, length, subst, take, ℕ}
use Rattle.player.specs.{Log.log_limit, Played.answers_of, Played.fresh, Played.state_after, Played.turns, Players.state_of}
use Rattle.text.specs.{Written.Puts}
use Rattle.player.proofs.{Laws.Answers.part_min, Laws.Answers.plays-puts}
use Rattle.player.proofs.printing.play_log.Goals as goal

pub returns : goal.returns
unfolding state_after
returns c =
    let log : List ℕ = c.args.log.now in
    let answers : List ℕ = c.args.answers.now in
    let size : c.min.result ≡ min log_limit (length log) = omega (arith, c.min.ensures) in
    let first : take c.min.result log ≡ take log_limit log = part_min log_limit log size in
    let given = plays-puts fresh (take c.min.result log) answers c.start.result (ap state_of c.start.ensures) c.play.ensures.plays in
    subst (λ (bytes : List ℕ). Puts (answers_of (turns fresh bytes)) answers 0 c.play.new.answers c.play.result.answered) first given
