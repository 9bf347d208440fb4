-- `replay::replay` is safe, and the answers that it hands over to be printed are the log's.
use Rattle.std.proofs.Common.{replicate}
use Rattle.std.proofs.lemmas.List.{length-replicate}
use Rattle.model.proofs.Logic.{List, ◌≤◌, ◌≡◌, ap, arith, length, length-take, subst, sym, take, take_all, ℕ}
use Rattle.player.specs.{Log.log_limit, Played.answers_of, Played.fresh, Played.played, Played.state_after, Played.turns, Players.state_of}
use Rattle.text.specs.{Written.Puts}
use Rattle.player.proofs.{Laws.Answers.plays-puts, Laws.Answers.written_back, Theorems.Shifts.every_line}
use Rattle.replay.proofs.replay.Goals as goal

pub write_answers-requires : goal.write_answers-requires
unfolding state_after
write_answers-requires g c =
    let log : List ℕ = take c.read_full-n.result c.read_full-n.new.log in
    let zeros : List ℕ = replicate log_limit 0 in
    let size : length zeros ≡ log_limit = length-replicate {A = ℕ} log_limit 0 in
    let whole : take log_limit log ≡ log = take_all log_limit log (omega (arith, size, length-take c.read_full-n.result c.read_full-n.new.log, c.read_full-n.ensures)) in
    let given = plays-puts fresh log zeros c.start.result (ap state_of c.start.ensures) c.play-played.ensures.plays in
    let puts = subst (λ (bytes : List ℕ). Puts (answers_of (turns fresh bytes)) zeros 0 c.play-played.new.answers c.play-played.result.answered) (sym whole) given in
    let room : length (played log) ≤ length zeros = omega (arith, (every_line log).most, size) in
    written_back (played log) zeros room puts
