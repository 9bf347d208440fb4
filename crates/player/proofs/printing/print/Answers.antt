-- `player::printing::print` meets its contract: the buffer holds the answers of every log.
use Rattle.std.proofs.Common.{replicate}
use Rattle.std.proofs.lemmas.List.{length-replicate}
use Rattle.model.proofs.Logic.{List, ◌≤◌, arith, length, subst, ℕ}
use Rattle.player.specs.{Log.log_limit, Played.played, Printed.lines_from}
use Rattle.text.specs.{Written.Puts}
use Rattle.player.proofs.{Laws.Answers.written_back, Theorems.Shifts.every_line}
use Rattle.player.proofs.printing.print.Goals as goal

pub returns : goal.returns
returns c =
    let log : List ℕ = c.args.log.now in
    let zeros : List ℕ = replicate log_limit 0 in
    let room : length (played log) ≤ length zeros = omega (arith, (every_line log).most, length-replicate {A = ℕ} log_limit 0) in
    let all = written_back (played log) zeros room c.play_log-count.ensures in
    subst (λ (xs : List ℕ). Puts (lines_from 0 xs) c.args.out.now 0 c.lines.new.out c.lines.result) all c.lines.ensures
