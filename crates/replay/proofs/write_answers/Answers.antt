-- `replay::write_answers` is safe, and what it hands over to be written is what the log prints: the buffer holds all of it.
use Rattle.model.proofs.Logic.{List, ◌≤◌, arith, length, subst, ℕ}
use Rattle.player.proofs.{Laws.Answers.written_back, Theorems.Shifts.every_line}
use Rattle.player.specs.{Printed.lines_from, Printed.printed}
use Rattle.text.specs.{Written.Puts}
use Rattle.replay.proofs.write_answers.Goals as goal

pub write_printed-requires : goal.write_printed-requires
write_printed-requires c =
    let log : List ℕ = c.args.log.now in
    let room : length (printed log) ≤ length c.lines_buffer-text.result = omega (arith, (every_line log).long, c.lines_buffer-text.ensures) in
    let puts = subst (λ (xs : List ℕ). Puts (lines_from 0 xs) c.lines_buffer-text.result 0 c.lines-n.new.out c.lines-n.result) c.requires c.lines-n.ensures in
    written_back (printed log) c.lines_buffer-text.result room puts
