-- `player::printing::lines` meets its contract: the lines so far are those of the answers so far.
use Rattle.model.proofs.Logic.{List, arith, get_or, refl, rules, subst, sym, take, ℕ}
use Rattle.player.specs.{Printed.line, Printed.lines_from}
use Rattle.text.specs.{Written.Puts}
use Rattle.text.proofs.{Laws.Written.puts_none, Laws.Written.puts_then}
use Rattle.player.proofs.{Laws.Answers.lines_next}
use Rattle.player.proofs.printing.lines.Goals as goal

pub loop-i-init : goal.loop-i-init
unfolding lines_from
loop-i-init c = record { same_reference = refl; puts = puts_none _ 0 (omega arith) }

pub loop-i-preserved : goal.loop-i-preserved
loop-i-preserved c =
    let answers : List ℕ = take c.min.result c.args.answers.now in
    let i : ℕ = c.loop-i.i in
    let out : List ℕ = c.new-text.result.bytes.now in
    let both = puts_then (lines_from 0 (take i answers)) (line i (get_or answers i 0)) out 0 c.loop-i.invariant.puts c.line.ensures.puts in
    record {
      same_reference = search rules;
      puts = subst (λ (text : List ℕ). Puts text out 0 c.line.new.text.bytes.now c.line.new.text.len) (sym (lines_next answers i (omega arith))) both;
    }
