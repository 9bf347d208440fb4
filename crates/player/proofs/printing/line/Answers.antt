-- `player::printing::line` meets its contract.
use Rattle.text.proofs.{Laws.Written.puts_then}
use Rattle.player.proofs.printing.line.Goals as goal

pub returns-clause-puts : goal.returns-clause-puts
returns-clause-puts c = puts_then _ _ _ _ (puts_then _ _ _ _ c.number.ensures.puts c.field.ensures.puts) c.put.ensures.puts
