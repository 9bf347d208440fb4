-- `Text::field`: the digits stand behind the space.
use Rattle.text.proofs.Laws.Written.{puts_then}
use Rattle.text.proofs.Text.field.Goals as goal

pub returns-clause-puts : goal.returns-clause-puts
returns-clause-puts c = puts_then _ _ _ _ c.put.ensures.puts c.number.ensures.puts
