-- `About::put`: the parts of the line stand one behind another.
use Rattle.text.proofs.Laws.Written.{puts_then, puts_within}
use Rattle.text.proofs.logs.About.put.Goals as goal

pub returns-clause-puts : goal.returns-clause-puts
returns-clause-puts c =
    puts_then _ _ _ _ (puts_then _ _ _ _ (puts_then _ _ _ _ (puts_then _ _ _ _ c.put.ensures.puts c.put-2.ensures.puts) c.put-3.ensures.puts) c.put-4.ensures.puts) c.put-5.ensures.puts

pub returns-clause-upper_bound : goal.returns-clause-upper_bound
returns-clause-upper_bound c = puts_within _ _ _ (returns-clause-puts c)
