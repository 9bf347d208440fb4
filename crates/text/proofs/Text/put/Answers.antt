-- `Text::put`: what is copied takes the place of as many bytes.
use Rattle.std.proofs.Common.{arith}
use Rattle.text.proofs.Laws.Written.{puts_front}
use Rattle.text.proofs.Text.put.Goals as goal

pub returns-clause-puts : goal.returns-clause-puts
returns-clause-puts c = (puts_front c.args.bytes.now c.args.self.now.bytes.now _ c.args.self.now.len c.min.result _ (omega arith) c.min.ensures (omega arith) c.copy_from_slice.ensures.after, omega arith)
