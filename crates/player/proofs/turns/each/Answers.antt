-- `player::turns::each`: what is put behind a command is gathered, as its `requires` says.
use Rattle.std.proofs.Common.{arith}
use Rattle.player.specs.Gathered.{Gathers}
use Rattle.player.proofs.turns.each.Goals as goal

pub loop-index-preserved : goal.loop-index-preserved
loop-index-preserved g c =
    let more : Gathers c.loop-index.out c.put.new.arg2 = c.requires.gathers _ _ _ c.put.ensures in
    (cc, omega arith, omega arith)
