-- `player::nobrighi_play` meets its contract.
use Rattle.model.proofs.Logic.{ap}
use Rattle.player.specs.{Played.fresh, Played.state_after, Players.state_of}
use Rattle.player.proofs.{Laws.Answers.plays-puts}
use Rattle.player.proofs.nobrighi_play.Goals as goal

pub returns : goal.returns
unfolding state_after
returns c = plays-puts fresh c.args.log.now c.args.answers.now c.start.result (ap state_of c.start.ensures) c.play.ensures.plays
