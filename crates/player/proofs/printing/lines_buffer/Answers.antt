-- `player::printing::lines_buffer` meets its contract; no proof looks into the array.
use Rattle.std.proofs.Common.{◌*◌}
use Rattle.std.proofs.lemmas.List.{length-replicate}
use Rattle.model.proofs.Logic.{sym, ℕ}
use Rattle.player.specs.{Log.log_limit, Shifts.line_limit}
use Rattle.player.proofs.printing.lines_buffer.Goals as goal

pub returns : goal.returns
returns c = sym (length-replicate {A = ℕ} (line_limit * log_limit) 0)
