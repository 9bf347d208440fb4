-- `reasons::said::call_of` meets its contract: a command byte that is none of those from 03 to 0F is 10.
use Rattle.std.proofs.Common.{rules}
use Rattle.model.proofs.Logic.{◌≡◌}
use Rattle.player.proofs.{Laws.Turns.NoneOf, Laws.Turns.sixteenth}
use Rattle.reasons.proofs.said.call_of.Goals as goal

pub returns-in_default : goal.returns-in_default
returns-in_default c u l =
    let none : NoneOf 15 c.args.byte = search rules in
    let e : c.args.byte ≡ 16 = sixteenth c.args.byte u none in
    rw (e, c.identity-id.ensures)
