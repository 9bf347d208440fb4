-- `player::printing::lines`: the lines so far are those of the answers so far.
use Rattle.std.proofs.Common.{◌≡◌, take}
use Rattle.player.specs.Printed.{lines_from}
use Rattle.text.specs.Written.{Puts}
use Rattle.player.proofs.printing.lines.Given as goal

abbrev pub invariant-loop-i : goal.invariant-loop-i
invariant-loop-i l = record {
  same_reference : l.text.bytes.ghost_name ≡ l.initial.text.bytes.ghost_name;
  puts : Puts (lines_from 0 (take l.i l.answer-items)) l.initial.text.bytes.now 0 l.text.bytes.now l.text.len;
}
