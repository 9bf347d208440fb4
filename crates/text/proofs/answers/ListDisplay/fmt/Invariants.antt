-- `List::fmt`: the members so far are written.
use Rattle.std.proofs.Common.{Ok, ◌+◌, take}
use Rattle.std.specs.Fmt.{DisplaysOnOk}
use Rattle.text.specs.Shown.{list_text}
use Rattle.text.proofs.answers.ListDisplay.fmt.Given as goal

abbrev pub invariant-loop-member : goal.invariant-loop-member
invariant-loop-member g l = DisplaysOnOk g.W.Write.write_str_gives l.fn.f (Ok tt) (list_text g.T.Display.output (take (l.member-index + 1) l.self.0.now)) l.f
