-- `List::fmt`: the first member, one more, and all of them.
use Rattle.std.proofs.Common.{Ok, sym, arith}
use Rattle.std.proofs.Output.{displays_on_IsOk_append, displays_on_ok_of_eq}
use Rattle.text.proofs.Laws.Shown.{list_first, list_more, list_whole}
use Rattle.text.proofs.answers.ListDisplay.fmt.Goals as goal

pub loop-member-init : goal.loop-member-init
loop-member-init g c =
    let e = list_first g.T.Display.output c.args.self.now.0.now c.first-item.result (omega arith) c.first-item.is in
    displays_on_ok_of_eq g.W.Write.write_str_gives c.args.f.now c.write.new.self (Ok tt) _ _ (sym e) c.in_ok-write.ensures.writes

pub loop-member-preserved : goal.loop-member-preserved
loop-member-preserved g c =
    let f = c.args.f.now in
    let after = c.write-in-loop-member.new.self in
    let e = list_more g.T.Display.output c.args.self.now.0.now c.loop-member.member-index c.member-item.result c.loop-member-test.true c.member-item.is in
    let both = displays_on_IsOk_append g.W.Write.write_str_gives f c.loop-member.f after (Ok tt) (Ok tt) _ _ (λ k. k) c.loop-member.invariant c.in_ok-write-2.ensures.writes in
    displays_on_ok_of_eq g.W.Write.write_str_gives f after (Ok tt) _ _ (sym e) both

pub returns-clause-writes : goal.returns-clause-writes
returns-clause-writes g c =
    let e = list_whole g.T.Display.output c.args.self.now.0.now c.loop-member.member-index (omega (arith, c.loop-member-test.false)) in
    displays_on_ok_of_eq g.W.Write.write_str_gives c.args.f.now c.loop-member.f (Ok tt) _ _ e c.loop-member.invariant
