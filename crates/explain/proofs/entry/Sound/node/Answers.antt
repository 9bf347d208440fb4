use Rattle.std.proofs.Common.{arith, false, sym, true, ◌∙◌, ◌≡◌}
use Rattle.model.proofs.Logic.{dec_lt}
use Rattle.sizes.specs.{Sizes.IDENTITIES}
use Rattle.explain.proofs.{Laws.Entry.node_past, Laws.Entry.node_read}
use Rattle.explain.proofs.entry.Sound.node.Goals as goal

pub returns-clause-node : goal.returns-clause-node
returns-clause-node c =
    let s = c.args.self in
    let read = c.node_in.ensures.within in
    elim (dec_lt c.args.id IDENTITIES) [
      | yes l ↦ (read l).0 ∙ node_read s.kernel.now s.sound (read l).1 c.args.id
      | no l ↦ c.node_in.ensures.past (omega arith) ∙ sym (node_past s.kernel.now s.sound c.args.id (omega arith))
    ]

pub returns-clause-sized : goal.returns-clause-sized
returns-clause-sized c = λ p.
    elim (dec_lt c.args.id IDENTITIES) [
      | yes l ↦ (c.node_in.ensures.within l).1
      | no l ↦ let e = c.node_in.ensures.past (omega arith) in let f : false ≡ true = rw e at p in cc
    ]
