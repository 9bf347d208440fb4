use Rattle.model.proofs.Logic.{◌∙◌, arith, get_or, not-false, not-true, sym}
use Rattle.model.specs.{Records.blank_declaration, Tables.node_at}
use Rattle.loops.proofs.Laws.Marking.{dead_meets, dead_passes, end_past, live_decides, live_fails, live_meets}
use Rattle.soundness.proofs.links.link_ok.Goals as goal

pub returns-then-c-nodes-clause-passes : goal.returns-then-c-nodes-clause-passes
returns-then-c-nodes-clause-passes c = rw (end_past c.args.nodes.now c.args.chains.now.declarations.now c.args.link (λ from to. omega arith))

pub returns-then-not-link-clause-passes : goal.returns-then-not-link-clause-passes
returns-then-not-link-clause-passes c =
    let a = c.args in
    sym (dead_passes a.link (not-true _ c.if-not-link.true) a.nodes.now a.chains.now.declarations.now a.seen.now (omega (arith, c.consumer_in-c.ensures)) (omega (arith, c.provider_in-p.ensures)))

pub returns-then-not-link-clause-met : goal.returns-then-not-link-clause-met
returns-then-not-link-clause-met c = λ _ i k. rw (dead_meets c.args.link (not-true _ c.if-not-link.true) (get_or c.args.chains.now.declarations.now i blank_declaration))

pub returns-then-not-is_installed-is_serving-clause-passes : goal.returns-then-not-is_installed-is_serving-clause-passes
unfolding node_at
returns-then-not-is_installed-is_serving-clause-passes c =
    let a = c.args in
    sym (live_fails a.link (not-false _ c.if-not-link.false) a.nodes.now a.chains.now.declarations.now a.seen.now (rw (c.is_installed.ensures, c.is_serving.ensures, c.consumer_in-c.ensures, c.provider_in-p.ensures) at c.if-not-is_installed-is_serving.true))

pub returns-clause-passes : goal.returns-clause-passes
unfolding node_at
returns-clause-passes c =
    let a = c.args in
    let holds = rw (c.is_installed.ensures, c.is_serving.ensures, c.consumer_in-c.ensures, c.provider_in-p.ensures) at c.if-not-is_installed-is_serving.false in
    rw (c.meet-wanted.ensures.found, c.declares-offered.ensures, c.consumer_in-c.ensures, c.provider_in-p.ensures, c.port_in-port.ensures) (sym (live_decides a.link (not-false _ c.if-not-link.false) a.nodes.now a.chains.now.declarations.now a.seen.now holds))

pub returns-clause-met : goal.returns-clause-met
returns-clause-met c = λ _ i k.
    let a = c.args in
    let d = get_or a.chains.now.declarations.now i blank_declaration in
    c.meet-wanted.ensures.marked i k ∙ rw (c.consumer_in-c.ensures, c.port_in-port.ensures, live_meets a.link (not-false _ c.if-not-link.false) d)
