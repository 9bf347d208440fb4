use Rattle.model.proofs.Logic.{ap, append-nil, arith, sym, take, ◌∙◌}
use Rattle.model.specs.{Drain.cleanups}
use Rattle.drain.specs.{Drains.as_drain}
use Rattle.drain.proofs.{Laws.Steps.cleanups_next}
use Rattle.drain.proofs.steps.Drain.append_cleanups.Goals as goal

pub loop-id-init : goal.loop-id-init
unfolding cleanups
loop-id-init c = (omega arith, λ ss e. e ∙ ap as_drain (sym (append-nil ss)))

pub loop-id-preserved : goal.loop-id-preserved
loop-id-preserved c =
    let ids = c.args.ids.now in
    (omega arith, λ ss e. cleanups_next (take ids.count ids.ids) ss (omega arith) (c.loop-id.invariant.1 ss e) c.push.ensures.steps c.push-in-loop-id.ensures.steps)
