use Rattle.model.proofs.Logic.{arith, false, refl}
use Rattle.loops.proofs.{Laws.Collecting.append-skip, Laws.Collecting.append-take, Laws.Collecting.collect-end, Laws.Collecting.collect_skip, Laws.Collecting.collect_start, Laws.Collecting.collect-take, Laws.Collecting.place_none, Laws.Collecting.place-skip, Laws.Collecting.place-take}
use Rattle.scans.proofs.nodes.places_of.Goals as goal
use Rattle.scans.proofs.nodes.places_of.Goals.{then-flag, else-flag}

pub loop-i-init : goal.loop-i-init
loop-i-init c = collect_start refl refl

pub loop-i-preserved : goal.loop-i-preserved
loop-i-preserved c =
    let j = c.loop-i in
    let xs = c.args.flags.now in
    elim c.if-flag.branch [
      | then-flag w ↦ collect-take j.invariant j.i (omega arith) (append-take (place-take (λ b. b) false xs j.i (omega arith) w.if-flag.true)) w.ids-is w.count-is
      | else-flag w ↦ collect_skip j.invariant (append-skip (place-skip (λ b. b) false xs j.i (omega arith) w.if-flag.false)) w.ids-is w.count-is
    ]

pub returns : goal.returns
returns c =
    let j = c.loop-i in
    let e = collect-end j.invariant (place_none (λ b. b) false c.args.flags.now j.i (omega arith)) in
    λ k. record { ids = e.0 k; count = e.1 k }
