use Rattle.model.proofs.Logic.{List, ◌∙◌, ap, arith, map, refl, set, sym, take}
use Rattle.model.specs.{Records.binding_in, Records.blank_link, Resolution.committed, Resolution.is_live_link_of, declared.records.Link.Link}
use Rattle.loops.proofs.{Laws.Collecting.append-skip, Laws.Collecting.append-take, Laws.Collecting.collect-end, Laws.Collecting.collect_skip, Laws.Collecting.collect_start, Laws.Collecting.collect-take}
use Rattle.scans.proofs.Slices.{first_read, first_within, keep_end, keep_skip, keep_take}
use Rattle.scans.proofs.resolution.committed_in.Goals.{then-is_live_link_of, else-is_live_link_of}
use Rattle.scans.proofs.resolution.committed_in.Goals as goal

pub loop-l-init : goal.loop-l-init
loop-l-init c = collect_start c.blank_binding-bindings.ensures refl

pub loop-l-preserved : goal.loop-l-preserved
loop-l-preserved c =
    let j = c.loop-l in
    let links : List Link = take c.min.result c.args.links.now in
    let within = first_within _ _ c.args.links.now c.min.ensures in
    let live = is_live_link_of c.args.id in
    let e = sym c.is_live_link_of.ensures in
    elim c.if-is_live_link_of.branch [
      | then-is_live_link_of w ↦ collect-take j.invariant _ (omega (arith, within)) (append-take (ap (map binding_in) (keep_take live links j.l-index blank_link (omega arith) (e ∙ w.if-is_live_link_of.true)))) (w.bindings-is ∙ ap (set j.bindings j.count) w.binding_in.ensures) w.count-is
      | else-is_live_link_of w ↦ collect_skip j.invariant (append-skip (ap (map binding_in) (keep_skip live links j.l-index blank_link (omega arith) (e ∙ w.if-is_live_link_of.false)))) w.bindings-is w.count-is
    ]

pub returns : goal.returns
unfolding committed
returns c =
    let j = c.loop-l in
    let links : List Link = take c.min.result c.args.links.now in
    let e = collect-end j.invariant (ap (map binding_in) (keep_end (is_live_link_of c.args.id) links j.l-index (omega arith))) in
    λ l. rw (first_read _ _ c.args.links.now c.min.ensures l) (λ k. record { bindings = e.0 k; count = e.1 k })
