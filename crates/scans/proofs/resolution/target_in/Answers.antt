use Rattle.model.proofs.Logic.{List, ◌∙◌, ap, arith, set, sym, take}
use Rattle.model.specs.{Records.blank_declaration, Resolution.look_up, declared.Port.Port, declared.Resolution.Resolution, declared.records.Declaration.Declaration}
use Rattle.loops.proofs.{Laws.Collecting.collect_skip, Laws.Collecting.collect_start, Laws.Collecting.collect-take, Laws.Resolving.after_nothing}
use Rattle.loops.specs.{Columns.flag}
use Rattle.results.specs.{Results.target_bindings}
use Rattle.sizes.specs.{Sizes.IDENTITIES}
use Rattle.scans.proofs.Slices.{bound_end, bound_missing, bound_skip, bound_take, first_read, first_within}
use Rattle.scans.proofs.resolution.target_in.Goals.{then-is_dependency_of+in-Provider, else-is_dependency_of}
use Rattle.scans.proofs.resolution.target_in.Goals as goal

pub loop-d-init : goal.loop-d-init
loop-d-init c = collect_start c.blank_binding-bindings.ensures (after_nothing _)

pub returns-in_default : goal.returns-in_default
returns-in_default c =
    let a = c.args in
    let ds : List Declaration = take c.min.result a.declarations.now in
    let r : Port → Resolution = look_up (flag IDENTITIES a.flags.now.present) (flag IDENTITIES a.flags.now.providing) ds in
    let j = c.loop-d in
    let found = c.resolve_in-found in
    let t = sym c.is_dependency_of.ensures ∙ c.if-is_dependency_of.true in
    let stops = bound_missing r a.id ds j.d-index blank_declaration (omega arith) found.result t (sym (rw c.declared_port-port.ensures at found.ensures)) c.in_default.not-Provider j.invariant.kept in
    λ l. rw (first_read _ _ a.declarations.now c.min.ensures l, c.declared_port-port.ensures) (ap target_bindings (sym (j.invariant.whole ∙ stops)))

pub loop-d-preserved : goal.loop-d-preserved
loop-d-preserved c =
    let a = c.args in
    let ds : List Declaration = take c.min.result a.declarations.now in
    let within = first_within _ _ a.declarations.now c.min.ensures in
    let r : Port → Resolution = look_up (flag IDENTITIES a.flags.now.present) (flag IDENTITIES a.flags.now.providing) ds in
    let j = c.loop-d in
    let e = sym c.is_dependency_of.ensures in
    elim c.if-is_dependency_of.branch [
      | then-is_dependency_of+in-Provider w ↦
          let port = w.declared_port-port.ensures in
          let resolves = sym (rw port at w.resolve_in-found.ensures) ∙ w.in-Provider.is in
          let more = bound_take r a.id ds j.d-index blank_declaration (omega arith) w.in-Provider.p (e ∙ w.if-is_dependency_of.true) resolves in
          collect-take j.invariant _ (omega (arith, within)) more (w.bindings-is ∙ ap (set j.bindings j.count) (rw port at w.binding_of.ensures)) w.count-is
      | else-is_dependency_of w ↦ collect_skip j.invariant (bound_skip r a.id ds j.d-index blank_declaration (omega arith) (e ∙ w.if-is_dependency_of.false)) w.bindings-is w.count-is
    ]

pub returns : goal.returns
returns c =
    let a = c.args in
    let ds : List Declaration = take c.min.result a.declarations.now in
    let r : Port → Resolution = look_up (flag IDENTITIES a.flags.now.present) (flag IDENTITIES a.flags.now.providing) ds in
    let j = c.loop-d in
    let e = j.invariant.whole ∙ bound_end r a.id ds j.d-index c.loop-d-test.false j.invariant.kept in
    λ l. rw (first_read _ _ a.declarations.now c.min.ensures l, e, j.invariant.holds, j.invariant.counted)
