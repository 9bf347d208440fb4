use Rattle.model.proofs.Logic.{Bool, ◌||◌, ◌∙◌, add-one, ap, arith, false, get_or, get_or-replicate, refl, sym}
use Rattle.model.specs.{Records.blank_declaration, Records.blank_link}
use Rattle.loops.proofs.Laws.{Chains.any-more, Marking.mark_none, Marking.pass_end, Marking.pass_hit, Marking.pass_next}
use Rattle.loops.specs.{Marks.meets, Passes.link_passes}
use Rattle.sizes.specs.Sizes.{DECLARATIONS, IDENTITIES}
use Rattle.soundness.proofs.links.each_ok.Goals as goal

pub loop-link-init : goal.loop-link-init
loop-link-init c = record {
  size = refl;
  left = rw (mark_none IDENTITIES c.args.links.now);
  met = λ k l. rw c.requires.none (get_or-replicate DECLARATIONS k false false (omega (arith, c.args.chains.now.chained.owners.fits)));
}

pub returns-then-not-link_ok-clause-passes : goal.returns-then-not-link_ok-clause-passes
returns-then-not-link_ok-clause-passes c =
    let a = c.args in
    let j = c.loop-link in
    let passes = c.link_ok.ensures.passes in
    pass_hit a.nodes.now a.chains.now.declarations.now j.seen a.links.now j.link-index (omega (arith, j.invariant.size)) (omega arith) j.invariant.left (sym passes ∙ c.if-not-link_ok.true)

pub loop-link-preserved : goal.loop-link-preserved
loop-link-preserved c =
    let a = c.args in
    let j = c.loop-link in
    let link = get_or a.links.now j.link-index blank_link in
    let r = c.if-not-link_ok.false in
    let passes = c.link_ok.ensures.passes in
    let marks = c.link_ok.ensures.met r in
    record {
      size = omega arith;
      left = rw (c.link_ok.ensures.seen r) (pass_next a.nodes.now a.chains.now.declarations.now j.seen a.links.now j.link-index (omega (arith, j.invariant.size)) (omega arith) j.invariant.left (sym passes ∙ r));
      met = λ k m.
          let d = get_or a.chains.now.declarations.now k blank_declaration in
          marks k m ∙ ap (λ (b : Bool). meets d link || b) (j.invariant.met k m) ∙ sym (rw (add-one j.link-index) (any-more (meets d) a.links.now j.link-index blank_link (omega arith)));
    }

pub returns-clause-passes : goal.returns-clause-passes
returns-clause-passes c = pass_end (link_passes c.args.nodes.now c.args.chains.now.declarations.now) c.loop-link.seen c.args.links.now c.loop-link.link-index (omega arith) c.loop-link.invariant.left
