-- What is left of the links, with the marks so far, answers as the whole does; the marks on dependencies tell what the links so far meet.
use Rattle.model.proofs.Logic.{◌&&◌, ◌<◌, ◌≡◌, drop, false, get_or, length, take, ℕ}
use Rattle.model.specs.{Lists.all, Lists.any, Records.blank_declaration, Soundness.ordered}
use Rattle.loops.proofs.Laws.Marking.{left_to_pass}
use Rattle.loops.specs.{Marks.meets, Passes.link_passes}
use Rattle.sizes.specs.Sizes.{IDENTITIES}
use Rattle.soundness.proofs.links.each_ok.Given as goal

abbrev pub invariant-loop-link : goal.invariant-loop-link
invariant-loop-link l =
    let ok = link_passes l.nodes l.chains.declarations.now in record {
      size : length l.seen ≡ IDENTITIES;
      left : left_to_pass ok l.seen (drop l.link-index l.links) ≡ all ok l.links && ordered l.links;
      met : (k : ℕ) → k < length l.chains.declarations.now → get_or l.met k false ≡ any (meets (get_or l.chains.declarations.now k blank_declaration)) (take l.link-index l.links);
    }
