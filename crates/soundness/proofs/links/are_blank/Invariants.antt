-- The links joined are blank where those met are.
use Rattle.std.proofs.Common.{◌≡◌, take}
use Rattle.model.specs.{Lists.all, Records.is_blank_link}
use Rattle.soundness.proofs.links.are_blank.Given as goal

abbrev pub invariant-loop-l : goal.invariant-loop-l
invariant-loop-l l = is_blank_link l.joined ≡ all is_blank_link (take l.l-index l.links)
