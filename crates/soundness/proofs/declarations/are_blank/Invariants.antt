-- The declarations joined are blank where those met are.
use Rattle.std.proofs.Common.{◌≡◌, take}
use Rattle.model.specs.{Lists.all, Records.is_blank_declaration}
use Rattle.soundness.proofs.declarations.are_blank.Given as goal

abbrev pub invariant-loop-d : goal.invariant-loop-d
invariant-loop-d l = is_blank_declaration l.joined ≡ all is_blank_declaration (take l.d-index l.declarations)
