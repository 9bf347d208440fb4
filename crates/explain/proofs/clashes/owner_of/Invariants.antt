-- What is left of the declarations answers as they all do.
use Rattle.std.proofs.Common.{◌≡◌, drop}
use Rattle.explain.specs.{Explanations.tables_in}
use Rattle.model.specs.{Resolution.look_up, Tables.present, Tables.providing}
use Rattle.explain.proofs.clashes.owner_of.Given as goal

abbrev pub invariant-loop-d : goal.invariant-loop-d
invariant-loop-d l =
    let ns = (tables_in l.sound.kernel.now).nodes in
    look_up (present ns) (providing ns) (drop l.d-index l.d-items) l.port ≡ look_up (present ns) (providing ns) l.d-items l.port
