-- Behind the steps that there were stand those of the identities read so far.
use Rattle.model.proofs.Logic.{List, ◌++◌, ◌+◌, ◌≡◌, map, take}
use Rattle.model.specs.{Drain.step_of, declared.Step.Step}
use Rattle.drain.specs.{Drains.as_drain}
use Rattle.drain.proofs.steps.Drain.append.Given as goal

abbrev pub invariant-loop-id : goal.invariant-loop-id
invariant-loop-id l =
    (l.self.count ≡ l.fn.self.count + l.id-index) × ((ss : List Step) → l.fn.self ≡ as_drain ss → l.self ≡ as_drain (ss ++ map (step_of l.command) (take l.id-index l.id-items)))
