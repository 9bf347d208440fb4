-- Behind the steps that there were stand the two of each identity read so far.
use Rattle.model.proofs.Logic.{List, ◌*◌, ◌++◌, ◌+◌, ◌≡◌, take}
use Rattle.model.specs.{Drain.cleanups, declared.Step.Step}
use Rattle.drain.specs.{Drains.as_drain}
use Rattle.drain.proofs.steps.Drain.append_cleanups.Given as goal

abbrev pub invariant-loop-id : goal.invariant-loop-id
invariant-loop-id l = (l.self.count ≡ l.fn.self.count + 2 * l.id-index) × ((ss : List Step) → l.fn.self ≡ as_drain ss → l.self ≡ as_drain (ss ++ cleanups (take l.id-index l.id-items)))
