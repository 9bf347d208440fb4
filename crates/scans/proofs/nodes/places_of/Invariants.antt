-- The places so far and those of what is left are the places of the whole.
use Rattle.model.proofs.Logic.{◌++◌, drop}
use Rattle.model.specs.{Lists.places}
use Rattle.loops.proofs.{Laws.Collecting.Collecting}
use Rattle.sizes.specs.{Sizes.IDENTITIES}
use Rattle.scans.proofs.nodes.places_of.Given as goal

abbrev pub invariant-loop-i : goal.invariant-loop-i
invariant-loop-i l = Collecting IDENTITIES 0 l.ids l.count l.i (λ k. k ++ places (λ b. b) l.i (drop l.i l.flags)) (places (λ b. b) 0 l.flags)
