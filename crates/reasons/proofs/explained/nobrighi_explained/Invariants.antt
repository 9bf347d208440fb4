-- `reasons::explained::nobrighi_explained`: so far all is gathered.
use Rattle.player.specs.Gathered.{Gathers}
use Rattle.reasons.proofs.explained.nobrighi_explained.Given as goal

abbrev pub invariant-loop : goal.invariant-loop
invariant-loop l = Gathers l.initial.out l.out
