-- The places below i are filled with the answers on the identities below i.
use Rattle.impact.proofs.{Laws.Uses.Hitting}
use Rattle.impact.proofs.links.hit_flags.Given as goal

abbrev pub invariant-loop-i : goal.invariant-loop-i
invariant-loop-i l = Hitting l.nodes l.uses l.i l.hit
