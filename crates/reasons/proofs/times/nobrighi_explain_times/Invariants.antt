-- `reasons::times::nobrighi_explain_times`: what the last took ends within out.
use Rattle.std.proofs.Common.{◌≤◌, length}
use Rattle.reasons.proofs.times.nobrighi_explain_times.Given as goal

abbrev pub invariant-loop : goal.invariant-loop
invariant-loop l = l.written ≤ length l.fn.out
