-- `player::times::nobrighi_times`: what the last took ends within out.
use Rattle.std.proofs.Common.{◌≤◌, length}
use Rattle.player.proofs.times.nobrighi_times.Given as goal

abbrev pub invariant-loop : goal.invariant-loop
invariant-loop l = l.written ≤ length l.fn.out
