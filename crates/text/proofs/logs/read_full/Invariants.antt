-- What was read is within the buffer.
use Rattle.std.proofs.Common.{length, ◌-◌, ◌≤◌}
use Rattle.text.proofs.logs.read_full.Given as goal

abbrev pub invariant-loop-count : goal.invariant-loop-count
invariant-loop-count g l = l.count ≤ length l.log

abbrev pub decreases-loop-count : goal.decreases-loop-count
decreases-loop-count g l = length l.log - l.count
