-- What the digits that are put leave to be written is the number without them.
use Rattle.std.proofs.Common.{length, ◌≡◌, ◌≤◌, ◌<◌, ◌^◌, ◌++◌, drop}
use Rattle.text.specs.Written.{decimal, digits_of}
use Rattle.text.proofs.put_digits.Given as goal

abbrev pub invariant-loop-rest : goal.invariant-loop-rest
invariant-loop-rest l = (length l.digits ≡ 20) × (l.at ≤ 20) × (0 < l.at) × (l.rest < 10 ^ l.at) × (digits_of l.at l.rest ++ drop l.at l.digits ≡ decimal l.n)

abbrev pub decreases-loop-rest : goal.decreases-loop-rest
decreases-loop-rest l = l.at
