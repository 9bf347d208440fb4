-- `put_digits` meets its contract: each turn puts the last digit of what is left.
use Rattle.std.proofs.Common.{arith, length-set, ◌∙◌}
use Rattle.text.proofs.Laws.Written.{digits_last, digits_step}
use Rattle.text.proofs.put_digits.Goals as goal

pub loop-rest-preserved : goal.loop-rest-preserved
loop-rest-preserved c =
    let i = c.loop-rest.invariant in
    let s = digits_step c.loop-rest.at c.loop-rest.rest c.loop-rest.digits c.loop-rest-test.true i.3 (omega (arith, i.0, i.1)) in
    (simp length-set i.0, omega (arith, i.1), s.0, s.1, s.2 ∙ i.4)

pub returns-clause-digits : goal.returns-clause-digits
returns-clause-digits c =
    let i = c.loop-rest.invariant in
    digits_last c.loop-rest.at c.loop-rest.rest c.loop-rest.digits c.loop-rest-test.false i.2 (omega (arith, i.0, i.1)) ∙ i.4
