use Rattle.std.specs.Prelude.{Err}
use Rattle.std.proofs.Common.{arith, rules, sym, ◌≡◌}
use Rattle.impact.proofs.Laws.Kernels.{affected_refused}
use Rattle.impact.proofs.affected.Goals as goal

pub returns-in_err-check_running : goal.returns-in_err-check_running
returns-in_err-check_running c =
    let r : c.from_residual.result ≡ Err c.in_err-check_running.field-0.0 = search rules in
    sym (affected_refused c.args.kernel.now c.args.id c.sound.ensures c.if-not-sound.false (omega arith) (omega arith) (omega arith) c.check_running.ensures c.in_err-check_running.was r)
