-- `show_at` meets its contract: what the value's writes put stands one behind another.
use Rattle.std.proofs.Common.{rules}
use Rattle.text.proofs.Laws.Writes.{shown-puts}
use Rattle.text.proofs.show_at.Goals as goal

pub returns : goal.returns
returns g c = shown-puts c.write.result c.is_ok-shown.result (g.D.Display.output c.args.value) c.at-text.result c.write.new.self _ _ _ _ c.is_ok-shown.ensures.value c.write.ensures.writes c.at-text.ensures.same c.at-text.ensures.place c.len.ensures.value (λ n. search rules)
