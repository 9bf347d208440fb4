-- `Player::play_on`: the turns so far are those of the log's first commands.
use Rattle.std.proofs.Common.{◌≡◌, ◌≤◌, ◌-◌, length}
use Rattle.player.specs.Played.{turns}
use Rattle.player.proofs.Laws.Playing.{Playing, state}
use Rattle.player.proofs.commands.Player.play_on.Given as goal

abbrev pub invariant-loop-at : goal.invariant-loop-at
invariant-loop-at l =
    let s₀ = state l.initial.self.kernel l.initial.self.dependencies l.initial.self.provisions l.initial.at in
    let s = state l.self.kernel l.self.dependencies l.self.provisions l.at in
    (length l.answers ≡ length l.initial.answers) × (l.answered ≤ length l.answers) × Playing s₀ (turns s₀ l.log) l.initial.answers (turns s l.log) s l.answers l.answered l.detail

abbrev pub decreases-loop-at : goal.decreases-loop-at
decreases-loop-at l = length l.log - l.at
