-- Why a command of a log answers what it answers: the log's own refusals, or the kernel's explained.
use Rattle.std.specs.Prelude.{Ok, ◌≡◌, ℕ, zero, suc, cond, List, [], ◌∷◌, slice_index}
use Rattle.explain.specs.Explanations.{explanation_of}
use Rattle.model.specs.declared.PortList.{PortList}
use Rattle.model.specs.Explanation.{reply_by}
use Rattle.model.specs.Refusals.{reply_number}
use Rattle.player.specs.Played.{Item, State, Turn, answers_of, is_full, turns}
use Rattle.reasons.specs.declared.said.LogExplanation.{LogExplanation}

-- a port for a list: a 33rd is refused, with the count
abbrev pub addition_said : PortList → LogExplanation
addition_said l = cond (is_full l) (LogExplanation.Full l.count) (LogExplanation.Command (Ok tt))

abbrev pub said_of : State → Item → LogExplanation
said_of s (Item.dependency p) = addition_said s.dependencies
said_of s (Item.provision p) = addition_said s.provisions
said_of s (Item.plain c) = LogExplanation.Command (explanation_of s.kernel c)
said_of s (Item.listing c) = LogExplanation.Command (explanation_of s.kernel c)
said_of s Item.unknown = LogExplanation.Unknown
said_of s Item.cut = LogExplanation.Cut

-- of the n-th of these turns, the first of which is on the state
unfoldable pub said_in : State → List Turn → ℕ → LogExplanation
said_in s [] n = LogExplanation.NoCommand
said_in s (t ∷ ts) zero = said_of s t.item
said_in s (t ∷ ts) (suc n) = said_in t.after ts n

-- ---- what is claimed

-- the number that is explained
abbrev pub said_number : LogExplanation → ℕ
said_number LogExplanation.NoCommand = 0
said_number LogExplanation.Unknown = 11
said_number LogExplanation.Cut = 12
said_number (LogExplanation.Full count) = 9
said_number (LogExplanation.Command x) = reply_number (reply_by x)

-- of every log, from every state, and every command of it: the answer that is played is the one that is explained; 0 for both where there is no such command
abbrev pub EveryAnswerExplained : Type 0
EveryAnswerExplained = (s : State) (log : List ℕ) (n : ℕ) → said_number (said_in s (turns s log) n) ≡ slice_index (answers_of (turns s log)) n
