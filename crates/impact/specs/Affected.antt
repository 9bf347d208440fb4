-- What affected answers of every kernel value, sound or not; and what is claimed of it.
use Rattle.std.specs.Prelude.{◌≡◌, ◌≤◌, Err, List, Ok, Result, ℕ, length}
use Rattle.kernel.specs.declared.Kernel.{Kernel}
use Rattle.kernel.specs.Fields.{layout_of}
use Rattle.kernel.specs.Outcomes.{command, outcome}
use Rattle.model.specs.Answers.{Answer, answer}
use Rattle.model.specs.declared.Error.{Error}
use Rattle.model.specs.Commands.{Command}
use Rattle.model.specs.Impact.{Impact, Predicts, kernel_impact}
use Rattle.results.specs.declared.Identities.{Identities}
use Rattle.results.specs.Results.{identities}
use Rattle.sizes.specs.Sizes.{IDENTITIES, sizes}

-- done with this list, or the refusal
abbrev pub listed : Answer → List ℕ → Result Identities Error
listed (Ok _) js = Ok (identities js)
listed (Err e) js = Err e

-- a reply with its list, in the code's types
abbrev pub answered : Impact → Result Identities Error
answered i = listed (answer i.reply) i.hit

-- of a kernel value: 10 if it is not sound, else leave's refusal or who is hit
abbrev pub impact_of : Kernel → ℕ → Impact
impact_of k id = kernel_impact sizes (layout_of k) id

abbrev pub affected_of : Kernel → ℕ → Result Identities Error
affected_of k id = answered (impact_of k id)

-- ---- what is claimed of every kernel value, sound or not, and every identity

pub record Listed (k : Kernel) (id : ℕ) : Type 0 where
  -- the list is what leave, target, leave_if_changed and check_iteration would answer
  pub predicts : Predicts sizes (layout_of k) id (impact_of k id) (command k (Command.leave id))
  -- the answer is leave's, done with the list, and the array has room for it
  pub answers : affected_of k id ≡ listed (outcome answer (command k (Command.leave id))).answer (impact_of k id).hit
  pub fits : length (impact_of k id).hit ≤ IDENTITIES

abbrev pub EveryImpactListed : Type 0
EveryImpactListed = (k : Kernel) (id : ℕ) → Listed k id
