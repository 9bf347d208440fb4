-- What holds of every log that is played.
use Rattle.std.specs.Prelude.{◌≡◌, ℕ, ◌*◌, ◌≤◌, true, false, ◌⊎◌, List, [], ◌∷◌, ◌++◌, length, take, nat_eq}
use Rattle.kernel.specs.declared.Kernel.{Kernel}
use Rattle.kernel.specs.Fields.{is_sound, layout_of}
use Rattle.kernel.specs.Reached.{begun_by, reached_by}
use Rattle.model.specs.Iteration.{RuleAt}
use Rattle.model.specs.Lists.{keep}
use Rattle.player.specs.Log.{log_limit}
use Rattle.player.specs.Played.{Item, State, Turn, decoded, fresh, is_last, played, state_after, taken, turns}
use Rattle.player.specs.Players.{Plays, player_after}
use Rattle.player.specs.Printed.{lines_from, printed}
use Rattle.player.specs.declared.commands.Player.{Player}
use Rattle.sizes.specs.Sizes.{sizes}

-- ---- the kernel

abbrev pub kernel_after : List Turn → Kernel
kernel_after ts = (state_after fresh ts).kernel

-- behind these turns from the empty kernel: what their commands reach, so it is sound and demand 3 holds of it
pub record Shift (ts : List Turn) : Type 0 where
  pub reached : kernel_after ts ≡ reached_by (decoded ts)
  pub sound : is_sound (kernel_after ts) ≡ true
  pub rule : (id : ℕ) → RuleAt sizes (layout_of (kernel_after ts)) id (begun_by (decoded ts) id)

-- of every log, after any of its commands
abbrev pub EveryShift : Type 0
EveryShift = (log : List ℕ) (n : ℕ) → Shift (take n (turns fresh log))

-- what `play` leaves of the player before the first byte, when there is room for so many answers
abbrev pub PlayLeaves : Type 0
PlayLeaves =
    (log answers : List ℕ) (r : Player) (answers' : List ℕ) →
    Plays (player_after fresh []) log answers r answers' → r.kernel ≡ reached_by (decoded (take (length answers) (turns fresh log)))

-- ---- the lines

-- a line has at most 9 bytes: five digits, a space, two digits, its end
abbrev pub line_limit : ℕ
line_limit = 9

-- as many lines as answers, at most one for each byte of the log
pub record Lines (log : List ℕ) : Type 0 where
  pub each : length (keep (λ byte. nat_eq byte 10) (printed log)) ≡ length (played log)
  pub bytes : length (played log) ≤ length log
  pub most : length (played log) ≤ log_limit
  pub long : length (printed log) ≤ line_limit * log_limit

abbrev pub EveryLine : Type 0
EveryLine = (log : List ℕ) → Lines log

-- a log cut anywhere: the first answers of the whole and at most one 12, and so the first lines of the whole and at most one of a 12
pub record Cut (log : List ℕ) (n : ℕ) : Type 0 where
  pub first : List ℕ
  pub rest : List ℕ
  pub more : List ℕ
  pub whole : played log ≡ first ++ rest
  pub answers : played (take n log) ≡ first ++ more
  pub twelve : (more ≡ []) ⊎ (more ≡ 12 ∷ [])
  pub whole-lines : printed log ≡ lines_from 0 first ++ lines_from (length first) rest
  pub lines : printed (take n log) ≡ lines_from 0 first ++ lines_from (length first) more

abbrev pub CutAnywhere : Type 0
CutAnywhere = (log : List ℕ) (n : ℕ) → Cut log n

-- ---- the numbers

-- an item that the run goes on behind answers 0 or one of the ten; the other two answer 11 and 12
abbrev pub NumbersApart : Type 0
NumbersApart =
    (s : State) (n : ℕ) (i : Item) → ((is_last i ≡ false) × ((taken s n i).answer ≤ 10)) ⊎ ((i ≡ Item.unknown) × ((taken s n i).answer ≡ 11)) ⊎ ((i ≡ Item.cut) × ((taken s n i).answer ≡ 12))
