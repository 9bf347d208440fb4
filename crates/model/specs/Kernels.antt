-- What a kernel answers, sound or not: the place 'entry' of the rules' table, over the sizes; and the kernels that lists of commands reach.
use Rattle.std.specs.Prelude.{◌≡◌, cond, List, [], ◌∷◌, ◌⊎◌, ◌≤◌}
use Rattle.model.specs.declared.Error.{Error}
use Rattle.model.specs.Commands.{Command, step}
use Rattle.model.specs.Layouts.{Layout, lay_out, sound_kernel, tables_of}
use Rattle.model.specs.Refusals.{Reply, accepted, reply_number}
use Rattle.model.specs.Sizes.{Sizes}
use Rattle.model.specs.Tables.{Tables, empty}

-- an observer or a check: its answer on the tables of a sound kernel, else the answer of an unsound one
unfoldable pub asked : {A : Type 0} → Sizes → Layout → A → (Tables → A) → A
asked S k unsound f = cond (sound_kernel S k) (f (tables_of k)) unsound

-- what a command replies: 10 if the kernel is not sound, else what a step on its tables replies
abbrev pub replied : Sizes → Layout → Command → Reply
replied S k c = asked S k (Reply.refused Error.Damaged) (λ T. (step S T c).reply)

pub record Commanded : Type 0 where
  pub kernel : Layout
  pub reply : Reply

-- a command: the kernel itself if it is refused, else the tables that the step leaves, laid out
unfoldable pub commanded : Sizes → Layout → Command → Commanded
commanded S k c = record { kernel = cond (accepted (replied S k c)) (lay_out S (step S (tables_of k) c).tables) k; reply = replied S k c }

-- demand 1, of any kernel and command: 0, or one of the ten numbers and the kernel itself
abbrev pub AnsweredAt : Sizes → Layout → Command → Type 0
AnsweredAt S k c = let o = commanded S k c in let n = reply_number o.reply in (n ≡ 0) ⊎ ((1 ≤ n) × (n ≤ 10) × (o.kernel ≡ k))

abbrev pub EveryCallAnswered : Type 0
EveryCallAnswered = (S : Sizes) (k : Layout) (c : Command) → AnsweredAt S k c

-- ---- reached kernels

abbrev pub empty_kernel : Sizes → Layout
empty_kernel S = lay_out S empty

-- a list of commands, each on what the one before handed back, after a refusal too
unfoldable pub kernel_from : Sizes → Layout → List Command → Layout
kernel_from S k [] = k
kernel_from S k (c ∷ cs) = kernel_from S (commanded S k c).kernel cs

abbrev pub reached : Sizes → List Command → Layout
reached S cs = kernel_from S (empty_kernel S) cs
