-- The drain: the commands that stop every component, told from the tables; it depends on no size. And what is claimed of it.
use Rattle.std.specs.Prelude.{◌≡◌, Bool, ◌&&◌, cond, false, true, List, [], ◌++◌, ◌∷◌, map, ◌*◌, ◌+◌, ◌<◌, ◌≤◌, suc, zero, ℕ, get_or, length}
use Rattle.std.proofs.Math.Option.{Option, none, some}
use Rattle.model.specs.declared.Phase.{Phase}
use Rattle.model.specs.declared.Step.{Step}
use Rattle.model.specs.declared.StepCommand.{StepCommand}
use Rattle.model.specs.declared.records.Node.{Node}
use Rattle.model.specs.Commands.{Command, result, step}
use Rattle.model.specs.Kernels.{commanded, kernel_from}
use Rattle.model.specs.Layouts.{Layout, Sized, lay_out, sound_kernel, tables_of}
use Rattle.model.specs.Lifecycle.{begin_cleanup_tests}
use Rattle.model.specs.Lists.{is_none, keep, places}
use Rattle.model.specs.Records.{dead_link, is_installed, is_running, is_serving, restored_node}
use Rattle.model.specs.Refusals.{Reply, first}
use Rattle.model.specs.Sizes.{Sizes}
use Rattle.model.specs.Soundness.{sound}
use Rattle.model.specs.Tables.{Tables, node_at, present}

-- ---- a step

abbrev pub step_of : StepCommand → ℕ → Step
step_of c id = record { command = c; id = id }

abbrev pub blank_step : Step
blank_step = step_of StepCommand.Leave 0

abbrev pub named : StepCommand → ℕ → Command
named StepCommand.Leave id = Command.leave id
named StepCommand.BeginCleanup id = Command.begin_cleanup id
named StepCommand.FinishCleanup id = Command.finish_cleanup id

abbrev pub command_of : Step → Command
command_of s = named s.command s.id

abbrev pub commands : List Step → List Command
commands ss = map command_of ss

-- the tables that steps leave which are all accepted
unfoldable pub results : Tables → List Step → Tables
results T [] = T
results T (s ∷ ss) = results (result T (command_of s)) ss

-- ---- which components

-- a Loading or Active component
abbrev pub must_leave : Node → Bool
must_leave n = n.present && is_running n.phase

-- an installed component that is restoring; the other installed ones are serving (Records.antt)
abbrev pub is_restoring : Node → Bool
is_restoring n = is_installed n && n.restoring

-- how many nodes pass
abbrev pub count : (Node → Bool) → Tables → ℕ
count p T = length (keep p T.nodes)

-- ---- leave for each Loading or Active component, ascending

abbrev pub leaves : Tables → List Step
leaves T = map (step_of StepCommand.Leave) (places must_leave 0 T.nodes)

-- ---- finish_cleanup for each restoring one, ascending

abbrev pub restores : Tables → List Step
restores T = map (step_of StepCommand.FinishCleanup) (places is_restoring 0 T.nodes)

-- ---- begin_cleanup and finish_cleanup of the lowest identity that can be cleaned, until none is installed

-- begin_cleanup accepts it
unfoldable pub can_be_cleaned : Tables → ℕ → Bool
can_be_cleaned T id = is_none (first (begin_cleanup_tests T id))

-- the lowest that passes, of n identities from i on
unfoldable pub lowest : (ℕ → Bool) → ℕ → ℕ → Option ℕ
lowest p zero i = none
lowest p (suc n) i = cond (p i) (some i) (lowest p n (suc i))

abbrev pub next_cleaned : Tables → Option ℕ
next_cleaned T = lowest (can_be_cleaned T) (length T.nodes) 0

abbrev pub cleanup : ℕ → List Step
cleanup id = step_of StepCommand.BeginCleanup id ∷ step_of StepCommand.FinishCleanup id ∷ []

-- the identities in the order in which they are cleaned: at most n, until none can be
unfoldable pub cleaning_order : ℕ → Tables → List ℕ
cleaning_order zero T = []
cleaning_order (suc n) T = elim (next_cleaned T) [ none ↦ [] | some id ↦ id ∷ cleaning_order n (results T (cleanup id)) ]

unfoldable pub cleanups : List ℕ → List Step
cleanups [] = []
cleanups (id ∷ ids) = cleanup id ++ cleanups ids

-- as often as components are installed: each time one of them becomes Inactive, and on sound tables one can be cleaned while one is installed
abbrev pub cleaned_in : Tables → List ℕ
cleaned_in T = cleaning_order (count is_installed T) T

-- ---- the whole

abbrev pub preparation : Tables → List Step
preparation T = leaves T ++ restores T

unfoldable pub drain : Tables → List Step
drain T = preparation T ++ cleanups (cleaned_in (results T (preparation T)))

-- ---- what it leaves

-- every node Inactive and not restoring, every link record dead, and nothing else changed
abbrev pub stopped : Tables → Tables
stopped T = record { nodes = map restored_node T.nodes; declarations = T.declarations; links = map dead_link T.links }

-- ---- what is claimed of it

-- each command is done on the tables that the earlier ones leave
abbrev pub InTurn : Sizes → Tables → List Command → Type 0
InTurn S T [] = Unit {0}
InTurn S T (c ∷ cs) = ((step S T c).reply ≡ Reply.done) × InTurn S (step S T c).tables cs

-- steps that stop every component, each accepted, none twice, and how many they are
pub record Drained (S : Sizes) (T : Tables) (ss : List Step) : Type 0 where
  pub in_turn : InTurn S T (commands ss)
  pub stops : results T ss ≡ stopped T
  pub inactive : (i : ℕ) → present (results T ss).nodes i ≡ true → (node_at (results T ss).nodes i).phase ≡ Phase.Inactive
  pub restored : (i : ℕ) → (node_at (results T ss).nodes i).restoring ≡ false
  pub once : (i j : ℕ) → i < j → j < length ss → get_or ss i blank_step ≡ get_or ss j blank_step → ⊥
  -- the leaves, the installed components that are restoring at first, and twice the other installed ones
  pub long : length ss ≡ count must_leave T + count is_restoring T + 2 * count is_serving T
  pub bound : length ss ≤ 3 * S.identities

-- one claim about all sound tables
abbrev pub DrainRule : Type 0
DrainRule = (S : Sizes) (T : Tables) → sound S T ≡ true → Drained S T (drain T)

-- ---- and of kernels

-- each command is done on the kernel that the earlier ones hand back
abbrev pub KernelInTurn : Sizes → Layout → List Command → Type 0
KernelInTurn S k [] = Unit {0}
KernelInTurn S k (c ∷ cs) = ((commanded S k c).reply ≡ Reply.done) × KernelInTurn S (commanded S k c).kernel cs

-- a sound kernel's drain: its commands are done in turn, and what they hand back in the end
abbrev pub KernelDrained : Sizes → Layout → Type 0
KernelDrained S k = let cs = commands (drain (tables_of k)) in KernelInTurn S k cs × (kernel_from S k cs ≡ lay_out S (stopped (tables_of k)))

abbrev pub KernelDrainRule : Type 0
KernelDrainRule = (S : Sizes) (k : Layout) → Sized S k → sound_kernel S k ≡ true → KernelDrained S k
