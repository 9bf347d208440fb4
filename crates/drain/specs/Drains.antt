-- What drain and stop hand back, of every kernel value; what the crate's own pass over the nodes gives; and what is claimed of sound kernels.
use Rattle.std.specs.Prelude.{◌≡◌, Err, Ok, Result, false, true, List, [], map, ◌↔◌, ◌*◌, ◌+◌, ◌<◌, ◌≤◌, ℕ, get_or, length}
use Rattle.std.proofs.Math.Option.{none, some}
use Rattle.drain.specs.declared.steps.Drain.{Drain}
use Rattle.drain.specs.declared.stopping.Flags.{Flags}
use Rattle.kernel.specs.declared.Kernel.{Kernel}
use Rattle.kernel.specs.declared.Outcome.{Outcome}
use Rattle.kernel.specs.Fields.{ask, is_sound, kernel_of, layout_of}
use Rattle.model.specs.declared.Error.{Error}
use Rattle.model.specs.declared.Phase.{Phase}
use Rattle.model.specs.declared.Step.{Step}
use Rattle.model.specs.declared.records.Node.{Node}
use Rattle.model.specs.Drain.{KernelInTurn, blank_step, commands, count, drain, is_restoring, must_leave, stopped}
use Rattle.model.specs.Kernels.{kernel_from}
use Rattle.model.specs.Layouts.{Sized, lay_out, tables_of}
use Rattle.model.specs.Lists.{padded}
use Rattle.model.specs.Observers.{cleanup_started, contains, phase}
use Rattle.model.specs.Records.{is_serving}
use Rattle.model.specs.Tables.{installed}
use Rattle.sizes.specs.Sizes.{STEPS, sizes}

-- no step of a kernel that is not sound
abbrev pub steps_of : Kernel → List Step
steps_of k = ask k [] drain

-- steps in the array, and how many they are
abbrev pub as_drain : List Step → Drain
as_drain ss = record { steps = padded STEPS blank_step ss; count = length ss }

-- 10 of a kernel that is not sound
abbrev pub drain_of : Kernel → Result Drain Error
drain_of k = ask k (Err Error.Damaged) (λ T. Ok (as_drain (drain T)))

-- the kernel that the drain's commands hand back, each on what the one before handed back; and how many they are
abbrev pub stopped_of : Kernel → Outcome ℕ
stopped_of k =
    record { kernel = kernel_of (kernel_from sizes (layout_of k) (commands (steps_of k))); answer = ask k (Err Error.Damaged) (λ T. Ok (length (drain T))) }

-- ---- the pass over the nodes

abbrev pub flags_of : List Node → Flags
flags_of ns = record { leaving = map must_leave ns; restoring = map is_restoring ns; serving = map is_serving ns }

-- ---- what is claimed of a sound kernel, in what its observers answer

pub record Stops (k : Kernel) : Type 0 where
  -- drain answers the steps, and stop how many they are
  pub steps : drain_of k ≡ Ok (as_drain (steps_of k))
  pub number : (stopped_of k).answer ≡ Ok (length (steps_of k))
  -- each command is done on the kernel that the earlier ones hand back
  pub in_turn : KernelInTurn sizes (layout_of k) (commands (steps_of k))
  -- no step stands twice, and there is none exactly if no component is installed
  pub once : (i j : ℕ) → i < j → j < length (steps_of k) → get_or (steps_of k) i blank_step ≡ get_or (steps_of k) j blank_step → ⊥
  pub empty : (steps_of k ≡ []) ↔ ((id : ℕ) → ask k false (λ T. installed T.nodes id) ≡ false)
  -- what the last one hands back: every node Inactive, every link record dead, and nothing else changed
  pub leaves : (stopped_of k).kernel ≡ kernel_of (lay_out sizes (stopped (tables_of (layout_of k))))
  -- on that kernel every present component is Inactive and none is restoring, and nothing is left to stop
  pub sound : is_sound (stopped_of k).kernel ≡ true
  pub inactive : (id : ℕ) → ask (stopped_of k).kernel false (λ T. contains T id) ≡ true → ask (stopped_of k).kernel none (λ T. phase T id) ≡ some Phase.Inactive
  pub restored : (id : ℕ) → ask (stopped_of k).kernel false (λ T. cleanup_started T id) ≡ false
  pub again : steps_of (stopped_of k).kernel ≡ []
  -- the leaves, the installed components that are restoring at first, and twice the other installed ones; they fit the array
  pub long : length (steps_of k) ≡ ask k 0 (λ T. count must_leave T + count is_restoring T + 2 * count is_serving T)
  pub fits : length (steps_of k) ≤ STEPS

-- whose arrays are as long as their type says
abbrev pub EveryKernelStops : Type 0
EveryKernelStops = (k : Kernel) → Sized sizes (layout_of k) → is_sound k ≡ true → Stops k
