-- The demands on kernel values: the claims of the definitions, which are about layouts of any sizes, of the values and sizes of the code.
use Rattle.std.specs.Prelude.{◌≡◌, true, List, ◌↔◌, ◌≤◌, ℕ, IfOk, IsErr, IsOkAnd, MatchResult, Option as CodeOption, Result}
use Rattle.std.proofs.Math.Option.{Option, some}
use Rattle.kernel.specs.declared.Kernel.{Kernel}
use Rattle.model.specs.declared.Binding.{Binding}
use Rattle.model.specs.declared.Error.{Error}
use Rattle.model.specs.declared.Unresolved.{Unresolved}
use Rattle.kernel.specs.Fields.{is_sound, kernel_of, layout_of}
use Rattle.kernel.specs.Outcomes.{command}
use Rattle.model.specs.Commands.{Command}
use Rattle.model.specs.Episodes.{EpisodesAt, last_generations}
use Rattle.model.specs.Iteration.{Agree, RuleAt, committed_of, last, target_of}
use Rattle.model.specs.Kernels.{AnsweredAt, reached}
use Rattle.model.specs.Refusals.{Reply}
use Rattle.model.specs.Resolution.{target_list}
use Rattle.model.specs.Space.{BegunAfterCompaction, RefusedForSpace}
use Rattle.results.specs.declared.TargetBindings.{TargetBindings}
use Rattle.results.specs.Results.{committed_bindings, target_bindings}
use Rattle.sizes.specs.Sizes.{DECLARATIONS, LINKS, sizes}

-- demand 1: whatever the kernel and the command, 0 or one of the ten numbers, and with these the kernel as it was
abbrev pub Demand1 : Type 0
Demand1 = (k : Kernel) (c : Command) → AnsweredAt sizes (layout_of k) c

-- what a list of commands makes of the value of Kernel::new
abbrev pub reached_by : List Command → Kernel
reached_by cs = kernel_of (reached sizes cs)

-- what target gave on the kernel handed to the component's latest begin that was accepted
abbrev pub begun_by : List Command → ℕ → Option (List Binding)
begun_by cs id = last sizes cs id

-- demand 3: one claim about every list of commands, for every identity
abbrev pub Demand3 : Type 0
Demand3 = (cs : List Command) (id : ℕ) → RuleAt sizes (layout_of (reached_by cs)) id (begun_by cs id)

-- what the live links of a running component store: what its target's providers had at its latest accepted begin; one claim about every list of commands
abbrev pub EpisodesKept : Type 0
EpisodesKept = (cs : List Command) (id : ℕ) → EpisodesAt sizes (layout_of (reached_by cs)) id (last_generations sizes cs id)

-- what target answers, and what committed does
abbrev TargetAnswer : Type 0
TargetAnswer = Result TargetBindings (CodeOption Unresolved)

-- a target that agrees with these bindings in count and at each place
abbrev pub Binds : TargetAnswer → List Binding → ℕ → Type 0
Binds t bs n = IsOkAnd t (λ b. Agree b.bindings b.count bs n)

-- two targets that agree so, or none in both
abbrev pub SameTargets : TargetAnswer → TargetAnswer → Type 0
SameTargets t u = MatchResult u (λ b. Binds t b.bindings b.count) (λ _. IsErr t)

-- demand 3 in what the observers return, of an identity on two kernels (the one handed to begin, and the one now): nothing is cut,
-- and two answers agree in count and at each place exactly if the lists that demand 3 compares are equal
pub record ObserversAgree (k m : Kernel) (id : ℕ) : Type 0 where
  pub target-whole : IfOk (target_bindings (target_of sizes (layout_of k) id)) (λ b. b.count ≤ DECLARATIONS)
  pub committed-whole : (committed_bindings (committed_of sizes (layout_of m) id)).count ≤ LINKS
  pub targets :
      SameTargets (target_bindings (target_of sizes (layout_of k) id)) (target_bindings (target_of sizes (layout_of m) id))
      ↔ (target_list (target_of sizes (layout_of k) id) ≡ target_list (target_of sizes (layout_of m) id))
  pub committed :
      let c = committed_bindings (committed_of sizes (layout_of m) id) in
      Binds (target_bindings (target_of sizes (layout_of k) id)) c.bindings c.count ↔ (target_list (target_of sizes (layout_of k) id) ≡ some (committed_of sizes (layout_of m) id))

-- every reached kernel is sound, and no command on it answers 10
abbrev pub ReachedSound : Type 0
ReachedSound = (cs : List Command) → (is_sound (reached_by cs) ≡ true) × ((c : Command) → (command (reached_by cs) c).reply ≡ Reply.refused Error.Damaged → ⊥)

-- a begin that gives 9, and not for its generation, is done after compact_bindings
abbrev pub SpaceAfterCompaction : Type 0
SpaceAfterCompaction = (cs : List Command) (id : ℕ) → RefusedForSpace sizes (layout_of (reached_by cs)) id → BegunAfterCompaction sizes (layout_of (reached_by cs)) id
