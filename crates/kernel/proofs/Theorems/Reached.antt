-- The demands on kernel values, from the theorems about layouts of any sizes.
use Rattle.std.specs.Prelude.{IfOk, IsErr}
use Rattle.model.proofs.Logic.{List, ◌↔◌, ◌≡◌, ◌≤◌, ap, arith, length, none, refl, some, sym, true, ℕ}
use Rattle.kernel.specs.{Fields.layout_of, Reached.Binds, Reached.SameTargets, Reached.Demand1, Reached.Demand3, Reached.EpisodesKept, Reached.ObserversAgree, Reached.ReachedSound, Reached.SpaceAfterCompaction, declared.Kernel.Kernel}
use Rattle.model.specs.{Iteration.committed_of, Iteration.target_of, Lists.padded, Records.blank_binding, Resolution.Target, Resolution.target_list, declared.Binding.Binding}
use Rattle.results.specs.{Results.target_bindings}
use Rattle.model.proofs.{Laws.Booleans.clash, Laws.Lists.never, Laws.Lists.some_same, Theorems.Agreement.agree_exactly, Theorems.Agreement.committed-within, Theorems.Agreement.target-within, Theorems.Episodes.episode-rule, Theorems.Kernels.every_call_answered, Theorems.Kernels.iteration-rule, Theorems.Kernels.reached-sound, Theorems.Kernels.reached-undamaged, Theorems.Space.space_after_compaction}
use Rattle.sizes.specs.{Sizes.DECLARATIONS, Sizes.LINKS, Sizes.sizes}

pub demand-1 : Demand1
demand-1 k c = every_call_answered sizes (layout_of k) c

-- the iteration rule, of every list of the fourteen commands
pub demand-3 : Demand3
demand-3 cs id = iteration-rule sizes cs id

pub episodes-kept : EpisodesKept
episodes-kept cs id = episode-rule sizes cs id

-- ---- in what the observers return

target-whole : (t : Target) → ((bs : List Binding) → target_list t ≡ some bs → length bs ≤ DECLARATIONS) → IfOk (target_bindings t) (λ b. b.count ≤ DECLARATIONS)
target-whole (Target.bound bs) f = f bs refl
target-whole (Target.missing u) f = tt
target-whole Target.nothing f = tt

bound_agrees : (size : ℕ) (t : Target) (bs : List Binding) → Binds (target_bindings t) (padded size blank_binding bs) (length bs) ↔ (target_list t ≡ some bs)
bound_agrees size (Target.bound cs) bs = (λ w. ap some ((agree_exactly DECLARATIONS size cs bs).0 w), λ e. (agree_exactly DECLARATIONS size cs bs).1 (some_same e))
bound_agrees size (Target.missing u) bs = (λ w. absurd w, λ e. never bs e)
bound_agrees size Target.nothing bs = (λ w. absurd w, λ e. never bs e)

none_agrees : (t : Target) → IsErr (target_bindings t) ↔ (target_list t ≡ none)
none_agrees (Target.bound bs) = (λ w. clash true refl (sym w), λ e. never bs (sym e))
none_agrees (Target.missing u) = (λ w. refl, λ e. refl)
none_agrees Target.nothing = (λ w. refl, λ e. refl)

targets_agree : (t u : Target) → SameTargets (target_bindings t) (target_bindings u) ↔ (target_list t ≡ target_list u)
targets_agree t (Target.bound bs) = bound_agrees DECLARATIONS t bs
targets_agree t (Target.missing u) = none_agrees t
targets_agree t Target.nothing = none_agrees t

pub observers_agree : (k m : Kernel) (id : ℕ) → ObserversAgree k m id
observers_agree k m id = record {
  target-whole = target-whole (target_of sizes (layout_of k) id) (target-within sizes (layout_of k) id);
  committed-whole = committed-within sizes (layout_of m) id;
  targets = targets_agree (target_of sizes (layout_of k) id) (target_of sizes (layout_of m) id);
  committed = bound_agrees LINKS (target_of sizes (layout_of k) id) (committed_of sizes (layout_of m) id);
}

pub reached-kernels-sound : ReachedSound
reached-kernels-sound cs = (reached-sound sizes cs, reached-undamaged sizes cs)

pub space_on_kernels : SpaceAfterCompaction
space_on_kernels cs id r = space_after_compaction sizes (omega arith) cs id r
