-- Link space: on a reached kernel a begin refused for link space is accepted after compact_bindings.
use Rattle.std.specs.Prelude.{◌≡◌, List, ◌≤◌, ℕ}
use Rattle.std.proofs.Math.Option.{none, some}
use Rattle.model.specs.declared.Error.{Error}
use Rattle.model.specs.Commands.{Command}
use Rattle.model.specs.Kernels.{asked, commanded, reached}
use Rattle.model.specs.Layouts.{Layout}
use Rattle.model.specs.Observers.{episode_generation}
use Rattle.model.specs.Refusals.{Reply}
use Rattle.model.specs.Sizes.{Sizes, last_generation}

-- begin gives 9, and not for its generation
abbrev pub RefusedForSpace : Sizes → Layout → ℕ → Type 0
RefusedForSpace S k id = ((commanded S k (Command.begin id)).reply ≡ Reply.refused Error.Capacity) × (asked S k none (λ T. episode_generation T id) ≡ some last_generation → ⊥)

-- compact_bindings, and then begin is accepted
abbrev pub BegunAfterCompaction : Sizes → Layout → ℕ → Type 0
BegunAfterCompaction S k id = (commanded S (commanded S k Command.compact_bindings).kernel (Command.begin id)).reply ≡ Reply.done

-- it needs as many links as declarations among the sizes
abbrev pub SpaceAfterCompaction : Type 0
SpaceAfterCompaction = (S : Sizes) → S.declarations ≤ S.links → (cs : List Command) (id : ℕ) → RefusedForSpace S (reached S cs) id → BegunAfterCompaction S (reached S cs) id
