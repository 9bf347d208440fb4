-- From tables to kernels: what a command hands back of a sound kernel is sound, and its tables and its reply are those of the step.
use Rattle.model.proofs.Logic.{◌≡◌, ap, false, true}
use Rattle.model.proofs.{Laws.Refusals.step-cases, Theorems.Commands.step-sound, Theorems.Kernels.asked-sound, Theorems.Kernels.commanded-accepted, Theorems.Kernels.commanded-refused, Theorems.Layouts.layout_sound, Theorems.Layouts.read_back, Theorems.Layouts.tables-sound}
use Rattle.model.specs.{Commands.Command, Commands.step, Kernels.Commanded, Kernels.commanded, Layouts.Layout, Layouts.sound_kernel, Layouts.tables_of, Refusals.accepted, Sizes.Sizes, Soundness.sound}

module _ (S : Sizes) (k : Layout) (c : Command) (h : sound_kernel S k ≡ true) where
  pub commanded-tables : tables_of (commanded S k c).kernel ≡ (step S (tables_of k) c).tables
  commanded-tables = step-cases (λ o. tables_of (commanded S k c).kernel ≡ o.tables) S (tables_of k) c
      (λ e f. ap (λ (o : Commanded). tables_of o.kernel) (commanded-refused S k c e h f))
      (λ p. rw (commanded-accepted S k c h p) (read_back S _))

  pub commanded-reply : (commanded S k c).reply ≡ (step S (tables_of k) c).reply
  unfolding commanded
  commanded-reply = asked-sound S k _ _ h

  -- wf after
  pub commanded-sound : sound_kernel S (commanded S k c).kernel ≡ true
  commanded-sound = step-cases (λ o. sound S o.tables ≡ true → sound_kernel S (commanded S k c).kernel ≡ true) S (tables_of k) c
      (λ e f q. rw (commanded-refused S k c e h f) h)
      (λ p q. rw (commanded-accepted S k c h p) (layout_sound S _ q))
      (step-sound S (tables_of k) c (tables-sound S k h))

-- unchanged, of any kernel
pub refused-kernel : (S : Sizes) (k : Layout) (c : Command) → accepted (commanded S k c).reply ≡ false → (commanded S k c).kernel ≡ k
unfolding commanded
refused-kernel S k c q = rw q
