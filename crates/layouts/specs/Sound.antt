-- A sound kernel as one value: arrays as long as the sizes, and the rules' soundness. Every law of a sound kernel takes it.
use Rattle.std.specs.Prelude.{◌≡◌, true}
use Rattle.model.specs.Layouts.{Layout, Sized, sound_kernel}
use Rattle.model.specs.Sizes.{Sizes}

pub record SoundKernel (S : Sizes) (k : Layout) : Type 0 where
  pub sized : Sized S k
  pub sound : sound_kernel S k ≡ true
