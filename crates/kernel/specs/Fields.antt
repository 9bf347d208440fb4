-- A kernel value and its six fields: the bridge to the definitions, which know kernels as layouts of any sizes.
use Rattle.std.specs.Prelude.{Bool}
use Rattle.kernel.specs.declared.Kernel.{Kernel}
use Rattle.model.specs.Kernels.{asked}
use Rattle.model.specs.Layouts.{Layout, sound_kernel}
use Rattle.model.specs.Tables.{Tables}
use Rattle.sizes.specs.Sizes.{sizes}

abbrev pub layout_of : Kernel → Layout
layout_of k = record { nodes = k.nodes; node_count = k.node_count; declarations = k.declarations; declaration_count = k.declaration_count; links = k.links; link_count = k.link_count }

abbrev pub kernel_of : Layout → Kernel
kernel_of k = record { nodes = k.nodes; node_count = k.node_count; declarations = k.declarations; declaration_count = k.declaration_count; links = k.links; link_count = k.link_count }

-- the rules' soundness of a kernel value
abbrev pub is_sound : Kernel → Bool
is_sound k = sound_kernel sizes (layout_of k)

-- an observer or a check of a kernel value: the answer on its tables if it is sound, else the one given
abbrev pub ask : {A : Type 0} → Kernel → A → (Tables → A) → A
ask k unsound f = asked sizes (layout_of k) unsound f
