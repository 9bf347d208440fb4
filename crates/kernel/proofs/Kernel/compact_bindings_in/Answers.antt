use Rattle.model.proofs.Logic.{arith, refl, rules}
use Rattle.kernel.specs.{Fields.layout_of}
use Rattle.kernel.proofs.{Laws.Arrays.sound_kernel, Laws.Edits.retained_within}
use Rattle.layouts.proofs.{Laws.Anew.Compacted, Laws.Anew.all-gone, Laws.Anew.all-kept, Laws.Anew.kept_read, Laws.Anew.links-anew, Laws.Anew.links-held, Laws.Sound.SoundKernel, Laws.Sound.laid}
use Rattle.model.specs.{Commands.settle, Commands.step, Kernels.asked, Kernels.commanded, Records.blank_link, Records.is_live, Refusals.first}
use Rattle.sizes.specs.{Sizes.sizes}
use Rattle.kernel.proofs.Kernel.compact_bindings_in.Goals as goal

pub overflow_sub-result : goal.overflow_sub-result
overflow_sub-result c =
    let split = c.split_at_mut-links.ensures in
    kept_read (retained_within {p = is_live} _ split.value split.front_len c.blank_link.ensures (c.retain-self.ensures is_live (search rules)))

pub returns-clause-does : goal.returns-clause-does
unfolding first asked commanded step settle
returns-clause-does c =
    let k = c.args.self.now in
    let K : SoundKernel sizes (layout_of k) = grind (arith, sound_kernel) in
    let split = c.split_at_mut-links.ensures in
    let read : Compacted is_live blank_link k.link_count k.links _ c.retain-self.result = retained_within _ split.value split.front_len c.blank_link.ensures (c.retain-self.ensures is_live (search rules)) in
    let left = links-anew K _ (all-kept read (links-held K) (laid K).links refl) in
    let gone = all-gone read (links-held K) (laid K).links refl in
    grind arith
