use Rattle.model.proofs.Logic.{Bool, arith, refl, rules, ap, ◌∙◌, ◌≡◌, ℕ}
use Rattle.kernel.specs.{Fields.layout_of, Ports.declarations_kept}
use Rattle.kernel.proofs.{Laws.Arrays.declarations_counted, Laws.Arrays.declarations_read, Laws.Arrays.sound_kernel, Laws.Edits.kept_within, Laws.Edits.kept_declarations}
use Rattle.layouts.proofs.{Laws.Sound.SoundKernel, Laws.Sound.nodes-flagged}
use Rattle.loops.specs.{Columns.flag}
use Rattle.model.specs.{Commands.settle, Commands.step, Kernels.asked, Kernels.commanded, Layouts.tables_of, Records.owner_in, Refusals.first, Tables.present, declared.records.Declaration.Declaration}
use Rattle.scans.specs.{declared.NodeFlags.NodeFlags}
use Rattle.sizes.specs.{Sizes.IDENTITIES, Sizes.sizes}
use Rattle.kernel.proofs.Kernel.compact_declarations_in.Goals as goal

pub overflow_sub-result : goal.overflow_sub-result
overflow_sub-result c =
    let p : Declaration → Bool = λ d. flag IDENTITIES c.node_flags-flags.result.present (owner_in d) in
    let e : c.keep_declarations.new.self ≡ declarations_kept p c.args.self.now = c.keep_declarations.ensures p (search rules) in
    grind (arith, kept_within)

pub returns-clause-does : goal.returns-clause-does
unfolding first asked commanded step settle
returns-clause-does c =
    let k = c.args.self.now in
    let K : SoundKernel sizes (layout_of k) = grind (arith, sound_kernel) in
    let here : ℕ → Bool = present (tables_of (layout_of k)).nodes in
    let flagged : flag IDENTITIES c.node_flags-flags.result.present ≡ here = ap (λ (x : NodeFlags). flag IDENTITIES x.present) c.node_flags-flags.ensures ∙ nodes-flagged K (λ n. n.present) refl in
    let p : Declaration → Bool = λ d. here (owner_in d) in
    let e : c.keep_declarations.new.self ≡ declarations_kept p k = c.keep_declarations.ensures p (λ d r a. let s : r ≡ flag IDENTITIES c.node_flags-flags.result.present (owner_in d) = search rules in s ∙ ap (λ (F : ℕ → Bool). F (owner_in d)) flagged) in
    grind (arith, sound_kernel, declarations_counted, declarations_read, kept_declarations)
