-- The claims: of the drain of sound tables, and of that of a sound kernel.
use Rattle.model.proofs.Logic.{List, [], ◌∙◌, ◌∷◌, ◌≡◌, ap, subst, true}
use Rattle.model.specs.{Commands.Command, Commands.step, Drain.DrainRule, Drain.InTurn, Drain.KernelDrainRule, Drain.KernelInTurn, Drain.commands, Drain.drain, Drain.stopped, Kernels.kernel_from, Layouts.Layout, Layouts.lay_out, Layouts.tables_of, Sizes.Sizes, Soundness.sound, Tables.Tables}
use Rattle.model.proofs.{Theorems.Commands.step-sound, Theorems.Drain.Kept.drain-stops, Theorems.Drain.Once.drain-once, Theorems.Drain.Whole.drain-accepted, Theorems.Drain.Whole.drain-bound, Theorems.Drain.Whole.drain-inactive, Theorems.Drain.Whole.drain-long, Theorems.Drain.Whole.drain-restored, Theorems.Drain.Whole.drain-run, Theorems.Kernels.commanded-of, Theorems.Kernels.kernel-run, Theorems.Layouts.laid_out, Theorems.Layouts.tables-sound}

pub drain-rule : DrainRule
drain-rule S T h = record {
  in_turn = drain-accepted S T h;
  stops = drain-stops S T h;
  inactive = drain-inactive S T h;
  restored = drain-restored S T h;
  once = drain-once S T h;
  long = drain-long S T h;
  bound = drain-bound S T h;
}

-- what is done in turn on tables is so on their kernel
pub kernel-in-turn : (S : Sizes) (T : Tables) (cs : List Command) → sound S T ≡ true → InTurn S T cs → KernelInTurn S (lay_out S T) cs
kernel-in-turn S T [] h p = tt
kernel-in-turn S T (c ∷ cs) h p = rw (commanded-of S T h c) (p.0, kernel-in-turn S (step S T c).tables cs (step-sound S T c h) p.1)

pub kernel-drain : KernelDrainRule
kernel-drain S k a h =
    let T : Tables = tables_of k in
    let t : sound S T ≡ true = tables-sound S k h in
    let cs : List Command = commands (drain T) in
    let left : kernel_from S (lay_out S T) cs ≡ lay_out S (stopped T) = kernel-run S T cs t ∙ ap (lay_out S) (drain-run S T t ∙ drain-stops S T t) in
    subst (λ (m : Layout). KernelInTurn S m cs × (kernel_from S m cs ≡ lay_out S (stopped T))) (laid_out S k a h) (kernel-in-turn S T cs t (drain-accepted S T t), left)
