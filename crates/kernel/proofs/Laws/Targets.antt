-- A target, as the code answers it.
use Rattle.std.specs.Prelude.{Ok, Option as CodeOption, Result, is_ok}
use Rattle.model.proofs.Logic.{arith, ◌∙◌, ◌≡◌, ap, not, refl, sym, ℕ}
use Rattle.model.specs.{Lifecycle.bindings, Lists.is_none, Records.blank_binding, Resolution.Target, Resolution.target_list, declared.Unresolved.Unresolved}
use Rattle.results.specs.{Results.bound_bindings, Results.target_bindings, declared.TargetBindings.TargetBindings}
use Rattle.layouts.proofs.{Laws.Anew.Holds}
use Rattle.sizes.specs.{Sizes.DECLARATIONS}

-- what target answers
abbrev pub Answered : Type 0
Answered = Result TargetBindings (CodeOption Unresolved)

pub there_is : (r : Answered) (t : Target) → r ≡ target_bindings t → is_ok r ≡ not (is_none (target_list t))
there_is r t h = ap is_ok h ∙ go t
  where
    go : (u : Target) → is_ok (target_bindings u) ≡ not (is_none (target_list u))
    go (Target.bound bs) = refl
    go (Target.missing u) = refl
    go Target.nothing = refl

pub bindings-are : (b : TargetBindings) (t : Target) → Ok b ≡ target_bindings t → Holds DECLARATIONS blank_binding (bindings (target_list t)) b.bindings b.count
bindings-are b (Target.bound bs) h =
    let e : b ≡ bound_bindings bs = cc in
    record { entries = sym (ap (λ (x : TargetBindings). x.bindings) e); counted = sym (ap (λ (x : TargetBindings). x.count) e) }
bindings-are b (Target.missing u) h = let f : ◌≡◌ {A = ℕ} 0 1 = cc in absurd (omega arith)
bindings-are b Target.nothing h = let f : ◌≡◌ {A = ℕ} 0 1 = cc in absurd (omega arith)
