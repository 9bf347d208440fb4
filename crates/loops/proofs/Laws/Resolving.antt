-- Bindings gathered before a target.
use Rattle.model.proofs.Logic.{List, [], ◌++◌, ◌∷◌, ◌≡◌, ap, append_snoc, refl, sym, ℕ}
use Rattle.model.specs.{Records.binding_of, Resolution.Target, Resolution.joined, declared.Binding.Binding, declared.Port.Port, declared.Resolution.Resolution}

-- ---- bind_ports over the dependencies of a component, with acc the bindings so far

-- the bindings so far and the rest, if the rest is bound
abbrev pub after : List Binding → Target → Target
after acc (Target.bound bs) = Target.bound (acc ++ bs)
after acc (Target.missing u) = Target.missing u
after acc Target.nothing = Target.nothing

pub after_nothing : (t : Target) → t ≡ after [] t
after_nothing (Target.bound bs) = refl
after_nothing (Target.missing u) = refl
after_nothing Target.nothing = refl

pub after-joined : (acc : List Binding) (p : Port) (o : ℕ) (t : Target) → after acc (joined p (Resolution.Provider o) t) ≡ after (acc ++ (binding_of p o ∷ [])) t
unfolding joined
after-joined acc p o (Target.bound bs) = ap Target.bound (sym (append_snoc acc (binding_of p o) bs))
after-joined acc p o (Target.missing u) = refl
after-joined acc p o Target.nothing = refl
