-- What target answers without a target is what is missing, of which the theorems about the definitions speak.
use Rattle.std.specs.Prelude.{Err, Option as CodeOption}
use Rattle.model.proofs.Logic.{arith, ◌≡◌, ℕ}
use Rattle.model.specs.{Resolution.Target, Resolution.missing_of, declared.Unresolved.Unresolved}
use Rattle.results.specs.{Results.target_bindings}

pub missing-is : (t : Target) (o : CodeOption Unresolved) → target_bindings t ≡ Err o → missing_of t ≡ o
missing-is (Target.bound bs) o h = let f : ◌≡◌ {A = ℕ} 0 1 = cc in absurd (omega arith)
missing-is (Target.missing u) o h = cc
missing-is Target.nothing o h = cc
