-- The entry test, piece by piece: a piece that fails fails the whole, and the pieces together are the whole.
use Rattle.model.proofs.Logic.{Bool, ◌≡◌, and-true, false, refl, true}
use Rattle.model.proofs.{Laws.Booleans.Each, Laws.Booleans.and_l, Laws.Booleans.and_r, Laws.Booleans.clash, Laws.Booleans.each, Laws.Booleans.of_each}
use Rattle.model.specs.{Layouts.Layout, Layouts.layout_tests, Layouts.sound_kernel, Layouts.tables_of, Lists.conj, Sizes.Sizes, Soundness.coverage, Soundness.every_point, Soundness.safety_tests, Soundness.safety_wf, Soundness.stored_tests, Soundness.stored_wf, Soundness.wf}

pub refuted : (b : Bool) → (b ≡ true → ⊥) → b ≡ false
refuted true f = absurd (f refl)
refuted false f = refl

-- what a sound kernel's pieces are
pub record Pieces (S : Sizes) (k : Layout) : Type 0 where
  pub layout : Each (layout_tests S k)
  pub safety : Each (safety_tests (tables_of k))
  pub covers : coverage (tables_of k) ≡ true
  pub stored : Each (stored_tests (tables_of k))

pub pieces : (S : Sizes) (k : Layout) → sound_kernel S k ≡ true → Pieces S k
unfolding sound_kernel every_point wf safety_wf stored_wf
pieces S k h =
    let T = tables_of k in
    let p : every_point T ≡ true = and_r (conj (layout_tests S k)) _ h in
    let w : wf T ≡ true = and_l (wf T) _ p in
    record {
      layout = each (layout_tests S k) (and_l (conj (layout_tests S k)) _ h);
      safety = each (safety_tests T) (and_l (safety_wf T) _ w);
      covers = and_r (safety_wf T) _ w;
      stored = each (stored_tests T) (and_r (wf T) _ p);
    }

-- a piece that is false
pub unsound-by : (S : Sizes) (k : Layout) (b : Bool) → b ≡ false → (Pieces S k → b ≡ true) → sound_kernel S k ≡ false
unsound-by S k b e f = refuted (sound_kernel S k) (λ h. clash {A = ⊥} b (f (pieces S k h)) e)

-- all pieces but the coverage: what is left is that
pub sound-rest : (S : Sizes) (k : Layout) → Each (layout_tests S k) → Each (safety_tests (tables_of k)) → Each (stored_tests (tables_of k)) → sound_kernel S k ≡ coverage (tables_of k)
unfolding sound_kernel every_point wf safety_wf stored_wf
sound-rest S k l s t = rw (of_each (layout_tests S k) l, of_each (safety_tests (tables_of k)) s, of_each (stored_tests (tables_of k)) t) (and-true (coverage (tables_of k)))
