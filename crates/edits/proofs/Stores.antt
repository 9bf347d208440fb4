-- A store more: what stands at other places still stands there.
use Rattle.std.proofs.Common.{◌≡◌, ◌∙◌, ◌||◌, ◌++◌, ◌∷◌, [], Bool, List, ℕ, false, refl, sym, true}
use Rattle.std.proofs.Math.ListN.{set}
use Rattle.std.proofs.lemmas.List.{get_or-set_other}
use Rattle.edits.specs.Kept.{SameBeside, among}
use Rattle.model.proofs.Logic.{eqb, eqb-false}
use Rattle.model.proofs.{Laws.Booleans.or_f_l, Laws.Booleans.or_f_r}

among-more : (is : List ℕ) (i j : ℕ) → among (is ++ (i ∷ [])) j ≡ among is j || eqb i j
among-more [] i j = go (eqb i j)
  where
    go : (b : Bool) → b || false ≡ false || b
    go true = refl
    go false = refl
among-more (k ∷ is) i j = go (eqb k j) (among (is ++ (i ∷ [])) j) (among is j) (eqb i j) (among-more is i j)
  where
    go : (b c d e : Bool) → c ≡ d || e → b || c ≡ (b || d) || e
    go true c d e h = refl
    go false c d e h = h

pub beside_next : {A : Type 0} (is : List ℕ) (i : ℕ) (xs ys : List A) (x : A) → SameBeside is xs ys → SameBeside (is ++ (i ∷ [])) xs (set ys i x)
beside_next is i xs ys x h j d w =
    let both : among is j || eqb i j ≡ false = sym (among-more is i j) ∙ w in
    get_or-set_other ys i j x d (λ e. eqb-false i j (or_f_r _ _ both) (sym e)) ∙ h j d (or_f_l _ _ both)
