-- A test that only what is kept can pass answers on that as on all.
use Rattle.model.proofs.Logic.{Bool, List, [], ◌||◌, ◌∷◌, ◌≡◌, ap, cond, false, refl, true}
use Rattle.model.specs.{Lists.any, Lists.keep}

module _ {A : Type 0} (q : A → Bool) where
  -- the first of a list is kept or not
  keep-cases : (P : List A → Type 0) (x : A) (xs : List A) → (q x ≡ true → P (x ∷ keep q xs)) → (q x ≡ false → P (keep q xs)) → P (keep q (x ∷ xs))
  keep-cases P x xs f g = go (q x) refl
    where
      go : (b : Bool) → q x ≡ b → P (cond b (x ∷ keep q xs) (keep q xs))
      go true e = f e
      go false e = g e

  pub any-kept : (p : A → Bool) → ((x : A) → q x ≡ false → p x ≡ false) → (xs : List A) → any p (keep q xs) ≡ any p xs
  any-kept p f [] = refl
  any-kept p f (x ∷ xs) = let ih : any p (keep q xs) ≡ any p xs = any-kept p f xs in keep-cases (λ ys. any p ys ≡ p x || any p xs) x xs (λ e. ap (λ (b : Bool). p x || b) ih) (λ e. rw (f x e) ih)
