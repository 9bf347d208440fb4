-- An array filled with a function of each entry of a list, up to a place and in all.
use Rattle.model.proofs.Logic.{List, ◌-◌, ◌∙◌, ◌∷◌, ◌≡◌, ap, length, length-map, map, map-append, refl, replicate, suc, take, zero, ℕ}
use Rattle.model.specs.{Lists.padded}

-- ---- a function of the entries of a list up to a place, and the blank value from there on

pub record Begun {A B : Type 0} (f : A → B) (b : B) (n : ℕ) (xs : List A) (i : ℕ) (col : List B) : Type 0 where
  pub holds : col ≡ padded n b (map f (take i xs))

-- ---- a function of every entry

map-blanks : {A B : Type 0} (f : A → B) (d : A) (n : ℕ) → map f (replicate n d) ≡ replicate n (f d)
map-blanks f d zero = refl
map-blanks f d (suc n) = ap (λ (ys : List _). f d ∷ ys) (map-blanks f d n)

-- of an array that is blank past its entries
pub map-padded : {A B : Type 0} (f : A → B) (d : A) {b : B} → f d ≡ b → (n : ℕ) (xs : List A) → map f (padded n d xs) ≡ padded n b (map f xs)
unfolding padded
map-padded f d t n xs = map-append f xs (replicate (n - length xs) d) ∙ rw (length-map xs f, map-blanks f d (n - length xs), t)
