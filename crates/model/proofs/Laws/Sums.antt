-- Sums over the identities below a bound.
use Rattle.model.proofs.Logic.{◌+◌, ◌<◌, ◌≡◌, ◌≤◌, arith, cond, dec_lt, eq-eqb, eqb, ne_eqb, refl, suc, zero, ℕ, ℕ_discrete}

unfoldable pub sum_to : ℕ → (ℕ → ℕ) → ℕ
sum_to zero f = 0
sum_to (suc n) f = f n + sum_to n f

pub sum_mono : (n : ℕ) (f g : ℕ → ℕ) → ((i : ℕ) → f i ≤ g i) → sum_to n f ≤ sum_to n g
unfolding sum_to
sum_mono zero f g h = omega arith
sum_mono (suc n) f g h = omega (arith, h n, sum_mono n f g h)

pub sum_same : (n : ℕ) (f g : ℕ → ℕ) → ((i : ℕ) → i < n → f i ≡ g i) → sum_to n f ≡ sum_to n g
unfolding sum_to
sum_same zero f g h = refl
sum_same (suc n) f g h = omega (arith, h n (omega arith), sum_same n f g (λ i l. h i (omega arith)))

pub sum-zero : (n : ℕ) → sum_to n (λ i. 0) ≡ 0
unfolding sum_to
sum-zero zero = refl
sum-zero (suc n) = omega (arith, sum-zero n)

-- one of them more by x
abbrev pub plus : ℕ → ℕ → (ℕ → ℕ) → ℕ → ℕ
plus c x f i = cond (eqb c i) x 0 + f i

pub sum-at : (n c x : ℕ) (f : ℕ → ℕ) → c < n → sum_to n (plus c x f) ≡ x + sum_to n f
unfolding sum_to
sum-at zero c x f l = absurd (omega arith)
sum-at (suc n) c x f l = go (ℕ_discrete c n) (λ k. sum-at n c x f k)
  where
    go : Dec (c ≡ n) → (c < n → sum_to n (plus c x f) ≡ x + sum_to n f) → plus c x f n + sum_to n (plus c x f) ≡ x + (f n + sum_to n f)
    go (yes e) ih =
        let s : sum_to n (plus c x f) ≡ sum_to n f = sum_same n (plus c x f) f (λ i k. rw (ne_eqb c i (omega arith)) (omega arith)) in
        rw (s, eq-eqb c n e) (omega arith)
    go (no d) ih = rw (ne_eqb c n d) (omega (arith, ih (omega arith)))

pub sum-le : (n c x : ℕ) (f : ℕ → ℕ) → sum_to n (plus c x f) ≤ x + sum_to n f
sum-le n c x f = go (dec_lt c n)
  where
    go : Dec (c < n) → sum_to n (plus c x f) ≤ x + sum_to n f
    go (yes l) = omega (arith, sum-at n c x f l)
    go (no l) = omega (arith, sum_same n (plus c x f) f (λ i k. rw (ne_eqb c i (omega arith)) (omega arith)))
