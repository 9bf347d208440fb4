-- The lowest place that passes: what it says, and how a search finds it.
use Rattle.model.proofs.Logic.{Bool, ◌+◌, ◌<◌, ◌≡◌, ◌≤◌, ap, arith, cond, false, none, refl, some, suc, sym, true, zero, ℕ, ℕ_discrete}
use Rattle.model.specs.{Drain.lowest}
use Rattle.model.proofs.{Laws.Lists.never, Laws.Lists.some_same}

module _ (p : ℕ → Bool) where
  pub lowest-none : (n i : ℕ) → lowest p n i ≡ none → (j : ℕ) → i ≤ j → j < i + n → p j ≡ false
  unfolding lowest
  lowest-none zero i h j x y = absurd (omega arith)
  lowest-none (suc n) i h j x y = go (p i) refl (ℕ_discrete i j) (λ e l m. lowest-none n (suc i) e j l m)
    where
      go : (b : Bool) → p i ≡ b → Dec (i ≡ j) → (lowest p n (suc i) ≡ none → suc i ≤ j → j < suc i + n → p j ≡ false) → p j ≡ false
      go true e d ih = never _ (sym (rw e at h))
      go false e (yes d) ih = rw (← d) e
      go false e (no d) ih = ih (rw e at h) (omega arith) (omega arith)

  -- it passes, and no lower one does
  pub lowest-some : (n i k : ℕ) → lowest p n i ≡ some k → (p k ≡ true) × ((j : ℕ) → i ≤ j → j < k → p j ≡ false)
  unfolding lowest
  lowest-some zero i k h = never _ h
  lowest-some (suc n) i k h = go (p i) refl (λ e. lowest-some n (suc i) k e)
    where
      on : p i ≡ false → ((j : ℕ) → suc i ≤ j → j < k → p j ≡ false) → (j : ℕ) → Dec (i ≡ j) → i ≤ j → j < k → p j ≡ false
      on e f j (yes d) x y = rw (← d) e
      on e f j (no d) x y = f j (omega arith) y

      go : (b : Bool) → p i ≡ b → (lowest p n (suc i) ≡ some k → (p k ≡ true) × ((j : ℕ) → suc i ≤ j → j < k → p j ≡ false)) → (p k ≡ true) × ((j : ℕ) → i ≤ j → j < k → p j ≡ false)
      go true e ih = let d : i ≡ k = some_same (rw e at h) in (rw (← d) e, λ j x y. absurd (omega arith))
      go false e ih = let (a, f) = ih (rw e at h) in (a, λ j x y. on e f j (ℕ_discrete i j) x y)

  -- the first place that passes
  pub lowest-is : (n k i : ℕ) → k ≤ i → i < k + n → ((j : ℕ) → j < i → p j ≡ false) → p i ≡ true → lowest p n k ≡ some i
  unfolding lowest
  lowest-is zero k i a b f t = absurd (omega arith)
  lowest-is (suc n) k i a b f t = go (ℕ_discrete k i) (λ c d. lowest-is n (suc k) i c d f t)
    where
      go : Dec (k ≡ i) → (suc k ≤ i → i < suc k + n → lowest p n (suc k) ≡ some i) → cond (p k) (some k) (lowest p n (suc k)) ≡ some i
      go (yes e) g = rw (e, t)
      go (no e) g = rw (f k (omega arith)) (g (omega arith) (omega arith))

  pub lowest-nothing : (n k : ℕ) → ((j : ℕ) → j < k + n → p j ≡ false) → lowest p n k ≡ none
  unfolding lowest
  lowest-nothing zero k f = refl
  lowest-nothing (suc n) k f = rw (f k (omega arith)) (lowest-nothing n (suc k) (λ j l. f j (omega arith)))

  -- more places, none of which passes
  pub lowest-longer : (n m k : ℕ) → ((j : ℕ) → k + n ≤ j → p j ≡ false) → n ≤ m → lowest p m k ≡ lowest p n k
  unfolding lowest
  lowest-longer zero zero k f l = refl
  lowest-longer zero (suc m) k f l = rw (f k (omega arith)) (lowest-longer zero m (suc k) (λ j x. f j (omega arith)) (omega arith))
  lowest-longer (suc n) zero k f l = absurd (omega arith)
  lowest-longer (suc n) (suc m) k f l = ap (cond (p k) (some k)) (lowest-longer n m (suc k) (λ j x. f j (omega arith)) (omega arith))
