-- Lists of identities that ascend: the places that pass a test; what is kept of such a list; and that its members tell the list.
use Rattle.model.proofs.Logic.{Bool, List, List-as-Memᴰ, List·Memᴰ·head, List·Memᴰ·not-nil, List·Memᴰ·tail, Memᴰ·cast, [], ◌+◌, ◌<◌, ◌↔◌, ◌∷◌, ◌≡◌, ◌≤◌, arith, cond, eq-eqb, eqb, false, get_or, length, ne_eqb, not, refl, suc, true, zero, ℕ}
use Rattle.model.specs.{Lists.keep, Lists.places}
use Rattle.model.proofs.{Laws.Booleans.f_not, Laws.Lists.keep-drops, Laws.Lists.keep-in, Laws.Lists.place_in}

module _ {A : Type 0} (p : A → Bool) where
  -- i is the number of a place that passes, counted from k
  abbrev pub Placed : ℕ → List A → ℕ → Type 0
  Placed k xs i = (j : ℕ) × (i ≡ k + j) × (j < length xs) × ((d : A) → p (get_or xs j d) ≡ true)

  pub places-at : (k : ℕ) (xs : List A) (i : ℕ) → List-as-Memᴰ i (places p k xs) → Placed k xs i
  unfolding places
  places-at k [] i m = absurd (List·Memᴰ·not-nil m)
  places-at k (x ∷ xs) i m = go (p x) refl m (λ n. places-at (suc k) xs i n)
    where
      on : Placed (suc k) xs i → Placed k (x ∷ xs) i
      on (j, e, l, h) = (suc j, omega arith, omega arith, h)

      go : (b : Bool) → p x ≡ b → List-as-Memᴰ i (cond b (k ∷ places p (suc k) xs) (places p (suc k) xs)) → (List-as-Memᴰ i (places p (suc k) xs) → Placed (suc k) xs i) → Placed k (x ∷ xs) i
      go true e (List·Memᴰ·head q) f = (0, omega arith, omega arith, λ d. e)
      go true e (List·Memᴰ·tail n) f = on (f n)
      go false e n f = on (f n)

  pub at_places : (k : ℕ) (xs : List A) (j : ℕ) (d : A) → j < length xs → p (get_or xs j d) ≡ true → List-as-Memᴰ (k + j) (places p k xs)
  unfolding places
  at_places k [] j d l h = absurd (omega arith)
  at_places k (x ∷ xs) zero d l h = let e : k + 0 ≡ k = omega arith in rw h (List·Memᴰ·head e)
  at_places k (x ∷ xs) (suc j) d l h =
      let e : k + suc j ≡ suc k + j = omega arith in
      go (p x) (Memᴰ·cast e (at_places (suc k) xs j d (omega arith) h))
    where
      go : (b : Bool) → List-as-Memᴰ (k + suc j) (places p (suc k) xs) → List-as-Memᴰ (k + suc j) (cond b (k ∷ places p (suc k) xs) (places p (suc k) xs))
      go true m = List·Memᴰ·tail m
      go false m = m

-- each entry at least i and greater than the one before it
abbrev pub Ascending : ℕ → List ℕ → Type 0
Ascending i [] = Unit {0}
Ascending i (x ∷ xs) = (i ≤ x) × Ascending (suc x) xs

ascending_lower : (i j : ℕ) (xs : List ℕ) → i ≤ j → Ascending j xs → Ascending i xs
ascending_lower i j [] l h = tt
ascending_lower i j (x ∷ xs) l h = (omega (arith, h.0), h.1)

pub places-ascend : {A : Type 0} (p : A → Bool) (k : ℕ) (xs : List A) → Ascending k (places p k xs)
unfolding places
places-ascend p k [] = tt
places-ascend p k (x ∷ xs) = go (p x) (places-ascend p (suc k) xs)
  where
    go : (b : Bool) → Ascending (suc k) (places p (suc k) xs) → Ascending k (cond b (k ∷ places p (suc k) xs) (places p (suc k) xs))
    go true h = (omega arith, h)
    go false h = ascending_lower k (suc k) (places p (suc k) xs) (omega arith) h

pub ascending_keep : (p : ℕ → Bool) (i : ℕ) (xs : List ℕ) → Ascending i xs → Ascending i (keep p xs)
ascending_keep p i [] h = tt
ascending_keep p i (x ∷ xs) h = go (p x) (ascending_keep p (suc x) xs h.1)
  where
    go : (b : Bool) → Ascending (suc x) (keep p xs) → Ascending i (cond b (x ∷ keep p xs) (keep p xs))
    go true k = (h.0, k)
    go false k = ascending_lower i (suc x) (keep p xs) (omega (arith, h.0)) k

pub ascending_above : (i : ℕ) (xs : List ℕ) (x : ℕ) → Ascending i xs → List-as-Memᴰ x xs → i ≤ x
ascending_above i [] x h m = elim m [ ]
ascending_above i (y ∷ ys) x h (List·Memᴰ·head e) = omega (arith, h.0)
ascending_above i (y ∷ ys) x h (List·Memᴰ·tail m) = omega (arith, h.0, ascending_above (suc y) ys x h.1 m)

-- by place
pub ascending_at : (i : ℕ) (xs : List ℕ) → Ascending i xs → (a b : ℕ) → a < b → b < length xs → get_or xs a 0 < get_or xs b 0
ascending_at i [] h a b l k = absurd (omega arith)
ascending_at i (x ∷ xs) h zero zero l k = absurd (omega arith)
ascending_at i (x ∷ xs) h zero (suc b) l k = ascending_above (suc x) xs _ h.1 (place_in xs b 0 (omega arith))
ascending_at i (x ∷ xs) h (suc a) zero l k = absurd (omega arith)
ascending_at i (x ∷ xs) h (suc a) (suc b) l k = ascending_at (suc x) xs h.1 a b (omega arith) (omega arith)

-- its members tell it
pub ascending_same : (i j : ℕ) (xs ys : List ℕ) → Ascending i xs → Ascending j ys → ((z : ℕ) → List-as-Memᴰ z xs ↔ List-as-Memᴰ z ys) → xs ≡ ys
ascending_same i j [] [] h k f = refl
ascending_same i j [] (y ∷ ys) h k f = absurd (List·Memᴰ·not-nil ((f y).1 (List·Memᴰ·head refl)))
ascending_same i j (x ∷ xs) [] h k f = absurd (List·Memᴰ·not-nil ((f x).0 (List·Memᴰ·head refl)))
ascending_same i j (x ∷ xs) (y ∷ ys) h k f =
    let a : y ≤ x = ascending_above y (y ∷ ys) x (omega arith, k.1) ((f x).0 (List·Memᴰ·head refl)) in
    let b : x ≤ y = ascending_above x (x ∷ xs) y (omega arith, h.1) ((f y).1 (List·Memᴰ·head refl)) in
    let e : x ≡ y = omega (arith, a, b) in
    let forth : (z : ℕ) → List-as-Memᴰ z xs → List-as-Memᴰ z ys = λ z m. later z y ys (omega (arith, e, ascending_above (suc x) xs z h.1 m)) ((f z).0 (List·Memᴰ·tail m)) in
    let back : (z : ℕ) → List-as-Memᴰ z ys → List-as-Memᴰ z xs = λ z m. later z x xs (omega (arith, e, ascending_above (suc y) ys z k.1 m)) ((f z).1 (List·Memᴰ·tail m)) in
    let rest : xs ≡ ys = ascending_same (suc x) (suc y) xs ys h.1 k.1 (λ z. (forth z, back z)) in
    λ t. e t ∷ rest t
  where
    later : (z w : ℕ) (ws : List ℕ) → w < z → List-as-Memᴰ z (w ∷ ws) → List-as-Memᴰ z ws
    later z w ws l (List·Memᴰ·head p) = absurd (omega arith)
    later z w ws l (List·Memᴰ·tail m) = m

-- no more of them than of what they are found in
pub ascending-few :
    {A : Type 0} (f : A → ℕ) (i : ℕ) (xs : List ℕ) → Ascending i xs
    → (ys : List A) → ((x : ℕ) → List-as-Memᴰ x xs → (y : A) × List-as-Memᴰ y ys × (f y ≡ x)) → length xs ≤ length ys
ascending-few f i [] a ys g = omega arith
ascending-few {A} f i (x ∷ xs) a ys g =
    let (y, m, e) = g x (List·Memᴰ·head refl) in
    omega (
      arith,
      keep-drops other m (rw (eq-eqb _ _ e)),
      ascending-few f (suc x) xs a.1 (keep other ys) (λ z n.
          let (w, o, q) = g z (List·Memᴰ·tail n) in
          (w, keep-in other o (f_not _ (ne_eqb (f w) x (omega (arith, ascending_above (suc x) xs z a.1 n)))), q)),
    )
  where
    other : A → Bool
    other y = not (eqb (f y) x)
