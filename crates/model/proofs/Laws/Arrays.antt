-- A table in an array: reads, stores, and the blanks behind it.
use Rattle.model.proofs.Logic.{Bool, List, List·getD-eq-default, [], ◌++◌, ◌+◌, ◌-◌, ◌<◌, ◌∙◌, ◌∷◌, ◌≡◌, ◌≤◌, ap, append_snoc, arith, dec_lt, drop, drop-append_seam, false, get_or, get_or-replicate, length, length-append, length-drop, length-replicate, length-set, length-take-le, map, refl, replicate, set, set-append_left, set-append_seam, suc, sym, take, take-append-drop, take-append_seam, true, zero, ℕ}
use Rattle.model.proofs.{Laws.Booleans.and_i, Laws.Booleans.and_l, Laws.Booleans.and_r}
use Rattle.model.specs.{Lists.all, Lists.padded, Lists.places}

module _ {A : Type 0} where
  pub length-padded : (n : ℕ) (d : A) (xs : List A) → length xs ≤ n → length (padded n d xs) ≡ n
  unfolding padded
  length-padded n d xs l = rw (length-append xs (replicate (n - length xs) d), length-replicate (n - length xs) d) (omega arith)

  pub take-most : (n : ℕ) (xs : List A) → length (take n xs) ≤ n
  take-most zero xs = omega arith
  take-most (suc n) [] = omega arith
  take-most (suc n) (x ∷ xs) = omega (arith, take-most n xs)

  pub take-padded : (n : ℕ) (d : A) (xs : List A) → take (length xs) (padded n d xs) ≡ xs
  unfolding padded
  take-padded n d xs = take-append_seam xs (replicate (n - length xs) d)

  -- a read needs no bound: past the table it is blank, and so is the read past a list
  pub get_d_padded : (n : ℕ) (d : A) (xs : List A) (i : ℕ) → get_or (padded n d xs) i d ≡ get_or xs i d
  unfolding padded
  get_d_padded n d [] i = go (dec_lt i n)
    where
      go : Dec (i < n) → get_or (replicate (n - 0) d) i d ≡ d
      go (yes l) = get_or-replicate (n - 0) i d d (omega arith)
      go (no l) = List·getD-eq-default (replicate (n - 0) d) d {n = i} (rw (length-replicate (n - 0) d) (omega arith))
  get_d_padded n d (x ∷ xs) zero = refl
  get_d_padded n d (x ∷ xs) (suc i) = let e : n - suc (length xs) ≡ (n - 1) - length xs = omega arith in rw e (get_d_padded (n - 1) d xs i)

  pub set-padded : (n : ℕ) (d : A) (xs : List A) (i : ℕ) (v : A) → i < length xs → set (padded n d xs) i v ≡ padded n d (set xs i v)
  unfolding padded
  set-padded n d xs i v l = rw (length-set xs i v) (set-append_left xs (replicate (n - length xs) d) i v l)

  pub snoc_padded : (n : ℕ) (d : A) (xs : List A) (v : A) → length xs < n → set (padded n d xs) (length xs) v ≡ padded n d (xs ++ (v ∷ []))
  unfolding padded
  snoc_padded n d xs v l =
      let e : n - length xs ≡ suc (n - suc (length xs)) = omega arith in
      let f : n - (length xs + 1) ≡ n - suc (length xs) = omega arith in
      rw (length-append xs (v ∷ []), f, e) (set-append_seam xs d (replicate (n - suc (length xs)) d) v ∙ sym (append_snoc xs v (replicate (n - suc (length xs)) d)))

  -- an array whose rest is blank is its table, padded
  pub padded-take : (n c : ℕ) (d : A) (xs : List A) → length xs ≡ n → c ≤ n → drop c xs ≡ replicate (n - c) d → padded n d (take c xs) ≡ xs
  unfolding padded
  padded-take n c d xs e l h = rw (length-take-le c xs (omega arith), ← h) (take-append-drop c xs)

  pub blank_rest : (same : A → Bool) (d : A) → ((x : A) → same x ≡ true → x ≡ d) → (xs : List A) → all same xs ≡ true → xs ≡ replicate (length xs) d
  blank_rest same d f [] h = refl
  blank_rest same d f (x ∷ xs) h = let p : x ≡ d = f x (and_l (same x) (all same xs) h) in let q : xs ≡ replicate (length xs) d = blank_rest same d f xs (and_r (same x) (all same xs) h) in λ i. p i ∷ q i

  pub all_replicate : (same : A → Bool) (d : A) → same d ≡ true → (n : ℕ) → all same (replicate n d) ≡ true
  all_replicate same d h zero = refl
  all_replicate same d h (suc n) = and_i (same d) (all same (replicate n d)) h (all_replicate same d h n)

  pub rest-blank : (same : A → Bool) (d : A) → same d ≡ true → (n : ℕ) (xs : List A) → all same (drop (length xs) (padded n d xs)) ≡ true
  unfolding padded
  rest-blank same d h n xs = rw (drop-append_seam xs (replicate (n - length xs) d)) (all_replicate same d h (n - length xs))

  -- an array whose rest passes a test that only the blank passes
  pub whole-array : (same : A → Bool) (d : A) → ((x : A) → same x ≡ true → x ≡ d) → (n c : ℕ) (xs : List A) → length xs ≡ n → c ≤ n → all same (drop c xs) ≡ true → padded n d (take c xs) ≡ xs
  whole-array same d f n c xs e l h = padded-take n c d xs e l (blank_rest same d f (drop c xs) h ∙ ap (λ (m : ℕ). replicate m d) (length-drop c xs ∙ ap (λ (m : ℕ). m - c) e))

-- ---- places

pub places-map : {A : Type 0} (f : A → Bool) (i : ℕ) (xs : List A) → places (λ b. b) i (map f xs) ≡ places f i xs
unfolding places
places-map f i [] = refl
places-map f i (x ∷ xs) = let ih : places (λ b. b) (suc i) (map f xs) ≡ places f (suc i) xs = places-map f (suc i) xs in rw ih

places-none : {A : Type 0} (f : A → Bool) (d : A) → f d ≡ false → (i n : ℕ) → places f i (replicate n d) ≡ []
unfolding places
places-none f d e i zero = refl
places-none f d e i (suc n) = rw e (places-none f d e (suc i) n)

-- blanks that fail the test have no place
pub places-padded : {A : Type 0} (f : A → Bool) (i n : ℕ) (d : A) → f d ≡ false → (xs : List A) → places f i (padded n d xs) ≡ places f i xs
unfolding padded places
places-padded f i n d e [] = places-none f d e i (n - 0)
places-padded {A} f i n d e (x ∷ xs) =
    let g : n - suc (length xs) ≡ (n - 1) - length xs = omega arith in
    rw (g, places-padded f (suc i) (n - 1) d e xs)
