-- What the tests on lists say, by membership and by place.
use Rattle.model.proofs.Logic.{Bool, List, List-as-Memᴰ, List·Memᴰ·cases-cons, List·Memᴰ·head, List·Memᴰ·not-nil, List·Memᴰ·tail, Option, [], ◌++◌, ◌+◌, ◌<◌, ◌||◌, ◌∷◌, ◌≡◌, ◌≤◌, add-zero, ap, arith, cond, false, get_or, length, map, none, refl, set, some, suc, sym, true, true≢false, zero, ℕ, ⊎_elim}
use Rattle.model.proofs.{Laws.Booleans.and_i, Laws.Booleans.and_l, Laws.Booleans.and_r, Laws.Booleans.clash, Laws.Booleans.or_f_l, Laws.Booleans.or_f_r}
use Rattle.model.specs.{Lists.all, Lists.all_at, Lists.any, Lists.find, Lists.is_none, Lists.keep, Lists.onward, Points.Among, Points.At}

-- ---- membership

module _ {A : Type 0} where
  pub all_in : (p : A → Bool) {x : A} {xs : List A} → List-as-Memᴰ x xs → all p xs ≡ true → p x ≡ true
  all_in p (List·Memᴰ·head {x = y} {xs = ys} e) h = rw e (and_l (p y) (all p ys) h)
  all_in p (List·Memᴰ·tail {x = y} {xs = ys} m) h = all_in p m (and_r (p y) (all p ys) h)

  pub in_all : (p : A → Bool) (xs : List A) → ((x : A) → List-as-Memᴰ x xs → p x ≡ true) → all p xs ≡ true
  in_all p [] f = refl
  in_all p (x ∷ xs) f = and_i (p x) (all p xs) (f x (List·Memᴰ·head refl)) (in_all p xs (λ y m. f y (List·Memᴰ·tail m)))

  pub any-in : (p : A → Bool) (xs : List A) → any p xs ≡ true → (x : A) × List-as-Memᴰ x xs × (p x ≡ true)
  any-in p [] h = absurd (true≢false (sym h))
  any-in p (x ∷ xs) h = go (p x) refl (λ e. any-in p xs e)
    where
      go : (b : Bool) → p x ≡ b → (any p xs ≡ true → (y : A) × List-as-Memᴰ y xs × (p y ≡ true)) → (y : A) × List-as-Memᴰ y (x ∷ xs) × (p y ≡ true)
      go true e f = (x, List·Memᴰ·head refl, e)
      go false e f = let (y, m, q) = f (rw e at h) in (y, List·Memᴰ·tail m, q)

  pub in_any : (p : A → Bool) {x : A} {xs : List A} → List-as-Memᴰ x xs → p x ≡ true → any p xs ≡ true
  in_any p (List·Memᴰ·head {x = y} {xs = ys} e) h = rw (← e, h)
  in_any p (List·Memᴰ·tail {x = y} {xs = ys} m) h = rw (in_any p m h) (or_t (p y))
    where
      or_t : (b : Bool) → b || true ≡ true
      or_t true = refl
      or_t false = refl

  pub none_in : (p : A → Bool) {x : A} {xs : List A} → List-as-Memᴰ x xs → any p xs ≡ false → p x ≡ false
  none_in p (List·Memᴰ·head {x = y} {xs = ys} e) h = rw e (or_f_l (p y) (any p ys) h)
  none_in p (List·Memᴰ·tail {x = y} {xs = ys} m) h = none_in p m (or_f_r (p y) (any p ys) h)

  pub in_keep : (p : A → Bool) (xs : List A) {x : A} → List-as-Memᴰ x (keep p xs) → List-as-Memᴰ x xs × (p x ≡ true)
  in_keep p [] m = absurd (List·Memᴰ·not-nil m)
  in_keep p (y ∷ ys) {x} m = go (p y) refl (λ n. in_keep p ys n) m
    where
      go : (b : Bool) → p y ≡ b → (List-as-Memᴰ x (keep p ys) → List-as-Memᴰ x ys × (p x ≡ true)) → List-as-Memᴰ x (cond b (y ∷ keep p ys) (keep p ys)) → List-as-Memᴰ x (y ∷ ys) × (p x ≡ true)
      go true q f (List·Memᴰ·head e) = (List·Memᴰ·head e, rw (e, q))
      go true q f (List·Memᴰ·tail n) = let (k, r) = f n in (List·Memᴰ·tail k, r)
      go false q f n = let (k, r) = f n in (List·Memᴰ·tail k, r)

  pub keep-in : (p : A → Bool) {x : A} {xs : List A} → List-as-Memᴰ x xs → p x ≡ true → List-as-Memᴰ x (keep p xs)
  keep-in p {x = z} (List·Memᴰ·head {x = y} {xs = ys} e) h = rw (← e, h) (List·Memᴰ·head refl)
  keep-in p {x = z} (List·Memᴰ·tail {x = y} {xs = ys} m) h = go (p y) (keep-in p m h)
    where
      go : (b : Bool) → List-as-Memᴰ z (keep p ys) → List-as-Memᴰ z (cond b (y ∷ keep p ys) (keep p ys))
      go true n = List·Memᴰ·tail n
      go false n = n

  pub length-keep : (p : A → Bool) (xs : List A) → length (keep p xs) ≤ length xs
  length-keep p [] = omega arith
  length-keep p (x ∷ xs) = go (p x) (length-keep p xs)
    where
      go : (b : Bool) → length (keep p xs) ≤ length xs → length (cond b (x ∷ keep p xs) (keep p xs)) ≤ length (x ∷ xs)
      go true h = omega arith
      go false h = omega arith

  -- one that does not pass is not kept
  pub keep-drops : (p : A → Bool) {x : A} {xs : List A} → List-as-Memᴰ x xs → p x ≡ false → length (keep p xs) < length xs
  keep-drops p (List·Memᴰ·head {x = y} {xs = ys} e) h = rw (← e, h) (omega (arith, length-keep p ys))
  keep-drops p (List·Memᴰ·tail {x = y} {xs = ys} m) h = go (p y) (keep-drops p m h)
    where
      go : (b : Bool) → length (keep p ys) < length ys → length (cond b (y ∷ keep p ys) (keep p ys)) < length (y ∷ ys)
      go true l = omega arith
      go false l = omega arith

  -- an entry passes no more
  pub keep-less : (p : A → Bool) (d : A) (xs : List A) (k : ℕ) (y : A) → k < length xs → p (get_or xs k d) ≡ true → p y ≡ false → length (keep p xs) ≡ suc (length (keep p (set xs k y)))
  keep-less p d [] k y l a b = absurd (omega arith)
  keep-less p d (x ∷ xs) zero y l a b = rw (a, b)
  keep-less p d (x ∷ xs) (suc k) y l a b = go (p x) (keep p xs) (keep p (set xs k y)) (keep-less p d xs k y (omega arith) a b)
    where
      go : (b : Bool) (ys zs : List A) → length ys ≡ suc (length zs) → length (cond b (x ∷ ys) ys) ≡ suc (length (cond b (x ∷ zs) zs))
      go true ys zs e = omega arith
      go false ys zs e = e

  pub all_keep : (q p : A → Bool) (xs : List A) → all p xs ≡ true → all p (keep q xs) ≡ true
  all_keep q p xs h = in_all p (keep q xs) (λ x m. all_in p (in_keep q xs m).0 h)

-- none is no entry
pub never : {C : Type 0} {A : Type 0} (a : A) → ◌≡◌ {A = Option A} none (some a) → C
never a e = let z : ◌≡◌ {A = ℕ} 0 1 = cc in absurd (omega arith)

pub some_same : {A : Type 0} {a b : A} → some a ≡ some b → a ≡ b
some_same e = cc

-- the entry that find gives, and that none passes
module _ {A : Type 0} (p : A → Bool) where
  pub find-in : (xs : List A) {x : A} → find p xs ≡ some x → List-as-Memᴰ x xs × (p x ≡ true)
  unfolding find
  find-in [] e = never _ e
  find-in (y ∷ ys) {x} e = go (p y) refl e (find-in ys)
    where
      go : (b : Bool) → p y ≡ b → cond b (some y) (find p ys) ≡ some x → (find p ys ≡ some x → List-as-Memᴰ x ys × (p x ≡ true)) → List-as-Memᴰ x (y ∷ ys) × (p x ≡ true)
      go true h q f = let same : y ≡ x = some_same q in (List·Memᴰ·head (sym same), rw (← same) h)
      go false h q f = let (m, r) = f q in (List·Memᴰ·tail m, r)

  pub none_found : (xs : List A) {x : A} → find p xs ≡ none → List-as-Memᴰ x xs → p x ≡ false
  unfolding find
  none_found [] e m = absurd (List·Memᴰ·not-nil m)
  none_found (y ∷ ys) {x} e m = go (p y) refl e (none_found ys)
    where
      go : (b : Bool) → p y ≡ b → cond b (some y) (find p ys) ≡ none → (find p ys ≡ none → List-as-Memᴰ x ys → p x ≡ false) → p x ≡ false
      go true h q f = never _ (sym q)
      go false h q f = ⊎_elim (λ same. rw same h) (f q) (List·Memᴰ·cases-cons m)

-- two functions that agree on the entries
pub map_same : {A B : Type 0} {f g : A → B} (xs : List A) → ((x : A) → List-as-Memᴰ x xs → f x ≡ g x) → map f xs ≡ map g xs
map_same [] e = refl
map_same (x ∷ xs) e = λ i. e x (List·Memᴰ·head refl) i ∷ map_same xs (λ y m. e y (List·Memᴰ·tail m)) i

-- a test of what f gives: of the entries, or of the list that f makes of them
module _ {A B : Type 0} (f : A → B) (p : B → Bool) where
  pub any-map : (xs : List A) → any (λ x. p (f x)) xs ≡ any p (map f xs)
  any-map [] = refl
  any-map (x ∷ xs) = ap (λ (b : Bool). p (f x) || b) (any-map xs)

  pub keep-map : (xs : List A) → map f (keep (λ x. p (f x)) xs) ≡ keep p (map f xs)
  keep-map [] = refl
  keep-map (x ∷ xs) = go (p (f x)) (keep-map xs)
    where
      go : (b : Bool) → map f (keep (λ x. p (f x)) xs) ≡ keep p (map f xs) → map f (cond b (x ∷ keep (λ x. p (f x)) xs) (keep (λ x. p (f x)) xs)) ≡ cond b (f x ∷ keep p (map f xs)) (keep p (map f xs))
      go true ih = ap (λ (ys : List B). f x ∷ ys) ih
      go false ih = ih

pub in_map : {A B : Type 0} (f : A → B) (xs : List A) {y : B} → List-as-Memᴰ y (map f xs) → (x : A) × List-as-Memᴰ x xs × (y ≡ f x)
in_map {A = A} {B = B} f [] {y = y} m = elim m [ ]
in_map f (x ∷ xs) (List·Memᴰ·head e) = (x, List·Memᴰ·head refl, e)
in_map f (x ∷ xs) (List·Memᴰ·tail m) = let (z, n, e) = in_map f xs m in (z, List·Memᴰ·tail n, e)

pub map-in : {A B : Type 0} (f : A → B) {x : A} {xs : List A} → List-as-Memᴰ x xs → List-as-Memᴰ (f x) (map f xs)
map-in f (List·Memᴰ·head e) = List·Memᴰ·head (ap f e)
map-in f (List·Memᴰ·tail m) = List·Memᴰ·tail (map-in f m)

-- ---- places

module _ {A : Type 0} (f : ℕ → A → Bool) where
  pub all_at-at : (k : ℕ) (xs : List A) → all_at f k xs ≡ true → (i : ℕ) (d : A) → i < length xs → f (k + i) (get_or xs i d) ≡ true
  unfolding all_at
  all_at-at k [] h i d l = absurd (omega arith)
  all_at-at k (x ∷ xs) h zero d l = rw (add-zero k) (and_l (f k x) (all_at f (suc k) xs) h)
  all_at-at k (x ∷ xs) h (suc i) d l =
      let e : k + suc i ≡ suc k + i = omega arith in
      rw e (all_at-at (suc k) xs (and_r (f k x) (all_at f (suc k) xs) h) i d (omega arith))

  pub at-all_at : (k : ℕ) (xs : List A) (d : A) → ((i : ℕ) → i < length xs → f (k + i) (get_or xs i d) ≡ true) → all_at f k xs ≡ true
  unfolding all_at
  at-all_at k [] d h = refl
  at-all_at k (x ∷ xs) d h =
      let rest = at-all_at (suc k) xs d (λ i l. let e : suc k + i ≡ k + suc i = omega arith in rw e (h (suc i) (omega arith))) in
      and_i (f k x) (all_at f (suc k) xs) (rw (add-zero k) at (h 0 (omega arith))) rest

-- an entry has a place, and what stands at a place is an entry
module _ {A : Type 0} where
  pub in_at : {x : A} {xs : List A} → List-as-Memᴰ x xs → Among xs x
  in_at (List·Memᴰ·head {x = y} {xs = ys} e) = (0, (omega arith, sym e))
  in_at (List·Memᴰ·tail {x = y} {xs = ys} m) = let (i, a) = in_at m in (suc i, (omega (arith, a.0), a.1))

  -- below the length the default does not matter
  pub get_d_any : (xs : List A) (i : ℕ) (d e : A) → i < length xs → get_or xs i d ≡ get_or xs i e
  get_d_any [] i d e l = absurd (omega arith)
  get_d_any (x ∷ xs) zero d e l = refl
  get_d_any (x ∷ xs) (suc i) d e l = get_d_any xs i d e (omega arith)

  pub place_in : (xs : List A) (i : ℕ) (d : A) → i < length xs → List-as-Memᴰ (get_or xs i d) xs
  place_in [] i d l = absurd (omega arith)
  place_in (x ∷ xs) zero d l = List·Memᴰ·head refl
  place_in (x ∷ xs) (suc i) d l = List·Memᴰ·tail (place_in xs i d (omega arith))

  pub at_in : (xs : List A) (i : ℕ) (x : A) → At xs i x → List-as-Memᴰ x xs
  at_in xs i x a = rw a.1 at (place_in xs i x a.0)

module _ {A : Type 0} (f : A → A → Bool) where
  pub onward-at : (xs : List A) → onward f xs ≡ true → (i j : ℕ) (d e : A) → i ≤ j → j < length xs → f (get_or xs i d) (get_or xs j e) ≡ true
  unfolding onward
  onward-at [] h i j d e p l = absurd (omega arith)
  onward-at (x ∷ xs) h zero zero d e p l = and_l (f x x) (all (f x) xs) (and_l (all (f x) (x ∷ xs)) (onward f xs) h)
  onward-at (x ∷ xs) h zero (suc j) d e p l = all_in (f x) (place_in xs j e (omega arith)) (and_r (f x x) (all (f x) xs) (and_l (all (f x) (x ∷ xs)) (onward f xs) h))
  onward-at (x ∷ xs) h (suc i) zero d e p l = absurd (omega arith)
  onward-at (x ∷ xs) h (suc i) (suc j) d e p l = onward-at xs (and_r (all (f x) (x ∷ xs)) (onward f xs) h) i j d e (omega arith) (omega arith)

  pub at_onward : (xs : List A) → ((i j : ℕ) (x y : A) → At xs i x → At xs j y → i ≤ j → f x y ≡ true) → onward f xs ≡ true
  unfolding onward
  at_onward [] g = refl
  at_onward (x ∷ xs) g =
      let now = in_all (f x) (x ∷ xs) (λ y m. let (j, a) = in_at m in g 0 j x y (omega arith, refl) a (omega arith)) in
      let rest = at_onward xs (λ i j y z a b p. g (suc i) (suc j) y z (omega (arith, a.0), a.1) (omega (arith, b.0), b.1) (omega arith)) in
      and_i (all (f x) (x ∷ xs)) (onward f xs) now rest

pub is_some : {A : Type 0} (o : Option A) → is_none o ≡ false → (a : A) × (o ≡ some a)
is_some none h = clash true refl h
is_some (some a) h = (a, refl)

-- ---- lists kept in part

module _ {A : Type 0} where
  pub keep_append : (p : A → Bool) (xs ys : List A) → keep p (xs ++ ys) ≡ keep p xs ++ keep p ys
  keep_append p [] ys = refl
  keep_append p (x ∷ xs) ys = go (p x) (keep_append p xs ys)
    where
      go : (b : Bool) → keep p (xs ++ ys) ≡ keep p xs ++ keep p ys → cond b (x ∷ keep p (xs ++ ys)) (keep p (xs ++ ys)) ≡ cond b (x ∷ keep p xs) (keep p xs) ++ keep p ys
      go true e = ap (λ (zs : List A). x ∷ zs) e
      go false e = e

  pub keep-none : (p : A → Bool) (xs : List A) → ((x : A) → List-as-Memᴰ x xs → p x ≡ false) → keep p xs ≡ []
  keep-none p [] f = refl
  keep-none p (x ∷ xs) f = rw (f x (List·Memᴰ·head refl)) (keep-none p xs (λ y m. f y (List·Memᴰ·tail m)))

  -- a second keeping that drops nothing of the first
  pub keep-keep : (p q : A → Bool) (xs : List A) → ((x : A) → p x ≡ true → q x ≡ true) → keep p (keep q xs) ≡ keep p xs
  keep-keep p q [] f = refl
  keep-keep p q (x ∷ xs) f = go (q x) refl (p x) refl (keep-keep p q xs f)
    where
      go : (b : Bool) → q x ≡ b → (c : Bool) → p x ≡ c → keep p (keep q xs) ≡ keep p xs → keep p (cond b (x ∷ keep q xs) (keep q xs)) ≡ cond c (x ∷ keep p xs) (keep p xs)
      go true e true d ih = rw d (ap (λ (zs : List A). x ∷ zs) ih)
      go true e false d ih = rw d ih
      go false e true d ih = clash (q x) (f x d) e
      go false e false d ih = ih
