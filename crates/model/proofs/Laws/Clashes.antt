-- Where the scan of a list stops, by places: at the first port that repeats one before it, or that has an owner.
use Rattle.model.proofs.Logic.{Bool, List, List·getD-append, [], ◌++◌, ◌+◌, ◌<◌, ◌↔◌, ◌∙◌, ◌∷◌, ◌≡◌, ◌⊎◌, add-zero, ap, append_assoc, arith, false, get_or-append_seam, inl, inr, length, length-append, none, refl, some, subst, suc, sym, true, zero, zero-add, ℕ, ℕ_discrete, ⊎_elim}
use Rattle.model.specs.{Explanation.First, Explanation.FirstRepeat, Explanation.NoRepeat, Explanation.clash_from, Explanation.clash_of, Explanation.or_next, Lists.any, Lists.find_at, Points.At, Records.binding_of, Records.port_of, Records.same_port, declared.Binding.Binding, declared.Port.Port, declared.Resolution.Resolution, declared.explanation.ListKind.ListKind, declared.explanation.Witness.Witness}
use Rattle.model.proofs.{Laws.Booleans.cases, Laws.Booleans.clash, Laws.Booleans.or_f_l, Laws.Facts.port-same, Laws.Facts.same_port_lem, Laws.Lists.at_in, Laws.Lists.get_d_any, Laws.Lists.none_in}

-- ---- the first entry that has a property

module _ {A : Type 0} (P : A → Type 0) where
  pub first_head : (x : A) (xs : List A) → P x → First P (x ∷ xs) 0 x
  first_head x xs p = ((omega arith, refl), p, λ j y l a q. absurd (omega arith))

  pub first_tail : (x : A) (xs : List A) (i : ℕ) (y : A) → (P x → ⊥) → First P xs i y → First P (x ∷ xs) (suc i) y
  first_tail x xs i y g f = ((omega (arith, f.0.0), f.0.1), f.1, go)
    where
      go : (j : ℕ) (z : A) → j < suc i → At (x ∷ xs) j z → P z → ⊥
      go zero z l a q = g (rw (sym a.1) at q)
      go (suc j) z l a q = f.2 j z (omega arith) (omega (arith, a.0), a.1) q

  -- of a property that says the same
  pub first-as : (Q : A → Type 0) (xs : List A) (i : ℕ) (x : A) → ((y : A) → P y ↔ Q y) → First P xs i x → First Q xs i x
  first-as Q xs i x f h = (h.0, (f x).0 h.1, λ j y l a q. h.2 j y l a ((f y).1 q))

module _ {A : Type 0} (p : A → Bool) where
  -- what find_at gives, counted from k
  abbrev Found : ℕ → List A → Type 0
  Found k xs = (i : ℕ) × (x : A) × (find_at p k xs ≡ some (k + i, x)) × First (λ y. p y ≡ true) xs i x

  found_from : (k : ℕ) (xs : List A) → any p xs ≡ true → Found k xs
  unfolding find_at
  found_from k [] h = clash true refl (sym h)
  found_from k (x ∷ xs) h = ⊎_elim here (λ e. later e (found_from (suc k) xs (rw e at h))) (cases (p x))
    where
      here : p x ≡ true → Found k (x ∷ xs)
      here e = (0, x, rw (e, add-zero k), first_head (λ y. p y ≡ true) x xs e)

      later : p x ≡ false → Found (suc k) xs → Found k (x ∷ xs)
      later e (i, y, q, g) =
          let s : suc k + i ≡ k + suc i = omega arith in
          (suc i, y, rw e (q ∙ ap (λ (n : ℕ). some (n, y)) s), first_tail (λ y. p y ≡ true) x xs i y (λ r. clash {A = ⊥} _ r e) g)

  -- it is the first entry that passes
  pub found_first : (xs : List A) → any p xs ≡ true → (i : ℕ) × (x : A) × (find_at p 0 xs ≡ some (i, x)) × First (λ y. p y ≡ true) xs i x
  found_first xs h = let (i, x, e, f) = found_from 0 xs h in (i, x, rw (zero-add i) at e, f)

  pub found_none : (k : ℕ) (xs : List A) → any p xs ≡ false → find_at p k xs ≡ none
  unfolding find_at
  found_none k [] h = refl
  found_none k (x ∷ xs) h = let e = or_f_l (p x) (any p xs) h in rw e (found_none (suc k) xs (rw e at h))

-- ---- places of a list in two parts

module _ {A : Type 0} where
  at_once : (xs : List A) (i : ℕ) (x y : A) → At xs i x → At xs i y → x ≡ y
  at_once xs i x y a b = sym a.1 ∙ get_d_any xs i x y a.0 ∙ b.1

  at_left : (xs ys : List A) (i : ℕ) (x : A) → At xs i x → At (xs ++ ys) i x
  at_left xs ys i x a = (rw (length-append xs ys) (omega (arith, a.0)), List·getD-append xs ys x i a.0 ∙ a.1)

  left_at : (xs ys : List A) (i : ℕ) (x : A) → i < length xs → At (xs ++ ys) i x → At xs i x
  left_at xs ys i x l a = (l, sym (List·getD-append xs ys x i l) ∙ a.1)

  at-seam : (xs : List A) (x : A) (ys : List A) → At (xs ++ (x ∷ ys)) (length xs) x
  at-seam xs x ys = (rw (length-append xs (x ∷ ys)) (omega arith), get_or-append_seam xs x ys x)

  -- what holds at each place below j, and at j
  up_to : (P : ℕ → A → Type 0) (xs : List A) (j : ℕ) (x : A) → At xs j x → P j x → ((k : ℕ) (y : A) → k < j → At xs k y → P k y) → (k : ℕ) (y : A) → k < suc j → At xs k y → P k y
  up_to P xs j x a h f k y l b = go (ℕ_discrete k j)
    where
      go : Dec (k ≡ j) → P k y
      go (yes e) = let z : y ≡ x = at_once xs j y x (rw e at b) a in rw (e, z) h
      go (no e) = f k y (omega arith) b

-- ---- the scan

-- looking up a port below place j finds no owner
abbrev pub Free : (Port → Resolution) → List Port → ℕ → Type 0
Free f ps j = (k : ℕ) (q : Port) → k < j → At ps k q → f q ≡ Resolution.NoOwner

-- the port at place j is that at place i
abbrev pub RepeatMet : ListKind → (Port → Resolution) → List Port → Witness → Type 0
RepeatMet s f ps w = (i : ℕ) × (j : ℕ) × (w ≡ Witness.Repeated (record { list = s; earlier = i; later = j })) × FirstRepeat ps i j × Free f ps j

-- the port at place j has an owner
abbrev pub ClashMet : (Port → Resolution) → List Port → Witness → Type 0
ClashMet f ps w = (b : Binding) × (j : ℕ) × (w ≡ Witness.Clash b) × At ps j (port_of b) × NoRepeat ps (suc j) × Free f ps j × (clash_of (port_of b) (f (port_of b)) ≡ Witness.Clash b)

-- nothing, or where the scan stopped
abbrev pub Scanned : ListKind → (Port → Resolution) → List Port → Witness → Type 0
Scanned s f ps w = (w ≡ Witness.Nothing) ⊎ RepeatMet s f ps w ⊎ ClashMet f ps w

module _ (s : ListKind) (f : Port → Resolution) (qs : List Port) where
  -- behind ports that were read, none of which repeats another or has an owner
  abbrev From : List Port → List Port → Type 0
  From es ps = NoRepeat qs (length es) → Free f qs (length es) → Scanned s f qs (clash_from s f es ps)

  -- at a port
  module _ (es : List Port) (p : Port) (ps : List Port) (e : es ++ (p ∷ ps) ≡ qs) where
    here : At qs (length es) p
    here = subst (λ (xs : List Port). At xs (length es) p) e (at-seam es p ps)

    among : (i : ℕ) → i < length es → At qs i p → At es i p
    among i l a = left_at es (p ∷ ps) i p l (subst (λ (xs : List Port). At xs i p) (sym e) a)

    repeated : any (same_port p) es ≡ true → From es (p ∷ ps)
    unfolding clash_from
    repeated h n g =
        let (i, q, x, w) = found_first (same_port p) es h in
        let y : q ≡ p = sym (same_port_lem p q w.1) in
        let a : At es i p = rw y at w.0 in
        let earlier : At qs i p = subst (λ (xs : List Port). At xs i p) e (at_left es (p ∷ ps) i p a) in
        rw x (inr (inl (i, length es, refl, (p, a.0, earlier, here, n, λ k l b. w.2 k p l (among k (omega (arith, a.0)) b) (port-same p)), g)))

    fresh : any (same_port p) es ≡ false → From (es ++ (p ∷ [])) ps → From es (p ∷ ps)
    unfolding clash_from
    fresh h rest n g = rw (found_none (same_port p) 0 es h) (go (f p) refl)
      where
        new : (i : ℕ) → i < length es → At qs i p → ⊥
        new i l a = clash {A = ⊥} _ (port-same p) (none_in (same_port p) (at_in es i p (among i l a)) h)

        apart : NoRepeat qs (suc (length es))
        apart i k q l m a b = up_to (λ k q. (i : ℕ) → i < k → At qs i q → ⊥) qs (length es) p here new (λ k q m b i l a. n i k q l m a b) k q m b i l a

        more : suc (length es) ≡ length (es ++ (p ∷ []))
        more = rw (length-append es (p ∷ [])) (omega arith)

        go : (r : Resolution) → f p ≡ r → Scanned s f qs (or_next (clash_of p r) (clash_from s f (es ++ (p ∷ [])) ps))
        go (Resolution.Provider o) x = inr (inr (binding_of p o, length es, refl, here, apart, g, rw x))
        go (Resolution.NotActive o) x = inr (inr (binding_of p o, length es, refl, here, apart, g, rw x))
        go Resolution.NoOwner x = rest (subst (NoRepeat qs) more apart) (subst (Free f qs) more (up_to (λ k q. f q ≡ Resolution.NoOwner) qs (length es) p here x g))

  scan_from : (es ps : List Port) → es ++ ps ≡ qs → From es ps
  unfolding clash_from
  scan_from es [] e = λ n g. inl refl
  scan_from es (p ∷ ps) e = ⊎_elim (repeated es p ps e) (λ h. fresh es p ps e h (scan_from (es ++ (p ∷ [])) ps (append_assoc es (p ∷ []) ps ∙ e))) (cases (any (same_port p) es))

  pub scan_stops : Scanned s f qs (clash_from s f [] qs)
  scan_stops = scan_from [] qs refl (λ i k q l m. absurd (omega arith)) (λ k q l. absurd (omega arith))
