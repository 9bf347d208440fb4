-- An array that a loop writes: a function of each entry in its own place, and a function of each entry of a list behind what stands there.
use Rattle.model.proofs.Logic.{List, [], ◌++◌, ◌+◌, ◌<◌, ◌∙◌, ◌∷◌, ◌≡◌, ◌≤◌, add-one, ap, append_assoc, append-nil, append_snoc, arith, drop, get_or, get_or_at, length, length-append, length-map, length-take-le, map, map-append, set, set_at, sym, take, take_all, take-suc, ℕ}
use Rattle.model.proofs.{Laws.Arrays.snoc_padded}
use Rattle.model.specs.{Lists.padded}
use Rattle.loops.proofs.{Laws.Scan.rest-done, Laws.Scan.rest-next}

-- ---- a function of the first entries of a list, one more of them

module _ {A B : Type 0} (f : A → B) (xs : List A) (i : ℕ) where
  length-firsts : i ≤ length xs → length (map f (take i xs)) ≡ i
  length-firsts l = length-map (take i xs) f ∙ length-take-le i xs l

  firsts_next : (d : A) → i < length xs → map f (take (i + 1) xs) ≡ map f (take i xs) ++ (f (get_or xs i d) ∷ [])
  firsts_next d l = rw (add-one i, take-suc xs i d l, map-append f (take i xs) (get_or xs i d ∷ []))

-- ---- in place

-- f of the first n entries, and the others as they are
abbrev pub edited : {A : Type 0} → (A → A) → ℕ → List A → List A
edited f n xs = map f (take n xs) ++ drop n xs

module _ {A : Type 0} (f : A → A) (xs : List A) where
  -- a store of f of the first entry not edited yet
  pub edited-next : (i : ℕ) (d : A) (ys : List A) (v : A) → i < length xs → ys ≡ edited f i xs → v ≡ f (get_or ys i d) → set ys i v ≡ edited f (i + 1) xs
  edited-next i d ys v l h e =
      let front = map f (take i xs) in
      let x = get_or xs i d in
      let rest = drop (i + 1) xs in
      let len : length front ≡ i = length-firsts f xs i (omega arith) in
      let was : ys ≡ front ++ (x ∷ rest) = rw (← rest-next d i xs l) h in
      let read : get_or ys i d ≡ x = rw was (get_or_at front x rest d i len) in
      let now : set ys i v ≡ front ++ (f x ∷ rest) = rw (was, e, read) (set_at front x rest (f x) i len) in
      now ∙ sym (append_snoc front (f x) rest) ∙ ap (λ (zs : List A). zs ++ rest) (sym (firsts_next f xs i d l))

  pub edited-whole : (i : ℕ) → length xs ≤ i → edited f i xs ≡ map f xs
  edited-whole i l = rw (take_all i xs l, rest-done i xs l) (append-nil (map f xs))

-- ---- behind what stands there

-- an array, blank past its entries, with f of one more entry of a list
pub appended-next : {A B : Type 0} (f : A → B) (size count i : ℕ) (d : B) (out front : List B) (xs : List A) (a : A) → length front ≡ count → count + i < size → i < length xs
    → out ≡ padded size d (front ++ map f (take i xs)) → set out (count + i) (f (get_or xs i a)) ≡ padded size d (front ++ map f (take (i + 1) xs))
appended-next f size count i d out front xs a e l m h =
    let more = map f (take i xs) in
    let v = f (get_or xs i a) in
    let len : length (front ++ more) ≡ count + i = rw (length-append front more, e, length-firsts f xs i (omega arith)) in
    let next : (front ++ more) ++ (v ∷ []) ≡ front ++ map f (take (i + 1) xs) = rw (firsts_next f xs i a m) (append_assoc front more (v ∷ [])) in
    rw (h, ← next, ← len) (snoc_padded size d (front ++ more) v (omega arith))
