-- A loop that stores what it finds at the first free place of an array of blanks: the start, an entry stored, an entry left out, the end.
use Rattle.model.proofs.Logic.{Bool, List, [], ◌++◌, ◌+◌, ◌-◌, ◌<◌, ◌∙◌, ◌∷◌, ◌≡◌, ◌≤◌, add-one, ap, append-nil, append_snoc, arith, drop, false, get_or, length, length-append, refl, replicate, set, sym, true, ℕ}
use Rattle.model.proofs.{Laws.Arrays.snoc_padded}
use Rattle.model.specs.{Lists.padded, Lists.places}
use Rattle.loops.proofs.{Laws.Scan.rest-done, Laws.Scan.rest-next}

-- with i entries seen, out holds the n that were kept, then blanks; with what is left to scan they make the whole
pub record Collecting {B W : Type 0} (size : ℕ) (blank : B) (out : List B) (n i : ℕ) (more : List B → W) (w : W) : Type 0 where
  pub kept : List B
  pub holds : out ≡ padded size blank kept
  pub counted : n ≡ length kept
  pub seen : n ≤ i
  pub whole : w ≡ more kept

pub collect_start : {B W : Type 0} {size : ℕ} {blank b : B} {more : List B → W} {w : W} → b ≡ blank → w ≡ more [] → Collecting size blank (replicate size b) 0 0 more w
unfolding padded
collect_start {size = size} {blank = blank} e h =
    let z : size ≡ size - 0 = omega arith in
    record { kept = []; holds = rw e (ap (λ (k : ℕ). replicate k blank) z); counted = refl; seen = omega arith; whole = h }

module _ {B W : Type 0} {size : ℕ} {blank : B} {out : List B} {n i : ℕ} {more : List B → W} {w : W} (h : Collecting size blank out n i more w) where
  pub collect-take :
      {out' : List B} {n' : ℕ} {more' : List B → W} (x : B) → i < size → ((k : List B) → more k ≡ more' (k ++ (x ∷ []))) → out' ≡ set out n x → n' ≡ n + 1 →
      Collecting size blank out' n' (i + 1) more' w
  collect-take x l e o c =
      let k = h.kept in
      let f : n ≡ length k = h.counted in
      let s : n ≤ i = h.seen in
      let g : set out n x ≡ padded size blank (k ++ (x ∷ [])) = rw (h.holds, f) (snoc_padded size blank k x (omega arith)) in
      record { kept = k ++ (x ∷ []); holds = o ∙ g; counted = omega (arith, length-append k (x ∷ [])); seen = omega arith; whole = h.whole ∙ e k }

  pub collect_skip : {out' : List B} {n' : ℕ} {more' : List B → W} → ((k : List B) → more k ≡ more' k) → out' ≡ out → n' ≡ n → Collecting size blank out' n' (i + 1) more' w
  collect_skip e o c = let s : n ≤ i = h.seen in record { kept = h.kept; holds = o ∙ h.holds; counted = c ∙ h.counted; seen = omega arith; whole = h.whole ∙ e h.kept }

-- ---- into a list: what is left stands behind what was kept

module _ {B : Type 0} {rest rest' : List B} where
  pub append-take : {x : B} → rest ≡ x ∷ rest' → (k : List B) → k ++ rest ≡ (k ++ (x ∷ [])) ++ rest'
  append-take {x} e k = rw e (sym (append_snoc k x rest'))

  pub append-skip : rest ≡ rest' → (k : List B) → k ++ rest ≡ k ++ rest'
  append-skip e k = rw e

-- nothing left: the array and the count are those of the whole
pub collect-end :
    {B : Type 0} {size : ℕ} {blank : B} {out : List B} {n i : ℕ} {rest w : List B} → Collecting size blank out n i (λ k. k ++ rest) w → rest ≡ [] →
    (out ≡ padded size blank w) × (n ≡ length w)
collect-end h e =
    let g = h.whole ∙ ap (λ (r : List _). h.kept ++ r) e ∙ append-nil h.kept in
    (rw g h.holds, rw g h.counted)

-- ---- the places of the entries that pass

module _ {A : Type 0} (p : A → Bool) (d : A) (xs : List A) (i : ℕ) where
  pub place-take : i < length xs → p (get_or xs i d) ≡ true → places p i (drop i xs) ≡ i ∷ places p (i + 1) (drop (i + 1) xs)
  unfolding places
  place-take l t = rw (rest-next d i xs l, places, t, add-one i)

  pub place-skip : i < length xs → p (get_or xs i d) ≡ false → places p i (drop i xs) ≡ places p (i + 1) (drop (i + 1) xs)
  unfolding places
  place-skip l t = rw (rest-next d i xs l, places, t, add-one i)

  pub place_none : length xs ≤ i → places p i (drop i xs) ≡ []
  unfolding places
  place_none l = rw (rest-done i xs l, places)
