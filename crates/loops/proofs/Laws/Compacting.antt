-- The two loops of a compaction within an array, the scan and the blanking of freed places: their states, the start, a turn and the end.
use Rattle.model.proofs.Logic.{Bool, List, [], ◌++◌, ◌+◌, ◌-◌, ◌<◌, ◌∙◌, ◌∷◌, ◌≡◌, ◌≤◌, add-one, ap, append_assoc, append-nil, arith, false, get_or, length, refl, set, suc, sym, take, take_all, true, ℕ}
use Rattle.model.specs.{Lists.keep, Lists.padded}
use Rattle.loops.proofs.{Laws.InPlace.compacted-is, Laws.InPlace.front_kept, Laws.InPlace.interval-add, Laws.InPlace.interval-next, Laws.InPlace.kept-is, Laws.InPlace.kept_read, Laws.InPlace.turn-drops, Laws.InPlace.turn-moves, Laws.InPlace.turn-stays, Laws.InPlace.written-are, Laws.Scan.rest-done}
use Rattle.loops.specs.{InPlace.Scan, InPlace.blanked, InPlace.compacted, InPlace.front, InPlace.interval, InPlace.moved, InPlace.scanned, InPlace.stayed, InPlace.turn}

-- the array is the scanned one at place i, and n is how many were kept: so what is a law of `scanned` holds of the array at each point of the loop
pub record Compacting {A : Type 0} (p : A → Bool) (d : A) (xs : List A) (end i : ℕ) (out : List A) (n : ℕ) : Type 0 where
  pub holds : out ≡ (scanned p d xs i).table
  pub counted : n ≡ (scanned p d xs i).kept
  pub read : n ≤ i
  pub reached : i ≤ end

pub compacting_start : {A : Type 0} {p : A → Bool} {d : A} {xs : List A} {end : ℕ} → Compacting p d xs end 0 xs 0
unfolding scanned
compacting_start = record { holds = refl; counted = refl; read = omega arith; reached = omega arith }

-- the turn at place i stores at place n, or stores nothing
abbrev pub Writes : {A : Type 0} → (A → Bool) → A → List A → ℕ → ℕ → Type 0
Writes p d xs i n = (scanned p d xs (i + 1)).written ≡ (scanned p d xs i).written ++ (n ∷ [])

abbrev pub WritesNone : {A : Type 0} → (A → Bool) → A → List A → ℕ → Type 0
WritesNone p d xs i = (scanned p d xs (i + 1)).written ≡ (scanned p d xs i).written

module _ {A : Type 0} {p : A → Bool} {d : A} {xs : List A} {end i n : ℕ} {out : List A} (h : Compacting p d xs end i out n) where
  abbrev s : Scan A
  s = scanned p d xs i

  -- the turns of the scan, told by the array: a record that passes is moved, or stays; one that does not pass changes nothing
  next : {t : Scan A} → turn p d i s ≡ t → scanned p d xs (i + 1) ≡ t
  unfolding scanned
  next e = rw (add-one i) e

  moves : p (get_or out i d) ≡ true → n < i → scanned p d xs (i + 1) ≡ moved i (get_or s.table i d) s
  moves t l = next (turn-moves p d i s (rw (← h.holds) t) (rw (← h.counted) l))

  stays : p (get_or out i d) ≡ true → i ≤ n → scanned p d xs (i + 1) ≡ stayed s
  stays t l = next (turn-stays p d i s (rw (← h.holds) t) (rw (← h.counted) l))

  drops : p (get_or out i d) ≡ false → scanned p d xs (i + 1) ≡ s
  drops t = next (turn-drops p d i s (rw (← h.holds) t))

  compacting_next : {out' : List A} {n' : ℕ} (t : Scan A) → i < end → scanned p d xs (i + 1) ≡ t → out' ≡ t.table → n' ≡ t.kept → n' ≤ n + 1 → Compacting p d xs end (i + 1) out' n'
  compacting_next t l e o c m = record { holds = o ∙ ap (λ (x : Scan A). x.table) (sym e); counted = c ∙ ap (λ (x : Scan A). x.kept) (sym e); read = omega (arith, h.read); reached = omega arith }

  pub compacting_moves : {out' : List A} {n' : ℕ} → i < end → p (get_or out i d) ≡ true → n < i → out' ≡ set out n (get_or out i d) → n' ≡ n + 1 → Compacting p d xs end (i + 1) out' n'
  compacting_moves l t m o c = compacting_next _ l (moves t m) (rw (← h.holds, ← h.counted) o) (rw (← h.counted) (c ∙ add-one n)) (omega arith)

  pub compacting_stays : {out' : List A} {n' : ℕ} → i < end → p (get_or out i d) ≡ true → i ≤ n → out' ≡ out → n' ≡ n + 1 → Compacting p d xs end (i + 1) out' n'
  compacting_stays l t m o c = compacting_next _ l (stays t m) (o ∙ h.holds) (rw (← h.counted) (c ∙ add-one n)) (omega arith)

  pub compacting_drops : {out' : List A} {n' : ℕ} → i < end → p (get_or out i d) ≡ false → out' ≡ out → n' ≡ n → Compacting p d xs end (i + 1) out' n'
  compacting_drops l t o c = compacting_next _ l (drops t) (o ∙ h.holds) (c ∙ h.counted) (omega arith)

  -- what each does to the list of places written
  pub store_writes : p (get_or out i d) ≡ true → n < i → Writes p d xs i n
  store_writes t l = rw h.counted (ap (λ (x : Scan A). x.written) (moves t l))

  pub stay_writes : p (get_or out i d) ≡ true → i ≤ n → WritesNone p d xs i
  stay_writes t l = ap (λ (x : Scan A). x.written) (stays t l)

  pub drop-writes : p (get_or out i d) ≡ false → WritesNone p d xs i
  drop-writes t = ap (λ (x : Scan A). x.written) (drops t)

-- of an array t, which a scan left, the places from n up to j are blanked
pub record Blanking {A : Type 0} (d : A) (t : List A) (end n j : ℕ) (out : List A) : Type 0 where
  pub holds : out ≡ blanked d n (j - n) t
  pub first : n ≤ j
  pub last : j ≤ end

pub blanking_start : {A : Type 0} {d : A} {t : List A} {end n : ℕ} → n ≤ end → Blanking d t end n n t
unfolding blanked
blanking_start {n = n} l = let z : n - n ≡ 0 = omega arith in record { holds = rw z refl; first = omega arith; last = l }

pub blanking_next : {A : Type 0} {d b : A} {t : List A} {end n j : ℕ} {out : List A} → Blanking d t end n j out → j < end → b ≡ d → Blanking d t end n (j + 1) (set out j b)
unfolding blanked
blanking_next {n = n} {j} h l e =
    let f : n ≤ j = h.first in
    let z : (j + 1) - n ≡ suc (j - n) = omega arith in
    let y : n + (j - n) ≡ j = omega arith in
    record { holds = rw (z, y, ← h.holds, ← e) refl; first = omega arith; last = omega arith }

-- a place blanked is written behind the others
pub blanks_next : (ws : List ℕ) (n j : ℕ) → n ≤ j → ws ++ interval n ((j + 1) - n) ≡ (ws ++ interval n (j - n)) ++ (j ∷ [])
blanks_next ws n j l =
    let z : (j + 1) - n ≡ suc (j - n) = omega arith in
    let y : n + (j - n) ≡ j = omega arith in
    rw z (ap (λ (is : List ℕ). ws ++ is) (rw y at (interval-next n (j - n))) ∙ sym (append_assoc ws (interval n (j - n)) (j ∷ [])))

-- both loops are over: the table is the kept records, then blanks, and the count is theirs
module _ {A : Type 0} {p : A → Bool} {d : A} {xs t out : List A} {i n j : ℕ} where
  pub compacting-done :
      Compacting p d xs (length xs) i t n → length xs ≤ i → Blanking d t (length xs) n j out → length xs ≤ j →
      (out ≡ padded (length xs) d (keep p xs)) × (n ≡ length (keep p xs))
  unfolding compacted
  compacting-done h l g m =
      let size = length xs in
      let y : i ≡ size = omega (arith, h.reached) in
      let z : j ≡ size = omega (arith, g.last) in
      let c : n ≡ (scanned p d xs size).kept = rw y at h.counted in
      let r : t ≡ (scanned p d xs size).table = rw y at h.holds in
      let f : take size xs ≡ xs = take_all size xs (omega arith) in
      let o : out ≡ compacted p d size xs = (rw z at g.holds) ∙ (rw (← c, ← r) at (compacted-is p d xs size (omega arith))) in
      (o ∙ rw (f, rest-done size xs (omega arith)) (append-nil (padded size d (keep p xs))), c ∙ kept-is p d xs size (omega arith) ∙ rw f refl)

-- and the places written, with those blanked behind them, are those from the first dropped record on, each once
pub writes-done : {A : Type 0} (p : A → Bool) (d : A) (xs : List A) (n : ℕ) → n ≡ (scanned p d xs (length xs)).kept → (scanned p d xs (length xs)).written ++ interval n (length xs - n) ≡ interval (front p xs) (length xs - front p xs)
writes-done p d xs n c =
    let size = length xs in
    let f = front p xs in
    let k = (scanned p d xs size).kept in
    let l : f ≤ k = front_kept p d xs in
    let m : k ≤ size = kept_read p d xs size (omega arith) in
    let a : f + (k - f) ≡ k = omega arith in
    let b : (k - f) + (size - k) ≡ size - f = omega arith in
    rw (c, written-are p d xs size (omega arith)) (sym (rw (b, a) at (interval-add f (k - f) (size - k))))
