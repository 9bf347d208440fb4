-- Compaction within a table: what holds at each point of the scan, what is written and how often, and the table when freed places are blank. Over any record, test and blank.
use Rattle.model.proofs.Logic.{Bool, List, [], ◌++◌, ◌+◌, ◌-◌, ◌<◌, ◌∙◌, ◌↔◌, ◌∷◌, ◌≡◌, ◌≤◌, ap, append_assoc, append-nil, append_snoc, arith, cond, dec_lt, drop, drop-append-le, drop-append_seam, drop-cons, drop-drop, drop_of_length-le, false, get_or, get_or-append-add, get_or-drop, le-ltb, length, length-append, length-drop, length-replicate, length-take, length-take-le, lt-ltb, min-le_left, refl, replicate, replicate-append-replicate, set, set_at, suc, sym, take, take-add, take-append-drop, take-append_seam, take-suc, true, zero, ℕ}
use Rattle.model.proofs.{Laws.Booleans.clash, Laws.Lists.keep_append, Laws.Lists.length-keep}
use Rattle.model.specs.{Lists.keep, Lists.padded, Lists.places}
use Rattle.loops.specs.{InPlace.Scan, InPlace.blanked, InPlace.compacted, InPlace.front, InPlace.interval, InPlace.moved, InPlace.scanned, InPlace.stayed, InPlace.turn}

-- ---- one turn

module _ {A : Type 0} (p : A → Bool) (d : A) (i : ℕ) (s : Scan A) where
  -- a record that passes behind the first place not filled is moved there
  pub turn-moves : p (get_or s.table i d) ≡ true → s.kept < i → turn p d i s ≡ moved i (get_or s.table i d) s
  unfolding turn
  turn-moves t l = rw (t, lt-ltb s.kept i l)

  -- one that stands there stays
  pub turn-stays : p (get_or s.table i d) ≡ true → i ≤ s.kept → turn p d i s ≡ stayed s
  unfolding turn
  turn-stays t l = rw (t, le-ltb s.kept i l)

  -- one that does not pass changes nothing
  pub turn-drops : p (get_or s.table i d) ≡ false → turn p d i s ≡ s
  unfolding turn
  turn-drops t = rw t

-- ---- the records kept of the first i

module _ {A : Type 0} (p : A → Bool) (xs : List A) where
  pub kept-within : (i : ℕ) → length (keep p (take i xs)) ≤ i
  kept-within i = omega (arith, length-keep p (take i xs), length-take i xs, min-le_left i (length xs))

  keep_one : (x : A) (b : Bool) → p x ≡ b → keep p (x ∷ []) ≡ cond b (x ∷ []) []
  keep_one x b e = rw e

  pub kept_next : (i : ℕ) (d : A) (b : Bool) → i < length xs → p (get_or xs i d) ≡ b → keep p (take (suc i) xs) ≡ keep p (take i xs) ++ cond b (get_or xs i d ∷ []) []
  kept_next i d b l e = rw (take-suc xs i d l, keep_append p (take i xs) (get_or xs i d ∷ []), keep_one (get_or xs i d) b e)

-- the state after i records, in closed form: those kept, and from the first place not filled on the table as it was
record Stands {A : Type 0} (p : A → Bool) (xs : List A) (i : ℕ) (s : Scan A) : Type 0 where
  pub holds : s.table ≡ keep p (take i xs) ++ drop (length (keep p (take i xs))) xs
  pub counts : s.kept ≡ length (keep p (take i xs))

module _ {A : Type 0} (p : A → Bool) (d : A) (xs : List A) where
  module _ (i : ℕ) (s : Scan A) (h : Stands p xs i s) where
    abbrev ks : List A
    ks = keep p (take i xs)

    abbrev x : A
    x = get_or xs i d

    -- what is read at place i is what stood there
    reads : get_or s.table i d ≡ x
    reads =
        let k = length ks in
        let e : i ≡ k + (i - k) = omega (arith, kept-within p xs i) in
        let f : get_or (ks ++ drop k xs) (k + (i - k)) d ≡ get_or xs (k + (i - k)) d = get_or-append-add ks (drop k xs) (i - k) d ∙ get_or-drop k xs (i - k) d in
        ap (λ (t : List A). get_or t i d) h.holds ∙ (rw (← e) at f)

    module _ (l : i < length xs) where
      -- one more is kept
      stands_more : p x ≡ true → (t : Scan A) → t.table ≡ (ks ++ (x ∷ [])) ++ drop (suc (length ks)) xs → t.kept ≡ suc s.kept → Stands p xs (suc i) t
      stands_more e t g c =
          let n : keep p (take (suc i) xs) ≡ ks ++ (x ∷ []) = kept_next p xs i d true l e in
          let f : length (ks ++ (x ∷ [])) ≡ suc (length ks) = omega (arith, length-append ks (x ∷ [])) in
          record { holds = rw (n, f) g; counts = rw (n, f) (c ∙ ap suc h.counts) }

      stands_next : (b : Bool) → p x ≡ b → Dec (s.kept < i) → Stands p xs (suc i) (turn p d i s)
      stands_next true t (yes m) =
          let k = length ks in
          let c : s.kept ≡ k = h.counts in
          let q : k < length xs = omega arith in
          let e = set_at ks _ _ x k refl ∙ sym (append_snoc ks x (drop (suc k) xs)) in
          let g : set s.table s.kept (get_or s.table i d) ≡ (ks ++ (x ∷ [])) ++ drop (suc k) xs = rw (reads, h.holds, c, drop-cons xs k d q) e in
          rw (turn-moves p d i s (rw reads t) m) (stands_more t _ g refl)
      stands_next true t (no m) =
          let e : length ks ≡ i = omega (arith, kept-within p xs i, h.counts) in
          let g : s.table ≡ (ks ++ (x ∷ [])) ++ drop (suc (length ks)) xs = h.holds ∙ rw (e, drop-cons xs i d l) (sym (append_snoc ks x (drop (suc i) xs))) in
          rw (turn-stays p d i s (rw reads t) (omega arith)) (stands_more t _ g refl)
      stands_next false t w =
          let n : keep p (take (suc i) xs) ≡ ks = kept_next p xs i d false l t ∙ append-nil ks in
          rw (turn-drops p d i s (rw reads t)) (record { holds = rw n h.holds; counts = rw n h.counts })

  stands : (i : ℕ) → i ≤ length xs → Stands p xs i (scanned p d xs i)
  unfolding scanned
  stands zero l = record { holds = refl; counts = refl }
  stands (suc i) l = let s = scanned p d xs i in stands_next i s (stands i (omega arith)) (omega arith) (p (get_or xs i d)) refl (dec_lt s.kept i)

-- ---- at each point of the scan

module _ {A : Type 0} (p : A → Bool) (d : A) (xs : List A) (i : ℕ) (l : i ≤ length xs) where
  -- as many places are filled as records were kept, and no more than were read
  pub kept-is : (scanned p d xs i).kept ≡ length (keep p (take i xs))
  kept-is = (stands p d xs i l).counts

  pub kept_read : (scanned p d xs i).kept ≤ i
  kept_read = omega (arith, kept-is, kept-within p xs i)

  -- the filled places hold the records kept so far, in order
  pub filled : take (scanned p d xs i).kept (scanned p d xs i).table ≡ keep p (take i xs)
  filled = rw (kept-is, (stands p d xs i l).holds) (take-append_seam (keep p (take i xs)) _)

  -- every place from the first not filled on is as it was
  pub unfilled : drop (scanned p d xs i).kept (scanned p d xs i).table ≡ drop (scanned p d xs i).kept xs
  unfilled = rw (kept-is, (stands p d xs i l).holds) (drop-append_seam (keep p (take i xs)) _)

  -- so the records not read yet stand unchanged
  pub unread : drop i (scanned p d xs i).table ≡ drop i xs
  unread =
      let s = scanned p d xs i in
      let e : s.kept + (i - s.kept) ≡ i = omega (arith, kept_read) in
      let m = i - s.kept in
      let f : drop (s.kept + m) s.table ≡ drop (s.kept + m) xs = sym (drop-drop m s.kept s.table) ∙ ap (drop m) unfilled ∙ drop-drop m s.kept xs in
      rw e at f

  pub read : get_or (scanned p d xs i).table i d ≡ get_or xs i d
  read = reads p d xs i (scanned p d xs i) (stands p d xs i l)

  pub length-scanned : length (scanned p d xs i).table ≡ length xs
  length-scanned =
      let k = length (keep p (take i xs)) in
      rw ((stands p d xs i l).holds, length-append (keep p (take i xs)) (drop k xs), length-drop k xs) (omega (arith, kept-within p xs i))

-- ---- from one point to the next

-- nothing is written, or one place: the first not filled, which was read before; it gets the record read
pub data Step {A : Type 0} (p : A → Bool) (i : ℕ) (x : A) (s t : Scan A) : Type 0 where
  none : t.table ≡ s.table → t.sources ≡ s.sources → t.written ≡ s.written → Step p i x s t
  one : p x ≡ true → s.kept < i → t.table ≡ set s.table s.kept x → t.sources ≡ s.sources ++ (i ∷ []) → t.written ≡ s.written ++ (s.kept ∷ []) → Step p i x s t

module _ {A : Type 0} (p : A → Bool) (d : A) (xs : List A) where
  pub step : (i : ℕ) → i < length xs → Step p i (get_or xs i d) (scanned p d xs i) (scanned p d xs (suc i))
  unfolding scanned
  step i l = go (p (get_or xs i d)) refl (dec_lt s.kept i)
    where
      s : Scan A
      s = scanned p d xs i

      r : get_or s.table i d ≡ get_or xs i d
      r = read p d xs i (omega arith)

      go : (b : Bool) → p (get_or xs i d) ≡ b → Dec (s.kept < i) → Step p i (get_or xs i d) s (turn p d i s)
      go true t (yes m) = rw (turn-moves p d i s (rw r t) m) (one t m (rw r) refl refl)
      go true t (no m) = rw (turn-stays p d i s (rw r t) (omega arith)) (none refl refl refl)
      go false t w = rw (turn-drops p d i s (rw r t)) (none refl refl refl)

  -- no filled place is written again
  pub filled_stays : (i j : ℕ) → i ≤ j → j ≤ length xs → take (scanned p d xs i).kept (scanned p d xs j).table ≡ take (scanned p d xs i).kept (scanned p d xs i).table
  filled_stays i j l m =
      let ks = keep p (take i xs) in
      let more = keep p (take (j - i) (drop i xs)) in
      let e : i + (j - i) ≡ j = omega arith in
      let q : take j xs ≡ take i xs ++ take (j - i) (drop i xs) = rw e at (take-add i (j - i) xs) in
      let f : keep p (take j xs) ≡ ks ++ more = rw q (keep_append p (take i xs) (take (j - i) (drop i xs))) in
      let rest = drop (length (keep p (take j xs))) xs in
      let h : (scanned p d xs j).table ≡ ks ++ (more ++ rest) = (stands p d xs j m).holds ∙ ap (λ (t : List A). t ++ rest) f ∙ append_assoc ks more rest in
      let g : take (scanned p d xs i).kept (scanned p d xs j).table ≡ ks = rw (kept-is p d xs i (omega arith), h) (take-append_seam ks (more ++ rest)) in
      g ∙ sym (filled p d xs i (omega arith))

-- ---- what is written, and how often

module _ {A : Type 0} (p : A → Bool) (d : A) where
  front-within : (xs : List A) → front p xs ≤ length xs
  unfolding front
  front-within [] = omega arith
  front-within (x ∷ xs) = go (p x) (front-within xs)
    where
      go : (b : Bool) → front p xs ≤ length xs → cond b (suc (front p xs)) 0 ≤ suc (length xs)
      go true h = omega arith
      go false h = omega arith

  -- the records in front pass
  pub front-passes : (xs : List A) (i : ℕ) → i < front p xs → p (get_or xs i d) ≡ true
  unfolding front
  front-passes [] i l = absurd (omega arith)
  front-passes (x ∷ xs) i l = go (p x) refl i l (λ j m. front-passes xs j m)
    where
      go : (b : Bool) → p x ≡ b → (j : ℕ) → j < cond b (suc (front p xs)) 0 → ((m : ℕ) → m < front p xs → p (get_or xs m d) ≡ true) → p (get_or (x ∷ xs) j d) ≡ true
      go true e zero m f = e
      go true e (suc j) m f = f j (omega arith)
      go false e j m f = absurd (omega arith)

  -- the one behind them does not
  pub front-stops : (xs : List A) → front p xs < length xs → p (get_or xs (front p xs) d) ≡ false
  unfolding front
  front-stops [] l = absurd (omega arith)
  front-stops (x ∷ xs) l = go (p x) refl l (λ m. front-stops xs m)
    where
      go : (b : Bool) → p x ≡ b → cond b (suc (front p xs)) 0 < suc (length xs) → (front p xs < length xs → p (get_or xs (front p xs) d) ≡ false) → p (get_or (x ∷ xs) (cond b (suc (front p xs)) 0) d) ≡ false
      go true e m f = f (omega arith)
      go false e m f = e

pub interval-next : (n m : ℕ) → interval n (suc m) ≡ interval n m ++ ((n + m) ∷ [])
unfolding interval
interval-next n zero = let e : n ≡ n + 0 = omega arith in ap (λ (k : ℕ). k ∷ []) e
interval-next n (suc m) = let e : suc n + m ≡ n + suc m = omega arith in ap (λ (ks : List ℕ). n ∷ ks) (rw e at (interval-next (suc n) m))

-- the places of an interval ascend one by one, so each stands in it once
pub interval-at : (n m i e : ℕ) → i < m → get_or (interval n m) i e ≡ n + i
unfolding interval
interval-at n zero i e l = absurd (omega arith)
interval-at n (suc m) zero e l = omega arith
interval-at n (suc m) (suc i) e l = interval-at (suc n) m i e (omega arith) ∙ (omega arith)

pub length-interval : (n m : ℕ) → length (interval n m) ≡ m
unfolding interval
length-interval n zero = refl
length-interval n (suc m) = ap suc (length-interval (suc n) m)

pub interval-add : (n m k : ℕ) → interval n (m + k) ≡ interval n m ++ interval (n + m) k
unfolding interval
interval-add n zero k = let e : 0 + k ≡ k = omega arith in let f : n ≡ n + 0 = omega arith in rw (e, ← f)
interval-add n (suc m) k = let e : suc m + k ≡ suc (m + k) = omega arith in let f : suc n + m ≡ n + suc m = omega arith in rw e (ap (λ (ks : List ℕ). n ∷ ks) (rw f at (interval-add (suc n) m k)))

places-append : {A : Type 0} (p : A → Bool) (n : ℕ) (ys zs : List A) → places p n (ys ++ zs) ≡ places p n ys ++ places p (n + length ys) zs
unfolding places
places-append p n [] zs = let e : n ≡ n + 0 = omega arith in ap (λ (k : ℕ). places p k zs) e
places-append p n (y ∷ ys) zs = let e : suc n + length ys ≡ n + suc (length ys) = omega arith in go (p y) _ _ (rw e at (places-append p (suc n) ys zs))
  where
    go : (c : Bool) {is : List ℕ} (js ks : List ℕ) → is ≡ js ++ ks → cond c (n ∷ is) is ≡ cond c (n ∷ js) js ++ ks
    go true js ks h = ap (λ (hs : List ℕ). n ∷ hs) h
    go false js ks h = h

places-one : {A : Type 0} (p : A → Bool) (n : ℕ) (x : A) (b : Bool) → p x ≡ b → places p n (x ∷ []) ≡ cond b (n ∷ []) []
unfolding places
places-one p n x b e = rw e

module _ {A : Type 0} (p : A → Bool) (d : A) (xs : List A) where
  -- the places of the kept records behind the first dropped one, among the first i
  abbrev behind : ℕ → List ℕ
  behind i = places p (front p xs) (drop (front p xs) (take i xs))

  behind-none : (i : ℕ) → i ≤ front p xs → behind i ≡ []
  unfolding places
  behind-none i l = rw (drop_of_length-le (take i xs) {i = front p xs} (omega (arith, length-take i xs, min-le_left i (length xs))))

  behind-next : (i : ℕ) (b : Bool) → front p xs ≤ i → i < length xs → p (get_or xs i d) ≡ b → behind (suc i) ≡ behind i ++ cond b (i ∷ []) []
  behind-next i b l m e =
      let f = front p xs in
      let x = get_or xs i d in
      let n : length (take i xs) ≡ i = length-take-le i xs (omega arith) in
      let q : drop f (take (suc i) xs) ≡ drop f (take i xs) ++ (x ∷ []) = rw (take-suc xs i d m) (drop-append-le f (take i xs) (x ∷ []) (omega arith)) in
      let z : f + length (drop f (take i xs)) ≡ i = rw (length-drop f (take i xs), n) (omega arith) in
      rw q (places-append p f (drop f (take i xs)) (x ∷ []) ∙ rw z (ap (λ (ks : List ℕ). behind i ++ ks) (places-one p i x b e)))

  -- up to the first dropped record nothing is written; past it each record kept is moved, and the places written are those from the first dropped one up to the first not filled
  data Progress (i : ℕ) (s : Scan A) : Type 0 where
    ahead : i ≤ front p xs → s.kept ≡ i → s.table ≡ xs → s.sources ≡ [] → s.written ≡ [] → Progress i s
    past : front p xs < i → front p xs ≤ s.kept → s.kept < i → s.sources ≡ behind i → s.written ≡ interval (front p xs) (s.kept - front p xs) → Progress i s

  progress_next : (i : ℕ) (s : Scan A) → i < length xs → get_or s.table i d ≡ get_or xs i d → Progress i s → Progress (suc i) (turn p d i s)
  unfolding interval
  progress_next i s l r w = go (p (get_or xs i d)) refl w
    where
      go : (b : Bool) → p (get_or xs i d) ≡ b → Progress i s → Progress (suc i) (turn p d i s)
      go true t (ahead a k e f g) = rw (turn-stays p d i s (rw r t) (omega arith)) (other (dec_lt i (front p xs)))
        where
          other : Dec (i < front p xs) → Progress (suc i) (stayed s)
          other (yes m) = ahead (omega arith) (omega arith) e f g
          other (no m) = let z : front p xs ≡ i = omega arith in clash (p (get_or xs i d)) t (rw z at (front-stops p d xs (omega arith)))
      go false t (ahead a k e f g) = rw (turn-drops p d i s (rw r t)) (other (dec_lt i (front p xs)))
        where
          other : Dec (i < front p xs) → Progress (suc i) s
          other (yes m) = clash (p (get_or xs i d)) (front-passes p d xs i m) t
          other (no m) =
              let z : s.kept - front p xs ≡ 0 = omega arith in
              let q : behind (suc i) ≡ [] = behind-next i false (omega arith) l t ∙ append-nil (behind i) ∙ behind-none i a in
              past (omega arith) (omega arith) (omega arith) (f ∙ sym q) (rw z g)
      go true t (past a k m f g) =
          let z : suc s.kept - front p xs ≡ suc (s.kept - front p xs) = omega arith in
          let y : front p xs + (s.kept - front p xs) ≡ s.kept = omega arith in
          let h : interval (front p xs) (suc (s.kept - front p xs)) ≡ interval (front p xs) (s.kept - front p xs) ++ (s.kept ∷ []) = rw y at (interval-next (front p xs) (s.kept - front p xs)) in
          let q : behind (suc i) ≡ behind i ++ (i ∷ []) = behind-next i true (omega arith) l t in
          rw (turn-moves p d i s (rw r t) m) (past (omega arith) (omega arith) (omega arith) (rw (q, f)) (rw (z, h, g)))
      go false t (past a k m f g) =
          let q : behind (suc i) ≡ behind i = behind-next i false (omega arith) l t ∙ append-nil (behind i) in
          rw (turn-drops p d i s (rw r t)) (past (omega arith) k (omega arith) (f ∙ sym q) g)

  progress : (i : ℕ) → i ≤ length xs → Progress i (scanned p d xs i)
  unfolding scanned
  progress zero l = ahead (omega arith) refl refl refl refl
  progress (suc i) l = progress_next i (scanned p d xs i) (omega arith) (read p d xs i (omega arith)) (progress i (omega arith))

  -- nothing is written up to the first dropped record
  pub untouched : (i : ℕ) → i ≤ front p xs → ((scanned p d xs i).table ≡ xs) × ((scanned p d xs i).written ≡ [])
  untouched i l = go (progress i (omega (arith, front-within p d xs)))
    where
      go : Progress i (scanned p d xs i) → ((scanned p d xs i).table ≡ xs) × ((scanned p d xs i).written ≡ [])
      go (ahead a k e f g) = (e, g)
      go (past a k m f g) = absurd (omega arith)

  -- fewer are kept than were read exactly where a record was dropped
  pub dropped_before : (i : ℕ) → i ≤ length xs → ((scanned p d xs i).kept < i) ↔ (front p xs < i)
  dropped_before i l = go (progress i l)
    where
      go : Progress i (scanned p d xs i) → ((scanned p d xs i).kept < i) ↔ (front p xs < i)
      go (ahead a k e f g) = (λ m. absurd (omega arith), λ m. absurd (omega arith))
      go (past a k m f g) = (λ z. a, λ z. m)

  -- in the end no fewer are kept than stand in front
  pub front_kept : front p xs ≤ (scanned p d xs (length xs)).kept
  front_kept = go (progress (length xs) (omega arith))
    where
      go : Progress (length xs) (scanned p d xs (length xs)) → front p xs ≤ (scanned p d xs (length xs)).kept
      go (ahead a k e f g) = omega (arith, front-within p d xs)
      go (past a k m f g) = k

  module _ (i : ℕ) (l : i ≤ length xs) where
    -- each kept record behind a dropped one is moved, once and in order, as it is read
    pub sources-are : (scanned p d xs i).sources ≡ places p (front p xs) (drop (front p xs) (take i xs))
    sources-are = go (progress i l)
      where
        go : Progress i (scanned p d xs i) → (scanned p d xs i).sources ≡ behind i
        go (ahead a k e f g) = f ∙ sym (behind-none i a)
        go (past a k m f g) = f

    -- the places written are those from the first dropped record up to the first place not filled, each once
    pub written-are : (scanned p d xs i).written ≡ interval (front p xs) ((scanned p d xs i).kept - front p xs)
    unfolding interval
    written-are = go (progress i l)
      where
        go : Progress i (scanned p d xs i) → (scanned p d xs i).written ≡ interval (front p xs) ((scanned p d xs i).kept - front p xs)
        go (ahead a k e f g) = let z : (scanned p d xs i).kept - front p xs ≡ 0 = omega arith in rw z g
        go (past a k m f g) = g

    -- the records before the first dropped one stand where they stood
    pub front-stays : take (front p xs) (scanned p d xs i).table ≡ take (front p xs) xs
    front-stays = go (dec_lt i (front p xs))
      where
        go : Dec (i < front p xs) → take (front p xs) (scanned p d xs i).table ≡ take (front p xs) xs
        go (yes m) = ap (take (front p xs)) (untouched i (omega arith)).0
        go (no m) = whole (progress (front p xs) (front-within p d xs))
          where
            whole : Progress (front p xs) (scanned p d xs (front p xs)) → take (front p xs) (scanned p d xs i).table ≡ take (front p xs) xs
            whole (ahead a k e f g) = (rw k at (filled_stays p d xs (front p xs) i (omega arith) l)) ∙ ap (take (front p xs)) e
            whole (past a k m f g) = absurd (omega arith)

  -- a record is moved for each store
  pub stores_moves : (i : ℕ) → i ≤ length xs → length (scanned p d xs i).written ≡ length (scanned p d xs i).sources
  unfolding scanned
  stores_moves zero l = refl
  stores_moves (suc i) l = go (stores_moves i (omega arith)) (step p d xs i (omega arith))
    where
      go : {x : A} {s t : Scan A} → length s.written ≡ length s.sources → Step p i x s t → length t.written ≡ length t.sources
      go h (none e f g) = rw (f, g) h
      go {s = s} h (one t m e f g) = rw (f, g, length-append s.sources (i ∷ []), length-append s.written (s.kept ∷ [])) (ap (λ (n : ℕ). n + 1) h)

-- ---- freed places are blanked

replicate_next : {A : Type 0} (m : ℕ) (d : A) (ys : List A) → replicate m d ++ (d ∷ ys) ≡ d ∷ (replicate m d ++ ys)
replicate_next zero d ys = refl
replicate_next (suc m) d ys = ap (λ zs. d ∷ zs) (replicate_next m d ys)

module _ {A : Type 0} (d : A) (n : ℕ) (xs : List A) where
  -- the places blanked so far are blank, and the others as they were
  pub blanked-is : (m : ℕ) → n + m ≤ length xs → blanked d n m xs ≡ take n xs ++ (replicate m d ++ drop (n + m) xs)
  unfolding blanked
  blanked-is zero l = let e : n ≡ n + 0 = omega arith in rw (← e) (sym (take-append-drop n xs))
  blanked-is (suc m) l =
      let front = take n xs ++ replicate m d in
      let rest = drop (suc (n + m)) xs in
      let e : n + suc m ≡ suc (n + m) = omega arith in
      let k : n + m < length xs = omega arith in
      let len : length front ≡ n + m = rw (length-append (take n xs) (replicate m d), length-take-le n xs (omega arith), length-replicate m d) in
      let was : blanked d n m xs ≡ front ++ (get_or xs (n + m) d ∷ rest) = blanked-is m (omega arith) ∙ rw (drop-cons xs (n + m) d k) (sym (append_assoc (take n xs) (replicate m d) (get_or xs (n + m) d ∷ rest))) in
      rw (was, e) (set_at front (get_or xs (n + m) d) rest d (n + m) len ∙ append_assoc (take n xs) (replicate m d) (d ∷ rest) ∙ ap (λ (zs : List A). take n xs ++ zs) (replicate_next m d rest))

-- ---- the whole compaction, of the records below a count that is within the table

pub compacted-is : {A : Type 0} (p : A → Bool) (d : A) (xs : List A) (c : ℕ) → c ≤ length xs → blanked d (scanned p d xs c).kept (c - (scanned p d xs c).kept) (scanned p d xs c).table ≡ compacted p d c xs
unfolding compacted padded
compacted-is p d xs c l =
    let s = scanned p d xs c in
    let ks = keep p (take c xs) in
    let k : s.kept ≡ length ks = kept-is p d xs c l in
    let m : s.kept ≤ c = kept_read p d xs c l in
    let n : s.kept + (c - s.kept) ≡ c = omega arith in
    let j : c - s.kept ≡ length (take c xs) - length ks = omega (arith, length-take-le c xs l) in
    let b = blanked-is d s.kept s.table (c - s.kept) (omega (arith, length-scanned p d xs c l)) in
    b ∙ rw (n, filled p d xs c l, unread p d xs c l, j) (sym (append_assoc ks (replicate (length (take c xs) - length ks) d) (drop c xs)))

-- where the table was blank past its records, it is those kept, then blanks
pub compacted-padded : {A : Type 0} (p : A → Bool) (d : A) (size : ℕ) (ys : List A) → length ys ≤ size → compacted p d (length ys) (padded size d ys) ≡ padded size d (keep p ys)
unfolding compacted padded
compacted-padded p d size ys l =
    let ks = keep p ys in
    let freed = length ys - length ks in
    let past = size - length ys in
    let m : freed + past ≡ size - length ks = omega (arith, length-keep p ys) in
    let e = append_assoc ks (replicate freed d) (replicate past d) ∙ ap (ks ++◌) (replicate-append-replicate freed past d) in
    rw (take-append_seam ys (replicate past d), drop-append_seam ys (replicate past d), ← m) e

-- with no record below the count the table is as it was
pub compacted-none : {A : Type 0} (p : A → Bool) (d : A) (xs : List A) → compacted p d 0 xs ≡ xs
unfolding compacted padded
compacted-none p d xs = refl
