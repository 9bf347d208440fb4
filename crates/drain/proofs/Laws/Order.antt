-- The order of cleaning: how a search that goes on where it is, or back to what became free, finds the lowest each time.
use borrow.Author.Count.{below_more}
use Rattle.std.specs.Int.{from_bool}
use Rattle.model.proofs.Logic.{add-one, Bool, List, [], ◌&&◌, ◌*◌, ◌++◌, ◌+◌, ◌-◌, ◌<◌, ◌∙◌, ◌∷◌, ◌||◌, ◌≡◌, ◌≤◌, ◌⊎◌, ap, arith, cond, eqb, eqb-true, false, get_or, get_or-set_other, get_or-set_same, inl, inr, length, ne_eqb, none, not, refl, replicate, set, some, suc, sym, take, true, zero, ℕ, ℕ_discrete}
use Rattle.model.specs.{Lists.any, Lists.keep, declared.records.Link.Link}
use Rattle.model.proofs.{Laws.Booleans.and_i, Laws.Booleans.and_l, Laws.Booleans.and_r, Laws.Booleans.cases, Laws.Booleans.clash, Laws.Lists.keep-less, Laws.Lists.length-keep, Laws.Lowest.lowest-is, Laws.Lowest.lowest-nothing}
use Rattle.drain.proofs.{Laws.Uses.one-more}
use Rattle.loops.proofs.{Laws.Collecting.Collecting, Laws.Collecting.append-take, Laws.Collecting.collect-end, Laws.Collecting.collect_start, Laws.Collecting.collect-take}
use Rattle.results.specs.{Results.identities}
use Rattle.drain.specs.{Order.held, Order.next_ready, Order.order_from, Order.order_of, Order.ready, Order.uses, Order.waits, Uses.Counted, Uses.Freed, Uses.Tracks, declared.uses.Uses.Uses}
use Rattle.sizes.specs.{Sizes.IDENTITIES}

-- ---- one turn of the order

pub order-none : (n : ℕ) (waiting : List Bool) (ls : List Link) → next_ready waiting ls ≡ none → order_from n waiting ls ≡ []
unfolding order_from
order-none zero waiting ls e = refl
order-none (suc n) waiting ls e = rw (e, order_from)

pub order-some : (n : ℕ) (waiting : List Bool) (ls : List Link) (k : ℕ) → next_ready waiting ls ≡ some k → order_from (suc n) waiting ls ≡ k ∷ order_from n (set waiting k false) ls
unfolding order_from
order-some n waiting ls k e = rw (e, order_from)

-- relied upon by none
pub none_counts : {A : Type 0} (p : A → Bool) (xs : List A) → eqb (length (keep p xs)) 0 ≡ not (any p xs)
none_counts p [] = refl
none_counts p (x ∷ xs) = go (p x) (none_counts p xs)
  where
    go : (b : Bool) → eqb (length (keep p xs)) 0 ≡ not (any p xs) → eqb (length (cond b (x ∷ keep p xs) (keep p xs))) 0 ≡ not (b || any p xs)
    go true e = ne_eqb (suc (length (keep p xs))) 0 (λ z. absurd (omega arith))
    go false e = e

module _ (waiting : List Bool) (ls : List Link) (j : ℕ) where
  ready-waits : ready waiting ls j ≡ true → waits waiting j ≡ true
  unfolding ready
  ready-waits v = and_l (waits waiting j) _ v

  ready-free : ready waiting ls j ≡ true → length (keep (uses waiting j) ls) ≡ 0
  unfolding ready
  ready-free v = eqb-true _ 0 (none_counts (uses waiting j) ls ∙ and_r (waits waiting j) _ v)

  free-ready : waits waiting j ≡ true → length (keep (uses waiting j) ls) ≡ 0 → ready waiting ls j ≡ true
  unfolding ready
  free-ready w e = and_i (waits waiting j) _ w (sym (none_counts (uses waiting j) ls) ∙ ap (λ (k : ℕ). eqb k 0) e)

-- how many wait, of one more
pub held_more : (waiting : List Bool) (i : ℕ) → i < length waiting → held (take (i + 1) waiting) ≡ held (take i waiting) + from_bool (get_or waiting i false)
held_more waiting i l = rw (add-one i) (one-more (λ b. b) waiting i false l)

-- ---- the loop that finds it

-- before place i: nothing below it is ready; ids are the first n of the whole order
pub record Ordering (serving : List Bool) (ls : List Link) (u : Uses) (ids : List ℕ) (n i : ℕ) : Type 0 where
  pub tracks : Tracks ls u
  pub none_below : (j : ℕ) → j < i → ready u.waiting ls j ≡ false
  pub found : Collecting IDENTITIES 0 ids n n (λ k. k ++ order_of u.waiting ls) (order_of serving ls)
  pub room : n + held u.waiting ≤ IDENTITIES

pub ordering_start : {serving : List Bool} {ls : List Link} {u : Uses} → Tracks ls u → u.waiting ≡ serving → Ordering serving ls u (replicate IDENTITIES 0) 0 0
ordering_start {serving} {ls} {u} t e =
    record {
      tracks = t;
      none_below = λ j l. absurd (omega arith);
      found = collect_start refl (rw e);
      room = omega (arith, t.size, length-keep (λ b. b) u.waiting);
    }

module _ {serving : List Bool} {ls : List Link} {u : Uses} {ids : List ℕ} {n i : ℕ} (h : Ordering serving ls u ids n i) where
  -- the test of the loop
  ready-is : i < IDENTITIES → ready u.waiting ls i ≡ waits u.waiting i && eqb (get_or u.relied i 0) 0
  unfolding ready
  ready-is l = ap (λ (b : Bool). waits u.waiting i && b) (sym (none_counts (uses u.waiting i) ls) ∙ ap (λ (k : ℕ). eqb k 0) (sym (h.tracks.counted i l)))

  -- one that is not ready
  pub ordering_past : i < IDENTITIES → waits u.waiting i && eqb (get_or u.relied i 0) 0 ≡ false → Ordering serving ls u ids n (i + 1)
  ordering_past l t = record { tracks = h.tracks; none_below = below_more (λ j. ready u.waiting ls j ≡ false) i h.none_below (ready-is l ∙ t); found = h.found; room = h.room }

  module _ (l : i < IDENTITIES) (here-waits : waits u.waiting i ≡ true) (free : get_or u.relied i 0 ≡ 0) where
    one-less : held u.waiting ≡ suc (held (set u.waiting i false))
    one-less = keep-less (λ b. b) false u.waiting i false (omega (arith, h.tracks.size)) here-waits refl

    pub ordering_room : n < IDENTITIES
    ordering_room = omega (arith, h.room, one-less)

    -- one that waits no more is worth more than the whole search
    pub ordering_less : {v : Uses} {r : ℕ} → Freed ls u v i r → held v.waiting * (IDENTITIES + 1) + (IDENTITIES - r) < held u.waiting * (IDENTITIES + 1) + (IDENTITIES - i)
    ordering_less f = omega (arith, one-less, ap held f.waiting)

    -- it is the next of the order, and the search goes on at r
    pub ordering_next : {v : Uses} {r : ℕ} → Freed ls u v i r → Ordering serving ls v (set ids n i) (n + 1) r
    ordering_next {v} {r} f =
        record {
          tracks = f.tracks;
          none_below = rw f.waiting below;
          found = collect-take h.found i ordering_room (append-take (rw f.waiting turn)) refl refl;
          room = rw f.waiting (omega (arith, h.room, one-less));
        }
      where
        here-size : i < length u.waiting
        here-size = omega (arith, h.tracks.size)

        counted : Counted (set u.waiting i false) ls v.relied
        counted = rw (← f.waiting) f.tracks.counted

        -- one that waits then waited before
        still : (c : ℕ) → waits (set u.waiting i false) c ≡ true → waits u.waiting c ≡ true
        still c w = go (ℕ_discrete c i)
          where
            go : Dec (c ≡ i) → waits u.waiting c ≡ true
            go (yes e) = rw e here-waits
            go (no e) = sym (get_or-set_other u.waiting i c false false e) ∙ w

        turn : order_of u.waiting ls ≡ i ∷ order_of (set u.waiting i false) ls
        turn = rw one-less (order-some (held (set u.waiting i false)) u.waiting ls i (lowest-is (ready u.waiting ls) (length u.waiting) 0 i (omega arith) (omega (arith, here-size)) h.none_below (free-ready u.waiting ls i here-waits (sym (h.tracks.counted i l) ∙ free))))

        below : (j : ℕ) → j < r → ready (set u.waiting i false) ls j ≡ false
        below j k = go (ℕ_discrete j i) (cases (ready (set u.waiting i false) ls j))
          where
            jl : j < IDENTITIES
            jl = omega (arith, f.next)

            was : ready (set u.waiting i false) ls j ≡ true → ready u.waiting ls j ≡ true
            was t =
                let z : get_or v.relied j 0 ≡ 0 = counted j jl ∙ ready-free (set u.waiting i false) ls j t in
                free-ready u.waiting ls j (still j (ready-waits (set u.waiting i false) ls j t)) (sym (h.tracks.counted j jl) ∙ f.none_below j k z)

            go : Dec (j ≡ i) → (ready (set u.waiting i false) ls j ≡ true) ⊎ (ready (set u.waiting i false) ls j ≡ false) → ready (set u.waiting i false) ls j ≡ false
            go d (inr v) = v
            go (yes e) (inl v) =
                let gone : waits (set u.waiting i false) j ≡ false = rw e (get_or-set_same u.waiting i false false here-size) in
                clash {A = ready (set u.waiting i false) ls j ≡ false} (waits (set u.waiting i false) j) (ready-waits (set u.waiting i false) ls j v) gone
            go (no e) (inl v) = clash {A = ready (set u.waiting i false) ls j ≡ false} (ready u.waiting ls j) (was v) (h.none_below j (omega (arith, f.next)))

  -- nothing is ready
  pub ordering_end : IDENTITIES ≤ i → record { ids = ids; count = n } ≡ identities (order_of serving ls)
  ordering_end l =
      let e = order-none (held u.waiting) u.waiting ls (lowest-nothing (ready u.waiting ls) (length u.waiting) 0 (λ j k. h.none_below j (omega (arith, h.tracks.size)))) in
      let (f, g) = collect-end (rw e at h.found) refl in
      λ j. record { ids = f j; count = g j }
