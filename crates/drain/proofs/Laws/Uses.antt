-- The links of what waits to be cleaned, counted by provider and chained by consumer: how one loop makes the columns, and another frees what one component relied on.
use Rattle.std.specs.Int.{from_bool}
use Rattle.model.proofs.Logic.{Bool, List, List·getD-eq-default, [], ◌&&◌, ◌+◌, ◌-◌, ◌<◌, ◌∙◌, ◌∷◌, ◌≡◌, ◌≤◌, ◌⊎◌, add-one, and-false, ap, append-nil, arith, cond, dec_lt, drop, drop-cons, eq-eqb, eqb, eqb-false, eqb-true, false, get_or, get_or-replicate, get_or-set_other, get_or-set_same, inl, inr, length, length-append, length-set, length-take-le, lt-ltb, ltb, ltb-true, ne_eqb, refl, replicate, set, suc, sym, take, take_all, true, zero, ℕ}
use Rattle.model.specs.{Lists.keep, Records.blank_link, Records.consumer_in, Records.provider_in, declared.records.Link.Link}
use Rattle.model.proofs.{Laws.Booleans.and_i, Laws.Booleans.and_l, Laws.Booleans.and_r, Laws.Booleans.cases, Laws.Booleans.clash, Laws.Lists.length-keep}
use Rattle.loops.proofs.{Laws.Chains.latest-at, Laws.Chains.latest-here, Laws.Chains.latest-le, Laws.Chains.latest-past, Laws.InPlace.kept_next, Laws.Scan.rest-done}
use Rattle.loops.specs.{Chains.latest}
use Rattle.drain.specs.{Order.uses, Order.waits, Uses.Counted, Uses.Freed, Uses.Tracks, Uses.chain_of, Uses.is_use, declared.uses.Uses.Uses}
use Rattle.sizes.specs.{Sizes.IDENTITIES, Sizes.LINKS}

-- ---- how many entries pass, with one more at the end or at the front

module _ {A : Type 0} (p : A → Bool) (xs : List A) (i : ℕ) (d : A) (l : i < length xs) where
  pub one-more : length (keep p (take (suc i) xs)) ≡ length (keep p (take i xs)) + from_bool (p (get_or xs i d))
  one-more = go (cases (p (get_or xs i d)))
    where
      go : (p (get_or xs i d) ≡ true) ⊎ (p (get_or xs i d) ≡ false) → length (keep p (take (suc i) xs)) ≡ length (keep p (take i xs)) + from_bool (p (get_or xs i d))
      go (inl t) = rw (kept_next p xs i d true l t, t) (omega (arith, length-append (keep p (take i xs)) (get_or xs i d ∷ [])))
      go (inr t) = rw (kept_next p xs i d false l t, append-nil (keep p (take i xs)), t) (omega arith)

  one-left : length (keep p (drop i xs)) ≡ from_bool (p (get_or xs i d)) + length (keep p (drop (suc i) xs))
  one-left = go (cases (p (get_or xs i d)))
    where
      go : (p (get_or xs i d) ≡ true) ⊎ (p (get_or xs i d) ≡ false) → length (keep p (drop i xs)) ≡ from_bool (p (get_or xs i d)) + length (keep p (drop (suc i) xs))
      go (inl t) = rw (drop-cons xs i d l, keep, t) (omega arith)
      go (inr t) = rw (drop-cons xs i d l, keep, t) (omega arith)

-- ---- which links count

-- one that waits is an identity
waits-below : (waiting : List Bool) (id : ℕ) → length waiting ≡ IDENTITIES → waits waiting id ≡ true → id < IDENTITIES
waits-below waiting id s w = go (dec_lt id IDENTITIES)
  where
    go : Dec (id < IDENTITIES) → id < IDENTITIES
    go (yes l) = l
    go (no l) = clash (waits waiting id) w (List·getD-eq-default waiting false {n = id} (omega (arith, s)))

module _ (waiting : List Bool) (p : ℕ) (l : Link) where
  -- a link of this provider, if its consumer waits
  uses-is : l.live ≡ true → provider_in l ≡ p → uses waiting p l ≡ waits waiting (consumer_in l)
  unfolding uses
  uses-is v e = rw (v, eq-eqb (provider_in l) p e) (go (waits waiting (consumer_in l)))
    where
      go : (b : Bool) → b && true ≡ b
      go true = refl
      go false = refl

  uses-not : (provider_in l ≡ p → ⊥) → uses waiting p l ≡ false
  unfolding uses
  uses-not e = rw (ne_eqb (provider_in l) p e) (and-false (l.live && waits waiting (consumer_in l)))

  -- one that counts is a use
  used-is : length waiting ≡ IDENTITIES → p < IDENTITIES → uses waiting p l ≡ true → is_use l ≡ true
  unfolding uses
  used-is s lp u =
      let a = and_l (l.live && waits waiting (consumer_in l)) _ u in
      let e : provider_in l ≡ p = eqb-true (provider_in l) p (and_r (l.live && waits waiting (consumer_in l)) _ u) in
      let c = lt-ltb (consumer_in l) IDENTITIES (waits-below waiting (consumer_in l) s (and_r l.live _ a)) in
      and_i (l.live && ltb (consumer_in l) IDENTITIES) _ (and_i l.live _ (and_l l.live _ a) c) (lt-ltb (provider_in l) IDENTITIES (omega arith))

-- ---- the chain that a link stands in

module _ (ls : List Link) (i : ℕ) where
  abbrev here : Link
  here = get_or ls i blank_link

  in_chain : is_use here ≡ true → chain_of ls i ≡ consumer_in here
  unfolding chain_of
  in_chain t = rw t

  in_none : is_use here ≡ false → chain_of ls i ≡ IDENTITIES
  unfolding chain_of
  in_none t = rw t

  -- one of an identity's chain is a use of that consumer
  chain-use : (c : ℕ) → c < IDENTITIES → chain_of ls i ≡ c → (is_use here ≡ true) × (consumer_in here ≡ c)
  chain-use c l e = go (cases (is_use here))
    where
      go : (is_use here ≡ true) ⊎ (is_use here ≡ false) → (is_use here ≡ true) × (consumer_in here ≡ c)
      go (inl t) = (t, sym (in_chain t) ∙ e)
      go (inr t) = let z : IDENTITIES ≡ c = sym (in_none t) ∙ e in absurd (omega arith)

  use-live : is_use here ≡ true → here.live ≡ true
  use-live t = and_l here.live _ (and_l (here.live && ltb (consumer_in here) IDENTITIES) _ t)

  use-consumer : is_use here ≡ true → consumer_in here < IDENTITIES
  use-consumer t = ltb-true (consumer_in here) IDENTITIES (and_r here.live _ (and_l (here.live && ltb (consumer_in here) IDENTITIES) _ t))

  use-provider : is_use here ≡ true → provider_in here < IDENTITIES
  use-provider t = ltb-true (provider_in here) IDENTITIES (and_r (here.live && ltb (consumer_in here) IDENTITIES) _ t)

-- ---- the loop that counts and chains, before link i

pub record CountingUses (waiting : List Bool) (ls : List Link) (i : ℕ) (u : Uses) : Type 0 where
  pub reached : i ≤ length ls
  pub fits : length ls ≤ LINKS
  pub size : length waiting ≡ IDENTITIES
  pub same : u.waiting ≡ waiting
  pub relied_size : length u.relied ≡ IDENTITIES
  pub first_size : length u.first ≡ IDENTITIES
  pub next_size : length u.next ≡ LINKS
  pub counted : Counted waiting (take i ls) u.relied
  pub starts : (c : ℕ) → c < IDENTITIES → get_or u.first c 0 ≡ latest (chain_of ls) c i
  pub leads : (j : ℕ) → j < i → chain_of ls j < IDENTITIES → get_or u.next j 0 ≡ latest (chain_of ls) (chain_of ls j) j

pub counting_start :
    {waiting : List Bool} {ls : List Link} {u : Uses} → length ls ≤ LINKS → length waiting ≡ IDENTITIES → u.waiting ≡ waiting → u.relied ≡ replicate IDENTITIES 0 → u.first ≡ replicate IDENTITIES 0 →
    length u.next ≡ LINKS → CountingUses waiting ls 0 u
unfolding latest
counting_start l s w r f n =
    record {
      reached = omega arith;
      fits = l;
      size = s;
      same = w;
      relied_size = rw r;
      first_size = rw f;
      next_size = n;
      counted = λ c l. rw r (get_or-replicate IDENTITIES c 0 0 l);
      starts = λ c l. rw f (get_or-replicate IDENTITIES c 0 0 l);
      leads = λ j l. absurd (omega arith);
    }

module _ {waiting : List Bool} {ls : List Link} {i : ℕ} {u : Uses} (h : CountingUses waiting ls i u) (l : i < length ls) where
  abbrev link : Link
  link = get_or ls i blank_link

  abbrev chain : ℕ → ℕ
  chain = chain_of ls

  -- a count fits
  pub counting_room : (a b : Bool) (p : ℕ) → a && ltb p IDENTITIES ≡ true → get_or u.relied p 0 + from_bool b ≤ LINKS
  counting_room a b p z =
      let bit : from_bool b ≤ 1 = go b in
      omega (arith, bit, h.fits, h.counted p (ltb-true p IDENTITIES (and_r a _ z)), length-keep (uses waiting p) (take i ls), length-take-le i ls (omega arith))
    where
      go : (b : Bool) → from_bool b ≤ 1
      go true = omega arith
      go false = omega arith

  -- a link that is a use: it counts if its consumer waits, and leads to the last one before it of its consumer
  pub counting_use :
      {c p n : ℕ} → c ≡ consumer_in link → p ≡ provider_in link → n ≡ from_bool (get_or u.waiting c false) → link.live && ltb c IDENTITIES && ltb p IDENTITIES ≡ true →
      CountingUses waiting ls (i + 1) (record { waiting = u.waiting; relied = set u.relied p (get_or u.relied p 0 + n); first = set u.first c (i + 1); next = set u.next i (get_or u.first c 0) })
  counting_use {c} {p} {n} ec ep en z = rw (add-one i)
      record {
        reached = l;
        fits = h.fits;
        size = h.size;
        same = h.same;
        relied_size = length-set u.relied p (get_or u.relied p 0 + n) ∙ h.relied_size;
        first_size = length-set u.first c (suc i) ∙ h.first_size;
        next_size = length-set u.next i (get_or u.first c 0) ∙ h.next_size;
        counted = λ q lq. counts q lq (cases (eqb q p)) ∙ sym (one-more (uses waiting q) ls i blank_link l);
        starts = λ x k. begins x k (cases (eqb x c));
        leads = λ j k m. led j k m (cases (eqb j i));
      }
    where
      t : is_use link ≡ true
      t = rw (ec, ep) at z

      lp : p < IDENTITIES
      lp = rw ep (use-provider ls i t)

      own : chain i ≡ c
      own = in_chain ls i t ∙ sym ec

      counts : (q : ℕ) → q < IDENTITIES → (eqb q p ≡ true) ⊎ (eqb q p ≡ false) → get_or (set u.relied p (get_or u.relied p 0 + n)) q 0 ≡ length (keep (uses waiting q) (take i ls)) + from_bool (uses waiting q link)
      counts q lq (inl f) =
          let g : q ≡ p = eqb-true q p f in
          let bit : n ≡ from_bool (uses waiting q link) = en ∙ rw (h.same, ec) (ap from_bool (sym (uses-is waiting q link (use-live ls i t) (sym (g ∙ ep))))) in
          let was = h.counted p lp in
          rw (← bit, g) (get_or-set_same u.relied p (get_or u.relied p 0 + n) 0 (omega (arith, h.relied_size)) ∙ ap (λ (k : ℕ). k + n) was)
      counts q lq (inr f) =
          let g : (q ≡ p → ⊥) = eqb-false q p f in
          rw (uses-not waiting q link (λ m. g (sym (ep ∙ m)))) (get_or-set_other u.relied p q (get_or u.relied p 0 + n) 0 g ∙ omega (arith, h.counted q lq))

      begins : (x : ℕ) → x < IDENTITIES → (eqb x c ≡ true) ⊎ (eqb x c ≡ false) → get_or (set u.first c (suc i)) x 0 ≡ latest chain x (suc i)
      begins x k (inl f) =
          let g : x ≡ c = eqb-true x c f in
          rw g (get_or-set_same u.first c (suc i) 0 (omega (arith, h.first_size)) ∙ sym (latest-here chain c i own))
      begins x k (inr f) =
          get_or-set_other u.first c x (suc i) 0 (eqb-false x c f) ∙ h.starts x k ∙ sym (latest-past chain x i (λ g. eqb-false x c f (sym g ∙ own)))

      led : (j : ℕ) → j < suc i → chain j < IDENTITIES → (eqb j i ≡ true) ⊎ (eqb j i ≡ false) → get_or (set u.next i (get_or u.first c 0)) j 0 ≡ latest chain (chain j) j
      led j k m (inl f) =
          let g : j ≡ i = eqb-true j i f in
          rw (g, own) (get_or-set_same u.next i (get_or u.first c 0) 0 (omega (arith, h.next_size, h.fits)) ∙ h.starts c (rw ec (use-consumer ls i t)))
      led j k m (inr f) = let g : (j ≡ i → ⊥) = eqb-false j i f in get_or-set_other u.next i j (get_or u.first c 0) 0 g ∙ h.leads j (omega arith) m

  -- one that is not
  pub counting_other : {c p : ℕ} → c ≡ consumer_in link → p ≡ provider_in link → link.live && ltb c IDENTITIES && ltb p IDENTITIES ≡ false → CountingUses waiting ls (i + 1) u
  counting_other {c} {p} ec ep z = rw (add-one i)
      record {
        reached = l;
        fits = h.fits;
        size = h.size;
        same = h.same;
        relied_size = h.relied_size;
        first_size = h.first_size;
        next_size = h.next_size;
        counted = λ q lq. unused q lq (cases (uses waiting q link)) ∙ sym (one-more (uses waiting q) ls i blank_link l);
        starts = λ x k. h.starts x k ∙ sym (latest-past chain x i (λ g. let w : IDENTITIES ≡ x = sym (in_none ls i t) ∙ g in absurd (omega arith)));
        leads = λ j k n. older j k n (dec_lt j i);
      }
    where
      t : is_use link ≡ false
      t = rw (ec, ep) at z

      unused : (q : ℕ) → q < IDENTITIES → (uses waiting q link ≡ true) ⊎ (uses waiting q link ≡ false) → get_or u.relied q 0 ≡ length (keep (uses waiting q) (take i ls)) + from_bool (uses waiting q link)
      unused q lq (inl f) = clash (is_use link) (used-is waiting q link h.size lq f) t
      unused q lq (inr f) = rw f (omega (arith, h.counted q lq))

      older : (j : ℕ) → j < suc i → chain j < IDENTITIES → Dec (j < i) → get_or u.next j 0 ≡ latest chain (chain j) j
      older j k n (yes x) = h.leads j x n
      older j k n (no x) =
          let g : j ≡ i = omega arith in
          let w : chain j ≡ IDENTITIES = rw g (in_none ls i t) in
          absurd (omega arith)

-- all counted
pub counting_end : {waiting : List Bool} {ls : List Link} {i : ℕ} {u : Uses} → CountingUses waiting ls i u → length ls ≤ i → Tracks ls u
counting_end {waiting} {ls} {i} h l =
    let e : i ≡ length ls = omega (arith, h.reached) in
    record {
      fits = h.fits;
      size = rw h.same h.size;
      relied_size = h.relied_size;
      counted = rw h.same (λ p k. h.counted p k ∙ ap (λ (xs : List Link). length (keep (uses waiting p) xs)) (take_all i ls l));
      chains = record { starts = rw e at h.starts; leads = λ j k n. h.leads j (omega arith) n };
    }

-- ---- the loop that frees what one component relied on, with the links from c on done

module _ (waiting : List Bool) (ls : List Link) (id : ℕ) where
  -- what waits then
  abbrev pub after : List Bool
  after = set waiting id false

  -- how many links of p count, those from c on without the component
  abbrev pub mixed : ℕ → ℕ → ℕ
  mixed p c = length (keep (uses waiting p) (take c ls)) + length (keep (uses after p) (drop c ls))

  -- at one link more
  mixed-next : (p e : ℕ) → e < length ls → let x = get_or ls e blank_link in mixed p (suc e) + from_bool (uses after p x) ≡ mixed p e + from_bool (uses waiting p x)
  mixed-next p e l = omega (arith, one-more (uses waiting p) ls e blank_link l, one-left (uses after p) ls e blank_link l)

  module _ (size : length waiting ≡ IDENTITIES) (lid : id < IDENTITIES) (p : ℕ) where
    -- a link of the component counts no more, and another as before
    own-after : (x : Link) → consumer_in x ≡ id → uses after p x ≡ false
    unfolding uses
    own-after x e = rw (e, get_or-set_same waiting id false false (omega arith)) (go x.live (eqb (provider_in x) p))
      where
        go : (a b : Bool) → a && false && b ≡ false
        go true b = refl
        go false b = refl

    other-after : (x : Link) → (consumer_in x ≡ id → ⊥) → uses waiting p x ≡ uses after p x
    unfolding uses
    other-after x e = rw (get_or-set_other waiting id (consumer_in x) false false e)

    module _ (lp : p < IDENTITIES) where
      -- one outside the component's chain
      outside : (e : ℕ) → (chain_of ls e ≡ id → ⊥) → let x = get_or ls e blank_link in uses waiting p x ≡ uses after p x
      outside e n = go (cases (eqb (consumer_in x) id)) (cases (uses waiting p x))
        where
          x : Link
          x = get_or ls e blank_link

          go : (eqb (consumer_in x) id ≡ true) ⊎ (eqb (consumer_in x) id ≡ false) → (uses waiting p x ≡ true) ⊎ (uses waiting p x ≡ false) → uses waiting p x ≡ uses after p x
          go (inl t) (inl u) = absurd (n (in_chain ls e (used-is waiting p x size lp u) ∙ eqb-true (consumer_in x) id t))
          go (inl t) (inr u) = u ∙ sym (own-after x (eqb-true (consumer_in x) id t))
          go (inr t) u = other-after x (eqb-false (consumer_in x) id t)

      -- so the count at the last link of the chain is that at the end
      mixed-latest : (n : ℕ) → n ≤ length ls → mixed p (latest (chain_of ls) id n) ≡ mixed p n
      unfolding latest
      mixed-latest zero l = refl
      mixed-latest (suc n) l = go (cases (eqb (chain_of ls n) id)) (mixed-latest n (omega arith))
        where
          go : (eqb (chain_of ls n) id ≡ true) ⊎ (eqb (chain_of ls n) id ≡ false) → mixed p (latest (chain_of ls) id n) ≡ mixed p n → mixed p (cond (eqb (chain_of ls n) id) (suc n) (latest (chain_of ls) id n)) ≡ mixed p (suc n)
          go (inl t) h = rw t
          go (inr t) h =
              let x = get_or ls n blank_link in
              let same = ap from_bool (outside n (eqb-false (chain_of ls n) id t)) in
              rw t (omega (arith, h, mixed-next p n l, same))

-- c stands for the last link of the chain among some first ones; what each is relied upon, and the lowest that became free
pub record Freeing (ls : List Link) (o : Uses) (id : ℕ) (now : Uses) (lowest c : ℕ) : Type 0 where
  pub was : Tracks ls o
  pub waits-here : waits o.waiting id ≡ true
  pub left : ℕ
  pub within : left ≤ length ls
  pub here : c ≡ latest (chain_of ls) id left
  pub waiting : now.waiting ≡ set o.waiting id false
  pub size : length now.relied ≡ IDENTITIES
  pub same_first : now.first ≡ o.first
  pub same_next : now.next ≡ o.next
  pub counted : (p : ℕ) → p < IDENTITIES → get_or now.relied p 0 ≡ mixed o.waiting ls id p c
  pub low : lowest ≤ id + 1
  pub none_below : (j : ℕ) → j < lowest → get_or now.relied j 0 ≡ 0 → get_or o.relied j 0 ≡ 0

pub freeing_within : {ls : List Link} {o : Uses} {id : ℕ} → Tracks ls o → waits o.waiting id ≡ true → id < IDENTITIES
freeing_within {o = o} {id} w t = waits-below o.waiting id w.size t

-- from the first of its chain
freeing_start :
    {ls : List Link} {o : Uses} {id : ℕ} → Tracks ls o → waits o.waiting id ≡ true → Freeing ls o id (record { waiting = set o.waiting id false; relied = o.relied; first = o.first; next = o.next }) (id + 1) (get_or o.first id 0)
freeing_start {ls} {o} {id} w t =
    let lid = freeing_within w t in
    let s = w.chains.starts id lid in
    let whole : ((p : ℕ) → p < IDENTITIES → get_or o.relied p 0 ≡ mixed o.waiting ls id p (length ls)) =
    λ p l. rw (take_all (length ls) ls (omega arith), rest-done (length ls) ls (omega arith), keep) (omega (arith, w.counted p l)) in
    record {
      was = w;
      waits-here = t;
      left = length ls;
      within = omega arith;
      here = s;
      waiting = refl;
      size = w.relied_size;
      same_first = refl;
      same_next = refl;
      counted = λ p l. whole p l ∙ sym (ap (mixed o.waiting ls id p) s ∙ mixed-latest o.waiting ls id w.size lid p l (length ls) (omega arith));
      low = omega arith;
      none_below = λ j l z. z;
    }

-- the lowest after one more provider that is relied upon so often
abbrev pub Lower : ℕ → ℕ → ℕ → ℕ → Type 0
Lower left p lowest lowest' = (lowest' ≤ lowest) × (left ≡ 0 → lowest' ≤ p)

module _ {ls : List Link} {o : Uses} {id : ℕ} {now : Uses} {lowest c : ℕ} (h : Freeing ls o id now lowest c) where
  lid : id < IDENTITIES
  lid = freeing_within h.was h.waits-here

  freeing_below : c ≤ length ls
  freeing_below = omega (arith, h.here, latest-le (chain_of ls) id h.left, h.within)

  module _ (z : 0 < c) where
    abbrev used : Link
    used = get_or ls (c - 1) blank_link

    is-next : c ≡ suc (c - 1)
    is-next = omega arith

    its_chain : chain_of ls (c - 1) ≡ id
    its_chain = latest-at (chain_of ls) id h.left (c - 1) (sym h.here ∙ is-next)

    use-of : (is_use used ≡ true) × (consumer_in used ≡ id)
    use-of = chain-use ls (c - 1) id lid its_chain

    leads-on : get_or now.next (c - 1) 0 ≡ latest (chain_of ls) id (c - 1)
    leads-on =
        ap (λ (ns : List ℕ). get_or ns (c - 1) 0) h.same_next ∙ h.was.chains.leads (c - 1) (omega (arith, freeing_below)) (rw its_chain lid)
        ∙ ap (λ (x : ℕ). latest (chain_of ls) x (c - 1)) its_chain

    freeing_less : get_or now.next (c - 1) 0 < c
    freeing_less = omega (arith, leads-on, latest-le (chain_of ls) id (c - 1))

    -- what each is relied upon, before and after the link
    step : (q : ℕ) → mixed o.waiting ls id q c ≡ mixed o.waiting ls id q (c - 1) + from_bool (uses o.waiting q used)
    step q =
        let e = ap (mixed o.waiting ls id q) is-next in
        let n = ap from_bool (own-after o.waiting ls id h.was.size lid q used use-of.1) in
        omega (arith, e, n, mixed-next o.waiting ls id q (c - 1) (omega (arith, freeing_below)))

    on-to : (q : ℕ) → q < IDENTITIES → mixed o.waiting ls id q (c - 1) ≡ mixed o.waiting ls id q (get_or now.next (c - 1) 0)
    on-to q l = sym (ap (mixed o.waiting ls id q) leads-on ∙ mixed-latest o.waiting ls id h.was.size lid q l (c - 1) (omega (arith, freeing_below)))

    module _ {p : ℕ} (e : p ≡ provider_in used) where
      freeing_identity : p < IDENTITIES
      freeing_identity = rw e (use-provider ls (c - 1) use-of.0)

      -- its provider is relied upon once more by it
      own : get_or now.relied p 0 ≡ suc (mixed o.waiting ls id p (c - 1))
      own =
          let w : waits o.waiting (consumer_in used) ≡ true = rw use-of.1 h.waits-here in
          let t = ap from_bool (uses-is o.waiting p used (use-live ls (c - 1) use-of.0) (sym e) ∙ w) in
          omega (arith, h.counted p freeing_identity, step p, t)

      freeing_some : 0 < get_or now.relied p 0
      freeing_some = omega (arith, own)

      -- the link counts no more; the lowest is kept, or its provider is lower and free
      freeing_next :
          {lowest' : ℕ} → let less = get_or now.relied p 0 - 1 in
          Lower less p lowest lowest'
          → Freeing ls o id (record { waiting = now.waiting; relied = set now.relied p less; first = now.first; next = now.next }) lowest' (get_or now.next (c - 1) 0)
      freeing_next {lowest'} (a, b) =
          record {
            was = h.was;
            waits-here = h.waits-here;
            left = c - 1;
            within = omega (arith, freeing_below);
            here = leads-on;
            waiting = h.waiting;
            size = length-set now.relied p less ∙ h.size;
            same_first = h.same_first;
            same_next = h.same_next;
            counted = λ q l. counts q l (cases (eqb q p)) ∙ on-to q l;
            low = omega (arith, h.low);
            none_below = λ j l. below j l (cases (eqb j p));
          }
        where
          less : ℕ
          less = get_or now.relied p 0 - 1

          fits : p < length now.relied
          fits = omega (arith, freeing_identity, h.size)

          counts : (q : ℕ) → q < IDENTITIES → (eqb q p ≡ true) ⊎ (eqb q p ≡ false) → get_or (set now.relied p less) q 0 ≡ mixed o.waiting ls id q (c - 1)
          counts q l (inl t) = let g : q ≡ p = eqb-true q p t in rw g (get_or-set_same now.relied p less 0 fits ∙ omega (arith, own))
          counts q l (inr t) =
              let n = eqb-false q p t in
              let f = ap from_bool (uses-not o.waiting q used (λ x. n (sym (e ∙ x)))) in
              get_or-set_other now.relied p q less 0 n ∙ omega (arith, h.counted q l, step q, f)

          below : (j : ℕ) → j < lowest' → (eqb j p ≡ true) ⊎ (eqb j p ≡ false) → get_or (set now.relied p less) j 0 ≡ 0 → get_or o.relied j 0 ≡ 0
          below j l (inl t) w =
              let g : j ≡ p = eqb-true j p t in
              let v : less ≡ 0 = sym (get_or-set_same now.relied p less 0 fits) ∙ (rw g at w) in
              let k = b v in
              absurd (omega arith)
          below j l (inr t) w = h.none_below j (omega arith) (sym (get_or-set_other now.relied p j less 0 (eqb-false j p t)) ∙ w)

  -- the whole chain walked
  freeing_end : c ≤ 0 → Freed ls o now id lowest
  freeing_end z =
      let e : c ≡ 0 = omega arith in
      let ended : ((p : ℕ) → mixed o.waiting ls id p 0 ≡ length (keep (uses (set o.waiting id false) p) ls)) = λ p. omega arith in
      let counted : Counted (set o.waiting id false) ls now.relied = λ p l. h.counted p l ∙ ap (mixed o.waiting ls id p) e ∙ ended p in
      record {
        tracks = record {
          fits = h.was.fits;
          size = rw h.waiting (length-set o.waiting id false ∙ h.was.size);
          relied_size = h.size;
          counted = rw h.waiting counted;
          chains = rw (h.same_first, h.same_next) h.was.chains;
        };
        waiting = h.waiting;
        next = h.low;
        none_below = h.none_below;
      }

-- the same with what the code needs of link c - 1
pub record Walking (ls : List Link) (o : Uses) (id : ℕ) (now : Uses) (lowest c : ℕ) : Type 0 where
  pub freeing : Freeing ls o id now lowest c
  pub below : c ≤ length ls
  pub provider : 0 < c → provider_in (get_or ls (c - 1) blank_link) < IDENTITIES
  pub relied : 0 < c → 0 < get_or now.relied (provider_in (get_or ls (c - 1) blank_link)) 0
  pub leads : 0 < c → get_or now.next (c - 1) 0 < c

walking : {ls : List Link} {o : Uses} {id : ℕ} {now : Uses} {lowest c : ℕ} → Freeing ls o id now lowest c → Walking ls o id now lowest c
walking h = record { freeing = h; below = freeing_below h; provider = λ z. freeing_identity h z refl; relied = λ z. freeing_some h z refl; leads = freeing_less h }

pub walking_start :
    {ls : List Link} {o : Uses} {id : ℕ} → Tracks ls o → waits o.waiting id ≡ true → Walking ls o id (record { waiting = set o.waiting id false; relied = o.relied; first = o.first; next = o.next }) (id + 1) (get_or o.first id 0)
walking_start w t = walking (freeing_start w t)

module _ {ls : List Link} {o : Uses} {id : ℕ} {now : Uses} {lowest c : ℕ} (h : Walking ls o id now lowest c) where
  pub walking_next :
      {p lowest' : ℕ} → 0 < c → p ≡ provider_in (get_or ls (c - 1) blank_link) → Lower (get_or now.relied p 0 - 1) p lowest lowest' →
      Walking ls o id (record { waiting = now.waiting; relied = set now.relied p (get_or now.relied p 0 - 1); first = now.first; next = now.next }) lowest' (get_or now.next (c - 1) 0)
  walking_next z e l = walking (freeing_next h.freeing z e l)

  pub walking_end : c ≤ 0 → Freed ls o now id lowest
  walking_end z = freeing_end h.freeing z
