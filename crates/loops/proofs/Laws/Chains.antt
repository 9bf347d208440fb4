-- Chains: how a loop makes them, and a walk of one finds what a scan of every entry finds, for a test that only entries of its bucket pass.
use Rattle.model.proofs.Logic.{Bool, Bool·beq, List, [], ◌&&◌, ◌++◌, ◌+◌, ◌-◌, ◌<◌, ◌||◌, ◌∙◌, ◌∷◌, ◌≡◌, ◌≤◌, ◌⊎◌, add-one, ap, arith, cond, dec_lt, eq-eqb, eqb, eqb-false, eqb-true, false, get_or, get_or-replicate, get_or-set_other, get_or-set_same, inl, inr, length, length-set, ne_eqb, not, or-false, refl, replicate, set, suc, sym, take, take_all, take-suc, true, zero, ℕ}
use Rattle.model.specs.{Lists.all, Lists.any, Lists.conj, Records.blank_declaration, Records.declared_port, Records.owner_in, Records.same_port, Soundness.is_declaration, Soundness.rival_tests, Soundness.same_owner, declared.Port.Port, declared.records.Declaration.Declaration}
use Rattle.model.proofs.{Laws.Booleans.Each, Laws.Booleans.and_i, Laws.Booleans.and_l, Laws.Booleans.and_r, Laws.Booleans.cases, Laws.Booleans.clash, Laws.Booleans.each, Laws.Booleans.imp_i, Laws.Booleans.not_f, Laws.Booleans.not_t, Laws.Booleans.or_f_l, Laws.Lists.in_all}
use Rattle.loops.specs.{Chains.BUCKETS, Chains.Chained, Chains.bucket_at, Chains.bucket_of, Chains.latest, Chains.owner_bucket, Chains.port_bucket}

-- ---- the last entry of a bucket

module _ (bucket : ℕ → ℕ) (b : ℕ) where
  pub latest-here : (n : ℕ) → bucket n ≡ b → latest bucket b (suc n) ≡ suc n
  unfolding latest
  latest-here n e = rw (eq-eqb (bucket n) b e)

  pub latest-past : (n : ℕ) → (bucket n ≡ b → ⊥) → latest bucket b (suc n) ≡ latest bucket b n
  unfolding latest
  latest-past n e = rw (ne_eqb (bucket n) b e)

  pub latest-le : (n : ℕ) → latest bucket b n ≤ n
  unfolding latest
  latest-le zero = omega arith
  latest-le (suc n) = go (eqb (bucket n) b) (latest-le n)
    where
      go : (t : Bool) → latest bucket b n ≤ n → cond t (suc n) (latest bucket b n) ≤ suc n
      go true h = omega arith
      go false h = omega arith

  -- it is in the bucket
  pub latest-at : (n i : ℕ) → latest bucket b n ≡ suc i → bucket i ≡ b
  unfolding latest
  latest-at zero i e = absurd (omega arith)
  latest-at (suc n) i e = go (eqb (bucket n) b) refl e (latest-at n i)
    where
      go : (t : Bool) → eqb (bucket n) b ≡ t → cond t (suc n) (latest bucket b n) ≡ suc i → (latest bucket b n ≡ suc i → bucket i ≡ b) → bucket i ≡ b
      go true t h k = let g : n ≡ i = omega arith in rw g at (eqb-true (bucket n) b t)
      go false t h k = k h

  -- no later entry is in the bucket
  latest-none : (n e : ℕ) → latest bucket b n ≤ e → e < n → bucket e ≡ b → ⊥
  unfolding latest
  latest-none zero e l m h = absurd (omega arith)
  latest-none (suc n) e l m h = go (cases (eqb (bucket n) b)) (dec_lt e n) (λ k i. latest-none n e k i h)
    where
      go : (eqb (bucket n) b ≡ true) ⊎ (eqb (bucket n) b ≡ false) → Dec (e < n) → (latest bucket b n ≤ e → e < n → ⊥) → ⊥
      go (inl t) d f = let g : suc n ≤ e = rw t at l in absurd (omega arith)
      go (inr t) (yes k) f = f (rw t at l) k
      go (inr t) (no k) f = let g : e ≡ n = omega arith in eqb-false (bucket n) b t (rw g at h)

-- ---- a loop that makes the chains

module _ {bucket : Declaration → ℕ} {ds : List Declaration} where
  -- no entry yet
  pub chain_start : {first next : List ℕ} → first ≡ replicate BUCKETS 0 → length ds ≤ length next → Chained bucket ds 0 first next
  unfolding latest
  chain_start f e = rw f record { fits = e; buckets = refl; starts = λ b l. get_or-replicate BUCKETS b 0 0 l; leads = λ i l. absurd (omega arith) }

  -- one more entry, put before the others of its bucket
  pub chain_next :
      {i b : ℕ} {first next : List ℕ} → Chained bucket ds i first next → i < length ds → bucket (get_or ds i blank_declaration) ≡ b → b < BUCKETS →
      Chained bucket ds (i + 1) (set first b (i + 1)) (set next i (get_or first b 0))
  chain_next {i} {b} {first} {next} h l e m =
      rw (add-one i)
      record {
        fits = rw (length-set next i (get_or first b 0)) h.fits;
        buckets = length-set first b (suc i) ∙ h.buckets;
        starts = λ x k. starts x k (cases (eqb x b));
        leads = λ k n. leads k n (cases (eqb k i));
      }
    where
      starts : (x : ℕ) → x < BUCKETS → (eqb x b ≡ true) ⊎ (eqb x b ≡ false) → get_or (set first b (suc i)) x 0 ≡ latest (bucket_at bucket ds) x (suc i)
      starts x k (inl t) =
          let g : x ≡ b = eqb-true x b t in
          rw g (get_or-set_same first b (suc i) 0 (omega (arith, h.buckets)) ∙ sym (latest-here (bucket_at bucket ds) b i e))
      starts x k (inr t) =
          get_or-set_other first b x (suc i) 0 (eqb-false x b t) ∙ h.starts x k ∙ sym (latest-past (bucket_at bucket ds) x i (λ g. eqb-false x b t (sym g ∙ e)))

      leads : (k : ℕ) → k < suc i → (eqb k i ≡ true) ⊎ (eqb k i ≡ false) → get_or (set next i (get_or first b 0)) k 0 ≡ latest (bucket_at bucket ds) (bucket_at bucket ds k) k
      leads k n (inl t) =
          let g : k ≡ i = eqb-true k i t in
          rw (g, e) (get_or-set_same next i (get_or first b 0) 0 (omega (arith, h.fits)) ∙ h.starts b m)
      leads k n (inr t) =
          let g : (k ≡ i → ⊥) = eqb-false k i t in
          get_or-set_other next i k (get_or first b 0) 0 g ∙ h.leads k (omega arith)

-- ---- a walk of a chain

any_snoc : {A : Type 0} (p : A → Bool) (xs : List A) (x : A) → any p (xs ++ (x ∷ [])) ≡ p x || any p xs
any_snoc p [] x = refl
any_snoc p (y ∷ ys) x = rw (any_snoc p ys x) (exchange (p y) (p x) (any p ys))
  where
    exchange : (a b c : Bool) → a || (b || c) ≡ b || (a || c)
    exchange true true c = refl
    exchange true false c = refl
    exchange false true c = refl
    exchange false false c = refl

-- one more of the first entries
pub any-more : {A : Type 0} (p : A → Bool) (xs : List A) (k : ℕ) (d : A) → k < length xs → any p (take (suc k) xs) ≡ p (get_or xs k d) || any p (take k xs)
any-more p xs k d l = rw (take-suc xs k d l) (any_snoc p (take k xs) (get_or xs k d))

-- where only entries of a bucket pass, those up to the last one there answer as all do
latest-any : {A : Type 0} (xs : List A) (d : A) (p : A → Bool) (bucket : ℕ → ℕ) (b n : ℕ) → ((k : ℕ) → p (get_or xs k d) ≡ true → bucket k ≡ b) → n ≤ length xs → any p (take (latest bucket b n) xs) ≡ any p (take n xs)
unfolding latest
latest-any xs d p bucket b zero only l = refl
latest-any xs d p bucket b (suc n) only l = go (cases (eqb (bucket n) b)) (latest-any xs d p bucket b n only (omega arith))
  where
    rest : ℕ → Bool
    rest k = any p (take k xs)

    go : (eqb (bucket n) b ≡ true) ⊎ (eqb (bucket n) b ≡ false) → rest (latest bucket b n) ≡ rest n → rest (cond (eqb (bucket n) b) (suc n) (latest bucket b n)) ≡ rest (suc n)
    go (inl t) h = rw t
    go (inr t) h = rw (t, h, any-more p xs n d l) (miss (cases (p (get_or xs n d))))
      where
        miss : (p (get_or xs n d) ≡ true) ⊎ (p (get_or xs n d) ≡ false) → rest n ≡ p (get_or xs n d) || rest n
        miss (inl u) = absurd (eqb-false (bucket n) b t (only n u))
        miss (inr u) = rw u

-- c stands for the last of some first entries in bucket b, the only one whose entries can pass; w tells whether one of those first entries passes
pub record Walk (bucket : Declaration → ℕ) (ds : List Declaration) (b : ℕ) (next : List ℕ) (p : Declaration → Bool) (w : Bool) (c : ℕ) : Type 0 where
  pub only : (d : Declaration) → p d ≡ true → bucket d ≡ b
  pub left : ℕ
  pub fits : length ds ≤ length next
  pub within : left ≤ length ds
  pub below : c ≤ length ds
  pub here : c ≡ latest (bucket_at bucket ds) b left
  pub leads : (i : ℕ) → i < left → get_or next i 0 ≡ latest (bucket_at bucket ds) (bucket_at bucket ds i) i
  pub answers : any p (take left ds) ≡ w

-- from the first of a bucket
pub walk_start :
    {bucket : Declaration → ℕ} {ds : List Declaration} {b i : ℕ} {first next : List ℕ} {p : Declaration → Bool} → (i ≡ b) × (i < BUCKETS) → Chained bucket ds (length ds) first next →
    ((d : Declaration) → p d ≡ true → bucket d ≡ b) → Walk bucket ds b next p (any p ds) (get_or first i 0)
walk_start {bucket} {ds} {b} {i} {first} {p = p} (e, l) h only =
    let starts : get_or first i 0 ≡ latest (bucket_at bucket ds) b (length ds) = h.starts i l ∙ ap (λ (x : ℕ). latest (bucket_at bucket ds) x (length ds)) e in
    record {
      only = only;
      left = length ds;
      fits = h.fits;
      within = omega arith;
      below = omega (arith, starts, latest-le (bucket_at bucket ds) b (length ds));
      here = starts;
      leads = h.leads;
      answers = ap (any p) (take_all (length ds) ds (omega arith));
    }

module _ {bucket : Declaration → ℕ} {ds : List Declaration} {b : ℕ} {next : List ℕ} {p : Declaration → Bool} {w : Bool} {c : ℕ} (at : Walk bucket ds b next p w c) where
  -- the entry that c stands for
  abbrev entry : Declaration
  entry = get_or ds (c - 1) blank_declaration

  -- an entry leads to the last one before it in the bucket
  lead : 0 < c → get_or next (c - 1) 0 ≡ latest (bucket_at bucket ds) b (c - 1)
  lead l = go (c - 1) (omega arith)
    where
      go : (i : ℕ) → c ≡ suc i → get_or next i 0 ≡ latest (bucket_at bucket ds) b i
      go i e =
          at.leads i (omega (arith, at.here, latest-le (bucket_at bucket ds) b at.left)) ∙ ap (λ (x : ℕ). latest (bucket_at bucket ds) x i) (latest-at (bucket_at bucket ds) b at.left i (sym at.here ∙ e))

  -- the entries up to c answer as all do
  rest : any p (take c ds) ≡ w
  rest = rw at.here (latest-any ds blank_declaration p (bucket_at bucket ds) b at.left (λ k t. at.only _ t) at.within ∙ at.answers)

  -- the entry at hand, or one of those before it
  step : 0 < c → p entry || any p (take (c - 1) ds) ≡ w
  step l = let e : c ≡ suc (c - 1) = omega arith in sym (any-more p ds (c - 1) blank_declaration (omega (arith, at.below))) ∙ ap (λ (k : ℕ). any p (take k ds)) (sym e) ∙ rest

  -- the entry that one leads to, whether that one passed or not
  walk_on : 0 < c → {v : Bool} → any p (take (c - 1) ds) ≡ v → Walk bucket ds b next p v (get_or next (c - 1) 0)
  walk_on l e =
      let less = latest-le (bucket_at bucket ds) b (c - 1) in
      record {
        only = at.only;
        left = c - 1;
        fits = at.fits;
        within = omega (arith, at.below);
        below = omega (arith, lead l, less, at.below);
        here = lead l;
        leads = λ i k. at.leads i (omega (arith, at.here, latest-le (bucket_at bucket ds) b at.left));
        answers = e;
      }

  pub walk_next : 0 < c → p entry ≡ false → Walk bucket ds b next p w (get_or next (c - 1) 0)
  walk_next l t = walk_on l (rw t at (step l))

  pub walk_less : 0 < c → get_or next (c - 1) 0 < c
  walk_less l = omega (arith, lead l, latest-le (bucket_at bucket ds) b (c - 1))

  pub walk_hit : 0 < c → p entry ≡ true → true ≡ w
  walk_hit l t = rw t at (step l)

  pub walk_end : c ≤ 0 → false ≡ w
  walk_end l = let e : c ≡ 0 = omega arith in rw e at rest

-- ---- a walk to the end, with marks on the entries that pass

-- of the first n entries those from c on are marked where they pass, and the others as they were
pub record Marks (p : ℕ → Bool) (n c : ℕ) (old new : List Bool) : Type 0 where
  pub size : length new ≡ length old
  pub before : (e : ℕ) → e < c → get_or new e false ≡ get_or old e false
  pub after : (e : ℕ) → c ≤ e → e < n → get_or new e false ≡ p e || get_or old e false

module _ (bucket : ℕ → ℕ) (b : ℕ) (p : ℕ → Bool) (only : (k : ℕ) → p k ≡ true → bucket k ≡ b) (n : ℕ) (old : List Bool) where
  -- an entry after the last one in the bucket does not pass
  misses : (k e : ℕ) → latest bucket b k ≤ e → e < k → p e ≡ false
  misses k e l m = go (cases (p e))
    where
      go : (p e ≡ true) ⊎ (p e ≡ false) → p e ≡ false
      go (inl t) = absurd (latest-none bucket b k e l m (only e t))
      go (inr t) = t

  marks_from : (c : ℕ) → c ≡ latest bucket b n → Marks p n c old old
  marks_from c h = record { size = refl; before = λ e l. refl; after = λ e l m. rw (misses n e (rw (← h) l) m) }

  -- at c, and at the entry d that it leads to: only the mark of entry c - 1 is written
  marks-on :
      (c d : ℕ) (new more : List Bool) → 0 < c → d ≡ latest bucket b (c - 1) → Marks p n c old new → length more ≡ length new →
      ((e : ℕ) → (e ≡ c - 1 → ⊥) → get_or more e false ≡ get_or new e false) → get_or more (c - 1) false ≡ p (c - 1) || get_or old (c - 1) false → Marks p n d old more
  marks-on c d new more z l at len others this = record { size = len ∙ at.size; before = before; after = λ e k m. go e k m (dec_lt e (c - 1)) (dec_lt (c - 1) e) }
    where
      less : latest bucket b (c - 1) ≤ c - 1
      less = latest-le bucket b (c - 1)

      before : (e : ℕ) → e < d → get_or more e false ≡ get_or old e false
      before e k = others e (omega (arith, l, less)) ∙ at.before e (omega (arith, l, less))

      go : (e : ℕ) → d ≤ e → e < n → Dec (e < c - 1) → Dec (c - 1 < e) → get_or more e false ≡ p e || get_or old e false
      go e k m (yes x) y = rw (misses (c - 1) e (rw (← l) k) x) (others e (omega arith) ∙ at.before e (omega arith))
      go e k m (no x) (yes y) = others e (omega arith) ∙ at.after e (omega arith) m
      go e k m (no x) (no y) = let g : e ≡ c - 1 = omega arith in rw g this

-- the test at each place
abbrev pub passes_at : (Declaration → Bool) → List Declaration → ℕ → Bool
passes_at p ds i = p (get_or ds i blank_declaration)

-- c is walked to, an entry that passes was found or not, and those met are marked; w tells whether one of all passes
pub record Meeting (bucket : Declaration → ℕ) (ds : List Declaration) (b : ℕ) (next : List ℕ) (p : Declaration → Bool) (old new : List Bool) (found w : Bool) (c : ℕ) : Type 0 where
  pub rest : Bool
  pub walk : Walk bucket ds b next p rest c
  pub told : found || rest ≡ w
  pub marks : Marks (passes_at p ds) (length ds) c old new

pub meet_start :
    {bucket : Declaration → ℕ} {ds : List Declaration} {b i : ℕ} {first next : List ℕ} {p : Declaration → Bool} {old : List Bool} → (i ≡ b) × (i < BUCKETS) → Chained bucket ds (length ds) first next →
    ((d : Declaration) → p d ≡ true → bucket d ≡ b) → Meeting bucket ds b next p old old false (any p ds) (get_or first i 0)
meet_start {bucket} {ds} {b} {i} {p = p} {old} (e, l) h only =
    record { rest = _; walk = walk_start (e, l) h only; told = refl; marks = marks_from (bucket_at bucket ds) b (passes_at p ds) (λ k t. only _ t) (length ds) old _ (h.starts i l ∙ ap (λ (x : ℕ). latest (bucket_at bucket ds) x (length ds)) e) }

module _ {bucket : Declaration → ℕ} {ds : List Declaration} {b c : ℕ} {next : List ℕ} {p : Declaration → Bool} {old new : List Bool} {found w : Bool} (h : Meeting bucket ds b next p old new found w c) where
  pub meet_less : 0 < c → get_or next (c - 1) 0 < c
  meet_less l = walk_less h.walk l

  -- the marks at the entry that this one leads to, with its own mark written
  marks-next :
      {new' : List Bool} → 0 < c → length new' ≡ length new → ((e : ℕ) → (e ≡ c - 1 → ⊥) → get_or new' e false ≡ get_or new e false) →
      get_or new' (c - 1) false ≡ passes_at p ds (c - 1) || get_or old (c - 1) false → Marks (passes_at p ds) (length ds) (get_or next (c - 1) 0) old new'
  marks-next l = marks-on (bucket_at bucket ds) b (passes_at p ds) (λ k t. h.walk.only _ t) (length ds) old c _ new _ l (lead h.walk l) h.marks

  pub meet_hit :
      {new' : List Bool} {found' : Bool} → 0 < c → c ≤ length new → passes_at p ds (c - 1) ≡ true → new' ≡ set new (c - 1) true → found' ≡ true →
      Meeting bucket ds b next p old new' found' w (get_or next (c - 1) 0)
  meet_hit l fit t e g =
      let same = get_or-set_same new (c - 1) true false (omega arith) in
      let marks = marks-next {new' = set new (c - 1) true} l (length-set new (c - 1) true) (λ k m. get_or-set_other new (c - 1) k true false m) (rw t same) in
      record { rest = _; walk = walk_on h.walk l refl; told = rw g (here found h.told); marks = rw e marks }
    where
      here : (x : Bool) → x || h.rest ≡ w → true ≡ w
      here true q = q
      here false q = walk_hit h.walk l t ∙ q

  pub meet_miss : {new' : List Bool} {found' : Bool} → 0 < c → passes_at p ds (c - 1) ≡ false → new' ≡ new → found' ≡ found → Meeting bucket ds b next p old new' found' w (get_or next (c - 1) 0)
  meet_miss l t e g = record { rest = h.rest; walk = walk_next h.walk l t; told = rw g h.told; marks = rw e (marks-next l refl (λ k m. refl) (rw t (h.marks.before (c - 1) (omega arith)))) }

  pub meet_end : c ≤ 0 → found ≡ w
  meet_end l = sym (or-false found) ∙ ap (λ (x : Bool). found || x) (walk_end h.walk l) ∙ h.told

-- ---- a test of an owner and a port is passed in their bucket alone

same_bucket : (a o : ℕ) (p q : Port) → eqb a o ≡ true → same_port p q ≡ true → bucket_of a p.key p.realm ≡ bucket_of o q.key q.realm
same_bucket a o p q t s = rw (eqb-true a o t, eqb-true p.key q.key (and_l _ _ s), eqb-true p.realm q.realm (and_r (eqb p.key q.key) _ s))

pub only_declaration : (o : ℕ) (p : Port) (b : Bool) (d : Declaration) → is_declaration o p b d ≡ true → owner_bucket d ≡ bucket_of o p.key p.realm
unfolding is_declaration
only_declaration o p b d t =
    let e = and_l (eqb (owner_in d) o && same_port (declared_port d) p) _ t in
    same_bucket (owner_in d) o (declared_port d) p (and_l (eqb (owner_in d) o) _ e) (and_r (eqb (owner_in d) o) _ e)

-- a declaration that is no provision
pub is-dependency : (o : ℕ) (p : Port) (d : Declaration) → is_declaration o p false d ≡ eqb (owner_in d) o && same_port (declared_port d) p && not d.provides
unfolding is_declaration
is-dependency o p d = ap (λ (x : Bool). eqb (owner_in d) o && same_port (declared_port d) p && x) (go d.provides)
  where
    go : (b : Bool) → Bool·beq b false ≡ not b
    go true = refl
    go false = refl

-- a declaration with which another clashes: the same port provided, and another owner
abbrev pub is_rival : (ℕ → Bool) → Declaration → Declaration → Bool
is_rival here d e = not (same_owner here d e)

pub only_rival : (here : ℕ → Bool) (d e : Declaration) → is_rival here d e ≡ true → port_bucket e ≡ port_bucket d
unfolding same_owner
only_rival here d e t =
    let tests = rival_tests here d e in
    let h : Each tests = each tests (not_f (conj tests) (or_f_l (not (conj tests)) (eqb (owner_in d) (owner_in e)) (not_t _ t))) in
    sym (same_bucket 0 0 (declared_port d) (declared_port e) refl h.1.1.1.1.0)

-- no clash with any declaration
pub no_rival : (here : ℕ → Bool) (d : Declaration) (xs : List Declaration) → not (any (is_rival here d) xs) ≡ all (same_owner here d) xs
no_rival here d [] = refl
no_rival here d (x ∷ xs) = rw (← (no_rival here d xs)) (go (same_owner here d x) (any (is_rival here d) xs))
  where
    go : (a b : Bool) → not (not a || b) ≡ a && not b
    go true b = refl
    go false b = refl

-- what is no provision, or has an absent owner, clashes with none
pub not_offered : (here : ℕ → Bool) (d : Declaration) (xs : List Declaration) → d.provides && here (owner_in d) ≡ false → all (same_owner here d) xs ≡ true
unfolding same_owner
not_offered here d xs t = in_all (same_owner here d) xs (λ e m. imp_i (conj (rival_tests here d e)) _ (never e))
  where
    never : (e : Declaration) → conj (rival_tests here d e) ≡ true → eqb (owner_in d) (owner_in e) ≡ true
    never e u = let h : Each (rival_tests here d e) = each (rival_tests here d e) u in clash (d.provides && here (owner_in d)) (and_i _ _ h.0 h.1.1.0) t
