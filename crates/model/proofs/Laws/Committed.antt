-- committed and the dependency ports after each change of the tables.
use Rattle.model.proofs.Logic.{Bool, List, List-as-Memᴰ, List·Memᴰ·append-cases, [], ◌&&◌, ◌++◌, ◌∙◌, ◌∷◌, ◌≡◌, ◌⊎◌, and-false, and-true, ap, append-nil, cond, eq-eqb, eqb, eqb-true, false, inl, inr, map, ne_eqb, not, refl, sym, true, ℕ}
use Rattle.model.specs.{Lifecycle.begun_link, Lists.keep, Records.binding_in, Records.consumer_in, Records.dead_for, Records.declared_port, Records.dependency, Records.is_live, Records.owner_in, Records.provision, Resolution.committed, Resolution.dependency_ports, Resolution.is_dependency_of, Resolution.is_live_link_of, Tables.Tables, Tables.not_inactive, declared.Binding.Binding, declared.Port.Port, declared.records.Declaration.Declaration, declared.records.Link.Link, declared.records.Node.Node}
use Rattle.model.proofs.{Laws.Booleans.and_l, Laws.Booleans.and_r, Laws.Booleans.cases, Laws.Booleans.clash, Laws.Booleans.not_t, Laws.Facts.Safe, Laws.Lists.in_map, Laws.Lists.keep_append, Laws.Lists.keep-keep, Laws.Lists.keep-none, Laws.Records.link-is}

pub live-link_of : (id : ℕ) (l : Link) → is_live_link_of id l ≡ true → (l.live ≡ true) × (consumer_in l ≡ id)
unfolding is_live_link_of
live-link_of id l h = (and_l l.live _ h, eqb-true _ _ (and_r l.live _ h))

pub live-link-other : (id : ℕ) (l : Link) → (consumer_in l ≡ id → ⊥) → is_live_link_of id l ≡ false
live-link-other id l f = go (cases (is_live_link_of id l))
  where
    go : (is_live_link_of id l ≡ true) ⊎ (is_live_link_of id l ≡ false) → is_live_link_of id l ≡ false
    go (inl e) = absurd (f (live-link_of id l e).1)
    go (inr e) = e

-- ---- the live links of a consumer, in link order: its committed is their bindings

abbrev pub live_links_of : List Link → ℕ → List Link
live_links_of ls id = keep (is_live_link_of id) ls

pub live-compact : (ls : List Link) (id : ℕ) → live_links_of (keep is_live ls) id ≡ live_links_of ls id
live-compact ls id = keep-keep (is_live_link_of id) is_live ls (λ l h. (live-link_of id l h).0)

pub live-dead : (ls : List Link) (id j : ℕ) → (id ≡ j → ⊥) → live_links_of (map (dead_for j) ls) id ≡ live_links_of ls id
unfolding is_live_link_of
live-dead [] id j d = refl
live-dead (l ∷ ls) id j d = go l.live (eqb (consumer_in l) id) refl (live-dead ls id j d)
  where
    -- these links behind one that is live for this consumer or not
    after : Bool → Link → List Link → List Link
    after live m ms = cond live (m ∷ keep (is_live_link_of id) ms) (keep (is_live_link_of id) ms)

    go : (v c : Bool) → eqb (consumer_in l) id ≡ c → live_links_of (map (dead_for j) ls) id ≡ live_links_of ls id
        → after (v && not (eqb (consumer_in l) j) && c) (dead_for j l) (map (dead_for j) ls) ≡ after (v && c) l ls
    go true true e ih =
        let other : eqb (consumer_in l) j ≡ false = ne_eqb (consumer_in l) j (λ x. d (sym (eqb-true _ _ e) ∙ x)) in
        let same : dead_for j l ≡ l = link-is refl refl refl (ap (λ (b : Bool). l.live && not b) other ∙ and-true l.live) in
        ap (λ (b : Bool). after (not b && true) (dead_for j l) (map (dead_for j) ls)) other ∙ (λ i. same i ∷ ih i)
    go true false e ih = rw (and-false (not (eqb (consumer_in l) j))) ih
    go false c e ih = ih

-- an Inactive component holds none
live-idle : (T : Tables) (id : ℕ) → Safe T → not_inactive T.nodes id ≡ false → live_links_of T.links id ≡ []
live-idle T id k h = keep-none (is_live_link_of id) T.links (λ l m. go l m (cases (is_live_link_of id l)))
  where
    go : (l : Link) → List-as-Memᴰ l T.links → (is_live_link_of id l ≡ true) ⊎ (is_live_link_of id l ≡ false) → is_live_link_of id l ≡ false
    go l m (inl e) = let (v, c) = live-link_of id l e in clash _ (rw c at (k.live l m v).consumer-installed) h
    go l m (inr e) = e

pub committed-compact : (ls : List Link) (id : ℕ) → committed (keep is_live ls) id ≡ committed ls id
unfolding committed
committed-compact ls id = ap (map binding_in) (live-compact ls id)

pub committed-dead : (ls : List Link) (id j : ℕ) → (id ≡ j → ⊥) → committed (map (dead_for j) ls) id ≡ committed ls id
unfolding committed
committed-dead ls id j d = ap (map binding_in) (live-dead ls id j d)

pub committed-idle : (T : Tables) (id : ℕ) → Safe T → not_inactive T.nodes id ≡ false → committed T.links id ≡ []
unfolding committed
committed-idle T id k h = ap (map binding_in) (live-idle T id k h)

-- ---- what target gives is appended whole for its component, and nothing for another

module _ (ns : List Node) (id : ℕ) where
  fresh-mine : (bs : List Binding) → live_links_of (map (begun_link ns id) bs) id ≡ map (begun_link ns id) bs
  unfolding is_live_link_of
  fresh-mine [] = refl
  fresh-mine (b ∷ bs) = rw (eq-eqb id id refl) (ap (λ (ls : List Link). begun_link ns id b ∷ ls) (fresh-mine bs))

  -- and is read back
  pub begun-bindings : (bs : List Binding) → map binding_in (map (begun_link ns id) bs) ≡ bs
  begun-bindings [] = refl
  begun-bindings (b ∷ bs) = ap (λ (cs : List Binding). b ∷ cs) (begun-bindings bs)

pub live-begun : (T : Tables) (bs : List Binding) (id : ℕ) → Safe T → not_inactive T.nodes id ≡ false → live_links_of (T.links ++ map (begun_link T.nodes id) bs) id ≡ map (begun_link T.nodes id) bs
live-begun T bs id k h = rw (keep_append (is_live_link_of id) T.links (map (begun_link T.nodes id) bs), live-idle T id k h) (fresh-mine T.nodes id bs)

pub live-begun-other : (T : Tables) (bs : List Binding) (id j : ℕ) → (id ≡ j → ⊥) → live_links_of (T.links ++ map (begun_link T.nodes j) bs) id ≡ live_links_of T.links id
live-begun-other T bs id j d =
    let fresh = map (begun_link T.nodes j) bs in
    let none = keep-none (is_live_link_of id) fresh (λ l m. let (b, n, e) = in_map (begun_link T.nodes j) bs m in live-link-other id l (λ x. d (sym x ∙ ap consumer_in e))) in
    rw (keep_append (is_live_link_of id) T.links fresh, none) (append-nil (live_links_of T.links id))

pub committed-begun : (T : Tables) (bs : List Binding) (id : ℕ) → Safe T → not_inactive T.nodes id ≡ false → committed (T.links ++ map (begun_link T.nodes id) bs) id ≡ bs
unfolding committed
committed-begun T bs id k h = ap (map binding_in) (live-begun T bs id k h) ∙ begun-bindings T.nodes id bs

-- ---- the dependency ports

pub dependency-of : (id : ℕ) (d : Declaration) → is_dependency_of id d ≡ true → (d.provides ≡ false) × (owner_in d ≡ id)
unfolding is_dependency_of
dependency-of id d h = (not_t _ (and_l (not d.provides) _ h), eqb-true _ _ (and_r (not d.provides) _ h))

module _ (q : Declaration → Bool) (ds : List Declaration) (id : ℕ) where
  pub dependency_ports-keep : ((d : Declaration) → d.provides ≡ false → owner_in d ≡ id → q d ≡ true) → dependency_ports (keep q ds) id ≡ dependency_ports ds id
  unfolding dependency_ports
  dependency_ports-keep f = ap (map declared_port) (keep-keep (is_dependency_of id) q ds (λ d h. f d (dependency-of id d h).0 (dependency-of id d h).1))

-- declarations behind, none of which is a dependency of this component
pub dependency_ports-more : (ds es : List Declaration) (id : ℕ) → ((d : Declaration) → List-as-Memᴰ d es → d.provides ≡ false → owner_in d ≡ id → ⊥) → dependency_ports (ds ++ es) id ≡ dependency_ports ds id
unfolding dependency_ports
dependency_ports-more ds es id f = ap (map declared_port) same
  where
    go : (d : Declaration) → List-as-Memᴰ d es → (is_dependency_of id d ≡ true) ⊎ (is_dependency_of id d ≡ false) → is_dependency_of id d ≡ false
    go d m (inl e) = absurd (f d m (dependency-of id d e).0 (dependency-of id d e).1)
    go d m (inr e) = e

    same : keep (is_dependency_of id) (ds ++ es) ≡ keep (is_dependency_of id) ds
    same = rw (keep_append (is_dependency_of id) ds es, keep-none (is_dependency_of id) es (λ d m. go d m (cases (is_dependency_of id d)))) (append-nil (keep (is_dependency_of id) ds))

pub new-owner : (id : ℕ) (ps qs : List Port) (d : Declaration) → List-as-Memᴰ d (map (dependency id) ps ++ map (provision id) qs) → owner_in d ≡ id
new-owner id ps qs d m = go (List·Memᴰ·append-cases (map (dependency id) ps) m)
  where
    go : List-as-Memᴰ d (map (dependency id) ps) ⊎ List-as-Memᴰ d (map (provision id) qs) → owner_in d ≡ id
    go (inl n) = let (p, x, e) = in_map (dependency id) ps n in ap owner_in e
    go (inr n) = let (p, x, e) = in_map (provision id) qs n in ap owner_in e
