-- resolve, target and committed as the original's contracts speak of them, and coherence.
use Rattle.model.proofs.Logic.{List, List-as-Memᴰ, List·Memᴰ·head, List·Memᴰ·tail, Memᴰ·cast, [], ◌&&◌, ◌<◌, ◌↔◌, ◌∙◌, ◌∷◌, ◌≡◌, ◌⊎◌, ap, arith, eq-eqb, false, inl, inr, length, length-map, none, not, refl, some, subst, suc, sym, true, zero, ℕ}
use Rattle.model.specs.{Interface.distinct, Interface.taken, Lists.any, Lists.is_none, Lists.keep, Points.At, Records.binding_in, Records.binding_of, Records.consumer_in, Records.declared_port, Records.dependency, Records.owner_in, Records.port_in, Records.port_of, Records.provider_in, Records.provision, Records.same_port, Resolution.Provides, Resolution.Target, Resolution.before, Resolution.bind_ports, Resolution.committed, Resolution.dependency_ports, Resolution.is_live_link_of, Resolution.joined, Resolution.offers, Resolution.target, Resolution.target_list, Sizes.Sizes, Soundness.sound, Tables.Tables, Tables.node_at, Tables.not_inactive, Tables.present, declared.Binding.Binding, declared.Port.Port, declared.Resolution.Resolution, declared.records.Link.Link}
use Rattle.model.proofs.{Laws.Booleans.and_i, Laws.Booleans.and_l, Laws.Booleans.and_r, Laws.Booleans.cases, Laws.Booleans.clash, Laws.Booleans.f_not, Laws.Booleans.not_t, Laws.Committed.live-link_of, Laws.Facts.Linked, Laws.Facts.LiveOk, Laws.Facts.facts, Laws.Facts.not-restoring, Laws.Facts.port-same, Laws.Facts.same_port_lem, Laws.Lists.any-in, Laws.Lists.at_in, Laws.Lists.in_at, Laws.Lists.in_keep, Laws.Lists.in_map, Laws.Lists.is_some, Laws.Lists.keep-in, Laws.Lists.map-in, Laws.Lists.none_in, Laws.Pieces.refuted, Laws.Records.declaration_is, Laws.Resolution.Targeted, Laws.Resolution.bound-in, Laws.Resolution.bound-ports, Laws.Resolution.target-bound, Laws.Resolution.target-covers, Laws.Resolution.target-needed, Laws.Resolution.targeted, Laws.Resolution.wants_in, Theorems.Points.at-node, Theorems.Points.to_present, Theorems.Resolution.Names, Theorems.Resolution.named-is, Theorems.Resolution.names_when, Theorems.Resolution.resolve-exactly, Theorems.Resolution.target-names}

abbrev pub BindingIsTarget : Tables → ℕ → Binding → Type 0
BindingIsTarget T id b = Provides T (port_of b) b.provider × List-as-Memᴰ (dependency id (port_of b)) T.declarations

-- complete_target
pub record CompleteTarget (T : Tables) (id : ℕ) (bs : List Binding) : Type 0 where
  pub there : present T.nodes id ≡ true
  pub kept : (node_at T.nodes id).retired ≡ false
  pub targets : (b : Binding) → List-as-Memᴰ b bs → BindingIsTarget T id b
  pub covers : (p : Port) → List-as-Memᴰ (dependency id p) T.declarations → (b : Binding) × List-as-Memᴰ b bs × (p ≡ port_of b)

-- unavailable
pub data Unavailable (T : Tables) (id : ℕ) : Type 0 where
  absent : present T.nodes id ≡ false → Unavailable T id
  retired : (node_at T.nodes id).retired ≡ true → Unavailable T id
  unprovided : (p : Port) → List-as-Memᴰ (dependency id p) T.declarations → ((o : ℕ) → Provides T p o → ⊥) → Unavailable T id

-- its opposite
pub record Available (T : Tables) (id : ℕ) : Type 0 where
  pub there : present T.nodes id ≡ true
  pub kept : (node_at T.nodes id).retired ≡ false
  pub provided : (p : Port) → List-as-Memᴰ (dependency id p) T.declarations → (o : ℕ) × Provides T p o

-- committed_from: T is the source, and U is now
pub record CommittedFrom (T U : Tables) (id : ℕ) : Type 0 where
  pub there : present T.nodes id ≡ true
  pub kept : (node_at T.nodes id).retired ≡ false
  pub targets : (l : Link) → List-as-Memᴰ l U.links → l.live ≡ true → consumer_in l ≡ id → BindingIsTarget T id (binding_in l)
  pub covers : (p : Port) → List-as-Memᴰ (dependency id p) T.declarations → Linked U.links id p

abbrev pub Coherent : Tables → ℕ → Type 0
Coherent T id = CommittedFrom T T id

-- ---- target

bind_all : (f : Port → Resolution) (ps : List Port) → ((p : Port) → List-as-Memᴰ p ps → (o : ℕ) × (f p ≡ Resolution.Provider o)) → is_none (target_list (bind_ports f ps)) ≡ false
unfolding bind_ports joined
bind_all f [] h = refl
bind_all f (p ∷ ps) h = let (o, e) = h p (List·Memᴰ·head refl) in rw e (go o (bind_ports f ps) (bind_all f ps (λ q m. h q (List·Memᴰ·tail m))))
  where
    go : (o : ℕ) (t : Target) → is_none (target_list t) ≡ false → is_none (target_list (before (binding_of p o) t)) ≡ false
    go o (Target.bound bs) n = refl
    go o (Target.missing u) n = n
    go o Target.nothing n = n

-- a binding for each dependency record
pub target-length : (T : Tables) (id : ℕ) (bs : List Binding) → target_list (target T id) ≡ some bs → length bs ≡ length (dependency_ports T.declarations id)
target-length T id bs h = sym (length-map bs port_of) ∙ ap length (bound-ports _ _ bs (targeted T id bs h).is_bound)

module _ (S : Sizes) (T : Tables) (h : sound S T ≡ true) where
  -- the original's active_provider is not restoring, which soundness gives
  pub provider_not_restoring : (p : Port) (o : ℕ) → Provides T p o → (node_at T.nodes o).restoring ≡ false
  provider_not_restoring p o w = not-restoring T.nodes o _ ((facts S T h).safe.nodes o) (rw (at-node T.nodes o w.0 w.1, w.3))

  pub complete_target : (id : ℕ) (bs : List Binding) → target_list (target T id) ≡ some bs → CompleteTarget T id bs
  complete_target id bs e = let t : Targeted T id bs = targeted T id bs e in record {
    there = t.there;
    kept = t.kept;
    targets = λ b m. ((resolve-exactly S T h (port_of b) (Resolution.Provider b.provider)).0 (bound-in _ _ bs t.is_bound b m), target-needed T id bs t b m);
    covers = target-covers T id bs t;
  }

  -- there is a target exactly if the component is available
  pub target-available : (id : ℕ) → (is_none (target_list (target T id)) ≡ false) ↔ Available T id
  target-available id = (forth, back)
    where
      forth : is_none (target_list (target T id)) ≡ false → Available T id
      forth n =
          let (bs, e) = is_some (target_list (target T id)) n in
          let c : CompleteTarget T id bs = complete_target id bs e in
          record { there = c.there; kept = c.kept; provided = λ p m. let (b, i, x) = c.covers p m in (b.provider, subst (λ (z : Port). Provides T z b.provider) (sym x) (c.targets b i).0) }

      back : Available T id → is_none (target_list (target T id)) ≡ false
      back a = rw (target-bound T id (rw (a.there, a.kept))) (bind_all _ _ (λ p m. let (o, w) = a.provided p (wants_in T.declarations id p m) in (o, (resolve-exactly S T h p (Resolution.Provider o)).1 w)))

  -- no target: unavailable, by a dependency that nobody provides if it is present and not retired
  pub target-unavailable : (id : ℕ) → target_list (target T id) ≡ none → Unavailable T id
  target-unavailable id e = go (cases (present T.nodes id)) (cases (node_at T.nodes id).retired)
    where
      go : (present T.nodes id ≡ true) ⊎ (present T.nodes id ≡ false) → ((node_at T.nodes id).retired ≡ true) ⊎ ((node_at T.nodes id).retired ≡ false) → Unavailable T id
      go (inr t) r = Unavailable.absent t
      go (inl t) (inl r) = Unavailable.retired r
      go (inl t) (inr r) =
          let (u, m) = (names_when T id).1 (t, r, e) in
          let n : Names T id u = (target-names T id u).0 (named-is (target T id) u m) in
          let found : (o : ℕ) → Provides T u.port o → u.found ≡ Resolution.Provider o = λ o w. sym n.first.reason ∙ (resolve-exactly S T h u.port (Resolution.Provider o)).1 w in
          Unavailable.unprovided u.port (at_in T.declarations n.declared.0 _ n.declared.1) (λ o w. n.first.unprovided o (found o w))

  -- a component that is not Inactive and has a target is coherent, and the other way round
  pub coherent_target : (id : ℕ) → not_inactive T.nodes id ≡ true → (is_none (target_list (target T id)) ≡ false) ↔ Coherent T id
  coherent_target id i = (λ n. forth ((target-available id).0 n), λ c. (target-available id).1 (back c))
    where
      back : Coherent T id → Available T id
      back c = record {
        there = c.there;
        kept = c.kept;
        provided = λ p m.
            let k : Linked T.links id p = c.covers p m in
            (provider_in k.link, rw k.of_port at (c.targets k.link k.among k.is_live k.of_consumer).0);
      }

      forth : Available T id → Coherent T id
      forth a = record {
        there = a.there;
        kept = a.kept;
        targets = λ l m v e.
            let w : LiveOk T.nodes T.declarations (consumer_in l) (binding_in l) = (facts S T h).safe.live l m v in
            let n : List-as-Memᴰ (dependency id (port_in l)) T.declarations = rw e at w.needed in
            let (o, x) = a.provided (port_in l) n in
            let mine = provision o (port_in l) in
            let its = provision (provider_in l) (port_in l) in
            let s : o ≡ provider_in l = (facts S T h).safe.unique mine its (at_in T.declarations x.4.0 _ x.4.1) w.offered refl refl (to_present T o (x.0, x.1, x.2)) w.provider_present refl in
            (rw s at x, n);
        covers = λ p m. (facts S T h).covered (dependency id p) m refl a.there i;
      }

-- ---- committed

-- each binding of committed is that of a live link of the consumer, and each such binding is in it
pub committed-recorded : (ls : List Link) (id : ℕ) (b : Binding) → List-as-Memᴰ b (committed ls id) → (l : Link) × List-as-Memᴰ l ls × (l.live ≡ true) × (consumer_in l ≡ id) × (b ≡ binding_in l)
unfolding committed
committed-recorded ls id b m =
    let (l, n, e) = in_map binding_in (keep (is_live_link_of id) ls) m in
    let (i, h) = in_keep (is_live_link_of id) ls n in
    (l, i, (live-link_of id l h).0, (live-link_of id l h).1, e)

pub recorded-committed : (ls : List Link) (id : ℕ) (l : Link) → List-as-Memᴰ l ls → l.live ≡ true → consumer_in l ≡ id → List-as-Memᴰ (binding_in l) (committed ls id)
unfolding committed is_live_link_of
recorded-committed ls id l m v e = map-in binding_in (keep-in (is_live_link_of id) m (and_i l.live _ v (eq-eqb _ _ e)))

-- ---- provisions_available

-- no port twice: no two places hold the same port, both ways
pub distinct-places : (ps : List Port) → distinct ps ≡ true → (i j : ℕ) (p q : Port) → At ps i p → At ps j q → i < j → p ≡ q → ⊥
unfolding distinct
distinct-places [] h i j p q a b l e = absurd (omega (arith, a.0))
distinct-places (x ∷ xs) h i zero p q a b l e = absurd (omega arith)
distinct-places (x ∷ xs) h zero (suc j) p q a b l e =
    let other = none_in (same_port x) (at_in xs j q (omega (arith, b.0), b.1)) (not_t _ (and_l (not (any (same_port x) xs)) _ h)) in
    clash {A = ⊥} (same_port x q) (subst (λ (z : Port). same_port x z ≡ true) (a.1 ∙ e) (port-same x)) other
distinct-places (x ∷ xs) h (suc i) (suc j) p q a b l e = distinct-places xs (and_r (not (any (same_port x) xs)) _ h) i j p q (omega (arith, a.0), a.1) (omega (arith, b.0), b.1) (omega arith) e

pub places-distinct : (ps : List Port) → ((i j : ℕ) (p q : Port) → At ps i p → At ps j q → i < j → p ≡ q → ⊥) → distinct ps ≡ true
unfolding distinct
places-distinct [] g = refl
places-distinct (x ∷ xs) g = and_i (not (any (same_port x) xs)) _
    (f_not _ (refuted _ (λ h. let (y, m, e) = any-in (same_port x) xs h in let (j, b) = in_at m in g 0 (suc j) x y (omega arith, refl) (omega (arith, b.0), b.1) (omega arith) (same_port_lem x y e))))
    (places-distinct xs (λ i j p q a b l. g (suc i) (suc j) p q (omega (arith, a.0), a.1) (omega (arith, b.0), b.1) (omega arith)))

-- a port is taken exactly if a present owner provides it (not-taken of Theorems/Interface is the other way)
pub taken-by : (T : Tables) (p : Port) → taken T p ≡ true → (o : ℕ) × (present T.nodes o ≡ true) × List-as-Memᴰ (provision o p) T.declarations
unfolding taken offers
taken-by T p h =
    let (d, m, e) = any-in (offers (present T.nodes) p) T.declarations h in
    let b : d.provides && same_port (declared_port d) p ≡ true = and_l (d.provides && same_port (declared_port d) p) _ e in
    let x : d.provides ≡ true = and_l d.provides _ b in
    let y : declared_port d ≡ p = same_port_lem _ _ (and_r d.provides _ b) in
    (owner_in d, and_r (d.provides && same_port (declared_port d) p) _ e, Memᴰ·cast (sym (declaration_is refl y x)) m)
