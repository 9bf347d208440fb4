-- Soundness as facts by membership, and that the test says just these.
use Rattle.model.proofs.Logic.{Bool, Bool·beq, List, List-as-Memᴰ, List·getD-eq-default, Memᴰ·cast, ◌&&◌, ◌<◌, ◌≡◌, ◌≤◌, ◌⊎◌, arith, dec_lt, eq-eqb, eqb, eqb-true, false, get_or, inl, inr, le-leb, leb-true, length, lt-ltb, ltb-true, not, refl, sym, true, zero-add, ℕ, subst}
use Rattle.model.specs.{Lists.all, Lists.all_at, Lists.any, Lists.conj, Records.binding_in, Records.blank_node, Records.consistency_tests, Records.consumer_in, Records.declaration_of, Records.declared_port, Records.dependency, Records.is_consistent, Records.is_inactive, Records.is_unloading, Records.owner_in, Records.parent_in, Records.port_in, Records.port_of, Records.provider_in, Records.provision, Records.same_port, Sizes.Sizes, Soundness.absent_ok, Soundness.coverage, Soundness.dead_ok, Soundness.declares, Soundness.end_tests, Soundness.episode_ok, Soundness.every_point, Soundness.fits, Soundness.has_owner, Soundness.is_covered, Soundness.is_declaration, Soundness.link_ok, Soundness.link_tests, Soundness.links_to, Soundness.need_tests, Soundness.node_ok, Soundness.ordered, Soundness.parent_ok, Soundness.rival_tests, Soundness.safety_tests, Soundness.safety_wf, Soundness.same_owner, Soundness.size_tests, Soundness.smaller, Soundness.sound, Soundness.stored_tests, Soundness.stored_wf, Soundness.wf, Tables.Tables, Tables.generation_at, Tables.installed, Tables.node_at, Tables.not_inactive, Tables.present, Tables.serving, declared.Binding.Binding, declared.Port.Port, declared.records.Declaration.Declaration, declared.records.Link.Link, declared.records.Node.Node}
use Rattle.model.proofs.{Laws.Booleans.Each, Laws.Booleans.and_i, Laws.Booleans.and_l, Laws.Booleans.and_r, Laws.Booleans.cases, Laws.Booleans.clash, Laws.Booleans.each, Laws.Booleans.f_not, Laws.Booleans.imp_e, Laws.Booleans.imp_i, Laws.Booleans.not_t, Laws.Booleans.of_each, Laws.Lists.all_in, Laws.Lists.all_at-at, Laws.Lists.any-in, Laws.Lists.at-all_at, Laws.Lists.in_all, Laws.Lists.in_any, Laws.Records.declaration_is, Laws.Records.port-is}

pub record NodeOk (ns : List Node) (i : ℕ) (n : Node) : Type 0 where
  pub absent-inactive : n.present ≡ false → is_inactive n.phase ≡ true
  pub absent-kept : n.present ≡ false → n.restoring ≡ false
  pub restoring-present : n.restoring ≡ true → n.present ≡ true
  pub restoring-unloading : n.restoring ≡ true → is_unloading n.phase ≡ true
  pub parent-ok : n.present ≡ true → parent_ok ns i (parent_in n) ≡ true

pub record LiveOk (ns : List Node) (ds : List Declaration) (c : ℕ) (b : Binding) : Type 0 where
  pub consumer-present : present ns c ≡ true
  pub consumer-installed : not_inactive ns c ≡ true
  pub provider_present : present ns b.provider ≡ true
  pub provider_installed : not_inactive ns b.provider ≡ true
  pub provider_kept : (node_at ns b.provider).restoring ≡ false
  pub needed : List-as-Memᴰ (dependency c (port_of b)) ds
  pub offered : List-as-Memᴰ (provision b.provider (port_of b)) ds

-- a link, if live, is in order
abbrev pub LinkOk : List Node → List Declaration → Link → Type 0
LinkOk ns ds l = l.live ≡ true → LiveOk ns ds (consumer_in l) (binding_in l)

abbrev pub Unique : List Node → List Declaration → Type 0
Unique ns ds =
    (d e : Declaration)
    → List-as-Memᴰ d ds
    → List-as-Memᴰ e ds
    → d.provides ≡ true
    → e.provides ≡ true
    → present ns (owner_in d) ≡ true
    → present ns (owner_in e) ≡ true
    → declared_port d ≡ declared_port e
    → owner_in d ≡ owner_in e

-- lengths within the sizes
pub record Fits (S : Sizes) (T : Tables) : Type 0 where
  pub nodes : length T.nodes ≤ S.identities
  pub declarations : length T.declarations ≤ S.declarations
  pub links : length T.links ≤ S.links

-- points 1 to 5
pub record Safe (T : Tables) : Type 0 where
  pub owners : (d : Declaration) → List-as-Memᴰ d T.declarations → owner_in d < length T.nodes
  pub unique : Unique T.nodes T.declarations
  pub nodes : (i : ℕ) → NodeOk T.nodes i (node_at T.nodes i)
  pub live : (l : Link) → List-as-Memᴰ l T.links → LinkOk T.nodes T.declarations l
  pub order : ordered T.links ≡ true

pub record Linked (ls : List Link) (o : ℕ) (p : Port) : Type 0 where
  pub link : Link
  pub among : List-as-Memᴰ link ls
  pub is_live : link.live ≡ true
  pub of_consumer : consumer_in link ≡ o
  pub of_port : port_in link ≡ p

abbrev pub Covered : Tables → Type 0
Covered T =
    (d : Declaration)
    → List-as-Memᴰ d T.declarations
    → d.provides ≡ false
    → present T.nodes (owner_in d) ≡ true
    → not_inactive T.nodes (owner_in d) ≡ true
    → Linked T.links (owner_in d) (declared_port d)

-- an absent node's parent is smaller
abbrev pub AbsentOk : ℕ → Node → Type 0
AbsentOk i n = n.present ≡ false → smaller i (parent_in n) ≡ true

-- a dead link's ends are below the count
abbrev pub DeadOk : List Node → Link → Type 0
DeadOk ns l = l.live ≡ false → (consumer_in l < length ns) × (provider_in l < length ns)

-- a live link's generation is its provider's
abbrev pub EpisodeOk : List Node → Link → Type 0
EpisodeOk ns l = l.live ≡ true → l.generation ≡ generation_at ns (provider_in l)

-- points 7 to 9
pub record Stored (ns : List Node) (ls : List Link) : Type 0 where
  pub dead : (l : Link) → List-as-Memᴰ l ls → DeadOk ns l
  pub absent : (i : ℕ) → AbsentOk i (node_at ns i)
  pub episodes : (l : Link) → List-as-Memᴰ l ls → EpisodeOk ns l

pub record Sound (S : Sizes) (T : Tables) : Type 0 where
  pub sizes : Fits S T
  pub safe : Safe T
  pub covered : Covered T
  pub stored : Stored T.nodes T.links

-- ---- equality tests

pub same_port_lem : (p q : Port) → same_port p q ≡ true → p ≡ q
same_port_lem p q h =
    let a : p.key ≡ q.key = eqb-true p.key q.key (and_l (eqb p.key q.key) (eqb p.realm q.realm) h) in
    let b : p.realm ≡ q.realm = eqb-true p.realm q.realm (and_r (eqb p.key q.key) (eqb p.realm q.realm) h) in
    port-is a b

pub port-same : (p : Port) → same_port p p ≡ true
port-same p = and_i (eqb p.key p.key) (eqb p.realm p.realm) (eq-eqb p.key p.key refl) (eq-eqb p.realm p.realm refl)

beq_true : (a b : Bool) → Bool·beq a b ≡ true → a ≡ b
beq_true true true h = refl
beq_true true false h = sym h
beq_true false true h = h
beq_true false false h = refl

beq_refl : (a : Bool) → Bool·beq a a ≡ true
beq_refl true = refl
beq_refl false = refl

pub is-declaration : (o : ℕ) (p : Port) (b : Bool) (d : Declaration) → is_declaration o p b d ≡ true → declaration_of o b p ≡ d
unfolding is_declaration
is-declaration o p b d h =
    let h1 : eqb (owner_in d) o && same_port (declared_port d) p ≡ true = and_l (eqb (owner_in d) o && same_port (declared_port d) p) (Bool·beq d.provides b) h in
    let x : owner_in d ≡ o = eqb-true (owner_in d) o (and_l (eqb (owner_in d) o) (same_port (declared_port d) p) h1) in
    let y : declared_port d ≡ p = same_port_lem (declared_port d) p (and_r (eqb (owner_in d) o) (same_port (declared_port d) p) h1) in
    let z : d.provides ≡ b = beq_true d.provides b (and_r (eqb (owner_in d) o && same_port (declared_port d) p) (Bool·beq d.provides b) h) in
    sym (declaration_is x y z)

pub declaration_passes : (o : ℕ) (p : Port) (b : Bool) → is_declaration o p b (declaration_of o b p) ≡ true
unfolding is_declaration
declaration_passes o p b = rw (eq-eqb o o refl, port-same p, beq_refl b)

pub declares-in : (ds : List Declaration) (o : ℕ) (p : Port) (b : Bool) → declares ds o p b ≡ true → List-as-Memᴰ (declaration_of o b p) ds
declares-in ds o p b h = let (d, m, q) = any-in (is_declaration o p b) ds h in Memᴰ·cast (is-declaration o p b d q) m

pub in_declares : (ds : List Declaration) (o : ℕ) (p : Port) (b : Bool) → List-as-Memᴰ (declaration_of o b p) ds → declares ds o p b ≡ true
in_declares ds o p b m = in_any (is_declaration o p b) m (declaration_passes o p b)

-- ---- the parts of the test

pub node_of_lem : (ns : List Node) (i : ℕ) (n : Node) → node_ok ns i n ≡ true → NodeOk ns i n
unfolding node_ok
node_of_lem ns i n h =
    let e : Each (consistency_tests n) = each (consistency_tests n) (and_l (is_consistent n) _ h) in
    record {
      absent-inactive = λ a. imp_e (not n.present) (is_inactive n.phase) e.0 (f_not n.present a);
      absent-kept = λ a. not_t n.restoring (imp_e (not n.present) (not n.restoring) e.1.0 (f_not n.present a));
      restoring-present = imp_e n.restoring n.present e.1.1.0;
      restoring-unloading = imp_e n.restoring (is_unloading n.phase) e.1.1.1.0;
      parent-ok = imp_e n.present (parent_ok ns i (parent_in n)) (and_r (is_consistent n) _ h);
    }

pub of_node_lem : (ns : List Node) (i : ℕ) (n : Node) → NodeOk ns i n → node_ok ns i n ≡ true
unfolding node_ok
of_node_lem ns i n k =
    let inactive = imp_i (not n.present) (is_inactive n.phase) (λ a. k.absent-inactive (not_t n.present a)) in
    let kept = imp_i (not n.present) (not n.restoring) (λ a. f_not n.restoring (k.absent-kept (not_t n.present a))) in
    let there = imp_i n.restoring n.present k.restoring-present in
    let unloading = imp_i n.restoring (is_unloading n.phase) k.restoring-unloading in
    and_i (is_consistent n) _
    (of_each (consistency_tests n) (inactive, (kept, (there, (unloading, tt)))))
    (imp_i n.present (parent_ok ns i (parent_in n)) k.parent-ok)

pub live_of : (ns : List Node) (ds : List Declaration) (l : Link) → link_ok (installed ns) (serving ns) ds l ≡ true → LinkOk ns ds l
unfolding link_ok
live_of ns ds l h v =
    let e : Each (link_tests (installed ns) (serving ns) ds l) = each (link_tests (installed ns) (serving ns) ds l) (imp_e l.live _ h v) in
    let i : installed ns (provider_in l) ≡ true = and_l (installed ns (provider_in l)) _ e.1.0 in
    record {
      consumer-present = and_l (present ns (consumer_in l)) _ e.0;
      consumer-installed = and_r (present ns (consumer_in l)) _ e.0;
      provider_present = and_l (present ns (provider_in l)) _ i;
      provider_installed = and_r (present ns (provider_in l)) _ i;
      provider_kept = not_t _ (and_r (installed ns (provider_in l)) _ e.1.0);
      needed = declares-in ds _ _ _ e.1.1.0;
      offered = declares-in ds _ _ _ e.1.1.1.0;
    }

pub of_live : (ns : List Node) (ds : List Declaration) (l : Link) → LinkOk ns ds l → link_ok (installed ns) (serving ns) ds l ≡ true
unfolding link_ok
of_live ns ds l f = imp_i l.live _ (λ v.
    let k : LiveOk ns ds (consumer_in l) (binding_in l) = f v in
    let consumer = and_i (present ns (consumer_in l)) _ k.consumer-present k.consumer-installed in
    let provider = and_i (installed ns (provider_in l)) _ (and_i (present ns (provider_in l)) _ k.provider_present k.provider_installed) (f_not _ k.provider_kept) in
    of_each (link_tests (installed ns) (serving ns) ds l) (consumer, (provider, (in_declares ds _ _ _ k.needed, (in_declares ds _ _ _ k.offered, tt)))))

-- a live link of this consumer with this port
pub links-to : (o : ℕ) (p : Port) (l : Link) → links_to o p l ≡ true → (l.live ≡ true) × (consumer_in l ≡ o) × (port_in l ≡ p)
unfolding links_to
links-to o p l q =
    let q1 : l.live && eqb (consumer_in l) o ≡ true = and_l _ (same_port (port_in l) p) q in
    (and_l l.live (eqb (consumer_in l) o) q1, eqb-true _ _ (and_r l.live (eqb (consumer_in l) o) q1), same_port_lem _ _ (and_r (l.live && eqb (consumer_in l) o) _ q))

pub of_links_to : (o : ℕ) (p : Port) (l : Link) → l.live ≡ true → consumer_in l ≡ o → port_in l ≡ p → links_to o p l ≡ true
unfolding links_to
of_links_to o p l v c e = and_i _ _ (and_i l.live (eqb (consumer_in l) o) v (eq-eqb _ _ c)) (subst (λ (q : Port). same_port (port_in l) q ≡ true) e (port-same (port_in l)))

pub linked_of : (ls : List Link) (o : ℕ) (p : Port) → any (links_to o p) ls ≡ true → Linked ls o p
linked_of ls o p h = let (l, m, q) = any-in (links_to o p) ls h in let (v, c, e) = links-to o p l q in record { link = l; among = m; is_live = v; of_consumer = c; of_port = e }

pub of_linked : (ls : List Link) (o : ℕ) (p : Port) → Linked ls o p → any (links_to o p) ls ≡ true
of_linked ls o p k = in_any (links_to o p) k.among (of_links_to o p k.link k.is_live k.of_consumer k.of_port)

pub blank_ok : (ns : List Node) (i : ℕ) → NodeOk ns i blank_node
blank_ok ns i = record { absent-inactive = λ a. refl; absent-kept = λ a. refl; restoring-present = λ a. a; restoring-unloading = λ a. clash false a refl; parent-ok = λ a. clash false a refl }

pub nodes-of : (ns : List Node) → all_at (node_ok ns) 0 ns ≡ true → (i : ℕ) → NodeOk ns i (node_at ns i)
unfolding node_at
nodes-of ns h i = go (dec_lt i (length ns))
  where
    go : Dec (i < length ns) → NodeOk ns i (get_or ns i blank_node)
    go (yes l) = node_of_lem ns i (get_or ns i blank_node) (rw (zero-add i) at (all_at-at (node_ok ns) 0 ns h i blank_node l))
    go (no l) = rw (List·getD-eq-default ns blank_node {n = i} (omega arith)) (blank_ok ns i)

-- ---- the test as a whole

pub covered_of : (T : Tables) → coverage T ≡ true → Covered T
unfolding coverage is_covered
covered_of T h d m p a b =
    let needs = need_tests (installed T.nodes) d in
    let all-needed = of_each needs (f_not _ p, (and_i (present T.nodes (owner_in d)) _ a b, tt)) in
    linked_of T.links (owner_in d) (declared_port d) (imp_e (conj needs) _ (all_in (is_covered (installed T.nodes) T.links) m h) all-needed)

pub of_covered : (T : Tables) → Covered T → coverage T ≡ true
unfolding coverage is_covered
of_covered T k = in_all _ T.declarations (λ d m. imp_i (conj (need_tests (installed T.nodes) d)) _ (λ h.
    let e : Each (need_tests (installed T.nodes) d) = each (need_tests (installed T.nodes) d) h in
    of_linked _ _ _ (k d m (not_t _ e.0) (and_l (present T.nodes (owner_in d)) _ e.1.0) (and_r (present T.nodes (owner_in d)) _ e.1.0))))

pub safe_of : (T : Tables) → safety_wf T ≡ true → Safe T
unfolding safety_wf has_owner same_owner
safe_of T h =
    let e : Each (safety_tests T) = each (safety_tests T) h in
    record {
      owners = λ d m. ltb-true _ _ (all_in (has_owner (length T.nodes)) m e.0);
      unique = λ d f m k p q a b r.
          let rivals = rival_tests (present T.nodes) d f in
          let same = all_in (same_owner (present T.nodes) d) k (all_in (λ d. all (same_owner (present T.nodes) d) T.declarations) m e.1.0) in
          eqb-true (owner_in d) (owner_in f) (imp_e (conj rivals) _ same (of_each rivals (p, (q, (a, (b, (rw r (port-same (declared_port f)), tt)))))));
      nodes = nodes-of T.nodes e.1.1.0;
      live = λ l m v. live_of T.nodes T.declarations l (all_in (link_ok (installed T.nodes) (serving T.nodes) T.declarations) m e.1.1.1.0) v;
      order = e.1.1.1.1.0;
    }

pub of_safe : (T : Tables) → Safe T → safety_wf T ≡ true
unfolding safety_wf has_owner same_owner
of_safe T k = of_each (safety_tests T) (owned, (in_all _ T.declarations (λ d m. in_all (same_owner (present T.nodes) d) T.declarations (one d m)), (consistent, (linked, (k.order, tt)))))
  where
    owned : all (has_owner (length T.nodes)) T.declarations ≡ true
    owned = in_all _ T.declarations (λ d m. lt-ltb _ _ (k.owners d m))

    one : (d : Declaration) → List-as-Memᴰ d T.declarations → (f : Declaration) → List-as-Memᴰ f T.declarations → same_owner (present T.nodes) d f ≡ true
    one d m f n = imp_i (conj (rival_tests (present T.nodes) d f)) _ (λ h.
        let e : Each (rival_tests (present T.nodes) d f) = each (rival_tests (present T.nodes) d f) h in
        eq-eqb _ _ (k.unique d f m n e.0 e.1.0 e.1.1.0 e.1.1.1.0 (same_port_lem _ _ e.1.1.1.1.0)))

    consistent : all_at (node_ok T.nodes) 0 T.nodes ≡ true
    consistent = at-all_at (node_ok T.nodes) 0 T.nodes blank_node (λ i l. rw (zero-add i) (of_node_lem T.nodes i _ (unfold node_at in k.nodes i)))

    linked : all (link_ok (installed T.nodes) (serving T.nodes) T.declarations) T.links ≡ true
    linked = in_all _ T.links (λ l m. of_live T.nodes T.declarations l (k.live l m))

pub stored_of : (T : Tables) → stored_wf T ≡ true → Stored T.nodes T.links
unfolding stored_wf dead_ok absent_ok episode_ok
stored_of T h = record {
  dead = dead;
  absent = λ i. absent i (dec_lt i (length T.nodes));
  episodes = λ l m v. eqb-true _ _ (imp_e l.live _ (all_in (episode_ok (generation_at T.nodes)) m e.1.1.0) v);
}
  where
    e : Each (stored_tests T)
    e = each (stored_tests T) h

    dead : (l : Link) → List-as-Memᴰ l T.links → DeadOk T.nodes l
    dead l m v =
        let ends = end_tests (length T.nodes) l in
        let x : Each ends = each ends (imp_e (not l.live) _ (all_in (dead_ok (length T.nodes)) m e.0) (f_not _ v)) in
        (ltb-true _ _ x.0, ltb-true _ _ x.1.0)

    absent : (i : ℕ) → Dec (i < length T.nodes) → AbsentOk i (node_at T.nodes i)
    absent i (yes l) = λ a. imp_e (not (node_at T.nodes i).present) _ (unfold node_at in rw (zero-add i) at (all_at-at absent_ok 0 T.nodes e.1.0 i blank_node l)) (f_not _ a)
    absent i (no l) = unfold node_at in rw (List·getD-eq-default T.nodes blank_node {n = i} (omega arith)) (λ a. refl)

pub of_stored : (T : Tables) → Stored T.nodes T.links → stored_wf T ≡ true
unfolding stored_wf dead_ok absent_ok episode_ok
of_stored T k = of_each (stored_tests T) (in_all _ T.links dead, (at-all_at absent_ok 0 T.nodes blank_node (λ i l. rw (zero-add i) (absent i)), (in_all _ T.links episode, tt)))
  where
    episode : (l : Link) → List-as-Memᴰ l T.links → episode_ok (generation_at T.nodes) l ≡ true
    episode l m = imp_i l.live _ (λ v. eq-eqb _ _ (k.episodes l m v))

    dead : (l : Link) → List-as-Memᴰ l T.links → dead_ok (length T.nodes) l ≡ true
    dead l m = imp_i (not l.live) _ (λ a.
        let (c, p) = k.dead l m (not_t _ a) in
        of_each (end_tests (length T.nodes) l) (lt-ltb _ _ c, (lt-ltb _ _ p, tt)))

    absent : (i : ℕ) → absent_ok i (get_or T.nodes i blank_node) ≡ true
    absent i = imp_i (not (get_or T.nodes i blank_node).present) _ (λ a. unfold node_at in k.absent i (not_t _ a))

pub fits-of : (S : Sizes) (T : Tables) → fits S T ≡ true → Fits S T
unfolding fits
fits-of S T h = let e : Each (size_tests S T) = each (size_tests S T) h in record { nodes = leb-true _ _ e.0; declarations = leb-true _ _ e.1.0; links = leb-true _ _ e.1.1.0 }

pub of_fits : (S : Sizes) (T : Tables) → Fits S T → fits S T ≡ true
unfolding fits
of_fits S T k = of_each (size_tests S T) (le-leb _ _ k.nodes, (le-leb _ _ k.declarations, (le-leb _ _ k.links, tt)))

pub facts : (S : Sizes) (T : Tables) → sound S T ≡ true → Sound S T
unfolding sound every_point wf
facts S T h =
    let p : every_point T ≡ true = and_r (fits S T) _ h in
    let w : wf T ≡ true = and_l (wf T) _ p in
    record { sizes = fits-of S T (and_l (fits S T) _ h); safe = safe_of T (and_l (safety_wf T) _ w); covered = covered_of T (and_r (safety_wf T) _ w); stored = stored_of T (and_r (wf T) _ p) }

pub of_facts : (S : Sizes) (T : Tables) → Sound S T → sound S T ≡ true
unfolding sound every_point wf
of_facts S T k = and_i (fits S T) _ (of_fits S T k.sizes) (and_i (wf T) _ (and_i (safety_wf T) _ (of_safe T k.safe) (of_covered T k.covered)) (of_stored T k.stored))

-- a node that is not Unloading is not restoring
pub not-restoring : (ns : List Node) (i : ℕ) (n : Node) → NodeOk ns i n → is_unloading n.phase ≡ false → n.restoring ≡ false
not-restoring ns i n k h = go (cases n.restoring)
  where
    go : (n.restoring ≡ true) ⊎ (n.restoring ≡ false) → n.restoring ≡ false
    go (inl r) = clash _ (k.restoring-unloading r) h
    go (inr r) = r
