-- finish_cleanup keeps soundness: the links of the consumer become dead.
use Rattle.model.proofs.Logic.{List, List-as-Memᴰ, ◌<◌, ◌∙◌, ◌≡◌, ◌⊎◌, ap, arith, eq-eqb, false, inl, inr, length, length-map, length-set, map, ne_eqb, not, refl, sym, true, ℕ}
use Rattle.model.specs.{Lifecycle.cleanup_finished, Lifecycle.finish_cleanup_tests, Records.consumer_in, Records.dead_for, Records.declared_port, Records.is_inactive, Records.owner_in, Records.provider_in, Records.restored_node, Sizes.Sizes, Soundness.apart, Tables.Tables, Tables.node_at, Tables.not_inactive, Tables.present, Tables.with_links, Tables.with_node, declared.Port.Port, declared.records.Link.Link, declared.records.Node.Node}
use Rattle.model.proofs.{Laws.Booleans.and_i, Laws.Booleans.and_l, Laws.Booleans.and_r, Laws.Booleans.cases, Laws.Booleans.clash, Laws.Booleans.f_not, Laws.Booleans.not_f, Laws.Booleans.not_t, Laws.Facts.Covered, Laws.Facts.Linked, Laws.Facts.Safe, Laws.Facts.Sound, Laws.Facts.Stored, Laws.Lists.in_map, Laws.Lists.map-in, Laws.Nodes.at_set, Laws.Nodes.at_set_other, Laws.Nodes.present-lt, Laws.Order.apart_of, Laws.Order.of_apart, Laws.Order.ordered-map, Laws.Refusals.Passed, Laws.Update.safe_links, Laws.Update.safe_update, Laws.Update.stored-update}

pub dead-live : (id : ℕ) (l : Link) → (dead_for id l).live ≡ true → (l.live ≡ true) × (consumer_in l ≡ id → ⊥)
dead-live id l h = (and_l l.live _ h, λ e. clash {A = ⊥} _ (eq-eqb (consumer_in l) id e) (not_t _ (and_r l.live _ h)))

pub dead-apart : (id : ℕ) (l m : Link) → apart l m ≡ true → apart (dead_for id l) (dead_for id m) ≡ true
dead-apart id l m h = apart_of (dead_for id l) (dead_for id m) (λ a b e. of_apart l m h (dead-live id l a).0 (dead-live id m b).0 e)

module _ (S : Sizes) (T : Tables) where
  dead-safe : (id : ℕ) → Safe T → Safe (with_links T (map (dead_for id) T.links))
  dead-safe id k = safe_links T (map (dead_for id) T.links) k (ordered-map (dead_for id) (dead-apart id) T.links k.order) (λ l m v.
      let (o, n, e) = in_map (dead_for id) T.links m in
      rw e (k.live o n (dead-live id o (rw e at v)).0))

  dead-consumer : (id : ℕ) (l : Link) → List-as-Memᴰ l (map (dead_for id) T.links) → l.live ≡ true → consumer_in l ≡ id → ⊥
  dead-consumer id l m v c = let (o, n, e) = in_map (dead_for id) T.links m in (dead-live id o (rw e at v)).1 (sym (ap consumer_in e) ∙ c)

  dead-linked : (id o : ℕ) (p : Port) → (o ≡ id → ⊥) → Linked T.links o p → Linked (map (dead_for id) T.links) o p
  dead-linked id o p d c = record {
    link = dead_for id c.link;
    among = map-in (dead_for id) c.among;
    is_live = and_i c.link.live _ c.is_live (f_not _ (ne_eqb _ _ (λ e. d (sym c.of_consumer ∙ e))));
    of_consumer = c.of_consumer;
    of_port = c.of_port;
  }

  dead-covered : (id : ℕ) → Sound S T → present T.nodes id ≡ true → Covered (with_node (with_links T (map (dead_for id) T.links)) id (restored_node (node_at T.nodes id)))
  dead-covered id k t d m q a b =
      let lt : id < length T.nodes = present-lt T.nodes id t in
      let n = restored_node (node_at T.nodes id) in
      let a' : present T.nodes (owner_in d) ≡ true = at_set (λ i n. n.present ≡ true → present T.nodes i ≡ true) T.nodes id n lt (λ x. t) (λ i x. x) (owner_in d) a in
      let other : ℕ → Type 0 = λ i. (i ≡ id → ⊥) × (not_inactive T.nodes i ≡ true) in
      let b' : other (owner_in d) = at_set_other (λ i n. not (is_inactive n.phase) ≡ true → other i) T.nodes id n lt (λ x. clash false x refl) (λ i ne x. (ne, x)) (owner_in d) b in
      dead-linked id (owner_in d) (declared_port d) b'.0 (k.covered d m q a' b'.1)

  -- a link that is dead was so, or was live, and then its ends were present; one that is live was so
  dead-stored : (id : ℕ) → Sound S T → Stored T.nodes (map (dead_for id) T.links)
  dead-stored id k = record {
    dead = λ l m. let (o, n, e) = in_map (dead_for id) T.links m in rw e (λ v. ends o n (cases o.live));
    absent = k.stored.absent;
    episodes = λ l m. let (o, n, e) = in_map (dead_for id) T.links m in rw e (λ v. k.stored.episodes o n (and_l o.live _ v));
  }
    where
      ends : (o : Link) → List-as-Memᴰ o T.links → (o.live ≡ true) ⊎ (o.live ≡ false) → (consumer_in o < length T.nodes) × (provider_in o < length T.nodes)
      ends o n (inl v) = (present-lt _ _ (k.safe.live o n v).consumer-present, present-lt _ _ (k.safe.live o n v).provider_present)
      ends o n (inr v) = k.stored.dead o n v

  pub cleanup_finished-sound : (id : ℕ) → Sound S T → Passed (finish_cleanup_tests T id) → Sound S (cleanup_finished T id)
  cleanup_finished-sound id k p =
      let n : Node = node_at T.nodes id in
      let t : present T.nodes id ≡ true = not_f _ p.0 in
      let r : n.restoring ≡ true = not_f _ p.1.0 in
      let L : List Link = map (dead_for id) T.links in
      record {
        sizes = record {
          nodes = rw (length-set T.nodes id (restored_node n)) k.sizes.nodes;
          declarations = k.sizes.declarations;
          links = omega (arith, length-map T.links (dead_for id), k.sizes.links);
        };
        safe = safe_update (with_links T L) id (restored_node n) (dead-safe id k.safe) (record {
          there = t;
          parent-ok = λ a. (k.safe.nodes id).parent-ok t;
          absent-inactive = λ a. refl;
          restoring-present = λ a. t;
          restoring-unloading = λ a. clash false a refl;
          children = λ j a e. t;
          consumes = λ l m v e. absurd (dead-consumer id l m v e);
          provides = λ l m v e. clash _ r (rw e at ((dead-safe id k.safe).live l m v).provider_kept);
        });
        covered = λ d m q a b. dead-covered id k t d m q a b;
        stored = stored-update T.nodes L id (restored_node n) (present-lt _ _ t) (dead-stored id k) (λ a. clash _ t a) (λ l m v e. refl);
      }
