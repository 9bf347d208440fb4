-- begin keeps soundness: the node starts, and the target's bindings become live links behind the others.
use Rattle.model.proofs.Logic.{List, List-as-Memᴰ, List·Memᴰ·append-cases, Memᴰ·append-left, Memᴰ·append-right, Memᴰ·cast, ◌++◌, ◌+◌, ◌<◌, ◌∙◌, ◌≡◌, ◌≤◌, ◌⊎◌, ap, false, inl, inr, length, length-append, length-map, length-set, ltb-false, map, refl, set, sym, true, ℕ, ℕ_discrete}
use Rattle.model.specs.{Lifecycle.begin_tests, Lifecycle.begun, Lifecycle.begun_link, Lifecycle.begun_node, Lifecycle.phase_at, Records.binding_in, Records.consumer_in, Records.declared_port, Records.dependency, Records.is_inactive, Records.owner_in, Records.port_of, Records.provider_in, Resolution.target, Resolution.target_list, Sizes.Sizes, Soundness.ordered, Tables.Tables, Tables.generation_at, Tables.node_at, Tables.not_inactive, Tables.present, Tables.with_links, Tables.with_node, declared.Binding.Binding, declared.records.Link.Link, declared.records.Node.Node}
use Rattle.model.proofs.{Laws.Booleans.clash, Laws.Booleans.not_f, Laws.Facts.Covered, Laws.Facts.DeadOk, Laws.Facts.EpisodeOk, Laws.Facts.Fits, Laws.Facts.Linked, Laws.Facts.LiveOk, Laws.Facts.Safe, Laws.Facts.Sound, Laws.Facts.Stored, Laws.Facts.not-restoring, Laws.Lists.in_map, Laws.Lists.is_some, Laws.Lists.map-in, Laws.Nodes.at_other, Laws.Nodes.at_set, Laws.Nodes.at_set_other, Laws.Nodes.present-lt, Laws.Order.apart_of, Laws.Order.ordered-all, Laws.Order.ordered-append, Laws.Phases.active-installed, Laws.Phases.active-stays, Laws.Phases.inactive-stays, Laws.Records.declaration_is, Laws.Refusals.Passed, Laws.Resolution.Resolved, Laws.Resolution.Targeted, Laws.Resolution.target-covers, Laws.Resolution.target-needed, Laws.Resolution.target-resolved, Laws.Resolution.targeted, Laws.Update.Serves, Laws.Update.Stands, Laws.Update.calm, Laws.Update.safe_links, Laws.Update.safe_update, Laws.Update.stored-update}

module _ (S : Sizes) (T : Tables) (id : ℕ) (bs : List Binding) (k : Sound S T) (t : Targeted T id bs) (q : is_inactive (node_at T.nodes id).phase ≡ true) where
  abbrev started : Node
  started = begun_node (node_at T.nodes id)

  abbrev fresh : List Link
  fresh = map (begun_link T.nodes id) bs

  not-restoring_id : (node_at T.nodes id).restoring ≡ false
  not-restoring_id = not-restoring T.nodes id _ (k.safe.nodes id) (inactive-stays (phase_at T id) q)

  idle-id : not_inactive T.nodes id ≡ false
  idle-id = rw q

  begin-update : Safe (with_node T id started)
  begin-update = safe_update T id started k.safe (calm T id started k.safe t.there refl t.there (λ i. refl) (λ r. clash _ r not-restoring_id))

  fresh-live : (b : Binding) → List-as-Memᴰ b bs → LiveOk (set T.nodes id started) T.declarations id b
  fresh-live b m =
      let lt : id < length T.nodes = present-lt T.nodes id t.there in
      let r : Resolved T.nodes T.declarations (port_of b) b.provider = target-resolved T id bs t b m in
      let c = at_set_other (λ i n. i ≡ id → Stands n) T.nodes id started lt (λ e. (t.there, refl)) (λ i ne e. absurd (ne e)) in
      let kept = not-restoring T.nodes _ _ (k.safe.nodes b.provider) (active-stays (phase_at T b.provider) r.is-active) in
      let served : Serves (node_at T.nodes b.provider) = (r.there, active-installed (phase_at T b.provider) r.is-active, kept) in
      let p = at_set (λ i n. i ≡ b.provider → Serves n) T.nodes id started lt (λ e. (t.there, refl, not-restoring_id)) (λ i e. rw e served) in
      record {
        consumer-present = (c _ refl).0;
        consumer-installed = (c _ refl).1;
        provider_present = (p _ refl).0;
        provider_installed = (p _ refl).1;
        provider_kept = (p _ refl).2;
        needed = target-needed T id bs t b m;
        offered = r.offered;
      }

  begin-order : ordered (T.links ++ fresh) ≡ true
  begin-order = ordered-append T.links fresh k.safe.order
      (ordered-all fresh (λ l m x y. apart_of l m (λ a b e.
      let (c, n, f) = in_map (begun_link T.nodes id) bs x in
      let (c', n', f') = in_map (begun_link T.nodes id) bs y in
      clash _ (active-installed (phase_at T id) (rw (provider_is l m c c' f f' e) at (target-resolved T id bs t c n).is-active)) idle-id)))
      (λ l m x y. apart_of l m (λ a b e. let (c, n, f) = in_map (begun_link T.nodes id) bs y in clash _ (rw (e ∙ ap consumer_in f) at (k.safe.live l x a).provider_installed) idle-id))
    where
      provider_is : (l m : Link) (c c' : Binding) → l ≡ begun_link T.nodes id c → m ≡ begun_link T.nodes id c' → provider_in l ≡ consumer_in m → c.provider ≡ id
      provider_is l m c c' f f' e = sym (ap (λ (z : Link). provider_in z) f) ∙ e ∙ ap consumer_in f'

  begin-safe : Safe (with_links (with_node T id started) (T.links ++ fresh))
  begin-safe = safe_links (with_node T id started) (T.links ++ fresh) begin-update begin-order (λ l m v. go l v (List·Memᴰ·append-cases T.links m))
    where
      go : (l : Link) → l.live ≡ true → List-as-Memᴰ l T.links ⊎ List-as-Memᴰ l fresh → LiveOk (set T.nodes id started) T.declarations (consumer_in l) (binding_in l)
      go l v (inl m) = begin-update.live l m v
      go l v (inr m) = let (b, n, e) = in_map (begun_link T.nodes id) bs m in rw e (fresh-live b n)

  begin-covered : Covered (with_links (with_node T id started) (T.links ++ fresh))
  begin-covered d m p a b = go (ℕ_discrete (owner_in d) id)
    where
      lt : id < length T.nodes
      lt = present-lt T.nodes id t.there

      go : Dec (owner_in d ≡ id) → Linked (T.links ++ fresh) (owner_in d) (declared_port d)
      go (yes e) =
          let (c, n, f) = target-covers T id bs t (declared_port d) (Memᴰ·cast (declaration_is {d = dependency id (declared_port d)} (sym e) refl (sym p)) m) in
          record { link = begun_link T.nodes id c; among = Memᴰ·append-right T.links (map-in (begun_link T.nodes id) n); is_live = refl; of_consumer = sym e; of_port = sym f }
      go (no ne) =
          let e : node_at (set T.nodes id started) (owner_in d) ≡ node_at T.nodes (owner_in d) = at_other T.nodes id (owner_in d) started ne in
          let c : Linked T.links (owner_in d) (declared_port d) = k.covered d m p (rw (e, present) at a) (rw (e, not_inactive) at b) in
          record { link = c.link; among = Memᴰ·append-left fresh c.among; is_live = c.is_live; of_consumer = c.of_consumer; of_port = c.of_port }

  -- the provider of a binding is another component, and keeps its generation
  provider_episode : (b : Binding) → List-as-Memᴰ b bs → generation_at T.nodes b.provider ≡ generation_at (set T.nodes id started) b.provider
  provider_episode b m =
      let other : b.provider ≡ id → ⊥ = λ e. clash {A = ⊥} _ (active-installed (phase_at T id) (rw e at (target-resolved T id bs t b m).is-active)) idle-id in
      ap (λ (n : Node). n.generation) (sym (at_other T.nodes id b.provider started other))

  begin-stored : Stored (set T.nodes id started) (T.links ++ fresh)
  begin-stored = record { dead = λ l m. dead l (List·Memᴰ·append-cases T.links m); absent = old.absent; episodes = λ l m. episode l (List·Memᴰ·append-cases T.links m) }
    where
      old : Stored (set T.nodes id started) T.links
      old = stored-update T.nodes T.links id started (present-lt T.nodes id t.there) k.stored (λ a. clash _ t.there a)
          (λ l m v e. clash _ (rw e at (k.safe.live l m v).provider_installed) idle-id)

      dead : (l : Link) → List-as-Memᴰ l T.links ⊎ List-as-Memᴰ l fresh → DeadOk (set T.nodes id started) l
      dead l (inl m) = old.dead l m
      dead l (inr m) = let (b, n, e) = in_map (begun_link T.nodes id) bs m in λ v. clash true refl (sym (ap (λ (z : Link). z.live) e) ∙ v)

      episode : (l : Link) → List-as-Memᴰ l T.links ⊎ List-as-Memᴰ l fresh → EpisodeOk (set T.nodes id started) l
      episode l (inl m) = old.episodes l m
      episode l (inr m) = let (b, n, e) = in_map (begun_link T.nodes id) bs m in rw e (λ v. provider_episode b n)

  begin-fits : length T.links + length bs ≤ S.links → Fits S (with_links (with_node T id started) (T.links ++ fresh))
  begin-fits f = record {
    nodes = rw (length-set T.nodes id started) k.sizes.nodes;
    declarations = k.sizes.declarations;
    links = rw (length-append T.links fresh, length-map bs (begun_link T.nodes id)) f;
  }

pub begun-sound : (S : Sizes) (T : Tables) (id : ℕ) → Sound S T → Passed (begin_tests S T id) → Sound S (begun T id)
begun-sound S T id k p =
    let (bs, e) = is_some (target_list (target T id)) p.1.1.1.1.0 in
    let t : Targeted T id bs = targeted T id bs e in
    let q : is_inactive (node_at T.nodes id).phase ≡ true = not_f _ p.1.0 in
    let within = begin-fits S T id bs k t q (ltb-false _ _ (rw e at p.1.1.1.1.1.0)) in
    rw e (record { sizes = within; safe = begin-safe S T id bs k t q; covered = begin-covered S T id bs k t q; stored = begin-stored S T id bs k t q })
