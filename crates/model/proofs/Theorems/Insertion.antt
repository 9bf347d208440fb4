-- Insertion keeps soundness.
use Rattle.model.proofs.Logic.{List, List-as-Memᴰ, List·Memᴰ·append-cases, Memᴰ·append-left, [], ◌++◌, ◌+◌, ◌<◌, ◌||◌, ◌∙◌, ◌∷◌, ◌≡◌, ◌≤◌, ◌⊎◌, ap, arith, false, get_or-append_seam, inl, inr, leb-false, length, length-append, length-map, lt-ltb, ltb, ltb-false, map, not, refl, sym, true, ℕ}
use Rattle.model.specs.{Insertion.insert_tests, Insertion.inserted, Insertion.parent_present, Interface.distinct, Interface.listed, Interface.taken, Lists.any, Records.binding_in, Records.blank_node, Records.consumer_in, Records.declared_port, Records.dependency, Records.is_inactive, Records.new_node, Records.owner_in, Records.parent_in, Records.provider_in, Records.provision, Sizes.Sizes, Soundness.parent_ok, Tables.Tables, Tables.node_at, Tables.not_inactive, Tables.present, declared.Parent.Parent, declared.Port.Port, declared.PortList.PortList, declared.records.Declaration.Declaration, declared.records.Node.Node}
use Rattle.model.proofs.{Laws.Booleans.and_i, Laws.Booleans.clash, Laws.Booleans.not_f, Laws.Booleans.or_f_r, Laws.Facts.AbsentOk, Laws.Facts.Linked, Laws.Facts.LiveOk, Laws.Facts.NodeOk, Laws.Facts.Sound, Laws.Lists.in_map, Laws.Lists.none_in, Laws.Nodes.at_snoc, Laws.Nodes.old_at, Laws.Nodes.parent-kept, Laws.Nodes.present-lt, Laws.Records.parent-read, Laws.Refusals.Passed, Theorems.Interface.not_taken}

module _ (S : Sizes) (T : Tables) where
  parent-present_ok : (q : Parent) → parent_present T q ≡ true → (ms : List Node) → ((i : ℕ) → present T.nodes i ≡ true → present ms i ≡ true) → parent_ok ms (length T.nodes) q ≡ true
  unfolding parent_present parent_ok
  parent-present_ok Parent.None x ms f = refl
  parent-present_ok (Parent.Of j) x ms f = and_i (ltb j (length T.nodes)) (present ms j) (lt-ltb _ _ (present-lt _ _ x)) (f j x)

  new-idle : (par : Parent) → not_inactive (T.nodes ++ (new_node par ∷ [])) (length T.nodes) ≡ false
  unfolding node_at
  new-idle par = ap (λ (z : Node). not (is_inactive z.phase)) (get_or-append_seam T.nodes (new_node par) [] blank_node)

  -- one more node, with dependencies on these ports and provisions of those
  abbrev grown : Parent → List Port → List Port → Tables
  grown par ps qs = let id = length T.nodes in record { nodes = T.nodes ++ (new_node par ∷ []); declarations = T.declarations ++ (map (dependency id) ps ++ map (provision id) qs); links = T.links }

  add-node :
      (par : Parent) (ps qs : List Port)
      → Sound S T
      → length T.nodes < S.identities
      → parent_present T par ≡ true
      → any (taken T) qs ≡ false
      → length T.declarations + length ps + length qs ≤ S.declarations
      → Sound S (grown par ps qs)
  add-node par ps qs k f g u w = record {
    sizes = record {
      nodes = rw (length-append T.nodes (new_node par ∷ [])) (omega arith);
      declarations = rw (length-append T.declarations news, length-append (map (dependency id) ps) (map (provision id) qs), length-map ps (dependency id), length-map qs (provision id)) (omega arith);
      links = k.sizes.links;
    };
    safe = record {
      owners = λ d m. own d (List·Memᴰ·append-cases T.declarations m);
      unique = λ d e m n a b x y r. one d e (List·Memᴰ·append-cases T.declarations m) (List·Memᴰ·append-cases T.declarations n) a b x y r;
      nodes = at_snoc (λ i n. NodeOk ms i n) T.nodes (new_node par) new-node old_node;
      live = λ l m v. let o : LiveOk T.nodes T.declarations (consumer_in l) (binding_in l) = k.safe.live l m v in record {
        consumer-present = rw (same (consumer_in l) o.consumer-present, present) o.consumer-present;
        consumer-installed = rw (same (consumer_in l) o.consumer-present, not_inactive) o.consumer-installed;
        provider_present = rw (same (provider_in l) o.provider_present, present) o.provider_present;
        provider_installed = rw (same (provider_in l) o.provider_present, not_inactive) o.provider_installed;
        provider_kept = rw (same (provider_in l) o.provider_present) o.provider_kept;
        needed = Memᴰ·append-left news o.needed;
        offered = Memᴰ·append-left news o.offered;
      };
      order = k.safe.order;
    };
    covered = λ d m p a b. cov d (List·Memᴰ·append-cases T.declarations m) p a b;
    stored = record {
      dead = λ l m v. let (c, p) = k.stored.dead l m v in (longer c, longer p);
      absent = at_snoc AbsentOk T.nodes (new_node par) (λ a. clash true refl a) k.stored.absent;
      episodes = λ l m v. k.stored.episodes l m v ∙ ap (λ (n : Node). n.generation) (sym (same (provider_in l) (k.safe.live l m v).provider_present));
    };
  }
    where
      id : ℕ
      id = length T.nodes

      OldOrNew : Declaration → Type 0
      OldOrNew d = List-as-Memᴰ d T.declarations ⊎ List-as-Memᴰ d (map (dependency id) ps ++ map (provision id) qs)

      ms : List Node
      ms = T.nodes ++ (new_node par ∷ [])

      news : List Declaration
      news = map (dependency id) ps ++ map (provision id) qs

      longer : {i : ℕ} → i < length T.nodes → i < length ms
      longer l = rw (length-append T.nodes (new_node par ∷ [])) (omega arith)

      same : (i : ℕ) → present T.nodes i ≡ true → node_at ms i ≡ node_at T.nodes i
      same i a = old_at T.nodes (new_node par) i (present-lt _ _ a)

      is-new : (d : Declaration) → List-as-Memᴰ d news → (owner_in d ≡ id) × (d.provides ≡ true → (p : Port) × List-as-Memᴰ p qs × (declared_port d ≡ p))
      is-new d m = go (List·Memᴰ·append-cases (map (dependency id) ps) m)
        where
          go : List-as-Memᴰ d (map (dependency id) ps) ⊎ List-as-Memᴰ d (map (provision id) qs) → (owner_in d ≡ id) × (d.provides ≡ true → (p : Port) × List-as-Memᴰ p qs × (declared_port d ≡ p))
          go (inl n) = let (p, x, e) = in_map (dependency id) ps n in (ap owner_in e, λ a. clash false (sym (ap (λ (z : Declaration). z.provides) e) ∙ a) refl)
          go (inr n) = let (p, x, e) = in_map (provision id) qs n in (ap owner_in e, λ a. (p, x, ap declared_port e))

      own : (d : Declaration) → List-as-Memᴰ d T.declarations ⊎ List-as-Memᴰ d news → owner_in d < length ms
      own d (inl m) = longer (k.safe.owners d m)
      own d (inr m) = rw (length-append T.nodes (new_node par ∷ [])) (omega (arith, (is-new d m).0))

      -- an old declaration's owner is present before
      before : (d : Declaration) → List-as-Memᴰ d T.declarations → present ms (owner_in d) ≡ true → present T.nodes (owner_in d) ≡ true
      before d m a = rw (old_at T.nodes (new_node par) (owner_in d) (k.safe.owners d m), present) at a

      free : (d e : Declaration) → List-as-Memᴰ d T.declarations → List-as-Memᴰ e news → d.provides ≡ true → e.provides ≡ true → present ms (owner_in d) ≡ true → declared_port d ≡ declared_port e → ⊥
      free d e m n a b x r = let (p, q, z) = (is-new e n).1 b in not_taken T p (none_in (taken T) q u) d m a (before d m x) (r ∙ z)

      one :
          (d e : Declaration) → OldOrNew d → OldOrNew e
          → d.provides ≡ true → e.provides ≡ true
          → present ms (owner_in d) ≡ true → present ms (owner_in e) ≡ true
          → declared_port d ≡ declared_port e
          → owner_in d ≡ owner_in e
      one d e (inl m) (inl n) a b x y r = k.safe.unique d e m n a b (before d m x) (before e n y) r
      one d e (inl m) (inr n) a b x y r = absurd (free d e m n a b x r)
      one d e (inr m) (inl n) a b x y r = absurd (free e d n m b a y (sym r))
      one d e (inr m) (inr n) a b x y r = (is-new d m).0 ∙ sym (is-new e n).0

      still : (i : ℕ) → present T.nodes i ≡ true → present ms i ≡ true
      still i a = rw (same i a, present) a

      new-node : NodeOk ms id (new_node par)
      new-node = record {
        absent-inactive = λ a. clash true refl a;
        absent-kept = λ a. refl;
        restoring-present = λ a. refl;
        restoring-unloading = λ a. clash false a refl;
        parent-ok = λ a. rw (parent-read par) (parent-present_ok par g ms still);
      }

      old_node : (i : ℕ) → NodeOk ms i (node_at T.nodes i)
      old_node i = let o : NodeOk T.nodes i (node_at T.nodes i) = k.safe.nodes i in record {
        absent-inactive = o.absent-inactive;
        absent-kept = o.absent-kept;
        restoring-present = o.restoring-present;
        restoring-unloading = o.restoring-unloading;
        parent-ok = λ a. parent-kept T.nodes ms i (parent_in (node_at T.nodes i)) (λ j e x. still j x) (o.parent-ok a);
      }

      cov : (d : Declaration) → OldOrNew d → d.provides ≡ false → present ms (owner_in d) ≡ true → not_inactive ms (owner_in d) ≡ true → Linked T.links (owner_in d) (declared_port d)
      cov d (inl m) p a b = k.covered d m p (before d m a) (rw (old_at T.nodes (new_node par) (owner_in d) (k.safe.owners d m), not_inactive) at b)
      cov d (inr m) p a b = let c : not_inactive ms id ≡ true = rw (is-new d m).0 at b in clash _ c (new-idle par)

  pub inserted-sound : (q : Parent) (ds ps : PortList) → Sound S T → Passed (insert_tests S T q ds ps) → Sound S (inserted T q ds ps)
  inserted-sound q ds ps k (_, (slot, (parent, (_, (clear, (sum, _)))))) =
      let free = or_f_r (not (distinct (listed ds)) || not (distinct (listed ps))) (any (taken T) (listed ps)) clear in
      add-node q (listed ds) (listed ps) k (leb-false _ _ slot) (not_f _ parent) free (ltb-false _ _ sum)
