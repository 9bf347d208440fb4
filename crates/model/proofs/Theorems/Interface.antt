-- The interface commands keep soundness.
use Rattle.model.proofs.Logic.{Bool, List, List-as-Memᴰ, List·Memᴰ·append-cases, List·Memᴰ·eq-of-singleton, Memᴰ·append-left, [], ◌&&◌, ◌++◌, ◌+◌, ◌<◌, ◌∙◌, ◌∷◌, ◌≡◌, ◌⊎◌, and-false, ap, arith, cond, eqb, false, inl, inr, leb, leb-false, length, length-append, length-map, ltb-false, map, ne_eqb, not, refl, sym, true, ℕ}
use Rattle.model.specs.{Interface.configure_tests, Interface.declare_provision_tests, Interface.dependencies_configured, Interface.listed, Interface.own, Interface.provision_declared, Interface.provision_released, Interface.release_provision_tests, Interface.relies_on, Interface.remaining, Interface.remains, Interface.taken, Records.consumer_in, Records.declared_port, Records.dependency, Records.is_inactive, Records.owner_in, Records.port_in, Records.provider_in, Records.provision, Records.same_port, Resolution.is_dependency_of, Resolution.offers, Sizes.Sizes, Soundness.is_declaration, Tables.Tables, Tables.node_at, Tables.not_inactive, Tables.present, Tables.with_declarations, declared.Port.Port, declared.PortList.PortList, declared.records.Declaration.Declaration, declared.records.Link.Link}
use Rattle.model.proofs.{Laws.Booleans.and_i, Laws.Booleans.and_l, Laws.Booleans.clash, Laws.Booleans.f_not, Laws.Booleans.not_f, Laws.Facts.Linked, Laws.Facts.Sound, Laws.Facts.port-same, Laws.Lists.in_keep, Laws.Lists.in_map, Laws.Lists.keep-in, Laws.Lists.none_in, Laws.Nodes.present-lt, Laws.Refusals.Passed, Laws.Update.LiveLinks, Laws.Update.safe-declarations, Laws.Update.sub_declarations}

-- no present owner provides a port that is not taken
pub not_taken : (T : Tables) (p : Port) → taken T p ≡ false → (d : Declaration) → List-as-Memᴰ d T.declarations → d.provides ≡ true → present T.nodes (owner_in d) ≡ true → declared_port d ≡ p → ⊥
unfolding taken offers
not_taken T p h d m a b e = clash {A = ⊥} _ (and_i (d.provides && same_port (declared_port d) p) _ (and_i d.provides _ a (rw e (port-same p))) b) (none_in (offers (present T.nodes) p) m h)

-- another owner's declaration remains, and every provision
pub other-remains : (id : ℕ) (d : Declaration) → (owner_in d ≡ id → ⊥) → remains id d ≡ true
unfolding is_dependency_of
other-remains id d f = rw (ne_eqb (owner_in d) id f, and-false (not d.provides))

provision-remains : (id : ℕ) (d : Declaration) → d.provides ≡ true → remains id d ≡ true
unfolding is_dependency_of
provision-remains id d a = rw a

-- what configure's sum counts is the table that it makes
pub configured-count : (T : Tables) (id : ℕ) (l : PortList) → length (dependencies_configured T id l).declarations ≡ length (remaining T id) + length (listed l)
configured-count T id l = length-append (remaining T id) (map (dependency id) (listed l)) ∙ ap (λ (n : ℕ). length (remaining T id) + n) (length-map (listed l) (dependency id))

module _ (S : Sizes) (T : Tables) where
  -- one more provision
  abbrev provided : ℕ → Port → Tables
  provided id p = with_declarations T (T.declarations ++ (provision id p ∷ []))

  add_provision : (id : ℕ) (p : Port) → Sound S T → present T.nodes id ≡ true → taken T p ≡ false → length T.declarations < S.declarations → Sound S (provided id p)
  add_provision id p k t q f = record {
    sizes = record { nodes = k.sizes.nodes; declarations = rw (length-append T.declarations (provision id p ∷ [])) (omega arith); links = k.sizes.links };
    safe = safe-declarations T ds k.safe
        (λ d m. owned d (List·Memᴰ·append-cases T.declarations m))
        (λ d e m n a b x y r. one d e (List·Memᴰ·append-cases T.declarations m) (List·Memᴰ·append-cases T.declarations n) a b x y r)
        (λ l m v. (Memᴰ·append-left _ (k.safe.live l m v).needed, Memᴰ·append-left _ (k.safe.live l m v).offered));
    covered = λ d m n a b. cov d (List·Memᴰ·append-cases T.declarations m) n a b;
    stored = k.stored;
  }
    where
      ds : List Declaration
      ds = T.declarations ++ (provision id p ∷ [])

      OldOrNew : Declaration → Type 0
      OldOrNew d = List-as-Memᴰ d T.declarations ⊎ List-as-Memᴰ d (provision id p ∷ [])

      owned : (d : Declaration) → OldOrNew d → owner_in d < length T.nodes
      owned d (inl m) = k.safe.owners d m
      owned d (inr m) = rw (List·Memᴰ·eq-of-singleton m) (present-lt _ _ t)

      one :
          (d e : Declaration) → OldOrNew d → OldOrNew e
          → d.provides ≡ true → e.provides ≡ true
          → present T.nodes (owner_in d) ≡ true → present T.nodes (owner_in e) ≡ true
          → declared_port d ≡ declared_port e
          → owner_in d ≡ owner_in e
      one d e (inl m) (inl n) a b x y r = k.safe.unique d e m n a b x y r
      one d e (inl m) (inr n) a b x y r = absurd (not_taken T p q d m a x (r ∙ ap declared_port (List·Memᴰ·eq-of-singleton n)))
      one d e (inr m) (inl n) a b x y r = absurd (not_taken T p q e n b y (sym r ∙ ap declared_port (List·Memᴰ·eq-of-singleton m)))
      one d e (inr m) (inr n) a b x y r = ap owner_in (List·Memᴰ·eq-of-singleton m ∙ sym (List·Memᴰ·eq-of-singleton n))

      cov : (d : Declaration) → OldOrNew d → d.provides ≡ false → present T.nodes (owner_in d) ≡ true → not_inactive T.nodes (owner_in d) ≡ true → Linked T.links (owner_in d) (declared_port d)
      cov d (inl m) n a b = k.covered d m n a b
      cov d (inr m) n a b = clash true refl (sym (ap (λ (z : Declaration). z.provides) (List·Memᴰ·eq-of-singleton m)) ∙ n)

  pub provision_declared-sound : (id : ℕ) (p : Port) → Sound S T → Passed (declare_provision_tests S T id p) → Sound S (provision_declared T id p)
  provision_declared-sound id p k q = go (own T id p) (not_f _ q.0) q.1.1.1.0 q.1.1.1.1.0
    where
      go :
          (b : Bool) → present T.nodes id ≡ true
          → not b && taken T p ≡ false
          → not b && leb S.declarations (length T.declarations) ≡ false
          → Sound S (with_declarations T (cond b T.declarations (T.declarations ++ (provision id p ∷ []))))
      go true t x y = k
      go false t x y = add_provision id p k t x (leb-false _ _ y)

  pub provision_released-sound : (id : ℕ) (p : Port) → Sound S T → Passed (release_provision_tests T id p) → Sound S (provision_released T id p)
  unfolding is_declaration relies_on
  provision_released-sound id p k q = sub_declarations k (λ d. not (is_declaration id p true d)) (λ l m v. (f_not _ (and-false (eqb (consumer_in l) id && same_port (port_in l) p)), rw (free l m v)))
    where
      free : (l : Link) → List-as-Memᴰ l T.links → l.live ≡ true → eqb (provider_in l) id && same_port (port_in l) p ≡ false
      free l m v = rw v at (none_in (relies_on id p) m q.1.0)

  pub dependencies_configured-sound : (id : ℕ) (l : PortList) → Sound S T → Passed (configure_tests S T id l) → Sound S (dependencies_configured T id l)
  dependencies_configured-sound id l k (_, (absent, (_, (begun, (full, _))))) = record {
    sizes = record { nodes = k.sizes.nodes; declarations = rw (configured-count T id l) (ltb-false _ _ full); links = k.sizes.links };
    safe = safe-declarations T _ k.safe
        (λ d m. owned d (which m))
        (λ d e m n a b x y r. k.safe.unique d e (prov d a (which m)) (prov e b (which n)) a b x y r)
        linked;
    covered = λ d m n a b. cov d (which m) n a b;
    stored = k.stored;
  }
    where
      ds : List Declaration
      ds = map (dependency id) (listed l)

      here : present T.nodes id ≡ true
      here = not_f _ absent

      idle : not_inactive T.nodes id ≡ false
      idle = rw (and_l (is_inactive (node_at T.nodes id).phase) _ (not_f _ begun))

      which : {d : Declaration} → List-as-Memᴰ d (remaining T id ++ ds) → List-as-Memᴰ d (remaining T id) ⊎ List-as-Memᴰ d ds
      which m = List·Memᴰ·append-cases (remaining T id) m

      before : {d : Declaration} → List-as-Memᴰ d (remaining T id) → List-as-Memᴰ d T.declarations
      before m = (in_keep (remains id) T.declarations m).0

      linked : LiveLinks T (λ d. List-as-Memᴰ d (remaining T id ++ ds))
      linked l m v =
          let o = k.safe.live l m v in
          let mine = other-remains id (dependency (consumer_in l) (port_in l)) (λ e. clash {A = ⊥} _ (rw e at o.consumer-installed) idle) in
          let its = provision-remains id (provision (provider_in l) (port_in l)) refl in
          (Memᴰ·append-left _ (keep-in (remains id) o.needed mine), Memᴰ·append-left _ (keep-in (remains id) o.offered its))

      owned : (d : Declaration) → List-as-Memᴰ d (remaining T id) ⊎ List-as-Memᴰ d ds → owner_in d < length T.nodes
      owned d (inl m) = k.safe.owners d (before m)
      owned d (inr m) = let (p, n, e) = in_map (dependency id) (listed l) m in rw e (present-lt _ _ here)

      prov : (d : Declaration) → d.provides ≡ true → List-as-Memᴰ d (remaining T id) ⊎ List-as-Memᴰ d ds → List-as-Memᴰ d T.declarations
      prov d a (inl m) = before m
      prov d a (inr m) = let (p, n, e) = in_map (dependency id) (listed l) m in clash false (sym (ap (λ (z : Declaration). z.provides) e) ∙ a) refl

      cov :
          (d : Declaration) → List-as-Memᴰ d (remaining T id) ⊎ List-as-Memᴰ d ds
          → d.provides ≡ false → present T.nodes (owner_in d) ≡ true → not_inactive T.nodes (owner_in d) ≡ true
          → Linked T.links (owner_in d) (declared_port d)
      cov d (inl m) n a b = k.covered d (before m) n a b
      cov d (inr m) n a b = let (p, x, e) = in_map (dependency id) (listed l) m in clash _ (rw e at b) idle
