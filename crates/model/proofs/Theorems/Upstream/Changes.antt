-- Declarations and links after a command: what an interface command adds and drops, what finish_cleanup and the compactions leave.
use Rattle.model.proofs.Logic.{Bool, List, List-as-Memᴰ, List·Memᴰ·append-cases, List·Memᴰ·eq-of-singleton, List·Memᴰ·head, Memᴰ·append-left, Memᴰ·append-right, Memᴰ·cast, [], ◌&&◌, ◌++◌, ◌+◌, ◌<◌, ◌||◌, ◌↔◌, ◌∙◌, ◌∷◌, ◌≡◌, ◌⊎◌, ap, arith, cond, eq-eqb, eqb, false, inl, inr, length, lt-ltb, ltb, ltb-true, map, not, refl, sym, true, ℕ, ⊎_elim, subst}
use Rattle.model.specs.{Commands.Command, Commands.step, Commands.tests, Compaction.bindings_compacted, Compaction.bindings_removed, Compaction.declarations_compacted, Compaction.declarations_removed, Insertion.new_declarations, Interface.configure_node_tests, Interface.dependencies_configured, Interface.distinct, Interface.listed, Interface.own, Interface.relies_on, Interface.remaining, Interface.remains, Interface.too_long, Lifecycle.phase_at, Observers.binding_records, Observers.declaration_records, Observers.provision_reserved, Records.consumer_in, Records.dead_for, Records.declaration_of, Records.declared_port, Records.dependency, Records.is_inactive, Records.is_live, Records.is_running, Records.is_unloading, Records.owner_in, Records.port_in, Records.provider_in, Records.provision, Refusals.Reply, Refusals.accepted, Resolution.committed, Resolution.is_dependency_of, Sizes.Sizes, Soundness.declares, Soundness.is_declaration, Soundness.sound, Tables.Tables, Tables.node_at, Tables.present, declared.Error.Error, declared.Parent.Parent, declared.Phase.Phase, declared.Port.Port, declared.PortList.PortList, declared.records.Declaration.Declaration, declared.records.Link.Link, declared.records.Node.Node, Records.same_port}
use Rattle.model.proofs.{Laws.Booleans.and_i, Laws.Booleans.and_l, Laws.Booleans.clash, Laws.Booleans.f_not, Laws.Booleans.not_f, Laws.Booleans.not_t, Laws.Committed.committed-compact, Laws.Committed.committed-dead, Laws.Pieces.refuted, Laws.Facts.declaration_passes, Laws.Facts.declares-in, Laws.Facts.facts, Laws.Facts.in_declares, Laws.Facts.is-declaration, Laws.Facts.port-same, Laws.Lists.in_keep, Laws.Lists.in_map, Laws.Lists.keep-in, Laws.Lists.length-keep, Laws.Lists.map-in, Laws.Lists.none_in, Laws.Live.any-kept, Laws.Refusals.Passed, Laws.Refusals.refused-ahead, Laws.Refusals.refused-at, Laws.Refusals.step_keeps, Theorems.FinishCleanup.dead-live, Theorems.Interface.configured-count, Theorems.Upstream.Replies.accepted-step, Theorems.Upstream.Replies.accepts, Theorems.Upstream.Replies.refuses}

-- ---- declare_provision

module _ (S : Sizes) (T : Tables) (id : ℕ) (p : Port) where
  abbrev declaring : Command
  declaring = Command.declare_provision id p

  pub declare_accepted : accepted (step S T declaring).reply ≡ true → (present T.nodes id ≡ true) × ((node_at T.nodes id).retired ≡ false) × (is_unloading (phase_at T id) ≡ false)
  declare_accepted h =
      let q : Passed (tests S T declaring) = (accepts S T declaring).0 h in
      (not_f _ q.0, q.1.0, go (phase_at T id) (eqb (node_at T.nodes id).generation 0) (not_f _ q.1.1.0))
    where
      go : (f : Phase) (b : Bool) → is_running f || is_inactive f && b ≡ true → is_unloading f ≡ false
      go Phase.Inactive b x = refl
      go Phase.Loading b x = refl
      go Phase.Active b x = refl
      go Phase.Unloading b x = sym x

  pub declared-declares : accepted (step S T declaring).reply ≡ true → provision_reserved (step S T declaring).tables id p ≡ true
  declared-declares h = rw (accepted-step S T declaring ((accepts S T declaring).0 h)) (go (own T id p) refl)
    where
      go : (b : Bool) → own T id p ≡ b → declares (cond b T.declarations (T.declarations ++ (provision id p ∷ []))) id p true ≡ true
      go true e = e
      go false e = in_declares _ id p true (Memᴰ·append-right T.declarations (List·Memᴰ·head refl))

  -- other_interfaces_preserved
  pub declared-others : (d : Declaration) → (d ≡ provision id p → ⊥) → List-as-Memᴰ d (step S T declaring).tables.declarations ↔ List-as-Memᴰ d T.declarations
  declared-others d f = step_keeps (λ U. List-as-Memᴰ d U.declarations ↔ List-as-Memᴰ d T.declarations) S T declaring (λ m. m, λ m. m) (λ q. go (own T id p))
    where
      back : List-as-Memᴰ d T.declarations ⊎ List-as-Memᴰ d (provision id p ∷ []) → List-as-Memᴰ d T.declarations
      back (inl m) = m
      back (inr m) = absurd (f (List·Memᴰ·eq-of-singleton m))

      go : (b : Bool) → List-as-Memᴰ d (cond b T.declarations (T.declarations ++ (provision id p ∷ []))) ↔ List-as-Memᴰ d T.declarations
      go true = (λ m. m, λ m. m)
      go false = (λ m. back (List·Memᴰ·append-cases T.declarations m), λ m. Memᴰ·append-left _ m)

-- ---- release_provision

-- a declaration is among those of one as of the other
abbrev SameIn : Declaration → Tables → Tables → Type 0
SameIn d T U = List-as-Memᴰ d U.declarations ↔ List-as-Memᴰ d T.declarations

module _ (S : Sizes) (T : Tables) (id : ℕ) (p : Port) where
  abbrev releasing : Command
  releasing = Command.release_provision id p

  pub release_accepted : accepted (step S T releasing).reply ≡ true → (present T.nodes id ≡ true) × ((l : Link) → List-as-Memᴰ l T.links → l.live ≡ true → provider_in l ≡ id → port_in l ≡ p → ⊥)
  unfolding relies_on
  release_accepted h =
      let q : Passed (tests S T releasing) = (accepts S T releasing).0 h in
      (not_f _ q.0, λ l m v e f. clash {A = ⊥} _ (and_i (l.live && eqb (provider_in l) id) _ (and_i l.live _ v (eq-eqb _ _ e)) (subst (λ (q : Port). same_port (port_in l) q ≡ true) f (port-same (port_in l)))) (none_in (relies_on id p) m q.1.0))

  pub released-gone : accepted (step S T releasing).reply ≡ true → provision_reserved (step S T releasing).tables id p ≡ false
  released-gone h = rw (accepted-step S T releasing ((accepts S T releasing).0 h)) (refuted _ (λ x.
      clash {A = ⊥} _ (declaration_passes id p true) (not_t _ (in_keep _ T.declarations (declares-in _ id p true x)).1)))

  -- other_interfaces_preserved
  pub released-others : (d : Declaration) → (d ≡ provision id p → ⊥) → SameIn d T (step S T releasing).tables
  released-others d f = step_keeps (λ U. SameIn d T U) S T releasing
      (λ m. m, λ m. m)
      (λ q. (λ m. (in_keep _ T.declarations m).0, λ m. keep-in _ m (f_not _ (refuted _ (λ x. f (sym (is-declaration id p true d x)))))))

-- ---- configure_pending_dependencies

own-dependency : (id : ℕ) (p : Port) → is_dependency_of id (dependency id p) ≡ true
unfolding is_dependency_of
own-dependency id p = eq-eqb id id refl

module _ (S : Sizes) (T : Tables) (id : ℕ) (l : PortList) where
  abbrev configuring : Command
  configuring = Command.configure_pending_dependencies id l

  pub configure_accepted : accepted (step S T configuring).reply ≡ true → (present T.nodes id ≡ true) × ((node_at T.nodes id).retired ≡ false) × (is_inactive (phase_at T id) ≡ true)
  configure_accepted h =
      let q : Passed (tests S T configuring) = (accepts S T configuring).0 h in
      (not_f _ q.1.0, q.1.1.0, and_l (is_inactive (phase_at T id)) _ (not_f _ q.1.1.1.0))

  abbrev node : Node
  node = node_at T.nodes id

  -- 9 exactly if the list is over its limit, or the component may be configured and the table would be over its size
  pub configure-capacity :
      ((step S T configuring).reply ≡ Reply.refused Error.Capacity)
      ↔ ((too_long l ≡ true) ⊎ (Passed (configure_node_tests node) × (S.declarations < length (dependencies_configured T id l).declarations)))
  configure-capacity =
      let r = refuses S T configuring Error.Capacity in
      let long = refused-ahead (too_long l) Error.Capacity _ in
      let full = ltb S.declarations (length (remaining T id) + length (listed l)) in
      let over = refused-at (configure_node_tests node) full Error.Capacity ((not (distinct (listed l)), Error.Conflict) ∷ []) refl refl in (
        λ h. ⊎_elim (λ e. inl e) (λ g. let (p, f) = over.0 g in inr (p, rw (configured-count T id l) (ltb-true _ _ f))) (long.0 (r.0 h)),
        λ h. r.1 (long.1 (⊎_elim (λ e. inl e) (λ (p, f). inr (over.1 (p, lt-ltb _ _ (rw (configured-count T id l) at f)))) h)),
      )

  -- the dependencies are those of the list
  pub configured-dependencies : accepted (step S T configuring).reply ≡ true → (p : Port) → List-as-Memᴰ (dependency id p) (step S T configuring).tables.declarations ↔ List-as-Memᴰ p (listed l)
  configured-dependencies h p = rw (accepted-step S T configuring ((accepts S T configuring).0 h)) (λ m. go (List·Memᴰ·append-cases (remaining T id) m), λ m. Memᴰ·append-right (remaining T id) (map-in (dependency id) m))
    where
      go : List-as-Memᴰ (dependency id p) (remaining T id) ⊎ List-as-Memᴰ (dependency id p) (map (dependency id) (listed l)) → List-as-Memᴰ p (listed l)
      go (inl m) = clash _ (own-dependency id p) (not_t _ (in_keep (remains id) T.declarations m).1)
      go (inr m) = let (x, n, e) = in_map (dependency id) (listed l) m in Memᴰ·cast (ap declared_port e) n

  -- every other declaration is as before
  pub configured-others : (d : Declaration) → is_dependency_of id d ≡ false → SameIn d T (step S T configuring).tables
  configured-others d f = step_keeps (λ U. SameIn d T U) S T configuring
      (λ m. m, λ m. m)
      (λ q. (λ m. go (List·Memᴰ·append-cases (remaining T id) m), λ m. Memᴰ·append-left _ (keep-in (remains id) m (f_not _ f))))
    where
      go : List-as-Memᴰ d (remaining T id) ⊎ List-as-Memᴰ d (map (dependency id) (listed l)) → List-as-Memᴰ d T.declarations
      go (inl m) = (in_keep (remains id) T.declarations m).0
      go (inr m) = let (x, n, e) = in_map (dependency id) (listed l) m in clash _ (own-dependency id x) (rw e at f)

-- ---- insert

-- the declarations of the new identity are those of the two lists
module _ (S : Sizes) (T : Tables) (q : Parent) (ds ps : PortList) where
  abbrev inserting : Command
  inserting = Command.insert q ds ps

  pub inserted-declarations : accepted (step S T inserting).reply ≡ true → (step S T inserting).tables.declarations ≡ T.declarations ++ new_declarations (length T.nodes) ds ps
  inserted-declarations h = rw (accepted-step S T (Command.insert q ds ps) ((accepts S T (Command.insert q ds ps)).0 h))

  module _ (s : sound S T ≡ true) where
    -- no earlier declaration names the new identity
    pub new-unnamed : (d : Declaration) → List-as-Memᴰ d T.declarations → owner_in d ≡ length T.nodes → ⊥
    new-unnamed d m e = let l : owner_in d < length T.nodes = (facts S T s).safe.owners d m in absurd (omega arith)

    -- so that its dependencies and its provisions are just the listed ports
    module _ (h : accepted (step S T inserting).reply ≡ true) (p : Port) where
      abbrev new : ℕ
      new = length T.nodes

      of_list : (b : Bool) → List-as-Memᴰ (declaration_of new b p) (step S T inserting).tables.declarations → List-as-Memᴰ (declaration_of new b p) (new_declarations new ds ps)
      of_list b m = go (List·Memᴰ·append-cases T.declarations (rw (inserted-declarations h) at m))
        where
          go : List-as-Memᴰ (declaration_of new b p) T.declarations ⊎ List-as-Memᴰ (declaration_of new b p) (new_declarations new ds ps) → List-as-Memᴰ (declaration_of new b p) (new_declarations new ds ps)
          go (inl n) = absurd (new-unnamed _ n refl)
          go (inr n) = n

      listed_in : (xs : List Port) (b c : Bool) → List-as-Memᴰ (declaration_of new b p) (map (declaration_of new c) xs) → (b ≡ c) × List-as-Memᴰ p xs
      listed_in xs b c m =
          let (x, n, e) = in_map (declaration_of new c) xs m in
          (ap (λ (d : Declaration). d.provides) e, Memᴰ·cast (ap (λ (d : Declaration). declared_port d) e) n)

      pub inserted-dependencies : List-as-Memᴰ (dependency new p) (step S T inserting).tables.declarations ↔ List-as-Memᴰ p (listed ds)
      inserted-dependencies = (
        λ m. go (List·Memᴰ·append-cases (map (dependency new) (listed ds)) (of_list false m)),
        λ m. rw (inserted-declarations h) (Memᴰ·append-right T.declarations (Memᴰ·append-left (map (provision new) (listed ps)) (map-in (dependency new) m))),
      )
        where
          go : List-as-Memᴰ (dependency new p) (map (dependency new) (listed ds)) ⊎ List-as-Memᴰ (dependency new p) (map (provision new) (listed ps)) → List-as-Memᴰ p (listed ds)
          go (inl m) = (listed_in (listed ds) false false m).1
          go (inr m) = clash true refl (sym (listed_in (listed ps) false true m).0)

      pub inserted-provisions : List-as-Memᴰ (provision new p) (step S T inserting).tables.declarations ↔ List-as-Memᴰ p (listed ps)
      inserted-provisions = (
        λ m. go (List·Memᴰ·append-cases (map (dependency new) (listed ds)) (of_list true m)),
        λ m. rw (inserted-declarations h) (Memᴰ·append-right T.declarations (Memᴰ·append-right (map (dependency new) (listed ds)) (map-in (provision new) m))),
      )
        where
          go : List-as-Memᴰ (provision new p) (map (dependency new) (listed ds)) ⊎ List-as-Memᴰ (provision new p) (map (provision new) (listed ps)) → List-as-Memᴰ p (listed ps)
          go (inl m) = clash true refl (listed_in (listed ds) true false m).0
          go (inr m) = (listed_in (listed ps) true true m).1

-- ---- finish_cleanup

module _ (S : Sizes) (T : Tables) (id : ℕ) where
  -- no_committed
  pub no_committed : accepted (step S T (Command.finish_cleanup id)).reply ≡ true → (l : Link) → List-as-Memᴰ l (step S T (Command.finish_cleanup id)).tables.links → l.live ≡ true → consumer_in l ≡ id → ⊥
  no_committed h l m v e =
      let (o, n, x) = in_map (dead_for id) T.links (rw (accepted-step S T (Command.finish_cleanup id) ((accepts S T (Command.finish_cleanup id)).0 h)) at m) in
      (dead-live id o (rw x at v)).1 (sym (ap consumer_in x) ∙ e)

  pub commitments-frame : (i : ℕ) → (i ≡ id → ⊥) → committed (step S T (Command.finish_cleanup id)).tables.links i ≡ committed T.links i
  commitments-frame i d = step_keeps (λ U. committed U.links i ≡ committed T.links i) S T (Command.finish_cleanup id) refl (λ p. committed-dead T.links i id d)

-- ---- the compactions

module _ (S : Sizes) (T : Tables) where
  -- they have no test
  pub compact_bindings_step : step S T Command.compact_bindings ≡ record { tables = bindings_compacted T; reply = Reply.removed (bindings_removed T) }
  compact_bindings_step = accepted-step S T Command.compact_bindings tt

  pub compact_declarations_step : step S T Command.compact_declarations ≡ record { tables = declarations_compacted T; reply = Reply.removed (declarations_removed T) }
  compact_declarations_step = accepted-step S T Command.compact_declarations tt

module _ (T : Tables) where
  pub bindings-fewer : binding_records (bindings_compacted T) + bindings_removed T ≡ binding_records T
  bindings-fewer = omega (arith, length-keep is_live T.links)

  pub declarations-fewer : declaration_records (declarations_compacted T) + declarations_removed T ≡ declaration_records T
  declarations-fewer = omega (arith, length-keep (λ d. present T.nodes (owner_in d)) T.declarations)

  pub compacted-live : (l : Link) → List-as-Memᴰ l (bindings_compacted T).links → l.live ≡ true
  compacted-live l m = (in_keep is_live T.links m).1

  -- same_live_bindings
  pub compacted-committed : (id : ℕ) → committed (bindings_compacted T).links id ≡ committed T.links id
  compacted-committed id = committed-compact T.links id

  -- same_interfaces
  pub compacted-interfaces : (o : ℕ) (p : Port) (b : Bool) → present T.nodes o ≡ true → declares (declarations_compacted T).declarations o p b ≡ declares T.declarations o p b
  compacted-interfaces o p b t = any-kept (λ d. present T.nodes (owner_in d)) (is_declaration o p b)
      (λ d h. refuted _ (λ x. clash {A = ⊥} _ t (rw (sym (ap owner_in (is-declaration o p b d x))) at h)))
      T.declarations
