-- What demand 3 adds to soundness, and that every command keeps it.
use Rattle.model.proofs.Logic.{Bool, List, List·Memᴰ·eq-of-singleton, Option, Option·map, [], ◌&&◌, ◌++◌, ◌<◌, ◌∙◌, ◌∷◌, ◌≡◌, ◌⊎◌, and-false, ap, arith, cond, eq-eqb, eqb, false, inl, inr, length, map, ne_eqb, none, not, refl, some, subst, sym, true, ℕ, ℕ_discrete}
use Rattle.model.specs.{Commands.Command, Commands.report, Commands.result, Commands.step, Commands.tests, Compaction.declarations_compacted, Insertion.inserted, Interface.dependencies_configured, Interface.listed, Interface.own, Interface.provision_declared, Interface.provision_released, Iteration.begins, Lifecycle.begin_tests, Lifecycle.begun, Lifecycle.begun_link, Lifecycle.begun_node, Lifecycle.begun_with, Lifecycle.cleanup_finished, Lifecycle.phase_at, Records.declared_port, Records.dependency, Records.is_inactive, Records.is_running, Records.new_node, Records.owner_in, Records.port_of, Records.provision, Records.restored_node, Records.same_port, Refusals.accepted, Resolution.committed, Resolution.dependency_ports, Resolution.target, Resolution.target_list, Sizes.Sizes, Soundness.is_declaration, Soundness.sound, Tables.Tables, Tables.empty, Tables.node_at, Tables.not_inactive, Tables.present, Tables.with_declarations, Tables.with_node, declared.Binding.Binding, declared.Parent.Parent, declared.Port.Port, declared.PortList.PortList, declared.records.Declaration.Declaration, declared.records.Link.Link, declared.records.Node.Node}
use Rattle.model.proofs.{Laws.Booleans.and_l, Laws.Booleans.cases, Laws.Booleans.clash, Laws.Booleans.not_f, Laws.Booleans.not_t, Laws.Committed.committed-begun, Laws.Committed.dependency_ports-keep, Laws.Committed.dependency_ports-more, Laws.Committed.live-begun, Laws.Committed.live-begun-other, Laws.Committed.live-compact, Laws.Committed.live-dead, Laws.Committed.live_links_of, Laws.Committed.new-owner, Laws.Facts.Safe, Laws.Facts.Sound, Laws.Facts.facts, Laws.Lists.in_map, Laws.Lists.is_some, Laws.Nodes.at_set, Laws.Nodes.at_set_other, Laws.Nodes.at_snoc, Laws.Nodes.present-lt, Laws.Phases.loading_running, Laws.Phases.running-installed, Laws.Refusals.Passed, Laws.Refusals.step-cases, Laws.Resolution.Targeted, Laws.Resolution.bound-ports, Laws.Resolution.targeted, Theorems.Commands.run_from, Theorems.Commands.step-sound, Theorems.Interface.other-remains}

-- the links that an accepted begin appends
abbrev pub begun_links : Tables → ℕ → Option (List Link)
begun_links T id = Option·map (map (begun_link T.nodes id)) (target_list (target T id))

-- of a running component, the links that its last accepted begin appended are its live links; of an installed one, the ports of its live links are its dependency ports, both in order
pub record IterationInvariant (T : Tables) (id : ℕ) (a : Option (List Link)) : Type 0 where
  pub as_begun : is_running (phase_at T id) ≡ true → a ≡ some (live_links_of T.links id)
  pub ports : not_inactive T.nodes id ≡ true → map port_of (committed T.links id) ≡ dependency_ports T.declarations id

-- not Inactive before, running before if it runs after, with the same live links and the same dependency ports
abbrev Carried : Tables → Tables → ℕ → Type 0
Carried T U id =
    (not_inactive T.nodes id ≡ true)
    × (is_running (phase_at U id) ≡ true → is_running (phase_at T id) ≡ true)
    × (live_links_of U.links id ≡ live_links_of T.links id)
    × (dependency_ports U.declarations id ≡ dependency_ports T.declarations id)

-- a change that carries every component that is not Inactive after it
kept_by : (T U : Tables) (id : ℕ) (a : Option (List Link)) → IterationInvariant T id a → (not_inactive U.nodes id ≡ true → Carried T U id) → IterationInvariant U id a
unfolding committed
kept_by T U id a k f = record {
  as_begun = λ r. let (i, x, y, z) = f (running-installed (phase_at U id) r) in rw y (k.as_begun (x r));
  ports = λ r. let (i, x, y, z) = f r in rw (y, z) (k.ports i);
}

-- a node for a component that is not Inactive, or runs, only if the component was or did
abbrev AsBefore : Tables → ℕ → Node → Type 0
AsBefore T i m = not (is_inactive m.phase) ≡ true → (not_inactive T.nodes i ≡ true) × (is_running m.phase ≡ true → is_running (phase_at T i) ≡ true)

-- on sound tables a component that is not Inactive is present
pub installed-present : (T : Tables) (id : ℕ) → Safe T → not_inactive T.nodes id ≡ true → present T.nodes id ≡ true
installed-present T id k r = go (cases (present T.nodes id))
  where
    go : (present T.nodes id ≡ true) ⊎ (present T.nodes id ≡ false) → present T.nodes id ≡ true
    go (inl e) = e
    go (inr e) = clash _ ((k.nodes id).absent-inactive e) (not_t _ r)

module _ (S : Sizes) (T : Tables) (k : Sound S T) (id : ℕ) (a : Option (List Link)) (q : IterationInvariant T id a) where
  -- one node anew, which is not Inactive, or runs, only if it did
  node_kept : (j : ℕ) (n : Node) → present T.nodes j ≡ true → AsBefore T j n → IterationInvariant (with_node T j n) id a
  node_kept j n t f = kept_by T (with_node T j n) id a q (λ r. let (x, y) = at_set (AsBefore T) T.nodes j n (present-lt _ _ t) f (λ i x. (x, λ y. y)) id r in (x, y, refl, refl))

  -- a running node that stays installed
  running-kept : (j : ℕ) (n : Node) → present T.nodes j ≡ true → is_running (phase_at T j) ≡ true → IterationInvariant (with_node T j n) id a
  running-kept j n t w = node_kept j n t (λ r. (running-installed (phase_at T j) w, λ x. w))

  cleanup_finished-kept : (j : ℕ) → present T.nodes j ≡ true → IterationInvariant (cleanup_finished T j) id a
  cleanup_finished-kept j t = kept_by T _ id a q (λ r.
      let other : Node → ℕ → Type 0 = λ m i. not (is_inactive m.phase) ≡ true → (i ≡ j → ⊥) × (not_inactive T.nodes i ≡ true) × (is_running m.phase ≡ true → is_running (phase_at T i) ≡ true) in
      let (d, x, y) = at_set_other (λ i m. other m i) T.nodes j (restored_node (node_at T.nodes j)) (present-lt _ _ t) (λ y. clash false y refl) (λ i ne y. (ne, y, λ z. z)) id r in
      (x, y, live-dead T.links id j d, refl))

  declarations_compacted-kept : IterationInvariant (declarations_compacted T) id a
  declarations_compacted-kept = kept_by T _ id a q (λ r. (r, λ x. x, refl, dependency_ports-keep _ T.declarations id (λ d x y. rw y (installed-present T id k.safe r))))

  provision_released-kept : (j : ℕ) (p : Port) → IterationInvariant (provision_released T j p) id a
  unfolding is_declaration
  provision_released-kept j p = kept_by T _ id a q (λ r. (r, λ x. x, refl, dependency_ports-keep _ T.declarations id (λ d x y. rw x (rw (and-false (eqb (owner_in d) j && same_port (declared_port d) p))))))

  provision_declared-kept : (j : ℕ) (p : Port) → IterationInvariant (provision_declared T j p) id a
  provision_declared-kept j p = go (own T j p)
    where
      go : (b : Bool) → IterationInvariant (with_declarations T (cond b T.declarations (T.declarations ++ (provision j p ∷ [])))) id a
      go true = q
      go false = kept_by T _ id a q (λ r. (
        r,
        λ x. x,
        refl,
        dependency_ports-more T.declarations (provision j p ∷ []) id (λ d m x y.
            clash {A = ⊥} true refl (sym (ap (λ (z : Declaration). z.provides) (List·Memᴰ·eq-of-singleton m)) ∙ x)),
      ))

  -- an Inactive component's dependencies are another's
  dependencies_configured-kept : (j : ℕ) (l : PortList) → is_inactive (phase_at T j) ≡ true → IterationInvariant (dependencies_configured T j l) id a
  dependencies_configured-kept j l i = kept_by T _ id a q (λ r.
      let d : id ≡ j → ⊥ = λ e. clash {A = ⊥} (is_inactive (phase_at T j)) i (not_t _ (subst (λ (x : ℕ). not_inactive T.nodes x ≡ true) e r)) in
      let added = dependency_ports-more _ (map (dependency j) (listed l)) id (λ z m x y. let (b, n, e) = in_map (dependency j) (listed l) m in d (sym y ∙ ap owner_in e)) in
      (r, λ x. x, refl, added ∙ dependency_ports-keep _ T.declarations id (λ z x y. other-remains j z (λ e. d (sym y ∙ e)))))

  inserted-kept : (o : Parent) (ds ps : PortList) → IterationInvariant (inserted T o ds ps) id a
  inserted-kept o ds ps = kept_by T _ id a q (λ r.
      let (x, y) = at_snoc (AsBefore T) T.nodes (new_node o) (λ y. clash false y refl) (λ i y. (y, λ z. z)) id r in
      let l : id < length T.nodes = present-lt _ _ (installed-present T id k.safe x) in
      (x, y, refl, dependency_ports-more T.declarations _ id (λ d m u v. let e : owner_in d ≡ length T.nodes = new-owner (length T.nodes) (listed ds) (listed ps) d m in omega arith)))

  -- an accepted begin: of another component, and of this one
  begun-other : (j : ℕ) (bs : List Binding) → present T.nodes j ≡ true → (id ≡ j → ⊥) → IterationInvariant (begun_with T j bs) id a
  begun-other j bs t d = kept_by T _ id a q (λ r.
      let (x, y) = at_set_other (λ i m. i ≡ id → AsBefore T i m) T.nodes j (begun_node (node_at T.nodes j)) (present-lt _ _ t) (λ e y. absurd (d (sym e))) (λ i ne e y. (y, λ z. z)) id refl r in
      (x, y, live-begun-other T bs id j d, refl))

  begun-same : (bs : List Binding) → Targeted T id bs → is_inactive (phase_at T id) ≡ true → IterationInvariant (begun_with T id bs) id (some (map (begun_link T.nodes id) bs))
  begun-same bs t i =
      let idle : not_inactive T.nodes id ≡ false = rw i in
      record { as_begun = λ r. ap some (sym (live-begun T bs id k.safe idle)); ports = λ r. rw (committed-begun T bs id k.safe idle) (bound-ports _ _ bs t.is_bound) }

  begun_kept : (j : ℕ) → Passed (begin_tests S T j) → IterationInvariant (begun T j) id (cond (eqb j id && true) (begun_links T id) a)
  begun_kept j p = let (bs, e) = is_some (target_list (target T j)) p.1.1.1.1.0 in rw e (go bs e (not_f _ p.0) (not_f _ p.1.0) (ℕ_discrete j id))
    where
      go : (bs : List Binding) → target_list (target T j) ≡ some bs → present T.nodes j ≡ true → is_inactive (phase_at T j) ≡ true
          → Dec (j ≡ id) → IterationInvariant (begun_with T j bs) id (cond (eqb j id && true) (begun_links T id) a)
      go bs e t i (no d) = rw (ne_eqb j id d) (begun-other j bs t (λ x. d (sym x)))
      go bs e t i (yes d) = rw (eq-eqb j id d, d, rw d at e) (begun-same bs (targeted T id bs (rw d at e)) (rw d at i))

-- ---- every command

pub result-kept :
    (S : Sizes) (T : Tables) (k : Sound S T) (id : ℕ) (a : Option (List Link)) (q : IterationInvariant T id a) (c : Command)
    → Passed (tests S T c)
    → IterationInvariant (result T c) id (cond (begins id c && accepted (report T c)) (begun_links T id) a)
unfolding begins
result-kept S T k id a q (Command.insert o ds ps) p = inserted-kept S T k id a q o ds ps
result-kept S T k id a q (Command.declare_provision j pt) p = provision_declared-kept S T k id a q j pt
result-kept S T k id a q (Command.release_provision j pt) p = provision_released-kept S T k id a q j pt
result-kept S T k id a q (Command.configure_pending_dependencies j l) p = dependencies_configured-kept S T k id a q j l (and_l (is_inactive (phase_at T j)) _ (not_f _ p.1.1.1.0))
result-kept S T k id a q (Command.begin j) p = begun_kept S T k id a q j p
result-kept S T k id a q (Command.finish j) p = running-kept S T k id a q j _ (not_f _ p.0) (loading_running (phase_at T j) (not_f _ p.1.0))
result-kept S T k id a q (Command.leave j) p = running-kept S T k id a q j _ (not_f _ p.0) (not_f _ p.1.0)
result-kept S T k id a q (Command.leave_if_changed j) p = running-kept S T k id a q j _ (not_f _ p.0) (not_f _ p.1.0)
result-kept S T k id a q (Command.retire j) p = node_kept S T k id a q j _ (not_f _ p.0) (λ r. (r, λ x. x))
result-kept S T k id a q (Command.begin_cleanup j) p = node_kept S T k id a q j _ (not_f _ p.0) (λ r. (r, λ x. x))
result-kept S T k id a q (Command.finish_cleanup j) p = cleanup_finished-kept S T k id a q j (not_f _ p.0)
result-kept S T k id a q (Command.remove j) p = node_kept S T k id a q j _ (not_f _ p.0) (λ r. (r, λ x. x))
result-kept S T k id a q Command.compact_bindings p = kept_by T _ id a q (λ r. (r, λ x. x, live-compact T.links id, refl))
result-kept S T k id a q Command.compact_declarations p = declarations_compacted-kept S T k id a q

-- ---- the history on tables

-- after one more command on T: what is seen on T at an accepted begin of the component, else what was noted before
unfoldable pub noted : {A : Type 0} → Sizes → (Tables → A) → Tables → ℕ → Command → A → A
noted S seen T id c a = cond (begins id c && accepted (step S T c).reply) (seen T) a

unfoldable pub noted_from : {A : Type 0} → Sizes → (Tables → A) → Tables → ℕ → List Command → A → A
noted_from S seen T id [] a = a
noted_from S seen T id (c ∷ cs) a = noted_from S seen (step S T c).tables id cs (noted S seen T id c a)

-- what is read off that
pub noted-map : {A B : Type 0} (f : A → B) (S : Sizes) (seen : Tables → A) (T : Tables) (id : ℕ) (cs : List Command) (a : A) → f (noted_from S seen T id cs a) ≡ noted_from S (λ U. f (seen U)) T id cs (f a)
unfolding noted_from noted
noted-map f S seen T id [] a = refl
noted-map f S seen T id (c ∷ cs) a =
    noted-map f S seen (step S T c).tables id cs (noted S seen T id c a)
    ∙ ap (noted_from S (λ U. f (seen U)) (step S T c).tables id cs) (go (begins id c && accepted (step S T c).reply))
  where
    go : (b : Bool) → f (cond b (seen T) a) ≡ cond b (f (seen T)) (f a)
    go true = refl
    go false = refl

-- a refused command notes nothing, an accepted begin of this component the links that it appends
pub step_kept :
    (S : Sizes) (T : Tables) (k : Sound S T) (id : ℕ) (a : Option (List Link)) (c : Command) → IterationInvariant T id a
    → IterationInvariant (step S T c).tables id (noted S (λ U. begun_links U id) T id c a)
unfolding noted
step_kept S T k id a c q =
    step-cases (λ o. IterationInvariant o.tables id (cond (begins id c && accepted o.reply) (begun_links T id) a)) S T c
    (λ e h. rw (and-false (begins id c)) q) (λ p. result-kept S T k id a q c p)

-- from any tables that have it, so that a run may start elsewhere than at the empty kernel
pub from-kept :
    (S : Sizes) (T : Tables) (id : ℕ) (a : Option (List Link)) (cs : List Command) → sound S T ≡ true → IterationInvariant T id a
    → IterationInvariant (run_from S T cs) id (noted_from S (λ U. begun_links U id) T id cs a)
unfolding run_from noted_from
from-kept S T id a [] h q = q
from-kept S T id a (c ∷ cs) h q = from-kept S (step S T c).tables id (noted S (λ U. begun_links U id) T id c a) cs (step-sound S T c h) (step_kept S T (facts S T h) id a c q)

pub empty-kept : (id : ℕ) → IterationInvariant empty id none
unfolding node_at
empty-kept id = record { as_begun = λ r. clash false r refl; ports = λ r. clash false r refl }
