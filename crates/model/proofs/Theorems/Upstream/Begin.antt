-- begin: when it is accepted, and that the component is then coherent, with what target gave committed.
use Rattle.model.proofs.Logic.{List, List-as-Memᴰ, List·Memᴰ·append-cases, Memᴰ·append-right, ◌+◌, ◌↔◌, ◌∙◌, ◌≡◌, ◌≤◌, ◌⊎◌, ap, eqb-false, false, inl, inr, le-ltb, length, ltb-false, map, ne_eqb, not, refl, some, subst, sym, true, ℕ}
use Rattle.model.specs.{Commands.Command, Commands.step, Lifecycle.begin_tests, Lifecycle.begun_link, Lifecycle.begun_node, Lifecycle.begun_with, Lifecycle.bindings, Lifecycle.phase_at, Records.binding_in, Records.consumer_in, Records.is_inactive, Records.is_loading, Refusals.accepted, Resolution.Provides, Resolution.committed, Resolution.target, Resolution.target_list, Sizes.Sizes, Sizes.last_generation, Soundness.sound, Tables.Tables, Tables.node_at, Tables.not_inactive, Tables.present, declared.Binding.Binding, declared.Port.Port, declared.records.Link.Link, declared.records.Node.Node}
use Rattle.model.proofs.{Laws.Booleans.clash, Laws.Booleans.not_f, Laws.Committed.committed-begun, Laws.Facts.facts, Laws.Lists.in_map, Laws.Lists.is_some, Laws.Lists.map-in, Laws.Nodes.present-lt, Laws.Refusals.Passed, Theorems.Commands.step-sound, Theorems.Points.at-node, Theorems.Points.node_at_lem, Theorems.Upstream.Frames.declarations-kept, Theorems.Upstream.Frames.others-kept, Theorems.Upstream.Frames.subject-after, Theorems.Upstream.Observed.Available, Theorems.Upstream.Observed.BindingIsTarget, Theorems.Upstream.Observed.Coherent, Theorems.Upstream.Observed.CommittedFrom, Theorems.Upstream.Observed.CompleteTarget, Theorems.Upstream.Observed.coherent_target, Theorems.Upstream.Observed.complete_target, Theorems.Upstream.Observed.target-available, Theorems.Upstream.Replies.accepted-step, Theorems.Upstream.Replies.accepts}

pub record BeginEnabled (S : Sizes) (T : Tables) (id : ℕ) : Type 0 where
  pub inactive : is_inactive (phase_at T id) ≡ true
  pub available : Available T id
  pub generation : (node_at T.nodes id).generation ≡ last_generation → ⊥
  -- what the sizes add
  pub space : length T.links + length (bindings (target_list (target T id))) ≤ S.links

module _ (S : Sizes) (T : Tables) (id : ℕ) (s : sound S T ≡ true) where
  abbrev beginning : Command
  beginning = Command.begin id

  pub begin-accepts : (accepted (step S T beginning).reply ≡ true) ↔ BeginEnabled S T id
  begin-accepts = (
    λ h.
        let p : Passed (begin_tests S T id) = (accepts S T beginning).0 h in
        record { inactive = not_f _ p.1.0; available = (target-available S T s id).0 p.1.1.1.1.0; generation = eqb-false _ _ p.1.1.1.0; space = ltb-false _ _ p.1.1.1.1.1.0 },
    λ k. (accepts S T beginning).1 (rw k.available.there, (rw k.inactive, (k.available.kept, (ne_eqb _ _ k.generation, ((target-available S T s id).1 k.available, (le-ltb _ _ k.space, tt)))))),
  )

  -- committed_from, with the tables before as source
  pub begun-committed : accepted (step S T beginning).reply ≡ true → CommittedFrom T (step S T beginning).tables id
  begun-committed h =
      let p : Passed (begin_tests S T id) = (accepts S T beginning).0 h in
      let (bs, e) = is_some (target_list (target T id)) p.1.1.1.1.0 in
      rw (accepted-step S T beginning p, e) (go bs (complete_target S T s id bs e) (rw (not_f (is_inactive (phase_at T id)) p.1.0)))
    where
      old :
          (bs : List Binding) → CompleteTarget T id bs → not_inactive T.nodes id ≡ false
          → (l : Link) → l.live ≡ true → consumer_in l ≡ id
          → List-as-Memᴰ l T.links ⊎ List-as-Memᴰ l (map (begun_link T.nodes id) bs)
          → BindingIsTarget T id (binding_in l)
      old bs c i l v x (inl m) = clash _ (rw x at ((facts S T s).safe.live l m v).consumer-installed) i
      old bs c i l v x (inr m) = let (b, n, q) = in_map (begun_link T.nodes id) bs m in subst (λ (z : Link). BindingIsTarget T id (binding_in z)) (sym q) (c.targets b n)

      go : (bs : List Binding) → CompleteTarget T id bs → not_inactive T.nodes id ≡ false → CommittedFrom T (begun_with T id bs) id
      go bs c i = record {
        there = c.there;
        kept = c.kept;
        targets = λ l m v x. old bs c i l v x (List·Memᴰ·append-cases T.links m);
        covers = λ p m.
            let (b, n, x) = c.covers p m in
            record { link = begun_link T.nodes id b; among = Memᴰ·append-right T.links (map-in (begun_link T.nodes id) n); is_live = refl; of_consumer = refl; of_port = sym x };
      }

  -- more: what is committed after is the target before, as a list
  pub begun-target : accepted (step S T beginning).reply ≡ true → target_list (target T id) ≡ some (committed (step S T beginning).tables.links id)
  begun-target h =
      let p : Passed (begin_tests S T id) = (accepts S T beginning).0 h in
      let (bs, e) = is_some (target_list (target T id)) p.1.1.1.1.0 in
      let i : not_inactive T.nodes id ≡ false = rw (not_f (is_inactive (phase_at T id)) p.1.0) in
      rw (accepted-step S T beginning p, e) (ap some (sym (committed-begun T bs id (facts S T s).safe i)))

  abbrev U : Tables
  U = (step S T beginning).tables

  -- iteration_enabled after
  pub begun-enabled : accepted (step S T beginning).reply ≡ true → (is_loading (phase_at U id) ≡ true) × Coherent U id
  begun-enabled h = (
    ap (λ (n : Node). is_loading n.phase) now,
    (coherent_target S U (step-sound S T beginning s) id (ap (λ (n : Node). not (is_inactive n.phase)) now)).0 ((target-available S U (step-sound S T beginning s) id).1 (record {
      there = ap (λ (n : Node). n.present) now ∙ k.available.there;
      kept = ap (λ (n : Node). n.retired) now ∙ k.available.kept;
      provided = λ p m. let (o, w) = k.available.provided p (rw (declarations-kept S T beginning refl) at m) in (o, still p o w (other p o w));
    })),
  )
    where
      k : BeginEnabled S T id
      k = begin-accepts.0 h

      now : node_at U.nodes id ≡ begun_node (node_at T.nodes id)
      now = subject-after S T beginning h

      other : (p : Port) (o : ℕ) → Provides T p o → o ≡ id → ⊥
      other p o w e =
          let active : is_inactive (phase_at T o) ≡ false = ap (λ (n : Node). is_inactive n.phase) (at-node T.nodes o w.0 w.1) ∙ ap is_inactive w.3 in
          clash {A = ⊥} (is_inactive (phase_at T id)) k.inactive (subst (λ (i : ℕ). is_inactive (phase_at T i) ≡ false) e active)

      still : (p : Port) (o : ℕ) → Provides T p o → (o ≡ id → ⊥) → Provides U p o
      still p o w d =
          let e : node_at U.nodes o ≡ w.0 = others-kept S T beginning o d ∙ at-node T.nodes o w.0 w.1 in
          let here : present U.nodes o ≡ true = ap (λ (n : Node). n.present) e ∙ w.2 in
          (node_at U.nodes o, node_at_lem U.nodes o (present-lt _ _ here), here, ap (λ (n : Node). n.phase) e ∙ w.3, rw (declarations-kept S T beginning refl) w.4)
