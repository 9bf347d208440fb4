-- The original's clauses about update_node, of the definition `update_node`.
use Rattle.model.proofs.Logic.{List-as-Memᴰ, Option, ◌↔◌, ◌≡◌, and-false, ap, eqb, false, length, length-set, ne_eqb, none, not, refl, set, some, sym, true, ℕ}
use Rattle.model.specs.{Commands.Step, Commands.settle, Commands.update_node, Lists.any, Records.consumer_in, Records.is_child_of, Records.is_inactive, Records.is_unloading, Records.parent_in, Records.provider_in, Refusals.Reply, Refusals.accepted, Refusals.first, Refusals.number, Soundness.safety_wf, Tables.Tables, Tables.node_at, Tables.present, Tables.with_node, UpdateNode.blocks, UpdateNode.update_tests, declared.Error.Error, declared.Parent.Parent, declared.records.Link.Link, declared.records.Node.Node}
use Rattle.model.proofs.{Laws.Booleans.and_l, Laws.Booleans.clash, Laws.Pieces.refuted, Laws.Facts.safe_of, Laws.Lists.any-in, Laws.Nodes.at_other, Laws.Phases.unloading_installed, Laws.Refusals.Passed, Laws.Refusals.first-among, Laws.Refusals.of_passed, Laws.Refusals.passed, Laws.Update.calm, Theorems.UpdateNode.no_child, Theorems.UpdateNode.update_accepts}

-- no live link is so
abbrev OfNoLive : Tables → (Link → Type 0) → Type 0
OfNoLive T P = (l : Link) → List-as-Memᴰ l T.links → l.live ≡ true → P l → ⊥

module _ (T : Tables) (id : ℕ) (n : Node) where
  -- refused or accepted
  updated-cases :
      (P : Step → Type 0)
      → ((e : Error) → first (update_tests T id n) ≡ some e → P (record { tables = T; reply = Reply.refused e }))
      → (Passed (update_tests T id n) → P (record { tables = with_node T id n; reply = Reply.done }))
      → P (update_node T id n)
  unfolding update_node settle
  updated-cases P p f = go (first (update_tests T id n)) refl
    where
      go : (o : Option Error) → first (update_tests T id n) ≡ o → P (settle o T (record { tables = with_node T id n; reply = Reply.done }))
      go none e = f (passed (update_tests T id n) e)
      go (some x) e = p x e

  pub update_done : (accepted (update_node T id n).reply ≡ true) ↔ Passed (update_tests T id n)
  unfolding update_node settle
  update_done = (updated-cases (λ o. accepted o.reply ≡ true → Passed (update_tests T id n)) (λ e h q. clash false q refl) (λ p q. p), λ p. rw (of_passed (update_tests T id n) p))

  pub update_not_changed : (update_node T id n).reply ≡ Reply.refused Error.Changed → ⊥
  update_not_changed = updated-cases (λ o. o.reply ≡ Reply.refused Error.Changed → ⊥)
      (λ e h q. let d : e ≡ Error.Changed = cc in clash {A = ⊥} false (first-among (update_tests T id n) Error.Changed (λ y. not (eqb (number y) (number Error.Changed))) refl (rw d at h)) refl)
      (λ p q. clash {A = ⊥} true refl (sym (ap accepted (sym q))))

  pub update_refused : accepted (update_node T id n).reply ≡ false → (update_node T id n).tables ≡ T
  update_refused = updated-cases (λ o. accepted o.reply ≡ false → o.tables ≡ T) (λ e h q. refl) (λ p q. clash true refl q)

  pub update_written : accepted (update_node T id n).reply ≡ true → (update_node T id n).tables.nodes ≡ set T.nodes id n
  update_written = updated-cases (λ o. accepted o.reply ≡ true → o.tables.nodes ≡ set T.nodes id n) (λ e h q. clash false q refl) (λ p q. refl)

  pub update_declarations : (update_node T id n).tables.declarations ≡ T.declarations
  update_declarations = updated-cases (λ o. o.tables.declarations ≡ T.declarations) (λ e h. refl) (λ p. refl)

  pub update_links : (update_node T id n).tables.links ≡ T.links
  update_links = updated-cases (λ o. o.tables.links ≡ T.links) (λ e h. refl) (λ p. refl)

  pub update_slots : length (update_node T id n).tables.nodes ≡ length T.nodes
  update_slots = updated-cases (λ o. length o.tables.nodes ≡ length T.nodes) (λ e h. refl) (λ p. length-set T.nodes id n)

  -- nodes_frame
  pub update_others : (i : ℕ) → (i ≡ id → ⊥) → node_at (update_node T id n).tables.nodes i ≡ node_at T.nodes i
  update_others i d = updated-cases (λ o. node_at o.tables.nodes i ≡ node_at T.nodes i) (λ e h. refl) (λ p. at_other T.nodes id i n d)

  -- accepted: a node that stays present, installed and with its parent, and is not restoring
  pub update-installed :
      safety_wf T ≡ true → present T.nodes id ≡ true
      → n.present ≡ true → n.restoring ≡ false → not (is_inactive n.phase) ≡ true
      → parent_in n ≡ parent_in (node_at T.nodes id)
      → accepted (update_node T id n).reply ≡ true
  update-installed s t p r i q = update_done.1 (passed _ (update_accepts T id n (calm T id n (safe_of T s) t q p (λ x. i) (λ x. clash _ x r)) p))

  -- accepted: a restoring node on which no live link relies
  pub update-restoring :
      safety_wf T ≡ true → present T.nodes id ≡ true
      → n.present ≡ true → is_unloading n.phase ≡ true
      → parent_in n ≡ parent_in (node_at T.nodes id)
      → OfNoLive T (λ l. provider_in l ≡ id)
      → accepted (update_node T id n).reply ≡ true
  update-restoring s t p u q f = update_done.1 (passed _ (update_accepts T id n (record {
    there = t;
    parent-ok = λ a. rw q (((safe_of T s).nodes id).parent-ok t);
    absent-inactive = λ a. clash _ p a;
    restoring-present = λ r. p;
    restoring-unloading = λ r. u;
    children = λ i a e. p;
    consumes = λ l m v e. (p, unloading_installed n.phase u);
    provides = λ l m v e. absurd (f l m v e);
  }) p))

  -- accepted: an absent node without present children and live links
  pub update-absent :
      present T.nodes id ≡ true
      → n.present ≡ false → is_inactive n.phase ≡ true → n.restoring ≡ false
      → any (is_child_of id) T.nodes ≡ false
      → ((l : Link) → List-as-Memᴰ l T.links → l.live ≡ true → (consumer_in l ≡ id → ⊥) × (provider_in l ≡ id → ⊥))
      → accepted (update_node T id n).reply ≡ true
  unfolding blocks
  update-absent t p i r c f = update_done.1 (
    rw t,
    (
      rw (p, i, r),
      (
        rw p,
        (
          rw (p, c),
          (
            refuted _ (λ h.
                let (l, m, e) = any-in (blocks id n) T.links h in
                let (x, y) = f l m (and_l l.live _ e) in
                clash {A = ⊥} _ e (rw (ne_eqb _ _ x, ne_eqb _ _ y, and-false l.live))),
            tt,
          ),
        ),
      ),
    ),
  )

  -- an absent node is accepted only without present children
  pub update_childless : accepted (update_node T id n).reply ≡ true → n.present ≡ false → (i : ℕ) → present T.nodes i ≡ true → parent_in (node_at T.nodes i) ≡ Parent.Of id → ⊥
  update_childless h p i = no_child T id i (rw p at (update_done.0 h).1.1.1.0)
