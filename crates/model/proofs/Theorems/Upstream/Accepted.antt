-- When a command is accepted, in the words of the original's contracts.
use Rattle.model.proofs.Logic.{Bool, List-as-Memᴰ, Option, [], ◌&&◌, ◌+◌, ◌<◌, ◌||◌, ◌↔◌, ◌∙◌, ◌∷◌, ◌≡◌, ◌≤◌, ◌⊎◌, ap, arith, eq-eqb, eqb, eqb-true, false, inl, inr, le-ltb, leb-false, leb-true, length, ltb-false, none, not, refl, some, sym, true, ℕ}
use Rattle.model.specs.{Commands.Command, Commands.settle, Commands.step, Insertion.check_insert, Insertion.insert_tests, Insertion.inserted, Insertion.parent_present, Insertion.parent_retired, Interface.distinct, Interface.listed, Interface.taken, Interface.too_long, Lifecycle.begin_cleanup_tests, Lifecycle.check_iteration, Lifecycle.finish_cleanup_tests, Lifecycle.finished, Lifecycle.iteration_tests, Lifecycle.leave_if_changed_tests, Lifecycle.leave_tests, Lifecycle.phase_at, Lifecycle.relies, Lifecycle.remove_tests, Lists.any, Lists.is_none, Observers.cleanup_started, Records.has_parent, Records.is_child_of, Records.is_inactive, Records.is_loading, Records.is_running, Records.is_unloading, Records.parent_in, Records.provider_in, Refusals.Reply, Refusals.accepted, Refusals.first, Refusals.or_else, Resolution.target, Resolution.target_list, Sizes.Sizes, Sizes.list_limit, Soundness.sound, Tables.Tables, Tables.node_at, Tables.present, declared.Error.Error, declared.Parent.Parent, declared.Port.Port, declared.PortList.PortList, declared.records.Link.Link, declared.records.Node.Node}
use Rattle.model.proofs.{Laws.Booleans.and_i, Laws.Booleans.and_l, Laws.Booleans.and_r, Laws.Booleans.clash, Laws.Booleans.not_f, Laws.Booleans.not_t, Laws.Booleans.or_f_l, Laws.Booleans.or_f_r, Laws.Pieces.refuted, Laws.Lists.any-in, Laws.Lists.in_at, Laws.Lists.none_in, Laws.Phases.loading_running, Laws.Phases.running-installed, Laws.Refusals.Passed, Laws.Refusals.skip, Laws.Refusals.step-cases, Theorems.Points.at-node, Theorems.UpdateNode.no_child, Theorems.Upstream.Frames.bindings-kept, Theorems.Upstream.Observed.Coherent, Theorems.Upstream.Observed.coherent_target, Theorems.Upstream.Replies.accepts, Theorems.Upstream.Replies.never-refused_with}

-- ---- retire, leave, leave_if_changed

only : (b : Bool) (x e : Error) → first ((b, x) ∷ []) ≡ some e → e ≡ x
unfolding first
only true x e f = cc
only false x e f = let z : ◌≡◌ {A = ℕ} 0 1 = cc in absurd (omega arith)

abbrev DoneOrChanged : Reply → Type 0
DoneOrChanged r = (r ≡ Reply.done) ⊎ (r ≡ Reply.refused Error.Changed)

module _ (S : Sizes) (T : Tables) (id : ℕ) where
  pub retire-accepts : (accepted (step S T (Command.retire id)).reply ≡ true) ↔ (present T.nodes id ≡ true)
  retire-accepts = (λ h. not_f _ ((accepts S T (Command.retire id)).0 h).0, λ t. (accepts S T (Command.retire id)).1 (rw t, tt))

  pub leave-accepts : (accepted (step S T (Command.leave id)).reply ≡ true) ↔ ((present T.nodes id ≡ true) × (is_running (phase_at T id) ≡ true))
  leave-accepts = (λ h. let p : Passed (leave_tests T id) = (accepts S T (Command.leave id)).0 h in (not_f _ p.0, not_f _ p.1.0), λ (t, r). (accepts S T (Command.leave id)).1 (rw t, (rw r, tt)))

  pub leave-not-changed : (step S T (Command.leave id)).reply ≡ Reply.refused Error.Changed → ⊥
  leave-not-changed = never-refused_with S T (Command.leave id) Error.Changed refl

  abbrev leaving_if_changed : Command
  leaving_if_changed = Command.leave_if_changed id

  pub leave-if-changed-accepts : (accepted (step S T leaving_if_changed).reply ≡ true) ↔ ((present T.nodes id ≡ true) × (is_running (phase_at T id) ≡ true) × (is_none (target_list (target T id)) ≡ true))
  leave-if-changed-accepts = (
    λ h. let p : Passed (leave_if_changed_tests T id) = (accepts S T leaving_if_changed).0 h in (not_f _ p.0, not_f _ p.1.0, not_f _ p.1.1.0),
    λ (t, r, n). (accepts S T leaving_if_changed).1 (rw t, (rw r, (rw n, tt))),
  )

  -- of a running component: done, or refused with 6
  pub leave-if-changed-replies : present T.nodes id ≡ true → is_running (phase_at T id) ≡ true → DoneOrChanged (step S T leaving_if_changed).reply
  leave-if-changed-replies t r = step-cases (λ o. DoneOrChanged o.reply) S T leaving_if_changed
      (λ e f. inr (ap Reply.refused (only (not (is_none (target_list (target T id)))) Error.Changed e (sym rest ∙ f))))
      (λ p. inl refl)
    where
      rest : first (leave_if_changed_tests T id) ≡ first ((not (is_none (target_list (target T id))), Error.Changed) ∷ [])
      rest = skip _ _ _ (rw (t, present)) ∙ skip _ _ _ (rw r)

-- refused with 6: running, and there is a target
changed_row : (a b c : Bool) → first ((a, Error.Unknown) ∷ (b, Error.InvalidState) ∷ (c, Error.Changed) ∷ []) ≡ some Error.Changed → (a ≡ false) × (b ≡ false) × (c ≡ true)
unfolding first
changed_row true b c h = let z : ◌≡◌ {A = ℕ} 0 1 = cc in absurd (omega arith)
changed_row false true c h = let z : ◌≡◌ {A = ℕ} 0 1 = cc in absurd (omega arith)
changed_row false false true h = (refl, refl, refl)
changed_row false false false h = let z : ◌≡◌ {A = ℕ} 0 1 = cc in absurd (omega arith)

pub leave-changed_coherent : (S : Sizes) (T : Tables) (id : ℕ) → sound S T ≡ true → (step S T (Command.leave_if_changed id)).reply ≡ Reply.refused Error.Changed → Coherent T id
leave-changed_coherent S T id s = step-cases (λ o. o.reply ≡ Reply.refused Error.Changed → Coherent T id) S T (Command.leave_if_changed id)
    (λ e f q.
    let d : e ≡ Error.Changed = cc in
    let (x, y, z) = changed_row (not (present T.nodes id)) (not (is_running (phase_at T id))) (not (is_none (target_list (target T id)))) (rw d at f) in
    (coherent_target S T s id (running-installed (phase_at T id) (not_f _ y))).0 (not_t _ z))
    (λ p q. clash true refl (sym (ap accepted (sym q))))

-- ---- begin_cleanup, finish_cleanup, remove

pub record CleanupEnabled (T : Tables) (id : ℕ) : Type 0 where
  pub there : present T.nodes id ≡ true
  pub unloading : is_unloading (phase_at T id) ≡ true
  pub not_yet : (node_at T.nodes id).restoring ≡ false
  pub unrelied : (l : Link) → List-as-Memᴰ l T.links → l.live ≡ true → provider_in l ≡ id → ⊥

pub record RemovalEnabled (T : Tables) (id : ℕ) : Type 0 where
  pub there : present T.nodes id ≡ true
  pub is-retired : (node_at T.nodes id).retired ≡ true
  pub inactive : is_inactive (phase_at T id) ≡ true
  pub childless : (i : ℕ) → present T.nodes i ≡ true → parent_in (node_at T.nodes i) ≡ Parent.Of id → ⊥

has-parent-is : (id : ℕ) (q : Parent) → has_parent id q ≡ true → q ≡ Parent.Of id
has-parent-is id Parent.None h = clash false h refl
has-parent-is id (Parent.Of p) h = ap Parent.Of (eqb-true _ _ h)

module _ (S : Sizes) (T : Tables) (id : ℕ) where
  pub begin-cleanup-accepts : (accepted (step S T (Command.begin_cleanup id)).reply ≡ true) ↔ CleanupEnabled T id
  unfolding relies
  begin-cleanup-accepts = (
    λ h.
        let p : Passed (begin_cleanup_tests T id) = (accepts S T (Command.begin_cleanup id)).0 h in
        let u : is_unloading (phase_at T id) && not (node_at T.nodes id).restoring ≡ true = not_f _ p.1.0 in
        record {
          there = not_f _ p.0;
          unloading = and_l (is_unloading (phase_at T id)) _ u;
          not_yet = not_t _ (and_r (is_unloading (phase_at T id)) _ u);
          unrelied = λ l m v e. clash {A = ⊥} _ (and_i l.live (eqb (provider_in l) id) v (eq-eqb _ _ e)) (none_in (relies id) m p.1.1.0);
        },
    λ k.
        let none = refuted _ (λ h. let (l, m, e) = any-in (relies id) T.links h in k.unrelied l m (and_l l.live _ e) (eqb-true _ _ (and_r l.live _ e))) in
        (accepts S T (Command.begin_cleanup id)).1 (rw k.there, (rw (k.unloading, k.not_yet), (none, tt))),
  )

  -- restoration_guarded, with cleanup-restoring: no live link has the component as provider, before and after
  pub cleanup-guarded : accepted (step S T (Command.begin_cleanup id)).reply ≡ true → (l : Link) → List-as-Memᴰ l (step S T (Command.begin_cleanup id)).tables.links → l.live ≡ true → provider_in l ≡ id → ⊥
  cleanup-guarded h l m = (begin-cleanup-accepts.0 h).unrelied l (rw (bindings-kept S T (Command.begin_cleanup id) refl) at m)

  pub finish-cleanup-accepts : (accepted (step S T (Command.finish_cleanup id)).reply ≡ true) ↔ (cleanup_started T id ≡ true)
  finish-cleanup-accepts = (
    λ h. let p : Passed (finish_cleanup_tests T id) = (accepts S T (Command.finish_cleanup id)).0 h in and_i (present T.nodes id) _ (not_f _ p.0) (not_f _ p.1.0),
    λ r. (accepts S T (Command.finish_cleanup id)).1 (rw (and_l (present T.nodes id) _ r), (rw (and_r (present T.nodes id) _ r), tt)),
  )

  pub remove-accepts : (accepted (step S T (Command.remove id)).reply ≡ true) ↔ RemovalEnabled T id
  remove-accepts = (
    λ h.
        let p : Passed (remove_tests T id) = (accepts S T (Command.remove id)).0 h in
        let u : (node_at T.nodes id).retired && is_inactive (phase_at T id) ≡ true = not_f _ p.1.0 in
        record {
          there = not_f _ p.0;
          is-retired = and_l (node_at T.nodes id).retired _ u;
          inactive = and_r (node_at T.nodes id).retired _ u;
          childless = λ i a e. no_child T id i p.1.1.0 a e;
        },
    λ k. (accepts S T (Command.remove id)).1 (
      rw k.there,
      (
        rw (k.is-retired, k.inactive),
        (
          refuted _ (λ h.
              let (n, m, e) = any-in (is_child_of id) T.nodes h in
              let (i, a) = in_at m in
              let is = at-node T.nodes i n a in
              k.childless i (ap (λ (z : Node). z.present) is ∙ and_l n.present _ e) (ap parent_in is ∙ has-parent-is id (parent_in n) (and_r n.present _ e))),
          tt,
        ),
      ),
    ),
  )

-- ---- check_iteration and finish: Loading and coherent

module _ (S : Sizes) (T : Tables) (id : ℕ) where
  pub finish-accepts : sound S T ≡ true → (accepted (step S T (Command.finish id)).reply ≡ true) ↔ ((is_loading (phase_at T id) ≡ true) × Coherent T id)
  finish-accepts s = (
    λ h.
        let p : Passed (iteration_tests T id) = (accepts S T (Command.finish id)).0 h in
        let l : is_loading (phase_at T id) ≡ true = not_f _ p.1.0 in
        (l, (coherent_target S T s id (running-installed (phase_at T id) (loading_running (phase_at T id) l))).0 p.1.1.0),
    λ (l, c). (accepts S T (Command.finish id)).1 (rw c.there, (rw l, ((coherent_target S T s id (running-installed (phase_at T id) (loading_running (phase_at T id) l))).1 c, tt))),
  )

  -- check_iteration accepts what finish accepts
  pub check_iteration_as_finish : accepted (check_iteration T id) ≡ accepted (step S T (Command.finish id)).reply
  unfolding check_iteration step settle
  check_iteration_as_finish = go (first (iteration_tests T id))
    where
      go : (o : Option Error) → accepted (or_else o Reply.done) ≡ accepted (settle o T (record { tables = finished T id; reply = Reply.done })).reply
      go none = refl
      go (some e) = refl

-- ---- insert and check_insert

pub record InsertEnabled (S : Sizes) (T : Tables) (q : Parent) (ds ps : PortList) : Type 0 where
  pub parent : parent_present T q ≡ true
  -- what the rule of retired parents adds
  pub parent-not-retired : parent_retired T q ≡ false
  pub dependencies-distinct : distinct (listed ds) ≡ true
  pub provisions-distinct : distinct (listed ps) ≡ true
  pub admissible : (p : Port) → List-as-Memᴰ p (listed ps) → taken T p ≡ false
  -- what the sizes add
  pub dependencies-short : ds.count ≤ list_limit
  pub provisions-short : ps.count ≤ list_limit
  pub slots : length T.nodes < S.identities
  pub space : length T.declarations + length (listed ds) + length (listed ps) ≤ S.declarations

module _ (S : Sizes) (T : Tables) (q : Parent) (ds ps : PortList) where
  pub insert-accepts : (accepted (step S T (Command.insert q ds ps)).reply ≡ true) ↔ InsertEnabled S T q ds ps
  insert-accepts = (
    λ h.
        let (short, (slot, (there, (not-retired, (clear, (fits, _)))))) : Passed (insert_tests S T q ds ps) = (accepts S T (Command.insert q ds ps)).0 h in
        let c : not (distinct (listed ds)) || not (distinct (listed ps)) ≡ false = or_f_l (not (distinct (listed ds)) || not (distinct (listed ps))) _ clear in
        record {
          parent = not_f _ there;
          parent-not-retired = not-retired;
          dependencies-distinct = not_f _ (or_f_l (not (distinct (listed ds))) _ c);
          provisions-distinct = not_f _ (or_f_r (not (distinct (listed ds))) _ c);
          admissible = λ x m. none_in (taken T) m (or_f_r (not (distinct (listed ds)) || not (distinct (listed ps))) _ clear);
          dependencies-short = ltb-false _ _ (or_f_l (too_long ds) _ short);
          provisions-short = ltb-false _ _ (or_f_r (too_long ds) _ short);
          slots = leb-false _ _ slot;
          space = ltb-false _ _ fits;
        },
    λ k.
        let slot = refuted _ (λ x. let y : S.identities ≤ length T.nodes = leb-true _ _ x in omega (arith, k.slots)) in
        let free = refuted (any (taken T) (listed ps)) (λ x. let (p, m, e) = any-in (taken T) (listed ps) x in clash {A = ⊥} _ e (k.admissible p m)) in
        (accepts S T (Command.insert q ds ps)).1 (
          rw (le-ltb list_limit ds.count k.dependencies-short, le-ltb list_limit ps.count k.provisions-short),
          (slot, (rw k.parent, (k.parent-not-retired, (rw (k.dependencies-distinct, k.provisions-distinct, free), (le-ltb _ _ k.space, tt))))),
        ),
  )

  -- check_insert accepts what insert accepts
  pub check_insert_as_insert : accepted (check_insert S T q ds ps) ≡ accepted (step S T (Command.insert q ds ps)).reply
  unfolding check_insert step settle
  check_insert_as_insert = go (first (insert_tests S T q ds ps))
    where
      go : (o : Option Error) → accepted (or_else o Reply.done) ≡ accepted (settle o T (record { tables = inserted T q ds ps; reply = Reply.issued (length T.nodes) })).reply
      go none = refl
      go (some e) = refl
