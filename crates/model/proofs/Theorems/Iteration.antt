-- The iteration rule on tables.
use Rattle.model.proofs.Logic.{Bool, List, List-as-Memᴰ, List·Memᴰ·head, List·Memᴰ·tail, Option, Option·map, [], ◌∙◌, ◌∷◌, ◌≡◌, ap, arith, cons≢nil, false, head-eq_of_cons-eq, map, nil≢cons, none, not, refl, some, sym, tail-eq_of_cons-eq, true, ℕ}
use Rattle.model.specs.{Commands.Command, Commands.Step, Commands.settle, Commands.step, Iteration.Rule, Iteration.loads, Iteration.runs, Lifecycle.check_iteration, Lifecycle.iteration_tests, Lifecycle.leave_if_changed_tests, Lifecycle.left, Lifecycle.phase_at, Lists.is_none, Lists.keep, Observers.phase, Records.binding_in, Records.consumer_in, Records.is_loading, Records.is_running, Records.port_in, Records.port_of, Records.provider_in, Records.provision, Records.with_phase, Refusals.Reply, Refusals.first, Refusals.or_else, Resolution.committed, Resolution.dependency_ports, Resolution.is_live_link_of, Resolution.target, Resolution.target_list, Sizes.Sizes, Soundness.sound, Tables.Tables, Tables.node_at, Tables.present, declared.Binding.Binding, declared.Error.Error, declared.Phase.Phase, declared.records.Link.Link}
use Rattle.model.proofs.{Laws.Booleans.clash, Laws.Committed.live-link_of, Laws.Facts.LiveOk, Laws.Facts.Safe, Laws.Facts.facts, Laws.Lists.in_keep, Laws.Lists.in_map, Laws.Lists.never, Laws.Nodes.at_same, Laws.Nodes.present-lt, Laws.Phases.loading_running, Laws.Phases.running-installed, Laws.Refusals.skip, Laws.Resolution.Resolved, Laws.Resolution.Targeted, Laws.Resolution.bound-ports, Laws.Resolution.target-resolved, Laws.Resolution.targeted, Theorems.IterationInvariant.IterationInvariant}

pub same_bindings : (bs cs : List Binding) → map port_of bs ≡ map port_of cs → ((b c : Binding) → List-as-Memᴰ b bs → List-as-Memᴰ c cs → port_of b ≡ port_of c → b.provider ≡ c.provider) → bs ≡ cs
same_bindings [] [] e f = refl
same_bindings [] (c ∷ cs) e f = absurd (nil≢cons e)
same_bindings (b ∷ bs) [] e f = absurd (cons≢nil e)
same_bindings (b ∷ bs) (c ∷ cs) e f =
    let p : port_of b ≡ port_of c = head-eq_of_cons-eq e in
    let o : b.provider ≡ c.provider = f b c (List·Memᴰ·head refl) (List·Memᴰ·head refl) p in
    let t : bs ≡ cs = same_bindings bs cs (tail-eq_of_cons-eq e) (λ x y m n. f x y (List·Memᴰ·tail m) (List·Memᴰ·tail n)) in
    let h : b ≡ c = λ i. record { key = (p i).key; realm = (p i).realm; provider = o i } in
    λ i. h i ∷ t i

committed-in : (ls : List Link) (id : ℕ) (b : Binding) → List-as-Memᴰ b (committed ls id) → (l : Link) × List-as-Memᴰ l ls × (l.live ≡ true) × (b ≡ binding_in l)
unfolding committed
committed-in ls id b m =
    let (l, n, e) = in_map binding_in (keep (is_live_link_of id) ls) m in
    let (i, h) = in_keep (is_live_link_of id) ls n in
    (l, i, (live-link_of id l h).0, e)

pub target-committed :
    (T : Tables) (id : ℕ) (bs : List Binding) → Safe T →
    map port_of (committed T.links id) ≡ dependency_ports T.declarations id → target_list (target T id) ≡ some bs → bs ≡ committed T.links id
target-committed T id bs k e h =
    let t : Targeted T id bs = targeted T id bs h in
    same_bindings bs (committed T.links id) (bound-ports _ _ bs t.is_bound ∙ sym e) (λ b c m n p.
    let r : Resolved T.nodes T.declarations (port_of b) b.provider = target-resolved T id bs t b m in
    let (l, i, v, x) = committed-in T.links id c n in
    let w : LiveOk T.nodes T.declarations (consumer_in l) (binding_in l) = k.live l i v in
    let same = k.unique (provision b.provider (port_of b)) (provision (provider_in l) (port_in l)) r.offered w.offered refl refl r.there w.provider_present (p ∙ ap port_of x) in
    same ∙ sym (ap (λ (z : Binding). z.provider) x))

refusal-not-done : {C : Type 0} (x : Error) → Reply.refused x ≡ Reply.done → C
refusal-not-done x e = let z : ◌≡◌ {A = ℕ} 0 1 = cc in absurd (omega arith)

-- ---- the replies

module _ (S : Sizes) (T : Tables) (id : ℕ) (t : present T.nodes id ≡ true) where
  check_first : (o : Option (List Binding)) → target_list (target T id) ≡ o → is_loading (phase_at T id) ≡ true → first (iteration_tests T id) ≡ first ((is_none o, Error.Changed) ∷ [])
  check_first o e l = skip _ _ _ (rw (t, present)) ∙ skip _ _ _ (rw l) ∙ rw e

  check_done : (bs : List Binding) → target_list (target T id) ≡ some bs → is_loading (phase_at T id) ≡ true → check_iteration T id ≡ Reply.done
  unfolding check_iteration first
  check_done bs e l = ap (λ (o : Option Error). or_else o Reply.done) (check_first (some bs) e l)

  check_changed : target_list (target T id) ≡ none → is_loading (phase_at T id) ≡ true → check_iteration T id ≡ Reply.refused Error.Changed
  unfolding check_iteration first
  check_changed e l = ap (λ (o : Option Error). or_else o Reply.done) (check_first none e l)

  away : Step
  away = record { tables = left T id; reply = Reply.done }

  leave-first : (o : Option (List Binding)) → target_list (target T id) ≡ o → is_running (phase_at T id) ≡ true → first (leave_if_changed_tests T id) ≡ first ((not (is_none o), Error.Changed) ∷ [])
  leave-first o e l = skip _ _ _ (rw (t, present)) ∙ skip _ _ _ (rw l) ∙ rw e

  leave-done : target_list (target T id) ≡ none → is_running (phase_at T id) ≡ true → step S T (Command.leave_if_changed id) ≡ away
  unfolding step settle first away
  leave-done e l = ap (λ (o : Option Error). settle o T away) (leave-first none e l)

  leave-unchanged : (bs : List Binding) → target_list (target T id) ≡ some bs → is_running (phase_at T id) ≡ true → step S T (Command.leave_if_changed id) ≡ record { tables = T; reply = Reply.refused Error.Changed }
  unfolding step settle first away
  leave-unchanged bs e l = ap (λ (o : Option Error). settle o T away) (leave-first (some bs) e l)

  away_unloading : phase away.tables id ≡ some Phase.Unloading
  unfolding away
  away_unloading = rw (at_same T.nodes id (with_phase Phase.Unloading (node_at T.nodes id)) (present-lt _ _ t), present, t)

-- ---- the rule on sound tables that keep what the history noted

abbrev pub RuleOn : Sizes → Tables → ℕ → Option (List Binding) → Type 0
RuleOn S T id a = let o = step S T (Command.leave_if_changed id) in Rule (phase T id) a (committed T.links id) (target_list (target T id)) (check_iteration T id) o.reply (phase o.tables id)

-- a phase as the observer gives it
pub observed :
    (T : Tables) (id : ℕ) (f : Phase → Bool) (g : Option Phase → Bool)
    → g none ≡ false
    → ((x : Phase) → g (some x) ≡ f x)
    → g (phase T id) ≡ true
    → (present T.nodes id ≡ true) × (f (phase_at T id) ≡ true)
observed T id f g n s h = go (present T.nodes id) refl
  where
    go : (b : Bool) → present T.nodes id ≡ b → (present T.nodes id ≡ true) × (f (phase_at T id) ≡ true)
    go true e = (e, sym (s (phase_at T id)) ∙ (rw (e, phase) at h))
    go false e = clash _ (rw (e, phase) at h) n

module _ (S : Sizes) (T : Tables) (h : sound S T ≡ true) (id : ℕ) (a : Option (List Link)) (q : IterationInvariant T id a) where
  -- what target gave then: the bindings of the links that begin appended
  abbrev begun : Option (List Binding)
  begun = Option·map (map binding_in) a

  as_begun : is_running (phase_at T id) ≡ true → begun ≡ some (committed T.links id)
  unfolding committed
  as_begun r = ap (Option·map (map binding_in)) (q.as_begun r)

  running : runs (phase T id) ≡ true → (present T.nodes id ≡ true) × (is_running (phase_at T id) ≡ true)
  running r = observed T id is_running runs refl (λ x. refl) r

  isloading : loads (phase T id) ≡ true → (present T.nodes id ≡ true) × (is_loading (phase_at T id) ≡ true)
  isloading r = observed T id is_loading loads refl (λ x. refl) r

  same : (bs : List Binding) → target_list (target T id) ≡ some bs → is_running (phase_at T id) ≡ true → target_list (target T id) ≡ begun
  same bs e r = e ∙ ap some (target-committed T id bs (facts S T h).safe (q.ports (running-installed (phase_at T id) r)) e) ∙ sym (as_begun r)

  loaded : is_loading (phase_at T id) ≡ true → is_running (phase_at T id) ≡ true
  loaded l = loading_running (phase_at T id) l

  pub rule : RuleOn S T id begun
  rule = go (target_list (target T id)) refl
    where
      go : (o : Option (List Binding)) → target_list (target T id) ≡ o → RuleOn S T id begun
      go none e = record {
        committed-is = λ r. as_begun (running r).1;
        check_accepts = λ m. let (t, l) = isloading m in (λ x. refusal-not-done Error.Changed (sym (check_changed S T id t e l) ∙ x), λ x. never _ (sym e ∙ x ∙ as_begun (loaded l)));
        check_refuses = λ m x. let (t, l) = isloading m in check_changed S T id t e l;
        leave-accepts = λ m. let (t, r) = running m in (λ x y. never {C = ⊥} _ (sym e ∙ y ∙ as_begun r), λ x. rw (leave-done S T id t e r) (unfold away in refl, away_unloading S T id t));
        leave-refuses = λ m x. never _ (sym e ∙ x ∙ as_begun (running m).1);
      }
      go (some bs) e = record {
        committed-is = λ r. as_begun (running r).1;
        check_accepts = λ m. let (t, l) = isloading m in (λ x. same bs e (loaded l), λ x. check_done S T id t bs e l);
        check_refuses = λ m x. absurd (x (same bs e (loaded (isloading m).1)));
        leave-accepts = λ m.
            let (t, r) = running m in
            (λ x y. refusal-not-done {C = ⊥} Error.Changed (sym (ap (λ (z : Step). z.reply) (leave-unchanged S T id t bs e r)) ∙ x.0), λ x. absurd (x (same bs e r)));
        leave-refuses = λ m x. let (t, r) = running m in ap (λ (z : Step). z.reply) (leave-unchanged S T id t bs e r);
      }
