-- finish, leave, retire, begin_cleanup and remove keep soundness: one node is written anew.
use Rattle.model.proofs.Logic.{◌≡◌, eq-eqb, eqb, false, not, refl, true, ℕ}
use Rattle.model.specs.{Lifecycle.begin_cleanup_tests, Lifecycle.cleanup_begun, Lifecycle.finished, Lifecycle.iteration_tests, Lifecycle.leave_tests, Lifecycle.left, Lifecycle.relies, Lifecycle.remove_tests, Lifecycle.removed_from, Lifecycle.retire_tests, Lifecycle.retired_from, Records.is_inactive, Records.is_running, Records.is_unloading, Records.provider_in, Sizes.Sizes, Tables.Tables, Tables.node_at, Tables.present, declared.records.Node.Node}
use Rattle.model.proofs.{Laws.Booleans.and_i, Laws.Booleans.and_l, Laws.Booleans.and_r, Laws.Booleans.clash, Laws.Booleans.not_f, Laws.Facts.Sound, Laws.Lists.none_in, Laws.Nodes.parent-smaller, Laws.Phases.inactive-stays, Laws.Phases.loading_running, Laws.Phases.running-installed, Laws.Phases.running-stays, Laws.Phases.unloading_installed, Laws.Refusals.Passed, Laws.Update.calm, Laws.Update.sound-update, Theorems.UpdateNode.no_child}

module _ (S : Sizes) (T : Tables) (id : ℕ) (k : Sound S T) where
  abbrev node : Node
  node = node_at T.nodes id

  pub retired_from-sound : Passed (retire_tests T id) → Sound S (retired_from T id)
  retired_from-sound p =
      let t : present T.nodes id ≡ true = not_f _ p.0 in
      sound-update S T id _ k (calm T id _ k.safe t refl t (λ i. i) (λ r. (r, (k.safe.nodes id).restoring-unloading r))) (λ i. i) (λ a. clash _ t a) (λ l m v e. refl)

  pub left-sound : Passed (leave_tests T id) → Sound S (left T id)
  left-sound p =
      let t : present T.nodes id ≡ true = not_f _ p.0 in
      sound-update S T id _ k (calm T id _ k.safe t refl t (λ i. refl) (λ r. (r, refl))) (λ i. running-installed node.phase (not_f _ p.1.0)) (λ a. clash _ t a) (λ l m v e. refl)

  pub finished-sound : Passed (iteration_tests T id) → Sound S (finished T id)
  finished-sound p =
      let t : present T.nodes id ≡ true = not_f _ p.0 in
      let q : is_running node.phase ≡ true = loading_running node.phase (not_f _ p.1.0) in
      let may = calm T id _ k.safe t refl t (λ i. refl) (λ r. clash _ ((k.safe.nodes id).restoring-unloading r) (running-stays node.phase q)) in
      sound-update S T id _ k may (λ i. running-installed node.phase q) (λ a. clash _ t a) (λ l m v e. refl)

  pub cleanup_begun-sound : Passed (begin_cleanup_tests T id) → Sound S (cleanup_begun T id)
  unfolding relies
  cleanup_begun-sound p =
      let t : present T.nodes id ≡ true = not_f _ p.0 in
      let q : is_unloading node.phase ≡ true = and_l (is_unloading node.phase) (not node.restoring) (not_f _ p.1.0) in
      let i : not (is_inactive node.phase) ≡ true = unloading_installed node.phase q in
      sound-update S T id _ k (record {
        there = t;
        parent-ok = λ a. (k.safe.nodes id).parent-ok t;
        absent-inactive = λ a. clash _ t a;
        restoring-present = λ r. t;
        restoring-unloading = λ r. q;
        children = λ j a e. t;
        consumes = λ l m v e. (t, i);
        provides = λ l m v e. clash _ (and_i l.live (eqb (provider_in l) id) v (eq-eqb _ _ e)) (none_in (relies id) m p.1.1.0);
      }) (λ j. i) (λ a. clash _ t a) (λ l m v e. refl)

  pub removed_from-sound : Passed (remove_tests T id) → Sound S (removed_from T id)
  removed_from-sound p =
      let t : present T.nodes id ≡ true = not_f _ p.0 in
      let q : is_inactive node.phase ≡ true = and_r node.retired (is_inactive node.phase) (not_f _ p.1.0) in
      let i : not (is_inactive node.phase) ≡ false = rw q in
      sound-update S T id _ k (record {
        there = t;
        parent-ok = λ a. (k.safe.nodes id).parent-ok t;
        absent-inactive = λ a. q;
        restoring-present = λ r. clash _ ((k.safe.nodes id).restoring-unloading r) (inactive-stays node.phase q);
        restoring-unloading = (k.safe.nodes id).restoring-unloading;
        children = λ j a e. absurd (no_child T id j p.1.1.0 a e);
        consumes = λ l m v e. clash _ (rw e at (k.safe.live l m v).consumer-installed) i;
        provides = λ l m v e. clash _ (rw e at (k.safe.live l m v).provider_installed) i;
      }) (λ j. j) (λ a. parent-smaller T.nodes id _ ((k.safe.nodes id).parent-ok t)) (λ l m v e. refl)
