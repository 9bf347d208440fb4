-- update_node never refuses the node of a command that calls it, once the command's own tests have passed on sound tables.
use Rattle.model.proofs.Logic.{[], ◌∙◌, ◌≡◌, none, not, refl, true, ℕ}
use Rattle.model.specs.{Commands.Command, Commands.tests, Lifecycle.begun_node, Records.absent_node, Records.is_inactive, Records.is_unloading, Records.parent_in, Records.restoring_node, Records.with_phase, Refusals.first, Sizes.Sizes, Tables.Tables, Tables.node_at, Tables.not_inactive, Tables.present, UpdateNode.update_tests, declared.Phase.Phase, declared.records.Node.Node}
use Rattle.model.proofs.{Laws.Booleans.clash, Laws.Booleans.not_f, Laws.Facts.Sound, Laws.Phases.inactive-stays, Laws.Phases.loading_running, Laws.Phases.running-stays, Laws.Refusals.Passed, Laws.Refusals.of_passed, Laws.Update.calm, Theorems.UpdateNode.update_accepts, Theorems.UpdateNode.update_to_absent, Theorems.UpdateNode.update_to_restoring}

-- no test of update_node applies to this node
abbrev Written : Tables → ℕ → Node → Type 0
Written T id n = first (update_tests T id n) ≡ none

-- the node that the command's body in the original hands to update_node; the other commands do not call it
abbrev pub UpdateAccepts : Tables → Command → Type 0
UpdateAccepts T (Command.insert q ds ps) = Passed []
UpdateAccepts T (Command.declare_provision id p) = Passed []
UpdateAccepts T (Command.release_provision id p) = Passed []
UpdateAccepts T (Command.configure_pending_dependencies id l) = Passed []
UpdateAccepts T (Command.begin id) = Written T id (begun_node (node_at T.nodes id))
UpdateAccepts T (Command.finish id) = Written T id (with_phase Phase.Active (node_at T.nodes id))
UpdateAccepts T (Command.leave id) = Written T id (with_phase Phase.Unloading (node_at T.nodes id))
UpdateAccepts T (Command.leave_if_changed id) = Written T id (with_phase Phase.Unloading (node_at T.nodes id))
UpdateAccepts T (Command.retire id) = Passed []
UpdateAccepts T (Command.begin_cleanup id) = Written T id (restoring_node (node_at T.nodes id))
UpdateAccepts T (Command.finish_cleanup id) = Passed []
UpdateAccepts T (Command.remove id) = Written T id (absent_node (node_at T.nodes id))
UpdateAccepts T Command.compact_bindings = Passed []
UpdateAccepts T Command.compact_declarations = Passed []

module _ (S : Sizes) (T : Tables) (k : Sound S T) where
  -- a present node in a phase that is not Inactive, restoring as before and then Unloading
  running : (id : ℕ) (n : Node) → present T.nodes id ≡ true → n.present ≡ true → parent_in n ≡ parent_in (node_at T.nodes id) →
      (not_inactive T.nodes id ≡ true → not (is_inactive n.phase) ≡ true) → (n.restoring ≡ true → ((node_at T.nodes id).restoring ≡ true) × (is_unloading n.phase ≡ true)) → Written T id n
  running id n t p e i r = update_accepts T id n (calm T id n k.safe t e p i r) p

  pub updates_accepted : (c : Command) → Passed (tests S T c) → UpdateAccepts T c
  updates_accepted (Command.insert q ds ps) p = tt
  updates_accepted (Command.declare_provision id pt) p = tt
  updates_accepted (Command.release_provision id pt) p = tt
  updates_accepted (Command.configure_pending_dependencies id l) p = tt
  updates_accepted (Command.begin id) p =
      let t : present T.nodes id ≡ true = not_f _ p.0 in
      let q = inactive-stays (node_at T.nodes id).phase (not_f _ p.1.0) in
      running id (begun_node (node_at T.nodes id)) t t refl (λ i. refl) (λ r. clash _ ((k.safe.nodes id).restoring-unloading r) q)
  updates_accepted (Command.finish id) p =
      let t : present T.nodes id ≡ true = not_f _ p.0 in
      let q = running-stays (node_at T.nodes id).phase (loading_running (node_at T.nodes id).phase (not_f _ p.1.0)) in
      running id (with_phase Phase.Active (node_at T.nodes id)) t t refl (λ i. refl) (λ r. clash _ ((k.safe.nodes id).restoring-unloading r) q)
  updates_accepted (Command.leave id) p = let t = not_f _ p.0 in running id (with_phase Phase.Unloading (node_at T.nodes id)) t t refl (λ i. refl) (λ r. (r, refl))
  updates_accepted (Command.leave_if_changed id) p = let t = not_f _ p.0 in running id (with_phase Phase.Unloading (node_at T.nodes id)) t t refl (λ i. refl) (λ r. (r, refl))
  updates_accepted (Command.retire id) p = tt
  updates_accepted (Command.begin_cleanup id) p = update_to_restoring T id k.safe (p.0, (p.1.0, tt)) ∙ of_passed _ p.1.1
  updates_accepted (Command.finish_cleanup id) p = tt
  updates_accepted (Command.remove id) p = update_to_absent T id k.safe (p.0, (p.1.0, tt)) ∙ of_passed _ p.1.1
  updates_accepted Command.compact_bindings p = tt
  updates_accepted Command.compact_declarations p = tt
