-- What an accepted command keeps: the tables that it does not write, every node but its subject's, generations and restoring.
use Rattle.model.proofs.Logic.{Bool, [], ◌∙◌, ◌∷◌, ◌≡◌, ap, arith, false, get_or-append_seam, length, length-append, length-set, refl, suc, true, ℕ, ℕ_discrete}
use Rattle.model.specs.{Commands.Command, Commands.result, Commands.step, Commands.tests, Lifecycle.begun_node, Records.absent_node, Records.blank_node, Records.new_node, Records.restored_node, Records.restoring_node, Records.retired_node, Records.with_phase, Refusals.accepted, Sizes.Sizes, Tables.Tables, Tables.node_at, declared.Parent.Parent, declared.Phase.Phase, declared.PortList.PortList, declared.records.Node.Node}
use Rattle.model.proofs.{Laws.Booleans.clash, Laws.Booleans.not_f, Laws.Nodes.at_other, Laws.Nodes.at_same, Laws.Nodes.at_snoc, Laws.Nodes.past-blank, Laws.Nodes.present-lt, Laws.Refusals.Passed, Laws.Refusals.step_keeps, Theorems.Upstream.Replies.accepted-step, Theorems.Upstream.Replies.accepts}

-- ---- the tables that a command writes

pub record Writes : Type 0 where
  pub nodes : Bool
  pub declarations : Bool
  pub links : Bool

abbrev pub writes : Command → Writes
writes (Command.insert q ds ps) = record { nodes = true; declarations = true; links = false }
writes (Command.declare_provision id p) = record { nodes = false; declarations = true; links = false }
writes (Command.release_provision id p) = record { nodes = false; declarations = true; links = false }
writes (Command.configure_pending_dependencies id l) = record { nodes = false; declarations = true; links = false }
writes (Command.begin id) = record { nodes = true; declarations = false; links = true }
writes (Command.finish id) = record { nodes = true; declarations = false; links = false }
writes (Command.leave id) = record { nodes = true; declarations = false; links = false }
writes (Command.leave_if_changed id) = record { nodes = true; declarations = false; links = false }
writes (Command.retire id) = record { nodes = true; declarations = false; links = false }
writes (Command.begin_cleanup id) = record { nodes = true; declarations = false; links = false }
writes (Command.finish_cleanup id) = record { nodes = true; declarations = false; links = true }
writes (Command.remove id) = record { nodes = true; declarations = false; links = false }
writes Command.compact_bindings = record { nodes = false; declarations = false; links = true }
writes Command.compact_declarations = record { nodes = false; declarations = true; links = false }

nodes-same : (T : Tables) (c : Command) → (writes c).nodes ≡ false → (result T c).nodes ≡ T.nodes
nodes-same T (Command.insert q ds ps) h = clash true refl h
nodes-same T (Command.declare_provision id p) h = refl
nodes-same T (Command.release_provision id p) h = refl
nodes-same T (Command.configure_pending_dependencies id l) h = refl
nodes-same T (Command.begin id) h = clash true refl h
nodes-same T (Command.finish id) h = clash true refl h
nodes-same T (Command.leave id) h = clash true refl h
nodes-same T (Command.leave_if_changed id) h = clash true refl h
nodes-same T (Command.retire id) h = clash true refl h
nodes-same T (Command.begin_cleanup id) h = clash true refl h
nodes-same T (Command.finish_cleanup id) h = clash true refl h
nodes-same T (Command.remove id) h = clash true refl h
nodes-same T Command.compact_bindings h = refl
nodes-same T Command.compact_declarations h = refl

declarations-same : (T : Tables) (c : Command) → (writes c).declarations ≡ false → (result T c).declarations ≡ T.declarations
declarations-same T (Command.insert q ds ps) h = clash true refl h
declarations-same T (Command.declare_provision id p) h = clash true refl h
declarations-same T (Command.release_provision id p) h = clash true refl h
declarations-same T (Command.configure_pending_dependencies id l) h = clash true refl h
declarations-same T (Command.begin id) h = refl
declarations-same T (Command.finish id) h = refl
declarations-same T (Command.leave id) h = refl
declarations-same T (Command.leave_if_changed id) h = refl
declarations-same T (Command.retire id) h = refl
declarations-same T (Command.begin_cleanup id) h = refl
declarations-same T (Command.finish_cleanup id) h = refl
declarations-same T (Command.remove id) h = refl
declarations-same T Command.compact_bindings h = refl
declarations-same T Command.compact_declarations h = clash true refl h

links-same : (T : Tables) (c : Command) → (writes c).links ≡ false → (result T c).links ≡ T.links
links-same T (Command.insert q ds ps) h = refl
links-same T (Command.declare_provision id p) h = refl
links-same T (Command.release_provision id p) h = refl
links-same T (Command.configure_pending_dependencies id l) h = refl
links-same T (Command.begin id) h = clash true refl h
links-same T (Command.finish id) h = refl
links-same T (Command.leave id) h = refl
links-same T (Command.leave_if_changed id) h = refl
links-same T (Command.retire id) h = refl
links-same T (Command.begin_cleanup id) h = refl
links-same T (Command.finish_cleanup id) h = clash true refl h
links-same T (Command.remove id) h = refl
links-same T Command.compact_bindings h = clash true refl h
links-same T Command.compact_declarations h = refl

module _ (S : Sizes) (T : Tables) (c : Command) where
  -- same_control
  pub control_kept : (writes c).nodes ≡ false → (step S T c).tables.nodes ≡ T.nodes
  control_kept h = step_keeps (λ U. U.nodes ≡ T.nodes) S T c refl (λ p. nodes-same T c h)

  pub declarations-kept : (writes c).declarations ≡ false → (step S T c).tables.declarations ≡ T.declarations
  declarations-kept h = step_keeps (λ U. U.declarations ≡ T.declarations) S T c refl (λ p. declarations-same T c h)

  -- same_bindings
  pub bindings-kept : (writes c).links ≡ false → (step S T c).tables.links ≡ T.links
  bindings-kept h = step_keeps (λ U. U.links ≡ T.links) S T c refl (λ p. links-same T c h)

-- ---- one node is written: that of the subject

-- the identity that a command is about; insert's is the one that it issues, a compaction has none and writes no node
abbrev pub subject : Tables → Command → ℕ
subject T (Command.insert q ds ps) = length T.nodes
subject T (Command.declare_provision id p) = id
subject T (Command.release_provision id p) = id
subject T (Command.configure_pending_dependencies id l) = id
subject T (Command.begin id) = id
subject T (Command.finish id) = id
subject T (Command.leave id) = id
subject T (Command.leave_if_changed id) = id
subject T (Command.retire id) = id
subject T (Command.begin_cleanup id) = id
subject T (Command.finish_cleanup id) = id
subject T (Command.remove id) = id
subject T Command.compact_bindings = 0
subject T Command.compact_declarations = 0

-- the node that it leaves there
abbrev pub rewritten : Command → Node → Node
rewritten (Command.insert q ds ps) n = new_node q
rewritten (Command.declare_provision id p) n = n
rewritten (Command.release_provision id p) n = n
rewritten (Command.configure_pending_dependencies id l) n = n
rewritten (Command.begin id) n = begun_node n
rewritten (Command.finish id) n = with_phase Phase.Active n
rewritten (Command.leave id) n = with_phase Phase.Unloading n
rewritten (Command.leave_if_changed id) n = with_phase Phase.Unloading n
rewritten (Command.retire id) n = retired_node n
rewritten (Command.begin_cleanup id) n = restoring_node n
rewritten (Command.finish_cleanup id) n = restored_node n
rewritten (Command.remove id) n = absent_node n
rewritten Command.compact_bindings n = n
rewritten Command.compact_declarations n = n

node-written : (S : Sizes) (T : Tables) (c : Command) → Passed (tests S T c) → node_at (result T c).nodes (subject T c) ≡ rewritten c (node_at T.nodes (subject T c))
node-written S T (Command.insert q ds ps) h = unfold node_at in get_or-append_seam T.nodes (new_node q) [] blank_node
node-written S T (Command.declare_provision id p) h = refl
node-written S T (Command.release_provision id p) h = refl
node-written S T (Command.configure_pending_dependencies id l) h = refl
node-written S T (Command.begin id) h = at_same T.nodes id _ (present-lt _ _ (not_f _ h.0))
node-written S T (Command.finish id) h = at_same T.nodes id _ (present-lt _ _ (not_f _ h.0))
node-written S T (Command.leave id) h = at_same T.nodes id _ (present-lt _ _ (not_f _ h.0))
node-written S T (Command.leave_if_changed id) h = at_same T.nodes id _ (present-lt _ _ (not_f _ h.0))
node-written S T (Command.retire id) h = at_same T.nodes id _ (present-lt _ _ (not_f _ h.0))
node-written S T (Command.begin_cleanup id) h = at_same T.nodes id _ (present-lt _ _ (not_f _ h.0))
node-written S T (Command.finish_cleanup id) h = at_same T.nodes id _ (present-lt _ _ (not_f _ h.0))
node-written S T (Command.remove id) h = at_same T.nodes id _ (present-lt _ _ (not_f _ h.0))
node-written S T Command.compact_bindings h = refl
node-written S T Command.compact_declarations h = refl

others_same : (T : Tables) (c : Command) (i : ℕ) → (i ≡ subject T c → ⊥) → node_at (result T c).nodes i ≡ node_at T.nodes i
others_same T (Command.insert q ds ps) i d = at_snoc (λ j m. (j ≡ length T.nodes → ⊥) → m ≡ node_at T.nodes j) T.nodes (new_node q) (λ x. absurd (x refl)) (λ j x. refl) i d
others_same T (Command.declare_provision id p) i d = refl
others_same T (Command.release_provision id p) i d = refl
others_same T (Command.configure_pending_dependencies id l) i d = refl
others_same T (Command.begin id) i d = at_other T.nodes id i _ d
others_same T (Command.finish id) i d = at_other T.nodes id i _ d
others_same T (Command.leave id) i d = at_other T.nodes id i _ d
others_same T (Command.leave_if_changed id) i d = at_other T.nodes id i _ d
others_same T (Command.retire id) i d = at_other T.nodes id i _ d
others_same T (Command.begin_cleanup id) i d = at_other T.nodes id i _ d
others_same T (Command.finish_cleanup id) i d = at_other T.nodes id i _ d
others_same T (Command.remove id) i d = at_other T.nodes id i _ d
others_same T Command.compact_bindings i d = refl
others_same T Command.compact_declarations i d = refl

length-same : (T : Tables) (c : Command) → ((q : Parent) (ds ps : PortList) → c ≡ Command.insert q ds ps → ⊥) → length (result T c).nodes ≡ length T.nodes
length-same T (Command.insert q ds ps) h = absurd (h q ds ps refl)
length-same T (Command.declare_provision id p) h = refl
length-same T (Command.release_provision id p) h = refl
length-same T (Command.configure_pending_dependencies id l) h = refl
length-same T (Command.begin id) h = length-set T.nodes id _
length-same T (Command.finish id) h = length-set T.nodes id _
length-same T (Command.leave id) h = length-set T.nodes id _
length-same T (Command.leave_if_changed id) h = length-set T.nodes id _
length-same T (Command.retire id) h = length-set T.nodes id _
length-same T (Command.begin_cleanup id) h = length-set T.nodes id _
length-same T (Command.finish_cleanup id) h = length-set T.nodes id _
length-same T (Command.remove id) h = length-set T.nodes id _
length-same T Command.compact_bindings h = refl
length-same T Command.compact_declarations h = refl

generation-same : (T : Tables) (c : Command) → ((id : ℕ) → c ≡ Command.begin id → ⊥) → (rewritten c (node_at T.nodes (subject T c))).generation ≡ (node_at T.nodes (subject T c)).generation
generation-same T (Command.insert q ds ps) h = rw (past-blank T.nodes (length T.nodes) (omega arith))
generation-same T (Command.declare_provision id p) h = refl
generation-same T (Command.release_provision id p) h = refl
generation-same T (Command.configure_pending_dependencies id l) h = refl
generation-same T (Command.begin id) h = absurd (h id refl)
generation-same T (Command.finish id) h = refl
generation-same T (Command.leave id) h = refl
generation-same T (Command.leave_if_changed id) h = refl
generation-same T (Command.retire id) h = refl
generation-same T (Command.begin_cleanup id) h = refl
generation-same T (Command.finish_cleanup id) h = refl
generation-same T (Command.remove id) h = refl
generation-same T Command.compact_bindings h = refl
generation-same T Command.compact_declarations h = refl

-- the command is none that this makes of an identity
abbrev IsNot : Command → (ℕ → Command) → Type 0
IsNot c f = (id : ℕ) → c ≡ f id → ⊥

-- the subject's node before it
abbrev subject_node : Tables → Command → Node
subject_node T c = node_at T.nodes (subject T c)

restoring-same : (T : Tables) (c : Command) → IsNot c Command.begin_cleanup → IsNot c Command.finish_cleanup → (rewritten c (subject_node T c)).restoring ≡ (subject_node T c).restoring
restoring-same T (Command.insert q ds ps) g h = rw (past-blank T.nodes (length T.nodes) (omega arith))
restoring-same T (Command.declare_provision id p) g h = refl
restoring-same T (Command.release_provision id p) g h = refl
restoring-same T (Command.configure_pending_dependencies id l) g h = refl
restoring-same T (Command.begin id) g h = refl
restoring-same T (Command.finish id) g h = refl
restoring-same T (Command.leave id) g h = refl
restoring-same T (Command.leave_if_changed id) g h = refl
restoring-same T (Command.retire id) g h = refl
restoring-same T (Command.begin_cleanup id) g h = absurd (g id refl)
restoring-same T (Command.finish_cleanup id) g h = absurd (h id refl)
restoring-same T (Command.remove id) g h = refl
restoring-same T Command.compact_bindings g h = refl
restoring-same T Command.compact_declarations g h = refl

module _ (S : Sizes) (T : Tables) (c : Command) where
  -- the subject's node after an accepted command
  pub subject-after : accepted (step S T c).reply ≡ true → node_at (step S T c).tables.nodes (subject T c) ≡ rewritten c (node_at T.nodes (subject T c))
  subject-after h = let p : Passed (tests S T c) = (accepts S T c).0 h in rw (accepted-step S T c p) (node-written S T c p)

  -- nodes_frame
  pub others-kept : (i : ℕ) → (i ≡ subject T c → ⊥) → node_at (step S T c).tables.nodes i ≡ node_at T.nodes i
  others-kept i d = step_keeps (λ U. node_at U.nodes i ≡ node_at T.nodes i) S T c refl (λ p. others_same T c i d)

  -- what the subject's new node has as before, every node has as before, the absent ones too
  pub field_kept : {A : Type 0} (f : Node → A) → f (rewritten c (subject_node T c)) ≡ f (subject_node T c) → (i : ℕ) → f (node_at (step S T c).tables.nodes i) ≡ f (node_at T.nodes i)
  field_kept f h i = go (ℕ_discrete i (subject T c))
    where
      go : Dec (i ≡ subject T c) → f (node_at (step S T c).tables.nodes i) ≡ f (node_at T.nodes i)
      go (yes e) = step_keeps (λ U. f (node_at U.nodes i) ≡ f (node_at T.nodes i)) S T c refl (λ p. rw e (ap f (node-written S T c p) ∙ h))
      go (no d) = ap f (others-kept i d)

  -- next_id
  pub slots_kept : ((q : Parent) (ds ps : PortList) → c ≡ Command.insert q ds ps → ⊥) → length (step S T c).tables.nodes ≡ length T.nodes
  slots_kept h = step_keeps (λ U. length U.nodes ≡ length T.nodes) S T c refl (λ p. length-same T c h)

  -- generations_preserved, with slots_kept
  pub generations-kept : ((id : ℕ) → c ≡ Command.begin id → ⊥) → (i : ℕ) → (node_at (step S T c).tables.nodes i).generation ≡ (node_at T.nodes i).generation
  generations-kept h i = field_kept (λ n. n.generation) (generation-same T c h) i

  -- is_restoring
  pub restoring-kept : IsNot c Command.begin_cleanup → IsNot c Command.finish_cleanup → (i : ℕ) → (node_at (step S T c).tables.nodes i).restoring ≡ (node_at T.nodes i).restoring
  restoring-kept g h i = field_kept (λ n. n.restoring) (restoring-same T c g h) i

-- insert issues one identity more
module _ (S : Sizes) (T : Tables) (q : Parent) (ds ps : PortList) where
  abbrev inserting : Command
  inserting = Command.insert q ds ps

  pub slots_inserted : accepted (step S T inserting).reply ≡ true → length (step S T inserting).tables.nodes ≡ suc (length T.nodes)
  slots_inserted h = rw (accepted-step S T inserting ((accepts S T inserting).0 h), length-append T.nodes (new_node q ∷ [])) (omega arith)
