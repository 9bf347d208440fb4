-- The subject of an accepted command after it: phase, retired, restoring, present, generation.
use Rattle.model.proofs.Logic.{List, ◌∙◌, ◌≡◌, ap, cond, false, length, none, refl, some, suc, true, ℕ}
use Rattle.model.specs.{Commands.Command, Commands.step, Observers.cleanup_started, Observers.contains, Observers.phase, Observers.retired, Records.new_node, Records.parent_in, Refusals.Reply, Refusals.accepted, Sizes.Sizes, Tables.Tables, Tables.node_at, Tables.present, declared.Parent.Parent, declared.Phase.Phase, declared.PortList.PortList, declared.records.Node.Node}
use Rattle.model.proofs.{Laws.Booleans.not_f, Laws.Records.parent-read, Theorems.Upstream.Frames.field_kept, Theorems.Upstream.Frames.subject-after, Theorems.Upstream.Replies.accepted-step, Theorems.Upstream.Replies.accepts}

-- what the observer gives of a present node
phase-is : (ns : List Node) (id : ℕ) (n : Node) → node_at ns id ≡ n → n.present ≡ true → cond (present ns id) (some (node_at ns id).phase) none ≡ some n.phase
phase-is ns id n e t = rw (e, present, t)

-- every lifecycle command tests first that the identity is present
module _ (S : Sizes) (T : Tables) (id : ℕ) where
  pub begun-present : accepted (step S T (Command.begin id)).reply ≡ true → present T.nodes id ≡ true
  begun-present h = not_f _ ((accepts S T (Command.begin id)).0 h).0

  pub begun-phase : accepted (step S T (Command.begin id)).reply ≡ true → phase (step S T (Command.begin id)).tables id ≡ some Phase.Loading
  begun-phase h = phase-is _ id _ (subject-after S T (Command.begin id) h) (begun-present h)

  pub begin-generation : accepted (step S T (Command.begin id)).reply ≡ true → (node_at (step S T (Command.begin id)).tables.nodes id).generation ≡ suc (node_at T.nodes id).generation
  begin-generation h = ap (λ (n : Node). n.generation) (subject-after S T (Command.begin id) h)

  pub finished-phase : accepted (step S T (Command.finish id)).reply ≡ true → phase (step S T (Command.finish id)).tables id ≡ some Phase.Active
  finished-phase h = phase-is _ id _ (subject-after S T (Command.finish id) h) (not_f _ ((accepts S T (Command.finish id)).0 h).0)

  pub left-phase : accepted (step S T (Command.leave id)).reply ≡ true → phase (step S T (Command.leave id)).tables id ≡ some Phase.Unloading
  left-phase h = phase-is _ id _ (subject-after S T (Command.leave id) h) (not_f _ ((accepts S T (Command.leave id)).0 h).0)

  pub left-changed-phase : accepted (step S T (Command.leave_if_changed id)).reply ≡ true → phase (step S T (Command.leave_if_changed id)).tables id ≡ some Phase.Unloading
  left-changed-phase h = phase-is _ id _ (subject-after S T (Command.leave_if_changed id) h) (not_f _ ((accepts S T (Command.leave_if_changed id)).0 h).0)

  pub retired-retired : accepted (step S T (Command.retire id)).reply ≡ true → retired (step S T (Command.retire id)).tables id ≡ true
  retired-retired h = rw (subject-after S T (Command.retire id) h, present, not_f (present T.nodes id) ((accepts S T (Command.retire id)).0 h).0)

  -- of every identity, the subject too
  pub retired-phase : (i : ℕ) → phase (step S T (Command.retire id)).tables i ≡ phase T i
  retired-phase i = rw (field_kept S T (Command.retire id) (λ n. n.present) refl i, field_kept S T (Command.retire id) (λ n. n.phase) refl i, present)

  pub cleanup-restoring : accepted (step S T (Command.begin_cleanup id)).reply ≡ true → cleanup_started (step S T (Command.begin_cleanup id)).tables id ≡ true
  cleanup-restoring h = rw (subject-after S T (Command.begin_cleanup id) h, present, not_f (present T.nodes id) ((accepts S T (Command.begin_cleanup id)).0 h).0)

  pub restored-phase : accepted (step S T (Command.finish_cleanup id)).reply ≡ true → phase (step S T (Command.finish_cleanup id)).tables id ≡ some Phase.Inactive
  restored-phase h = phase-is _ id _ (subject-after S T (Command.finish_cleanup id) h) (not_f _ ((accepts S T (Command.finish_cleanup id)).0 h).0)

  pub removed-absent : accepted (step S T (Command.remove id)).reply ≡ true → contains (step S T (Command.remove id)).tables id ≡ false
  removed-absent h = ap (λ (n : Node). n.present) (subject-after S T (Command.remove id) h)

-- the identity that insert issues
module _ (S : Sizes) (T : Tables) (q : Parent) (ds ps : PortList) (h : accepted (step S T (Command.insert q ds ps)).reply ≡ true) where
  pub inserted-reply : (step S T (Command.insert q ds ps)).reply ≡ Reply.issued (length T.nodes)
  inserted-reply = rw (accepted-step S T (Command.insert q ds ps) ((accepts S T (Command.insert q ds ps)).0 h))

  pub inserted-phase : phase (step S T (Command.insert q ds ps)).tables (length T.nodes) ≡ some Phase.Inactive
  inserted-phase = phase-is _ _ (new_node q) (subject-after S T (Command.insert q ds ps) h) refl

  pub inserted-not-retired : retired (step S T (Command.insert q ds ps)).tables (length T.nodes) ≡ false
  inserted-not-retired = rw (subject-after S T (Command.insert q ds ps) h, present)

  pub inserted-parent : parent_in (node_at (step S T (Command.insert q ds ps)).tables.nodes (length T.nodes)) ≡ q
  inserted-parent = ap (λ (n : Node). parent_in n) (subject-after S T (Command.insert q ds ps) h) ∙ parent-read q
