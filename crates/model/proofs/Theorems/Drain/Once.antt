-- No step stands twice in a list of steps that pass, so none does in the drain.
use Rattle.model.proofs.Logic.{Bool, List, [], ◌&&◌, ◌<◌, ◌||◌, ◌∷◌, ◌≡◌, arith, false, get_or, length, not, refl, subst, suc, true, zero, ℕ}
use Rattle.model.specs.{Commands.result, Commands.tests, Drain.blank_step, Drain.command_of, Drain.drain, Drain.named, Lifecycle.begin_cleanup_tests, Lifecycle.leave_tests, Records.is_inactive, Records.is_running, Records.is_unloading, Sizes.Sizes, Soundness.sound, Tables.Tables, Tables.node_at, declared.Phase.Phase, declared.Step.Step, declared.StepCommand.StepCommand, declared.records.Node.Node}
use Rattle.model.proofs.{Laws.Booleans.and_l, Laws.Booleans.and_r, Laws.Booleans.clash, Laws.Booleans.not_f, Laws.Booleans.not_t, Laws.Phases.running-installed, Laws.Phases.unloading_installed, Laws.Refusals.Passed, Theorems.Drain.Sweep.Passing, Theorems.Drain.Sweep.at-step, Theorems.Drain.Sweep.written, Theorems.Drain.Whole.drain-passing}

-- what a step brings about, every later one keeps, and it excludes that the step passes again
abbrev past : StepCommand → Node → Bool
past StepCommand.Leave n = not (is_running n.phase)
past StepCommand.BeginCleanup n = n.restoring || is_inactive n.phase
past StepCommand.FinishCleanup n = is_inactive n.phase && not n.restoring

written-past : (c : StepCommand) (n : Node) → past c (written c n) ≡ true
written-past StepCommand.Leave n = refl
written-past StepCommand.BeginCleanup n = refl
written-past StepCommand.FinishCleanup n = refl

module _ (S : Sizes) (T : Tables) where
  abbrev phase_of : ℕ → Phase
  phase_of k = (node_at T.nodes k).phase

  left-from : (k : ℕ) → Passed (leave_tests T k) → is_inactive (phase_of k) ≡ false
  left-from k p = not_t _ (running-installed (phase_of k) (not_f _ p.1.0))

  begun-from : (k : ℕ) → Passed (begin_cleanup_tests T k) → (is_inactive (phase_of k) ≡ false) × ((node_at T.nodes k).restoring ≡ false)
  begun-from k p =
      let u = not_f _ p.1.0 in
      (not_t _ (unloading_installed (phase_of k) (and_l (is_unloading (phase_of k)) _ u)), not_t _ (and_r (is_unloading (phase_of k)) _ u))

  -- of the node that a step writes
  written_keeps : (d : StepCommand) (k : ℕ) → Passed (tests S T (named d k)) → (c : StepCommand) → past c (node_at T.nodes k) ≡ true → past c (written d (node_at T.nodes k)) ≡ true
  written_keeps StepCommand.Leave k p StepCommand.Leave h = refl
  written_keeps StepCommand.Leave k p StepCommand.BeginCleanup h = rw (left-from k p) at h
  written_keeps StepCommand.Leave k p StepCommand.FinishCleanup h = clash _ (and_l (is_inactive (phase_of k)) _ h) (left-from k p)
  written_keeps StepCommand.BeginCleanup k p StepCommand.Leave h = h
  written_keeps StepCommand.BeginCleanup k p StepCommand.BeginCleanup h = refl
  written_keeps StepCommand.BeginCleanup k p StepCommand.FinishCleanup h = clash _ (and_l (is_inactive (phase_of k)) _ h) (begun-from k p).0
  written_keeps StepCommand.FinishCleanup k p StepCommand.Leave h = refl
  written_keeps StepCommand.FinishCleanup k p StepCommand.BeginCleanup h = refl
  written_keeps StepCommand.FinishCleanup k p StepCommand.FinishCleanup h = refl

  step-keeps-past : (d : StepCommand) (k : ℕ) → Passed (tests S T (named d k)) → (c : StepCommand) (i : ℕ) → past c (node_at T.nodes i) ≡ true → past c (node_at (result T (named d k)).nodes i) ≡ true
  step-keeps-past d k p c = at-step S T d k p (λ i n. past c (node_at T.nodes i) ≡ true → past c n ≡ true) (written_keeps d k p c) (λ i o h. h)

  step_past : (c : StepCommand) (k : ℕ) → Passed (tests S T (named c k)) → past c (node_at (result T (named c k)).nodes k) ≡ true
  step_past c k p = at-step S T c k p (λ i n. i ≡ k → past c n ≡ true) (λ e. written-past c (node_at T.nodes k)) (λ i o e. absurd (o e)) k refl

  past-refused : (c : StepCommand) (k : ℕ) → past c (node_at T.nodes k) ≡ true → Passed (tests S T (named c k)) → ⊥
  past-refused StepCommand.Leave k h p = clash {A = ⊥} _ h p.1.0
  past-refused StepCommand.BeginCleanup k h p = clash {A = ⊥} _ h (rw ((begun-from k p).0, (begun-from k p).1))
  past-refused StepCommand.FinishCleanup k h p = clash {A = ⊥} _ (and_r (is_inactive (phase_of k)) _ h) p.1.0

module _ (S : Sizes) where
  -- a step that is past does not come
  never-again : (T : Tables) (ss : List Step) → Passing S T ss → (s : Step) → past s.command (node_at T.nodes s.id) ≡ true → (j : ℕ) → j < length ss → s ≡ get_or ss j blank_step → ⊥
  never-again T [] p s h j l e = absurd (omega arith)
  never-again T (t ∷ ss) p s h zero l e = past-refused S T t.command t.id (subst (λ (r : Step). past r.command (node_at T.nodes r.id) ≡ true) e h) p.0
  never-again T (t ∷ ss) p s h (suc j) l e = never-again (result T (command_of t)) ss p.1 s (step-keeps-past S T t.command t.id p.0 s.command s.id h) j (omega arith) e

  pub passing_once : (T : Tables) (ss : List Step) → Passing S T ss → (i j : ℕ) → i < j → j < length ss → get_or ss i blank_step ≡ get_or ss j blank_step → ⊥
  passing_once T [] p i j l m e = absurd (omega arith)
  passing_once T (s ∷ ss) p i zero l m e = absurd (omega arith)
  passing_once T (s ∷ ss) p zero (suc j) l m e = never-again (result T (command_of s)) ss p.1 s (step_past S T s.command s.id p.0) j (omega arith) e
  passing_once T (s ∷ ss) p (suc i) (suc j) l m e = passing_once (result T (command_of s)) ss p.1 i j (omega arith) (omega arith) e

pub drain-once : (S : Sizes) (T : Tables) → sound S T ≡ true → (i j : ℕ) → i < j → j < length (drain T) → get_or (drain T) i blank_step ≡ get_or (drain T) j blank_step → ⊥
drain-once S T h = passing_once S T (drain T) (drain-passing S T h)
