-- What the drain leaves: the tables with every node Inactive and every link record dead. Drained tables have an empty drain.
use Rattle.model.proofs.Logic.{List, [], ◌↔◌, ◌∙◌, ◌∷◌, ◌≡◌, ◌⊎◌, and-false, ap, arith, false, inl, inr, length, map, map-map, refl, set, suc, sym, true, zero, ℕ}
use Rattle.model.specs.{Commands.result, Drain.command_of, Drain.drain, Drain.is_restoring, Drain.must_leave, Drain.named, Drain.results, Drain.stopped, Records.consumer_in, Records.dead_for, Records.dead_link, Records.is_serving, Records.restored_node, Sizes.Sizes, Soundness.sound, Tables.Tables, Tables.installed, Tables.node_at, Tables.present, Tables.with_nodes, declared.Phase.Phase, declared.Step.Step, declared.StepCommand.StepCommand, declared.records.Node.Node}
use Rattle.model.proofs.{Laws.Booleans.cases, Laws.Facts.facts, Laws.Lists.map_same, Laws.Phases.inactive-is, Laws.Records.link-is, Laws.Records.node-is, Theorems.Drain.Cleanups.none_count, Theorems.Drain.Links.links-installed, Theorems.Drain.Whole.drain-idle, Theorems.Drain.Whole.drain-long, Theorems.Drain.Whole.drain-sound, Theorems.Drain.Whole.idle-inactive, Theorems.Drain.Whole.idle-restored}

-- ---- a step changes nothing of the stopped tables

map-set : (ns : List Node) (i : ℕ) (m : Node) → restored_node m ≡ restored_node (node_at ns i) → map restored_node (set ns i m) ≡ map restored_node ns
unfolding node_at
map-set [] i m e = refl
map-set (n ∷ ns) zero m e = ap (λ (x : Node). x ∷ map restored_node ns) e
map-set (n ∷ ns) (suc i) m e = ap (λ (xs : List Node). restored_node n ∷ xs) (map-set ns i m e)

step-stopped : (T : Tables) (c : StepCommand) (k : ℕ) → stopped (result T (named c k)) ≡ stopped T
step-stopped T StepCommand.Leave k = ap (with_nodes (stopped T)) (map-set T.nodes k _ refl)
step-stopped T StepCommand.BeginCleanup k = ap (with_nodes (stopped T)) (map-set T.nodes k _ refl)
step-stopped T StepCommand.FinishCleanup k =
    let a : map restored_node (set T.nodes k (restored_node (node_at T.nodes k))) ≡ map restored_node T.nodes = map-set T.nodes k _ refl in
    let b : map dead_link (map (dead_for k) T.links) ≡ map dead_link T.links = map-map dead_link (dead_for k) T.links in
    λ i. record { nodes = a i; declarations = T.declarations; links = b i }

-- whatever the steps
pub results-stopped : (T : Tables) (ss : List Step) → stopped (results T ss) ≡ stopped T
unfolding results
results-stopped T [] = refl
results-stopped T (s ∷ ss) = results-stopped (result T (command_of s)) ss ∙ step-stopped T s.command s.id

-- ---- tables with none installed are stopped

nodes-same : (ns : List Node) → ((i : ℕ) → restored_node (node_at ns i) ≡ node_at ns i) → map restored_node ns ≡ ns
unfolding node_at
nodes-same [] f = refl
nodes-same (n ∷ ns) f = let a : restored_node n ≡ n = f 0 in let b : map restored_node ns ≡ ns = nodes-same ns (λ i. f (suc i)) in λ i. a i ∷ b i

module _ (S : Sizes) (U : Tables) (h : sound S U ≡ true) (idle : (i : ℕ) → installed U.nodes i ≡ false) where
  phase-inactive : (i : ℕ) → (node_at U.nodes i).phase ≡ Phase.Inactive
  phase-inactive i = go (cases (present U.nodes i))
    where
      go : (present U.nodes i ≡ true) ⊎ (present U.nodes i ≡ false) → (node_at U.nodes i).phase ≡ Phase.Inactive
      go (inl p) = idle-inactive S U h idle i p
      go (inr p) = inactive-is (node_at U.nodes i).phase (((facts S U h).safe.nodes i).absent-inactive p)

  node-same : (i : ℕ) → restored_node (node_at U.nodes i) ≡ node_at U.nodes i
  node-same i = node-is refl refl (sym (phase-inactive i)) (sym (idle-restored S U h idle i)) refl refl

  -- a link is dead where its consumer is not installed
  links-same : map dead_link U.links ≡ U.links
  links-same = map_same U.links (λ l m. link-is refl refl refl (sym (rw (idle (consumer_in l)) (and-false l.live)))) ∙ sym (links-installed S U h)

  idle-stopped : stopped U ≡ U
  idle-stopped = λ i. record { nodes = nodes-same U.nodes node-same i; declarations = U.declarations; links = links-same i }

  leave_none : (i : ℕ) → must_leave (node_at U.nodes i) ≡ false
  leave_none i = rw (phase-inactive i) (and-false (present U.nodes i))

  idle-long : length (drain U) ≡ 0
  idle-long = omega (arith, drain-long S U h, none_count must_leave U.nodes leave_none, none_count is_restoring U.nodes (λ i. rw (idle i)), none_count is_serving U.nodes (λ i. rw (idle i)))

-- ---- the drain

no_length : {A : Type 0} (xs : List A) → length xs ≡ 0 → xs ≡ []
no_length [] e = refl
no_length (x ∷ xs) e = absurd (omega arith)

module _ (S : Sizes) (T : Tables) (h : sound S T ≡ true) where
  -- the tables that it leaves, told from those before
  pub drain-stops : results T (drain T) ≡ stopped T
  drain-stops = sym (idle-stopped S (results T (drain T)) (drain-sound S T h) (drain-idle S T h)) ∙ results-stopped T (drain T)

  -- it is empty exactly if none is installed
  pub drain-empty : (drain T ≡ []) ↔ ((i : ℕ) → installed T.nodes i ≡ false)
  unfolding results
  drain-empty = (λ e i. rw e at (drain-idle S T h i), λ f. no_length (drain T) (idle-long S T h f))

  -- so the drain of drained tables is
  pub drain-again : drain (results T (drain T)) ≡ []
  drain-again = no_length (drain (results T (drain T))) (idle-long S (results T (drain T)) (drain-sound S T h) (drain-idle S T h))
