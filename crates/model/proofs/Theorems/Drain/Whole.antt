-- The drain of sound tables: its steps pass in turn, then none is installed, and how many they are.
use Rattle.model.proofs.Logic.{Bool, List, List·getD-map, [], ◌&&◌, ◌*◌, ◌+◌, ◌∙◌, ◌∷◌, ◌≡◌, ◌≤◌, ◌⊎◌, ap, arith, cond, false, inl, inr, length, length-append, length-map, map, map-id, map-map, not, refl, true, ℕ}
use Rattle.model.specs.{Drain.InTurn, Drain.cleaned_in, Drain.cleanups, Drain.commands, Drain.count, Drain.drain, Drain.is_restoring, Drain.leaves, Drain.must_leave, Drain.preparation, Drain.restores, Drain.results, Drain.step_of, Lists.keep, Lists.places, Records.blank_node, Records.is_installed, Records.is_serving, Records.is_unloading, Sizes.Sizes, Sizes.controller, Soundness.sound, Tables.Tables, Tables.installed, Tables.node_at, Tables.present, declared.Phase.Phase, declared.Step.Step, declared.StepCommand.StepCommand, declared.records.Node.Node}
use Rattle.model.proofs.{Laws.Ascending.Ascending, Laws.Ascending.places-ascend, Laws.Booleans.and_i, Laws.Booleans.and_l, Laws.Booleans.and_r, Laws.Booleans.cases, Laws.Booleans.clash, Laws.Booleans.not_f, Laws.Facts.NodeOk, Laws.Facts.facts, Laws.Lists.length-keep, Laws.Phases.inactive-is, Laws.Phases.unloading_installed, Laws.Records.node-cases, Laws.Records.node_with, Theorems.Commands.run_from, Theorems.Drain.Cleanups.Cleaned, Theorems.Drain.Cleanups.cleaned, Theorems.Drain.Key.Readied, Theorems.Drain.Sweep.Passing, Theorems.Drain.Sweep.anew, Theorems.Drain.Sweep.count-written, Theorems.Drain.Sweep.length-places, Theorems.Drain.Sweep.passing_append, Theorems.Drain.Sweep.passing_in_turn, Theorems.Drain.Sweep.passing_run, Theorems.Drain.Sweep.passing_sound, Theorems.Drain.Sweep.places-written, Theorems.Drain.Sweep.results-append, Theorems.Drain.Sweep.sweep}

-- ---- one node after the leaves and after the first finish_cleanups

abbrev after_leave : Node → Node
after_leave n = anew must_leave StepCommand.Leave n

abbrev after_restore : Node → Node
after_restore n = anew is_restoring StepCommand.FinishCleanup n

abbrev pub readied_node : Node → Node
readied_node n = after_restore (after_leave n)

pub record NodeReadied (n : Node) : Type 0 where
  -- a leave changes nothing in which are restoring
  pub same_restoring : is_restoring (after_leave n) ≡ is_restoring n
  -- what is installed still is what was so and not restoring
  pub serves : is_installed (readied_node n) ≡ is_serving n
  pub ready : is_installed (readied_node n) ≡ true → (is_unloading (readied_node n).phase ≡ true) × ((readied_node n).restoring ≡ false)

pub node-readied : (n : Node) → NodeReadied n
node-readied = node-cases NodeReadied go
  where
    go : (p : Bool) (f : Phase) (r : Bool) (n : Node) → NodeReadied (node_with p f r n)
    go false f r n = record { same_restoring = refl; serves = refl; ready = λ h. clash false h refl }
    go true Phase.Inactive r n = record { same_restoring = refl; serves = refl; ready = λ h. clash false h refl }
    go true Phase.Loading true n = record { same_restoring = refl; serves = refl; ready = λ h. clash false h refl }
    go true Phase.Loading false n = record { same_restoring = refl; serves = refl; ready = λ h. (refl, refl) }
    go true Phase.Active true n = record { same_restoring = refl; serves = refl; ready = λ h. clash false h refl }
    go true Phase.Active false n = record { same_restoring = refl; serves = refl; ready = λ h. (refl, refl) }
    go true Phase.Unloading true n = record { same_restoring = refl; serves = refl; ready = λ h. clash false h refl }
    go true Phase.Unloading false n = record { same_restoring = refl; serves = refl; ready = λ h. (refl, refl) }

pub readied_at : (ns : List Node) (i : ℕ) → node_at (map readied_node ns) i ≡ readied_node (node_at ns i)
unfolding node_at
readied_at ns i = List·getD-map readied_node ns i blank_node

-- ---- the tables after them

module _ (S : Sizes) (T : Tables) where
  after-leaves : Passing S T (leaves T) × ((results T (leaves T)).nodes ≡ map after_leave T.nodes)
  after-leaves = sweep S must_leave StepCommand.Leave (λ U i h. (rw (and_l (present U.nodes i) _ h), (rw (and_r (present U.nodes i) _ h), tt))) T

  same_restores : restores (results T (leaves T)) ≡ restores T
  same_restores = rw (after-leaves.1, places-written is_restoring is_restoring after_leave (λ n. (node-readied n).same_restoring) 0 T.nodes)

  after-restores : Passing S (results T (leaves T)) (restores T) × ((results (results T (leaves T)) (restores T)).nodes ≡ map after_restore (results T (leaves T)).nodes)
  after-restores = rw same_restores at (sweep S is_restoring StepCommand.FinishCleanup (λ U i h.
      (rw (and_l (present U.nodes i) _ (and_l (installed U.nodes i) _ h)), (rw (and_r (installed U.nodes i) _ h), tt))) (results T (leaves T)))

  pub preparation-passing : Passing S T (preparation T)
  preparation-passing = passing_append S T (leaves T) (restores T) after-leaves.0 after-restores.0

  pub preparation-nodes : (results T (preparation T)).nodes ≡ map readied_node T.nodes
  preparation-nodes = ap (λ (U : Tables). U.nodes) (results-append T (leaves T) (restores T)) ∙ after-restores.1 ∙ ap (map after_restore) after-leaves.1 ∙ map-map after_restore after_leave T.nodes

  -- every installed component is Unloading and not restoring
  pub preparation-readied : Readied (results T (preparation T)).nodes
  preparation-readied i = rw (preparation-nodes, readied_at T.nodes i) (node-readied (node_at T.nodes i)).ready

  pub preparation-count : count is_installed (results T (preparation T)) ≡ count is_serving T
  preparation-count = rw preparation-nodes (count-written is_installed is_serving readied_node (λ n. (node-readied n).serves) T.nodes)

  pub preparation-long : length (preparation T) ≡ count must_leave T + count is_restoring T
  preparation-long =
      let long : (c : StepCommand) (p : Node → Bool) → length (map (step_of c) (places p 0 T.nodes)) ≡ count p T =
      λ c p. length-map (places p 0 T.nodes) (step_of c) ∙ length-places p 0 T.nodes in
      rw (length-append (leaves T) (restores T), long StepCommand.Leave must_leave, long StepCommand.FinishCleanup is_restoring)

-- ---- how many are restoring and how many are serving

count-split : (p r : Node → Bool) (ns : List Node) → length (keep p ns) ≡ length (keep (λ n. p n && r n) ns) + length (keep (λ n. p n && not (r n)) ns)
count-split p r [] = refl
count-split p r (n ∷ ns) = go (p n) (r n) (keep p ns) (keep (λ n. p n && r n) ns) (keep (λ n. p n && not (r n)) ns) (count-split p r ns)
  where
    go :
        (b c : Bool) (xs ys zs : List Node)
        → length xs ≡ length ys + length zs
        → length (cond b (n ∷ xs) xs) ≡ length (cond (b && c) (n ∷ ys) ys) + length (cond (b && not c) (n ∷ zs) zs)
    go true true xs ys zs e = omega arith
    go true false xs ys zs e = omega arith
    go false c xs ys zs e = e

-- the installed ones are the restoring and the serving ones
pub installed-are : (T : Tables) → count is_installed T ≡ count is_restoring T + count is_serving T
installed-are T = count-split is_installed (λ n. n.restoring) T.nodes

-- ---- tables with none installed

module _ (S : Sizes) (U : Tables) (h : sound S U ≡ true) (idle : (i : ℕ) → installed U.nodes i ≡ false) where
  pub idle-inactive : (i : ℕ) → present U.nodes i ≡ true → (node_at U.nodes i).phase ≡ Phase.Inactive
  idle-inactive i p = inactive-is (node_at U.nodes i).phase (not_f _ (rw p at (idle i)))

  pub idle-restored : (i : ℕ) → (node_at U.nodes i).restoring ≡ false
  idle-restored i = go (cases (node_at U.nodes i).restoring)
    where
      k : NodeOk U.nodes i (node_at U.nodes i)
      k = (facts S U h).safe.nodes i

      go : ((node_at U.nodes i).restoring ≡ true) ⊎ ((node_at U.nodes i).restoring ≡ false) → (node_at U.nodes i).restoring ≡ false
      go (inl r) = clash (installed U.nodes i) (and_i (present U.nodes i) _ (k.restoring-present r) (unloading_installed (node_at U.nodes i).phase (k.restoring-unloading r))) (idle i)
      go (inr r) = r

-- ---- the drain

-- the steps' identities
abbrev pub ids : List Step → List ℕ
ids ss = map (λ s. s.id) ss

steps_ascend : (c : StepCommand) (p : Node → Bool) (ns : List Node) → Ascending 0 (ids (map (step_of c) (places p 0 ns)))
steps_ascend c p ns = rw (map-map (λ s. s.id) (step_of c) (places p 0 ns), map-id (places p 0 ns)) (places-ascend p 0 ns)

-- those of the leaves ascend, and those of the first finish_cleanups
pub leaves-ascend : (T : Tables) → Ascending 0 (ids (leaves T))
leaves-ascend T = steps_ascend StepCommand.Leave must_leave T.nodes

pub restores-ascend : (T : Tables) → Ascending 0 (ids (restores T))
restores-ascend T = steps_ascend StepCommand.FinishCleanup is_restoring T.nodes

module _ (S : Sizes) (T : Tables) (h : sound S T ≡ true) where
  -- the cleanups: as many as components are installed are enough
  cleaned_last : Cleaned S (results T (preparation T)) (cleaned_in (results T (preparation T)))
  cleaned_last =
      let U : Tables = results T (preparation T) in
      cleaned S (count is_installed U) U (passing_sound S T (preparation T) h (preparation-passing S T)) (preparation-readied S T) (omega arith)

  pub drain-passing : Passing S T (drain T)
  unfolding drain
  drain-passing = passing_append S T (preparation T) _ (preparation-passing S T) cleaned_last.passing

  -- each command is done on the tables that the earlier ones leave
  pub drain-accepted : InTurn S T (commands (drain T))
  drain-accepted = passing_in_turn S T (drain T) drain-passing

  -- the tables that it leaves
  pub drain-run : run_from S T (commands (drain T)) ≡ results T (drain T)
  drain-run = passing_run S T (drain T) drain-passing

  pub drain-sound : sound S (results T (drain T)) ≡ true
  drain-sound = passing_sound S T (drain T) h drain-passing

  -- none is installed in them
  pub drain-idle : (i : ℕ) → installed (results T (drain T)).nodes i ≡ false
  unfolding drain
  drain-idle i = rw (results-append T (preparation T) (cleanups (cleaned_in (results T (preparation T))))) (cleaned_last.idle i)

  -- every present component is Inactive
  pub drain-inactive : (i : ℕ) → present (results T (drain T)).nodes i ≡ true → (node_at (results T (drain T)).nodes i).phase ≡ Phase.Inactive
  drain-inactive = idle-inactive S (results T (drain T)) drain-sound drain-idle

  -- and none is restoring
  pub drain-restored : (i : ℕ) → (node_at (results T (drain T)).nodes i).restoring ≡ false
  drain-restored = idle-restored S (results T (drain T)) drain-sound drain-idle

  pub drain-long : length (drain T) ≡ count must_leave T + count is_restoring T + 2 * count is_serving T
  unfolding drain
  drain-long = rw (length-append (preparation T) (cleanups (cleaned_in (results T (preparation T)))), preparation-long S T, cleaned_last.long, preparation-count S T)

  -- at most three for each node, so three times the identities
  pub drain-of-nodes : length (drain T) ≤ 3 * length T.nodes
  drain-of-nodes = omega (arith, drain-long, installed-are T, length-keep must_leave T.nodes, length-keep is_installed T.nodes)

  pub drain-bound : length (drain T) ≤ 3 * S.identities
  drain-bound = omega (arith, drain-of-nodes, (facts S T h).sizes.nodes)

-- 192 for the kernel of the rules
pub drain-controller : (T : Tables) → sound controller T ≡ true → length (drain T) ≤ 192
drain-controller T h = drain-bound controller T h
