-- Steps that all pass: their laws, the node that each writes, and one step for each node that passes a test.
use Rattle.model.proofs.Logic.{Bool, List, [], ◌++◌, ◌∙◌, ◌∷◌, ◌≡◌, ap, append_assoc, arith, cond, false, get_or-append_seam, length, length-append, map, map-map, refl, set, set-append_seam, suc, sym, true, ℕ}
use Rattle.model.specs.{Commands.report, Commands.result, Commands.tests, Drain.InTurn, Drain.command_of, Drain.commands, Drain.named, Drain.results, Drain.step_of, Lists.keep, Lists.places, Records.blank_node, Records.restored_node, Records.restoring_node, Records.with_phase, Refusals.Reply, Sizes.Sizes, Soundness.sound, Tables.Tables, Tables.node_at, Tables.present, declared.Phase.Phase, declared.Step.Step, declared.StepCommand.StepCommand, declared.records.Node.Node}
use Rattle.model.proofs.{Laws.Arrays.places-map, Laws.Booleans.not_f, Laws.Facts.facts, Laws.Facts.of_facts, Laws.Lists.map_same, Laws.Nodes.at_set_other, Laws.Nodes.present-lt, Laws.Refusals.Passed, Theorems.Commands.result-sound, Theorems.Commands.run_from, Theorems.Upstream.Replies.accepted-step}

-- ---- steps of which no test applies

abbrev pub Passing : Sizes → Tables → List Step → Type 0
Passing S T [] = Unit {0}
Passing S T (s ∷ ss) = Passed (tests S T (command_of s)) × Passing S (result T (command_of s)) ss

pub results-append : (T : Tables) (ss rs : List Step) → results T (ss ++ rs) ≡ results (results T ss) rs
unfolding results
results-append T [] rs = refl
results-append T (s ∷ ss) rs = results-append (result T (command_of s)) ss rs

-- what a step that passes replies
replies-done : (T : Tables) (c : StepCommand) (k : ℕ) → report T (named c k) ≡ Reply.done
replies-done T StepCommand.Leave k = refl
replies-done T StepCommand.BeginCleanup k = refl
replies-done T StepCommand.FinishCleanup k = refl

module _ (S : Sizes) where
  pub passing_append : (T : Tables) (ss rs : List Step) → Passing S T ss → Passing S (results T ss) rs → Passing S T (ss ++ rs)
  unfolding results
  passing_append T [] rs p q = q
  passing_append T (s ∷ ss) rs p q = (p.0, passing_append (result T (command_of s)) ss rs p.1 q)

  -- they are done in turn
  pub passing_in_turn : (T : Tables) (ss : List Step) → Passing S T ss → InTurn S T (commands ss)
  passing_in_turn T [] p = tt
  passing_in_turn T (s ∷ ss) p = rw (accepted-step S T (command_of s) p.0) (replies-done T s.command s.id, passing_in_turn (result T (command_of s)) ss p.1)

  -- and leave the tables that are told
  pub passing_run : (T : Tables) (ss : List Step) → Passing S T ss → run_from S T (commands ss) ≡ results T ss
  unfolding run_from results
  passing_run T [] p = refl
  passing_run T (s ∷ ss) p = rw (accepted-step S T (command_of s) p.0, run_from) (passing_run (result T (command_of s)) ss p.1)

  pub passing_sound : (T : Tables) (ss : List Step) → sound S T ≡ true → Passing S T ss → sound S (results T ss) ≡ true
  unfolding results
  passing_sound T [] h p = h
  passing_sound T (s ∷ ss) h p = let U = result T (command_of s) in passing_sound U ss (of_facts S U (result-sound S T (command_of s) (facts S T h) p.0)) p.1

-- ---- the node that a step writes

abbrev pub written : StepCommand → Node → Node
written StepCommand.Leave n = with_phase Phase.Unloading n
written StepCommand.BeginCleanup n = restoring_node n
written StepCommand.FinishCleanup n = restored_node n

pub step-nodes : (T : Tables) (c : StepCommand) (k : ℕ) → (result T (named c k)).nodes ≡ set T.nodes k (written c (node_at T.nodes k))
step-nodes T StepCommand.Leave k = refl
step-nodes T StepCommand.BeginCleanup k = refl
step-nodes T StepCommand.FinishCleanup k = refl

module _ (S : Sizes) (T : Tables) where
  -- a step passes of a present component only
  pub step-there : (c : StepCommand) (k : ℕ) → Passed (tests S T (named c k)) → present T.nodes k ≡ true
  step-there StepCommand.Leave k p = not_f _ p.0
  step-there StepCommand.BeginCleanup k p = not_f _ p.0
  step-there StepCommand.FinishCleanup k p = not_f _ p.0

  -- what holds of the node that it writes and of every other node holds of all nodes after it
  pub at-step :
      (c : StepCommand) (k : ℕ)
      → Passed (tests S T (named c k))
      → (P : ℕ → Node → Type 0)
      → P k (written c (node_at T.nodes k))
      → ((i : ℕ) → (i ≡ k → ⊥) → P i (node_at T.nodes i))
      → (i : ℕ)
      → P i (node_at (result T (named c k)).nodes i)
  at-step c k p P x f i = rw (step-nodes T c k) (at_set_other P T.nodes k _ (present-lt T.nodes k (step-there c k p)) x f i)

-- ---- a step for each node that passes a test, ascending

-- the nodes that pass are written anew
abbrev pub anew : (Node → Bool) → StepCommand → Node → Node
anew f c n = cond (f n) (written c n) n

-- where the test passes, so does the step
abbrev pub Passes : Sizes → (Node → Bool) → StepCommand → Type 0
Passes S f c = (T : Tables) (i : ℕ) → f (node_at T.nodes i) ≡ true → Passed (tests S T (named c i))

module _ (S : Sizes) (f : Node → Bool) (c : StepCommand) (passes : Passes S f c) where
  -- the steps of these identities pass and leave these nodes
  abbrev Swept : Tables → List ℕ → List Node → Type 0
  Swept T is ns = Passing S T (map (step_of c) is) × ((results T (map (step_of c) is)).nodes ≡ ns)

  -- all before place i is swept
  sweep_from : (T : Tables) (i : ℕ) (ps xs : List Node) → length ps ≡ i → T.nodes ≡ ps ++ xs → Swept T (places f i xs) (ps ++ map (anew f c) xs)
  unfolding places results
  sweep_from T i ps [] l e = (tt, e)
  sweep_from T i ps (x ∷ xs) l e = go (places f (suc i) xs) (f x) refl (λ U y u.
      sweep_from U (suc i) (ps ++ (y ∷ [])) xs (rw (length-append ps (y ∷ [])) (omega arith)) (u ∙ sym (append_assoc ps (y ∷ []) xs)))
    where
      here : node_at T.nodes i ≡ x
      here = unfold node_at in rw (e, ← l) (get_or-append_seam ps x xs blank_node)

      after : (result T (named c i)).nodes ≡ ps ++ (written c x ∷ xs)
      after = step-nodes T c i ∙ rw (here, e, ← l) (set-append_seam ps x xs (written c x))

      go :
          (is : List ℕ) (b : Bool)
          → f x ≡ b
          → ((U : Tables) (y : Node) → U.nodes ≡ ps ++ (y ∷ xs) → Swept U is ((ps ++ (y ∷ [])) ++ map (anew f c) xs))
          → Swept T (cond b (i ∷ is) is) (ps ++ (cond b (written c x) x ∷ map (anew f c) xs))
      go is true q g = let (p, r) = g (result T (named c i)) (written c x) after in ((passes T i (rw here q), p), r ∙ append_assoc ps (written c x ∷ []) (map (anew f c) xs))
      go is false q g = let (p, r) = g T x e in (p, r ∙ append_assoc ps (x ∷ []) (map (anew f c) xs))

  pub sweep : (T : Tables) → Swept T (places f 0 T.nodes) (map (anew f c) T.nodes)
  sweep T = sweep_from T 0 [] T.nodes refl refl

-- ---- how many pass

module _ {A : Type 0} where
  pub length-places : (p : A → Bool) (i : ℕ) (xs : List A) → length (places p i xs) ≡ length (keep p xs)
  unfolding places
  length-places p i [] = refl
  length-places p i (x ∷ xs) = go (p x) (places p (suc i) xs) (keep p xs) (length-places p (suc i) xs)
    where
      go : (b : Bool) (is : List ℕ) (ys : List A) → length is ≡ length ys → length (cond b (i ∷ is) is) ≡ length (cond b (x ∷ ys) ys)
      go true is ys e = omega arith
      go false is ys e = e

  -- of written entries as many pass, and at the same places
  module _ (p q : A → Bool) (g : A → A) (f : (x : A) → p (g x) ≡ q x) where
    pub places-written : (i : ℕ) (xs : List A) → places p i (map g xs) ≡ places q i xs
    places-written i xs = sym (places-map p i (map g xs)) ∙ ap (places (λ b. b) i) (map-map p g xs ∙ map_same xs (λ x m. f x)) ∙ places-map q i xs

    pub count-written : (xs : List A) → length (keep p (map g xs)) ≡ length (keep q xs)
    count-written xs = sym (length-places p 0 (map g xs)) ∙ ap length (places-written 0 xs) ∙ length-places q 0 xs
