-- Which links are live while steps pass: a link is dead from when its consumer is installed no more.
use Rattle.model.proofs.Logic.{Bool, List, List-as-Memᴰ, [], ◌&&◌, ◌∙◌, ◌∷◌, ◌≡◌, ◌⊎◌, and_assoc, and-false, and-true, ap, eq-eqb, eqb, false, inl, inr, map, map-id, map-map, ne_eqb, not, refl, sym, true, ℕ}
use Rattle.model.specs.{Commands.result, Commands.tests, Drain.command_of, Drain.named, Drain.results, Lifecycle.begin_cleanup_tests, Lifecycle.cleanup_begun, Lifecycle.cleanup_finished, Lifecycle.finish_cleanup_tests, Lifecycle.leave_tests, Lifecycle.left, Records.binding_in, Records.consumer_in, Records.dead_for, Records.is_installed, Records.link_of, Sizes.Sizes, Soundness.sound, Tables.Tables, Tables.installed, Tables.node_at, Tables.present, declared.Step.Step, declared.StepCommand.StepCommand, declared.records.Link.Link, declared.records.Node.Node}
use Rattle.model.proofs.{Laws.Booleans.and_i, Laws.Booleans.cases, Laws.Booleans.not_f, Laws.Facts.facts, Laws.Lists.map_same, Laws.Phases.running-installed, Laws.Records.link-is, Laws.Refusals.Passed, Theorems.Drain.Sweep.Passing, Theorems.Drain.Sweep.at-step}

-- dead where its consumer is not installed
abbrev pub while_installed : List Node → Link → Link
while_installed ns l = link_of (consumer_in l) (binding_in l) l.generation (l.live && installed ns (consumer_in l))

-- on sound tables a live link's consumer is installed
pub links-installed : (S : Sizes) (T : Tables) → sound S T ≡ true → T.links ≡ map (while_installed T.nodes) T.links
links-installed S T h = sym (map_same T.links (λ l m. same l m (cases l.live)) ∙ map-id T.links)
  where
    same : (l : Link) → List-as-Memᴰ l T.links → (l.live ≡ true) ⊎ (l.live ≡ false) → while_installed T.nodes l ≡ l
    same l m (inl v) =
        let o = (facts S T h).safe.live l m v in
        let i : installed T.nodes (consumer_in l) ≡ true = and_i (present T.nodes (consumer_in l)) _ o.consumer-present o.consumer-installed in
        link-is refl refl refl (ap (λ (b : Bool). l.live && b) i ∙ and-true l.live)
    same l m (inr v) = link-is refl refl refl (rw v)

-- the same components are installed
same_while : (ns ms : List Node) → ((i : ℕ) → installed ms i ≡ installed ns i) → (L : List Link) → map (while_installed ns) L ≡ map (while_installed ms) L
same_while ns ms e L = map_same L (λ l m. link-is refl refl refl (ap (λ (b : Bool). l.live && b) (sym (e (consumer_in l)))))

module _ (S : Sizes) where
  module _ (T : Tables) (k : ℕ) where
    -- leave and begin_cleanup keep which are installed; finish_cleanup takes one of them
    leave-installs : Passed (leave_tests T k) → (i : ℕ) → installed (left T k).nodes i ≡ installed T.nodes i
    leave-installs p = at-step S T StepCommand.Leave k p (λ i n. is_installed n ≡ installed T.nodes i) (rw (running-installed (node_at T.nodes k).phase (not_f _ p.1.0))) (λ i d. refl)

    begin-installs : Passed (begin_cleanup_tests T k) → (i : ℕ) → installed (cleanup_begun T k).nodes i ≡ installed T.nodes i
    begin-installs p = at-step S T StepCommand.BeginCleanup k p (λ i n. is_installed n ≡ installed T.nodes i) refl (λ i d. refl)

    finish-installs : Passed (finish_cleanup_tests T k) → (i : ℕ) → installed (cleanup_finished T k).nodes i ≡ installed T.nodes i && not (eqb i k)
    finish-installs p = at-step S T StepCommand.FinishCleanup k p (λ i n. is_installed n ≡ installed T.nodes i && not (eqb i k))
        (rw (eq-eqb k k refl) (and-false (present T.nodes k) ∙ sym (and-false (installed T.nodes k))))
        (λ i d. rw (ne_eqb i k d) (sym (and-true (installed T.nodes i))))

  step-while :
      (T : Tables) (c : StepCommand) (k : ℕ) (L : List Link)
      → Passed (tests S T (named c k))
      → T.links ≡ map (while_installed T.nodes) L
      → (result T (named c k)).links ≡ map (while_installed (result T (named c k)).nodes) L
  step-while T StepCommand.Leave k L p e = e ∙ same_while T.nodes (left T k).nodes (leave-installs T k p) L
  step-while T StepCommand.BeginCleanup k L p e = e ∙ same_while T.nodes (cleanup_begun T k).nodes (begin-installs T k p) L
  step-while T StepCommand.FinishCleanup k L p e = ap (map (dead_for k)) e ∙ map-map (dead_for k) (while_installed T.nodes) L ∙ map_same L (λ l m. link-is refl refl refl (live l))
    where
      live : (l : Link) → (l.live && installed T.nodes (consumer_in l)) && not (eqb (consumer_in l) k) ≡ l.live && installed (cleanup_finished T k).nodes (consumer_in l)
      live l = and_assoc l.live (installed T.nodes (consumer_in l)) (not (eqb (consumer_in l) k)) ∙ ap (λ (b : Bool). l.live && b) (sym (finish-installs T k p (consumer_in l)))

  -- whatever list they are told from
  pub links-while-installed :
      (T : Tables) (ss : List Step) (L : List Link)
      → Passing S T ss
      → T.links ≡ map (while_installed T.nodes) L
      → (results T ss).links ≡ map (while_installed (results T ss).nodes) L
  unfolding results
  links-while-installed T [] L p e = e
  links-while-installed T (s ∷ ss) L p e = links-while-installed (result T (command_of s)) ss L p.1 (step-while T s.command s.id L p.0 e)

  -- so from sound tables, told from their links
  pub sound-while-installed : (T : Tables) (ss : List Step) → sound S T ≡ true → Passing S T ss → (results T ss).links ≡ map (while_installed (results T ss).nodes) T.links
  sound-while-installed T ss h p = links-while-installed T ss T.links p (links-installed S T h)
