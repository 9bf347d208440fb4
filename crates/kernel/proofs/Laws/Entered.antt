-- Past the entry test: a sound kernel, and the identity's node. What its tests say of the command's row, and what is left of the row then.
use Rattle.std.specs.Prelude.{Err, Ok, is_ok}
use Rattle.model.proofs.Logic.{[], ◌++◌, ◌<◌, ◌∙◌, ◌≡◌, ◌||◌, ap, append-nil, false, get_or, none, not, refl, set, some, true, ℕ}
use Rattle.kernel.specs.{Fields.is_sound, Fields.kernel_of, Fields.layout_of, Outcomes.Entered, Outcomes.Unsound, Outcomes.command, Outcomes.outcome, declared.Kernel.Kernel, declared.Outcome.Outcome}
use Rattle.kernel.proofs.{Laws.Targets.there_is}
use Rattle.kernel.proofs.Laws.Targets.{Answered as TargetAnswer}
use Rattle.layouts.proofs.{Laws.Rows.accepted-by, Laws.Rows.refused-by, Laws.Sound.SoundKernel, Laws.Sound.node-is, Laws.Sound.present-below, Laws.Targets.found, Laws.Targets.target-gone, Laws.Targets.target_found}
use Rattle.model.proofs.{Laws.Refusals.Passed, Laws.Refusals.done-passed, Laws.Refusals.of_passed, Laws.Refusals.refused-among, Laws.Resolution.target_none, Theorems.Kernels.commanded-unsound}
use Rattle.model.specs.{Answers.answer, Answers.checked, Commands.Command, Commands.report, Commands.result, Commands.tests, Layouts.Layout, Layouts.lay_out, Layouts.tables_of, Lists.is_none, Records.blank_node, Refusals.Reply, Refusals.Tests, Refusals.first, Resolution.Target, Resolution.target, Resolution.target_list, Tables.Tables, Tables.node_at, declared.Error.Error, declared.records.Node.Node}
use Rattle.results.specs.{Results.target_bindings}
use Rattle.sizes.specs.{Sizes.IDENTITIES, Sizes.sizes}

abbrev pub tables : Kernel → Tables
tables k = tables_of (layout_of k)

abbrev pub node_of : Kernel → ℕ → Node
node_of k id = node_at (tables_of (layout_of k)).nodes id

-- what is handed back of a command that is refused
abbrev pub refusal : Kernel → Error → Outcome (Unit {0})
refusal k x = record { kernel = k; answer = Err x }

-- a kernel that is not sound
pub damaged : {k : Kernel} (c : Command) → is_sound k ≡ false → outcome answer (command k c) ≡ refusal k Error.Damaged
damaged {k} c h = ap (outcome answer) (commanded-unsound sizes (layout_of k) c h)

pub unsound_refused : {k : Kernel} {x : Error} (c : Command) → Unsound k x → outcome answer (command k c) ≡ refusal k x
unsound_refused c u = rw u.is-damaged (damaged c u.sound)

-- a sound one, by the first test that applies
module _ {k : Kernel} (K : SoundKernel sizes (layout_of k)) (c : Command) where
  pub refused_with : {x : Error} → first (tests sizes (tables k) c) ≡ some x → outcome answer (command k c) ≡ refusal k x
  refused_with h = ap (outcome answer) (refused-by K c h)

  pub accepted_with :
      first (tests sizes (tables k) c) ≡ none → report (tables k) c ≡ Reply.done → {l : Layout} → lay_out sizes (result (tables k) c) ≡ l →
      outcome answer (command k c) ≡ record { kernel = kernel_of l; answer = Ok tt }
  accepted_with h w l = ap (outcome answer) (accepted-by K c h) ∙ (λ i. record { kernel = kernel_of (l i); answer = answer (w i) })

  -- these tests decide
  module _ (us : Tests) (q : first (tests sizes (tables k) c) ≡ first us) where
    pub decided_refused : {x : Error} → Err x ≡ checked us → outcome answer (command k c) ≡ refusal k x
    decided_refused h = refused_with (q ∙ rw (append-nil us) at (refused-among us [] _ _ h refl))

    pub decided_done :
        report (tables k) c ≡ Reply.done → {u : Unit {0}} → Ok u ≡ checked us → {l : Layout} → lay_out sizes (result (tables k) c) ≡ l →
        outcome answer (command k c) ≡ record { kernel = kernel_of l; answer = Ok tt }
    decided_done w h l = accepted_with (q ∙ of_passed us (done-passed us _ h refl)) w l

module _ {k : Kernel} {id : ℕ} {n : Node} (E : Entered k id n) where
  pub in_array : n ≡ get_or k.nodes id blank_node
  in_array = E.is-node ∙ node-is E.sound id

  -- one that is present stands in the array
  pub present_below : n.present ≡ true → id < IDENTITIES
  present_below p = present-below E.sound id (rw E.is-node at p)

  -- the node anew, of the one that was looked up
  pub anew : (g : Node → Node) {m : Node} → m ≡ g n → set k.nodes id m ≡ set k.nodes id (g (get_or k.nodes id blank_node))
  anew g h = ap (set k.nodes id) (h ∙ ap g in_array)

  -- ---- its target

  pub no_target : not n.present || n.retired ≡ true → target (tables k) id ≡ Target.nothing
  no_target h = target_none (tables k) id (rw E.is-node at h)

  pub target_is : not n.present || n.retired ≡ false → target (tables k) id ≡ found sizes (layout_of k) id
  target_is h = target_found E.sound id (rw in_array at h)

  -- whether a present component has none
  pub gone : n.present ≡ true → (r : TargetAnswer) → r ≡ target_bindings (found sizes (layout_of k) id) → is_none (target_list (target (tables k) id)) ≡ n.retired || not (is_ok r)
  gone p r h = let e = in_array in rw e (target-gone E.sound id (rw e at p) (there_is r (found sizes (layout_of k) id) h))

  -- ---- tests of the node with which the command's row starts

  module _ (ts : Node → Tests) where
    of_node : checked (ts n) ≡ checked (ts (node_of k id))
    of_node = ap (λ (m : Node). checked (ts m)) E.is-node

    pub passes : {u : Unit {0}} → Ok u ≡ checked (ts n) → Passed (ts (node_of k id))
    passes h = done-passed (ts (node_of k id)) _ (h ∙ of_node) refl

    pub early : (c : Command) (us : Tests) → first (tests sizes (tables k) c) ≡ first (ts (node_of k id) ++ us) → {x : Error} → Err x ≡ checked (ts n) → outcome answer (command k c) ≡ refusal k x
    early c us q h = refused_with E.sound c (q ∙ refused-among (ts (node_of k id)) us _ _ (h ∙ of_node) refl)
