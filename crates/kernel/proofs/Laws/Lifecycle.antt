-- What each lifecycle command does to a kernel, by what its tests answer of the component's node and what else it asks.
use Rattle.std.proofs.lemmas.List.{get_or-take}
use Rattle.std.specs.Prelude.{Err, Ok, Option as CodeOption, is_err, is_ok}
use Rattle.model.proofs.Logic.{Bool, List, Option, [], ◌&&◌, ◌++◌, ◌+◌, ◌<◌, ◌∙◌, ◌∷◌, ◌≡◌, ◌≤◌, ◌||◌, add-one, ap, arith, drop, false, get_or, length, length-take-le, ltb, map, not, not-false, refl, set, sym, take, true, ℕ}
use Rattle.kernel.specs.{Fields.layout_of, Links.LinksBlankPast, Links.ProvidersWithin, Links.linked_to, Outcomes.Entered, Outcomes.command, Outcomes.outcome, declared.Kernel.Kernel, declared.Outcome.Outcome}
use Rattle.kernel.proofs.{Laws.Arrays.sound_kernel, Laws.Entered.damaged, Laws.Entered.unsound_refused, Laws.Entered.accepted_with, Laws.Entered.refused_with, Laws.Entered.anew, Laws.Entered.decided_done, Laws.Entered.decided_refused, Laws.Entered.early, Laws.Entered.gone, Laws.Entered.in_array, Laws.Entered.node_of, Laws.Entered.passes, Laws.Entered.present_below, Laws.Entered.refusal, Laws.Entered.tables, Laws.Entered.target_is, Laws.Rows.begin-cleanup-first, Laws.Rows.remove-first, Laws.Targets.bindings-are, Laws.Targets.there_is}
use Rattle.kernel.proofs.Laws.Targets.{Answered as TargetAnswer}
use Rattle.layouts.proofs.{Laws.Anew.HoldsLinks, Laws.Anew.links-changed, Laws.Nodes.beginnable, Laws.Nodes.node-and-links, Laws.Nodes.node-changed, Laws.Sound.SoundKernel, Laws.Sound.links-laid, Laws.Sound.present-below, Laws.Targets.Held, Laws.Targets.begun-laid, Laws.Targets.found, Laws.Targets.provider_below, Laws.Targets.space_none, Laws.Targets.space_some, Laws.Targets.target-missing, Laws.Targets.target-most, Laws.Targets.target-width}
use Rattle.model.proofs.{Laws.Booleans.not_f, Laws.Refusals.Passed, Laws.Refusals.done-passed, Laws.Refusals.of_passed, Laws.Refusals.passed_first, Laws.Refusals.refused-among, Laws.Refusals.skip, Laws.Refusals.stop}
use Rattle.model.specs.{Answers.answer, Answers.checked, Commands.Command, Commands.tests, Layouts.tables_of, Lifecycle.begin_node_tests, Lifecycle.begin_sum, Lifecycle.begin_tests, Lifecycle.check_iteration, Lifecycle.iteration_tests, Lifecycle.leave_if_changed_tests, Lifecycle.loading_tests, Lifecycle.restoring_tests, Lifecycle.retired_tests, Lifecycle.running_tests, Lifecycle.unloading_tests, Records.absent_node, Records.blank_binding, Records.blank_node, Records.dead_for, Records.restored_node, Records.restoring_node, Records.retired_node, Records.started_node, Records.with_phase, Refusals.Reply, Refusals.first, Refusals.or_else, Resolution.target, Interface.present_tests, UpdateNode.update_tests, declared.Error.Error, declared.Phase.Phase, declared.Unresolved.Unresolved, declared.records.Link.Link, declared.records.Node.Node}
use Rattle.results.specs.{Results.target_bindings, declared.TargetBindings.TargetBindings}
use Rattle.sizes.specs.{Sizes.DECLARATIONS, Sizes.IDENTITIES, Sizes.LINKS, Sizes.sizes}

-- what is handed back of a command that writes the component's node
abbrev pub written : Kernel → ℕ → Node → Outcome (Unit {0})
written k id m =
    record { kernel = record { nodes = set k.nodes id m; node_count = k.node_count; declarations = k.declarations; declaration_count = k.declaration_count; links = k.links; link_count = k.link_count }; answer = Ok tt }

-- and of one that writes the links too
abbrev pub linked : Kernel → ℕ → Node → List Link → ℕ → Outcome (Unit {0})
linked k id m ls count =
    record { kernel = record { nodes = set k.nodes id m; node_count = k.node_count; declarations = k.declarations; declaration_count = k.declaration_count; links = ls; link_count = count }; answer = Ok tt }

-- ---- finish, by what check_iteration answers

module _ {k : Kernel} (K : SoundKernel sizes (layout_of k)) (id : ℕ) where
  pub finish_refused : {x : Error} → answer (check_iteration (tables k) id) ≡ Err x → outcome answer (command k (Command.finish id)) ≡ refusal k x
  unfolding check_iteration
  finish_refused h = decided_refused K (Command.finish id) (iteration_tests (tables k) id) refl (sym h)

  module _ {u : Unit {0}} (h : answer (check_iteration (tables k) id) ≡ Ok u) where
    loading : (node_of k id).present ≡ true
    unfolding check_iteration
    loading = not-false _ (done-passed (iteration_tests (tables k) id) _ refl h).0

    pub finish_below : id < IDENTITIES
    finish_below = present-below K id loading

    pub finish_done : outcome answer (command k (Command.finish id)) ≡ written k id (with_phase Phase.Active (get_or k.nodes id blank_node))
    unfolding check_iteration
    finish_done = decided_done K (Command.finish id) (iteration_tests (tables k) id) refl refl (sym h) (node-changed K id loading (with_phase Phase.Active) refl)

-- ---- of the others, past the entry test

not-or : (b c : Bool) → not (b || not c) ≡ not b && c
not-or true c = refl
not-or false true = refl
not-or false false = refl

not_ok : (r : TargetAnswer) {b : Bool} → b ≡ is_err r → not (is_ok r) ≡ b
not_ok (Ok _) e = sym e
not_ok (Err _) e = sym e

module _ {k : Kernel} {id : ℕ} {n : Node} (E : Entered k id n) where
  pub retire_refused : {x : Error} → Err x ≡ checked (present_tests n) → outcome answer (command k (Command.retire id)) ≡ refusal k x
  retire_refused h = early E present_tests (Command.retire id) [] refl h

  pub retire_done : {u : Unit {0}} → Ok u ≡ checked (present_tests n) → outcome answer (command k (Command.retire id)) ≡ written k id (retired_node (get_or k.nodes id blank_node))
  retire_done h =
      decided_done E.sound (Command.retire id) (present_tests n) (ap (λ (m : Node). first (present_tests m)) (sym E.is-node)) refl h (node-changed E.sound id (not-false _ (passes E present_tests h).0) retired_node refl)

  pub leave_refused : {x : Error} → Err x ≡ checked (running_tests n) → outcome answer (command k (Command.leave id)) ≡ refusal k x
  leave_refused h = early E running_tests (Command.leave id) [] refl h

  pub leave_done : {u : Unit {0}} → Ok u ≡ checked (running_tests n) → outcome answer (command k (Command.leave id)) ≡ written k id (with_phase Phase.Unloading (get_or k.nodes id blank_node))
  leave_done h =
      decided_done E.sound (Command.leave id) (running_tests n) (ap (λ (m : Node). first (running_tests m)) (sym E.is-node)) refl h (node-changed E.sound id (not-false _ (passes E running_tests h).0) (with_phase Phase.Unloading) refl)

  -- ---- leave_if_changed and check_iteration: past the node's tests, whether there is a target

  pub leave_if_changed_refused : {x : Error} → Err x ≡ checked (running_tests n) → outcome answer (command k (Command.leave_if_changed id)) ≡ refusal k x
  leave_if_changed_refused h = early E running_tests (Command.leave_if_changed id) _ refl h

  module _ {u : Unit {0}} (f : Ok u ≡ checked (running_tests n)) {r : TargetAnswer} (t : r ≡ target_bindings (found sizes (layout_of k) id)) where
    running : (node_of k id).present ≡ true
    running = not-false _ (passes E running_tests f).0

    row : {d : Bool} → d ≡ not n.retired && is_ok r → first (leave_if_changed_tests (tables k) id) ≡ first ((d, Error.Changed) ∷ [])
    row e =
        let g = ap not (gone E (rw E.is-node running) r t) ∙ not-or n.retired (is_ok r) ∙ sym e in
        passed_first (running_tests (node_of k id)) _ (passes E running_tests f) ∙ ap (λ (d : Bool). first ((d, Error.Changed) ∷ [])) g

    pub leave_if_changed_kept : {d : Bool} {x : Error} → Err x ≡ checked ((d, Error.Changed) ∷ []) → d ≡ not n.retired && is_ok r → outcome answer (command k (Command.leave_if_changed id)) ≡ refusal k x
    leave_if_changed_kept h e = decided_refused E.sound (Command.leave_if_changed id) _ (row e) h

    pub leave_if_changed_done :
        {d : Bool} {v : Unit {0}} → Ok v ≡ checked ((d, Error.Changed) ∷ []) → d ≡ not n.retired && is_ok r → outcome answer (command k (Command.leave_if_changed id)) ≡ written k id (with_phase Phase.Unloading (get_or k.nodes id blank_node))
    leave_if_changed_done h e =
        decided_done E.sound (Command.leave_if_changed id) _ (row e) refl h (node-changed E.sound id running (with_phase Phase.Unloading) refl)

  pub iteration_refused : {x : Error} → Err x ≡ checked (loading_tests n) → check_iteration (tables k) id ≡ Reply.refused x
  unfolding check_iteration
  iteration_refused h = ap (λ (o : Option Error). or_else o Reply.done) (refused-among (loading_tests (node_of k id)) _ _ _ (h ∙ ap (λ (m : Node). checked (loading_tests m)) E.is-node) refl)

  pub iteration_rest :
      {u : Unit {0}} → Ok u ≡ checked (loading_tests n) → {r : TargetAnswer} → r ≡ target_bindings (found sizes (layout_of k) id) → {b : Bool} → b ≡ is_err r →
      check_iteration (tables k) id ≡ or_else (first ((n.retired || b, Error.Changed) ∷ [])) Reply.done
  unfolding check_iteration
  iteration_rest f {r} t {b} e =
      let p = passes E loading_tests f in
      let g = gone E (rw E.is-node (not-false _ p.0)) r t ∙ ap (n.retired ||◌) (not_ok r e) in
      ap (λ (o : Option Error). or_else o Reply.done) (passed_first (loading_tests (node_of k id)) _ p ∙ ap (λ (d : Bool). first ((d, Error.Changed) ∷ [])) g)

  -- ---- begin_cleanup and remove: past the node's tests, what update_node answers of the node anew

  pub begin_cleanup_refused : {x : Error} → Err x ≡ checked (unloading_tests n) → outcome answer (command k (Command.begin_cleanup id)) ≡ refusal k x
  begin_cleanup_refused h = early E unloading_tests (Command.begin_cleanup id) _ refl h

  module _ {u : Unit {0}} (f : Ok u ≡ checked (unloading_tests n)) {m : Node} (e : m ≡ restoring_node n) where
    begin_cleanup_row : first (tests sizes (tables k) (Command.begin_cleanup id)) ≡ first (update_tests (tables k) id m)
    begin_cleanup_row =
        sym (begin-cleanup-first E.sound id) ∙ passed_first (unloading_tests (node_of k id)) _ (passes E unloading_tests f)
        ∙ ap (λ (w : Node). first (update_tests (tables k) id w)) (sym (e ∙ ap restoring_node E.is-node))

    pub begin_cleanup_relied : {x : Error} → Err x ≡ checked (update_tests (tables k) id m) → outcome answer (command k (Command.begin_cleanup id)) ≡ refusal k x
    begin_cleanup_relied h = decided_refused E.sound (Command.begin_cleanup id) _ begin_cleanup_row h

    pub begin_cleanup_done : {v : Unit {0}} → Ok v ≡ checked (update_tests (tables k) id m) → outcome answer (command k (Command.begin_cleanup id)) ≡ written k id m
    begin_cleanup_done h = decided_done E.sound (Command.begin_cleanup id) _ begin_cleanup_row refl h (node-changed E.sound id (not-false _ (passes E unloading_tests f).0) restoring_node (anew E restoring_node e))

  -- by the row itself: what update_node asks of an absent node is too long beside present_below
  pub remove_below : {u : Unit {0}} → Ok u ≡ checked (retired_tests n) → id < IDENTITIES
  remove_below f = present-below E.sound id (not-false _ (passes E retired_tests f).0)

  pub remove_refused : {x : Error} → Err x ≡ checked (retired_tests n) → outcome answer (command k (Command.remove id)) ≡ refusal k x
  remove_refused h = early E retired_tests (Command.remove id) _ refl h

  module _ {u : Unit {0}} (f : Ok u ≡ checked (retired_tests n)) {m : Node} (e : m ≡ absent_node n) where
    remove_row : first (tests sizes (tables k) (Command.remove id)) ≡ first (update_tests (tables k) id m)
    remove_row =
        sym (remove-first E.sound id) ∙ passed_first (retired_tests (node_of k id)) _ (passes E retired_tests f)
        ∙ ap (λ (w : Node). first (update_tests (tables k) id w)) (sym (e ∙ ap absent_node E.is-node))

    pub remove_blocked : {x : Error} → Err x ≡ checked (update_tests (tables k) id m) → outcome answer (command k (Command.remove id)) ≡ refusal k x
    remove_blocked h = decided_refused E.sound (Command.remove id) _ remove_row h

    pub remove_done : {v : Unit {0}} → Ok v ≡ checked (update_tests (tables k) id m) → outcome answer (command k (Command.remove id)) ≡ written k id m
    remove_done h = decided_done E.sound (Command.remove id) _ remove_row refl h (node-changed E.sound id (not-false _ (passes E retired_tests f).0) absent_node (anew E absent_node e))

  -- ---- finish_cleanup

  pub finish_cleanup_refused : {x : Error} → Err x ≡ checked (restoring_tests n) → outcome answer (command k (Command.finish_cleanup id)) ≡ refusal k x
  finish_cleanup_refused h = early E restoring_tests (Command.finish_cleanup id) [] refl h

  pub finish_cleanup_done :
      {u : Unit {0}} → Ok u ≡ checked (restoring_tests n) → {m : Node} → m ≡ restored_node n → {ls : List Link} → ls ≡ map (dead_for id) (take k.link_count k.links) ++ drop k.link_count k.links →
      outcome answer (command k (Command.finish_cleanup id)) ≡ linked k id m ls k.link_count
  finish_cleanup_done h e d =
      let held = links-changed E.sound (dead_for id) in
      let dead : HoldsLinks sizes _ _ _ = record { entries = held.entries ∙ sym d; counted = held.counted } in
      decided_done E.sound (Command.finish_cleanup id) (restoring_tests n) (ap (λ (m : Node). first (restoring_tests m)) (sym E.is-node)) refl h
      (node-and-links E.sound id (not-false _ (passes E restoring_tests h).0) restored_node (anew E restored_node e) _ dead)

  -- ---- begin

  pub links_blank : LinksBlankPast k.link_count k.links
  unfolding tables_of
  links_blank = sym (links-laid E.sound)

  pub begin_refused : {x : Error} → Err x ≡ checked (begin_node_tests n) → outcome answer (command k (Command.begin id)) ≡ refusal k x
  begin_refused h = early E begin_node_tests (Command.begin id) _ refl h

  module _ {u : Unit {0}} (f : Ok u ≡ checked (begin_node_tests n)) where
    beginning : Passed (begin_node_tests (node_of k id))
    beginning = passes E begin_node_tests f

    -- of such a component what a lookup finds is the target
    of_found : {r : TargetAnswer} → r ≡ target_bindings (found sizes (layout_of k) id) → r ≡ target_bindings (target (tables k) id)
    of_found t = let can = beginnable (node_of k id) beginning in t ∙ ap target_bindings (sym (target_is E (rw (E.is-node, can.present, can.not-retired))))

    pub begin_missing : {o : CodeOption Unresolved} → Err o ≡ target_bindings (found sizes (layout_of k) id) → outcome answer (command k (Command.begin id)) ≡ refusal k Error.MissingDependency
    begin_missing {o} t =
        refused_with E.sound (Command.begin id) (passed_first (begin_node_tests (node_of k id)) _ beginning ∙ stop _ _ _ (not_f _ (sym (there_is (Err o) _ (of_found t)))))

    module _ {b : TargetBindings} (t : Ok b ≡ target_bindings (found sizes (layout_of k) id)) where
      bound : Held sizes (layout_of k) id true b.bindings b.count
      bound = record { kernel = E.sound; is-there = there_is (Ok b) _ (of_found t); bound = bindings-are b _ (of_found t) }

      -- no more bindings than it has room for
      pub begin_most : b.count ≤ DECLARATIONS
      begin_most = target-most bound

      counted : length (take b.count b.bindings) ≡ b.count
      counted = length-take-le b.count b.bindings (rw (target-width bound) begin_most)

      pub begin_providers : ProvidersWithin (take b.count b.bindings)
      begin_providers i l =
          let m : i < b.count = omega (arith, counted) in
          rw (get_or-take b.count b.bindings i blank_binding m) (provider_below bound i m)

      -- past the node's tests and with a target, whether the space for its links is too small decides
      begin_row : {d : Bool} → ltb LINKS (begin_sum (tables k) id) ≡ d → first (begin_tests sizes (tables k) id) ≡ first ((d, Error.Capacity) ∷ [])
      begin_row q = passed_first (begin_node_tests (node_of k id)) _ beginning ∙ rw (target-missing bound, q) (skip _ _ _ refl)

      pub begin_full : LINKS < k.link_count + b.count → outcome answer (command k (Command.begin id)) ≡ refusal k Error.Capacity
      begin_full l = refused_with E.sound (Command.begin id) (begin_row (space_none bound (omega arith)) ∙ stop _ _ _ refl)

      pub begin_done :
          k.link_count + b.count ≤ LINKS → {m : Node} → m ≡ started_node (n.generation + 1) n → {ls : List Link} → ls ≡ linked_to k.nodes id k.link_count k.links (take b.count b.bindings) →
          {c : ℕ} → c ≡ k.link_count + length (take b.count b.bindings) → outcome answer (command k (Command.begin id)) ≡ linked k id m ls c
      begin_done l e f w =
          let q = in_array E in
          let row = begin_row (space_some bound (omega arith)) ∙ of_passed ((false, Error.Capacity) ∷ []) (refl, tt) in
          rw (w, counted) (accepted_with E.sound (Command.begin id) row refl (begun-laid bound (e ∙ rw (add-one, q)) (not-false _ beginning.0) f))

-- ---- what the check of each function is given

pub ruleset begin_laws = (present_below, unsound_refused, begin_refused, begin_missing, begin_full, begin_most, begin_providers, links_blank, begin_done)

pub ruleset iteration_laws = (iteration_refused, iteration_rest)

pub ruleset finish_laws = (sound_kernel, damaged, finish_refused, finish_below, finish_done)

pub ruleset leave_laws = (present_below, unsound_refused, leave_refused, leave_done)

pub ruleset leave_if_changed_laws = (present_below, unsound_refused, leave_if_changed_refused, leave_if_changed_kept, leave_if_changed_done)

pub ruleset retire_laws = (present_below, unsound_refused, retire_refused, retire_done)

pub ruleset begin_cleanup_laws = (present_below, unsound_refused, begin_cleanup_refused, begin_cleanup_relied, begin_cleanup_done)

pub ruleset finish_cleanup_laws = (present_below, unsound_refused, finish_cleanup_refused, finish_cleanup_done)

pub ruleset remove_laws = (unsound_refused, remove_below, remove_refused, remove_blocked, remove_done)
