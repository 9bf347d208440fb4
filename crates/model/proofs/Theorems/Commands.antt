-- Every command keeps soundness, and so does every list of commands from the empty kernel.
use Rattle.model.proofs.Logic.{List, List·Memᴰ·not-nil, [], ◌∷◌, ◌≡◌, arith, refl, true}
use Rattle.model.proofs.{Laws.Facts.Sound, Laws.Facts.blank_ok, Laws.Facts.facts, Laws.Facts.of_facts, Laws.Refusals.Passed, Laws.Refusals.step_keeps, Theorems.Begin.begun-sound, Theorems.Compaction.bindings_compacted-sound, Theorems.Compaction.declarations_compacted-sound, Theorems.FinishCleanup.cleanup_finished-sound, Theorems.Insertion.inserted-sound, Theorems.Interface.dependencies_configured-sound, Theorems.Interface.provision_declared-sound, Theorems.Interface.provision_released-sound, Theorems.Lifecycle.cleanup_begun-sound, Theorems.Lifecycle.finished-sound, Theorems.Lifecycle.left-sound, Theorems.Lifecycle.removed_from-sound, Theorems.Lifecycle.retired_from-sound}
use Rattle.model.specs.{Commands.Command, Commands.result, Commands.step, Commands.tests, Lists.onward, Sizes.Sizes, Soundness.sound, Tables.Tables, Tables.empty, Tables.node_at}

pub result-sound : (S : Sizes) (T : Tables) (c : Command) → Sound S T → Passed (tests S T c) → Sound S (result T c)
result-sound S T (Command.insert q ds ps) k p = inserted-sound S T q ds ps k p
result-sound S T (Command.declare_provision id pt) k p = provision_declared-sound S T id pt k p
result-sound S T (Command.release_provision id pt) k p = provision_released-sound S T id pt k p
result-sound S T (Command.configure_pending_dependencies id l) k p = dependencies_configured-sound S T id l k p
result-sound S T (Command.begin id) k p = begun-sound S T id k p
result-sound S T (Command.finish id) k p = finished-sound S T id k p
result-sound S T (Command.leave id) k p = left-sound S T id k p
result-sound S T (Command.leave_if_changed id) k p = left-sound S T id k (p.0, (p.1.0, tt))
result-sound S T (Command.retire id) k p = retired_from-sound S T id k p
result-sound S T (Command.begin_cleanup id) k p = cleanup_begun-sound S T id k p
result-sound S T (Command.finish_cleanup id) k p = cleanup_finished-sound S T id k p
result-sound S T (Command.remove id) k p = removed_from-sound S T id k p
result-sound S T Command.compact_bindings k p = bindings_compacted-sound S T k
result-sound S T Command.compact_declarations k p = declarations_compacted-sound S T k

pub empty-sound : (S : Sizes) → sound S empty ≡ true
empty-sound S = of_facts S empty (record {
  sizes = record { nodes = omega arith; declarations = omega arith; links = omega arith };
  safe = record {
    owners = λ d m. absurd (List·Memᴰ·not-nil m);
    unique = λ d e m. absurd (List·Memᴰ·not-nil m);
    nodes = λ i. unfold node_at in blank_ok [] i;
    live = λ l m. absurd (List·Memᴰ·not-nil m);
    order = unfold onward in refl;
  };
  covered = λ d m. absurd (List·Memᴰ·not-nil m);
  stored = record { dead = λ l m. absurd (List·Memᴰ·not-nil m); absent = λ i. unfold node_at in λ a. refl; episodes = λ l m. absurd (List·Memᴰ·not-nil m) };
})

pub step-sound : (S : Sizes) (T : Tables) (c : Command) → sound S T ≡ true → sound S (step S T c).tables ≡ true
step-sound S T c h = step_keeps (λ U. sound S U ≡ true) S T c h (λ p. of_facts S (result T c) (result-sound S T c (facts S T h) p))

-- ---- a list of commands on tables, each on what the one before left

unfoldable pub run_from : Sizes → Tables → List Command → Tables
run_from S T [] = T
run_from S T (c ∷ cs) = run_from S (step S T c).tables cs

-- the tables of a reached kernel
abbrev pub run : Sizes → List Command → Tables
run S cs = run_from S empty cs

pub run_from-sound : (S : Sizes) (T : Tables) (cs : List Command) → sound S T ≡ true → sound S (run_from S T cs) ≡ true
unfolding run_from
run_from-sound S T [] h = h
run_from-sound S T (c ∷ cs) h = run_from-sound S (step S T c).tables cs (step-sound S T c h)

pub run_sound : (S : Sizes) (cs : List Command) → sound S (run S cs) ≡ true
run_sound S cs = run_from-sound S empty cs (empty-sound S)
