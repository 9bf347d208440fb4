-- Commands that ask update_node: of its row there is left what the command's has.
use Rattle.model.proofs.Logic.{◌++◌, ◌≡◌, ℕ}
use Rattle.kernel.specs.{Fields.layout_of, declared.Kernel.Kernel}
use Rattle.layouts.proofs.{Laws.Nodes.same_rest, Laws.Sound.SoundKernel}
use Rattle.model.proofs.{Laws.Facts.Safe, Laws.Facts.facts, Theorems.Layouts.tables-sound, Theorems.UpdateNode.update_to_absent, Theorems.UpdateNode.update_to_restoring}
use Rattle.model.specs.{Layouts.tables_of, Lifecycle.begin_cleanup_tests, Lifecycle.remove_tests, Lifecycle.retired_tests, Lifecycle.unloading_tests, Records.absent_node, Records.restoring_node, Refusals.first, Tables.node_at, UpdateNode.update_tests}
use Rattle.sizes.specs.{Sizes.sizes}

module _ {k : Kernel} (K : SoundKernel sizes (layout_of k)) (id : ℕ) where
  safe : Safe (tables_of (layout_of k))
  safe = (facts sizes (tables_of (layout_of k)) (tables-sound sizes (layout_of k) K.sound)).safe

  pub begin-cleanup-first : let T = tables_of (layout_of k) in first (unloading_tests (node_at T.nodes id) ++ update_tests T id (restoring_node (node_at T.nodes id))) ≡ first (begin_cleanup_tests T id)
  begin-cleanup-first = let T = tables_of (layout_of k) in same_rest (unloading_tests (node_at T.nodes id)) _ _ (λ p. update_to_restoring T id safe p)

  pub remove-first : let T = tables_of (layout_of k) in first (retired_tests (node_at T.nodes id) ++ update_tests T id (absent_node (node_at T.nodes id))) ≡ first (remove_tests T id)
  remove-first = let T = tables_of (layout_of k) in same_rest (retired_tests (node_at T.nodes id)) _ _ (λ p. update_to_absent T id safe p)
