-- The fourteen commands: for each its row of tests, the tables that it leaves and what it replies; then a step.
use Rattle.std.specs.Prelude.{[], ℕ, length}
use Rattle.std.proofs.Math.Option.{Option, none, some}
use Rattle.model.specs.declared.Error.{Error}
use Rattle.model.specs.declared.records.Node.{Node}
use Rattle.model.specs.declared.Parent.{Parent}
use Rattle.model.specs.declared.Port.{Port}
use Rattle.model.specs.declared.PortList.{PortList}
use Rattle.model.specs.Compaction.{bindings_compacted, bindings_removed, declarations_compacted, declarations_removed}
use Rattle.model.specs.Insertion.{insert_tests, inserted}
use Rattle.model.specs.Interface.{configure_tests, declare_provision_tests, dependencies_configured, provision_declared, provision_released, release_provision_tests}
use Rattle.model.specs.Lifecycle.{begin_cleanup_tests, begin_tests, begun, cleanup_begun, cleanup_finished, finish_cleanup_tests, finished, iteration_tests, leave_if_changed_tests, leave_tests, left, remove_tests, removed_from, retire_tests, retired_from}
use Rattle.model.specs.Refusals.{Reply, Tests, first}
use Rattle.model.specs.Sizes.{Sizes}
use Rattle.model.specs.Tables.{Tables, with_node}
use Rattle.model.specs.UpdateNode.{update_tests}

pub data Command : Type 0 where
  insert : Parent → PortList → PortList → Command
  declare_provision : ℕ → Port → Command
  release_provision : ℕ → Port → Command
  configure_pending_dependencies : ℕ → PortList → Command
  begin : ℕ → Command
  finish : ℕ → Command
  leave : ℕ → Command
  leave_if_changed : ℕ → Command
  retire : ℕ → Command
  begin_cleanup : ℕ → Command
  finish_cleanup : ℕ → Command
  remove : ℕ → Command
  compact_bindings : Command
  compact_declarations : Command

-- its row of the rules' table, after the entry test (a kernel that is not sound refuses every command, Kernels.antt)
abbrev pub tests : Sizes → Tables → Command → Tests
tests S T (Command.insert q ds ps) = insert_tests S T q ds ps
tests S T (Command.declare_provision id p) = declare_provision_tests S T id p
tests S T (Command.release_provision id p) = release_provision_tests T id p
tests S T (Command.configure_pending_dependencies id l) = configure_tests S T id l
tests S T (Command.begin id) = begin_tests S T id
tests S T (Command.finish id) = iteration_tests T id
tests S T (Command.leave id) = leave_tests T id
tests S T (Command.leave_if_changed id) = leave_if_changed_tests T id
tests S T (Command.retire id) = retire_tests T id
tests S T (Command.begin_cleanup id) = begin_cleanup_tests T id
tests S T (Command.finish_cleanup id) = finish_cleanup_tests T id
tests S T (Command.remove id) = remove_tests T id
tests S T Command.compact_bindings = []
tests S T Command.compact_declarations = []

-- the tables that it leaves when no test applies
abbrev pub result : Tables → Command → Tables
result T (Command.insert q ds ps) = inserted T q ds ps
result T (Command.declare_provision id p) = provision_declared T id p
result T (Command.release_provision id p) = provision_released T id p
result T (Command.configure_pending_dependencies id l) = dependencies_configured T id l
result T (Command.begin id) = begun T id
result T (Command.finish id) = finished T id
result T (Command.leave id) = left T id
result T (Command.leave_if_changed id) = left T id
result T (Command.retire id) = retired_from T id
result T (Command.begin_cleanup id) = cleanup_begun T id
result T (Command.finish_cleanup id) = cleanup_finished T id
result T (Command.remove id) = removed_from T id
result T Command.compact_bindings = bindings_compacted T
result T Command.compact_declarations = declarations_compacted T

-- what it replies then
abbrev pub report : Tables → Command → Reply
report T (Command.insert q ds ps) = Reply.issued (length T.nodes)
report T (Command.declare_provision id p) = Reply.done
report T (Command.release_provision id p) = Reply.done
report T (Command.configure_pending_dependencies id l) = Reply.done
report T (Command.begin id) = Reply.done
report T (Command.finish id) = Reply.done
report T (Command.leave id) = Reply.done
report T (Command.leave_if_changed id) = Reply.done
report T (Command.retire id) = Reply.done
report T (Command.begin_cleanup id) = Reply.done
report T (Command.finish_cleanup id) = Reply.done
report T (Command.remove id) = Reply.done
report T Command.compact_bindings = Reply.removed (bindings_removed T)
report T Command.compact_declarations = Reply.removed (declarations_removed T)

pub record Step : Type 0 where
  pub tables : Tables
  pub reply : Reply

-- a refusal leaves the tables unchanged
unfoldable pub settle : Option Error → Tables → Step → Step
settle none T o = o
settle (some e) T o = record { tables = T; reply = Reply.refused e }

unfoldable pub step : Sizes → Tables → Command → Step
step S T c = settle (first (tests S T c)) T (record { tables = result T c; reply = report T c })

-- update_node, which is no command: its tests, and the node written anew
unfoldable pub update_node : Tables → ℕ → Node → Step
update_node T id n = settle (first (update_tests T id n)) T (record { tables = with_node T id n; reply = Reply.done })
