-- Lifecycle: begin, check_iteration, finish, leave, leave_if_changed, retire, begin_cleanup, finish_cleanup, remove.
use Rattle.std.specs.Prelude.{Bool, ◌&&◌, not, List, [], ◌++◌, ◌∷◌, map, ◌+◌, suc, ℕ, eqb, ltb, length, set}
use Rattle.std.proofs.Math.Option.{Option, none, some}
use Rattle.model.specs.declared.Binding.{Binding}
use Rattle.model.specs.declared.Error.{Error}
use Rattle.model.specs.declared.records.Link.{Link}
use Rattle.model.specs.declared.records.Node.{Node}
use Rattle.model.specs.declared.Phase.{Phase}
use Rattle.model.specs.Interface.{absent, unknown}
use Rattle.model.specs.Lists.{any, is_none}
use Rattle.model.specs.Records.{absent_node, dead_for, is_child_of, is_inactive, is_loading, is_running, is_unloading, live_link, provider_in, restored_node, restoring_node, retired_node, started_node, with_phase}
use Rattle.model.specs.Refusals.{Reply, Tests, first, or_else}
use Rattle.model.specs.Resolution.{target, target_list}
use Rattle.model.specs.Sizes.{Sizes, last_generation}
use Rattle.model.specs.Tables.{Tables, generation_at, node_at, with_node}

abbrev pub phase_at : Tables → ℕ → Phase
phase_at T id = (node_at T.nodes id).phase

-- ---- begin

-- the bindings of a target, none of no target
abbrev pub bindings : Option (List Binding) → List Binding
bindings none = []
bindings (some bs) = bs

-- tested of the component's node
abbrev pub begin_node_tests : Node → Tests
begin_node_tests n = absent n ∷ (not (is_inactive n.phase), Error.InvalidState) ∷ (n.retired, Error.Retired) ∷ (eqb n.generation last_generation, Error.Capacity) ∷ []

-- every link, and the bindings of the target
abbrev pub begin_sum : Tables → ℕ → ℕ
begin_sum T id = length T.links + length (bindings (target_list (target T id)))

abbrev pub begin_tests : Sizes → Tables → ℕ → Tests
begin_tests S T id =
    begin_node_tests (node_at T.nodes id)
    ++ ((is_none (target_list (target T id)), Error.MissingDependency) ∷ (ltb S.links (begin_sum T id), Error.Capacity) ∷ [])

-- Loading, the next generation
abbrev pub begun_node : Node → Node
begun_node n = started_node (suc n.generation) n

-- the live link of a binding, with the generation that the provider has
abbrev pub begun_link : List Node → ℕ → Binding → Link
begun_link ns id b = live_link id b (generation_at ns b.provider)

-- these bindings are appended as live links
abbrev pub begun_with : Tables → ℕ → List Binding → Tables
begun_with T id bs = record { nodes = set T.nodes id (begun_node (node_at T.nodes id)); declarations = T.declarations; links = T.links ++ map (begun_link T.nodes id) bs }

-- the target is
abbrev pub begun : Tables → ℕ → Tables
begun T id = begun_with T id (bindings (target_list (target T id)))

-- ---- check_iteration and finish

-- tested of the component's node: it is Loading
abbrev pub loading_tests : Node → Tests
loading_tests n = absent n ∷ (not (is_loading n.phase), Error.InvalidState) ∷ []

abbrev pub iteration_tests : Tables → ℕ → Tests
iteration_tests T id = loading_tests (node_at T.nodes id) ++ ((is_none (target_list (target T id)), Error.Changed) ∷ [])

unfoldable pub check_iteration : Tables → ℕ → Reply
check_iteration T id = or_else (first (iteration_tests T id)) Reply.done

abbrev pub finished : Tables → ℕ → Tables
finished T id = with_node T id (with_phase Phase.Active (node_at T.nodes id))

-- ---- leave and leave_if_changed

-- tested of the component's node: it is Loading or Active
abbrev pub running_tests : Node → Tests
running_tests n = absent n ∷ (not (is_running n.phase), Error.InvalidState) ∷ []

abbrev pub leave_tests : Tables → ℕ → Tests
leave_tests T id = running_tests (node_at T.nodes id)

abbrev pub leave_if_changed_tests : Tables → ℕ → Tests
leave_if_changed_tests T id = running_tests (node_at T.nodes id) ++ ((not (is_none (target_list (target T id))), Error.Changed) ∷ [])

abbrev pub left : Tables → ℕ → Tables
left T id = with_node T id (with_phase Phase.Unloading (node_at T.nodes id))

-- ---- retire: in each phase, and twice

abbrev pub retire_tests : Tables → ℕ → Tests
retire_tests T id = unknown T id ∷ []

abbrev pub retired_from : Tables → ℕ → Tables
retired_from T id = with_node T id (retired_node (node_at T.nodes id))

-- ---- begin_cleanup

-- a live link with this provider
unfoldable pub relies : ℕ → Link → Bool
relies id l = l.live && eqb (provider_in l) id

-- tested of the component's node: it is Unloading and not restoring
abbrev pub unloading_tests : Node → Tests
unloading_tests n = absent n ∷ (not (is_unloading n.phase && not n.restoring), Error.InvalidState) ∷ []

abbrev pub begin_cleanup_tests : Tables → ℕ → Tests
begin_cleanup_tests T id = unloading_tests (node_at T.nodes id) ++ ((any (relies id) T.links, Error.Relied) ∷ [])

abbrev pub cleanup_begun : Tables → ℕ → Tables
cleanup_begun T id = with_node T id (restoring_node (node_at T.nodes id))

-- ---- finish_cleanup

-- tested of the component's node
abbrev pub restoring_tests : Node → Tests
restoring_tests n = absent n ∷ (not n.restoring, Error.InvalidState) ∷ []

abbrev pub finish_cleanup_tests : Tables → ℕ → Tests
finish_cleanup_tests T id = restoring_tests (node_at T.nodes id)

-- every link of the consumer becomes dead; no link record goes
abbrev pub cleanup_finished : Tables → ℕ → Tables
cleanup_finished T id = record { nodes = set T.nodes id (restored_node (node_at T.nodes id)); declarations = T.declarations; links = map (dead_for id) T.links }

-- ---- remove

-- tested of the component's node: it is retired and Inactive
abbrev pub retired_tests : Node → Tests
retired_tests n = absent n ∷ (not (n.retired && is_inactive n.phase), Error.InvalidState) ∷ []

abbrev pub remove_tests : Tables → ℕ → Tests
remove_tests T id = retired_tests (node_at T.nodes id) ++ ((any (is_child_of id) T.nodes, Error.Children) ∷ [])

-- clears present only
abbrev pub removed_from : Tables → ℕ → Tables
removed_from T id = with_node T id (absent_node (node_at T.nodes id))
