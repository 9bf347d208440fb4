-- Interface commands: declare_provision, release_provision, configure_pending_dependencies.
use Rattle.std.specs.Prelude.{Bool, ◌&&◌, ◌||◌, cond, not, true, List, [], ◌++◌, ◌∷◌, map, ◌+◌, ℕ, eqb, leb, ltb, length, take}
use Rattle.model.specs.declared.records.Declaration.{Declaration}
use Rattle.model.specs.declared.Error.{Error}
use Rattle.model.specs.declared.records.Link.{Link}
use Rattle.model.specs.declared.records.Node.{Node}
use Rattle.model.specs.declared.Port.{Port}
use Rattle.model.specs.declared.PortList.{PortList}
use Rattle.model.specs.Lists.{any, keep, padded}
use Rattle.model.specs.Records.{blank_port, dependency, is_pending, is_running, port_in, provider_in, provision, same_port}
use Rattle.model.specs.Refusals.{Tests}
use Rattle.model.specs.Resolution.{is_dependency_of, offers}
use Rattle.model.specs.Sizes.{Sizes, list_limit}
use Rattle.model.specs.Soundness.{declares, is_declaration}
use Rattle.model.specs.Tables.{Tables, node_at, present, with_declarations}

-- ---- operand lists

-- the ports below the count
abbrev pub listed : PortList → List Port
listed l = take l.count l.ports

-- the port list of these ports: at most 32 of them in its array, and all of them in its count
abbrev pub port_list : List Port → PortList
port_list ps = record { ports = take list_limit (padded list_limit blank_port ps); count = length ps }

abbrev pub too_long : PortList → Bool
too_long l = ltb list_limit l.count

-- no port twice
unfoldable pub distinct : List Port → Bool
distinct [] = true
distinct (p ∷ ps) = not (any (same_port p) ps) && distinct ps

-- ---- the place 'identity': 1 if it is not present

abbrev pub unknown : Tables → ℕ → Bool × Error
unknown T id = (not (present T.nodes id), Error.Unknown)

-- the same of a node
abbrev pub absent : Node → Bool × Error
absent n = (not n.present, Error.Unknown)

-- tested of the component's node by release_provision and retire
abbrev pub present_tests : Node → Tests
present_tests n = absent n ∷ []

-- ---- declare_provision

-- a present owner provides the port
unfoldable pub taken : Tables → Port → Bool
taken T p = any (offers (present T.nodes) p) T.declarations

-- this owner provides the port: declaring it again is done, unchanged
abbrev pub own : Tables → ℕ → Port → Bool
own T id p = declares T.declarations id p true

-- tested of the component's node
abbrev pub declare_node_tests : Node → Tests
declare_node_tests n = absent n ∷ (n.retired, Error.Retired) ∷ (not (is_running n.phase || is_pending n), Error.InvalidState) ∷ []

abbrev pub declare_provision_tests : Sizes → Tables → ℕ → Port → Tests
declare_provision_tests S T id p =
    let new = not (own T id p) in
    declare_node_tests (node_at T.nodes id) ++ ((new && taken T p, Error.Conflict) ∷ (new && leb S.declarations (length T.declarations), Error.Capacity) ∷ [])

abbrev pub provision_declared : Tables → ℕ → Port → Tables
provision_declared T id p = with_declarations T (cond (own T id p) T.declarations (T.declarations ++ (provision id p ∷ [])))

-- ---- release_provision

-- a live link with this provider and port
unfoldable pub relies_on : ℕ → Port → Link → Bool
relies_on id p l = l.live && eqb (provider_in l) id && same_port (port_in l) p

abbrev pub release_provision_tests : Tables → ℕ → Port → Tests
release_provision_tests T id p = unknown T id ∷ (any (relies_on id p) T.links, Error.Relied) ∷ []

-- drops every provision of that owner and port, possibly none
abbrev pub provision_released : Tables → ℕ → Port → Tables
provision_released T id p = with_declarations T (keep (λ d. not (is_declaration id p true d)) T.declarations)

-- ---- configure_pending_dependencies

-- tested of the component's node
abbrev pub configure_node_tests : Node → Tests
configure_node_tests n = absent n ∷ (n.retired, Error.Retired) ∷ (not (is_pending n), Error.InvalidState) ∷ []

-- tested before any declaration is read: of the list's length and of the component's node
abbrev pub configurable_tests : Tables → ℕ → PortList → Tests
configurable_tests T id l = (too_long l, Error.Capacity) ∷ configure_node_tests (node_at T.nodes id)

-- the declarations that remain: all but the component's dependencies
abbrev pub remains : ℕ → Declaration → Bool
remains id d = not (is_dependency_of id d)

abbrev pub remaining : Tables → ℕ → List Declaration
remaining T id = keep (remains id) T.declarations

-- what remains, and the list
abbrev pub configure_sum : Tables → ℕ → PortList → ℕ
configure_sum T id l = length (remaining T id) + length (listed l)

abbrev pub configure_tests : Sizes → Tables → ℕ → PortList → Tests
configure_tests S T id l =
    configurable_tests T id l ++ ((ltb S.declarations (configure_sum T id l), Error.Capacity) ∷ (not (distinct (listed l)), Error.Conflict) ∷ [])

-- what remains, then the list in order
abbrev pub dependencies_configured : Tables → ℕ → PortList → Tables
dependencies_configured T id l = with_declarations T (remaining T id ++ map (dependency id) (listed l))
