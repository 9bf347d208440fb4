-- Insertion: insert, and check_insert with the same tests.
use Rattle.std.specs.Prelude.{Bool, ◌||◌, false, not, true, List, [], ◌++◌, ◌∷◌, map, ◌+◌, ℕ, leb, ltb, length}
use Rattle.model.specs.declared.records.Declaration.{Declaration}
use Rattle.model.specs.declared.Error.{Error}
use Rattle.model.specs.declared.Parent.{Parent}
use Rattle.model.specs.declared.PortList.{PortList}
use Rattle.model.specs.Interface.{distinct, listed, taken, too_long}
use Rattle.model.specs.Lists.{any}
use Rattle.model.specs.Records.{dependency, new_node, provision}
use Rattle.model.specs.Refusals.{Reply, Tests, first, or_else}
use Rattle.model.specs.Sizes.{Sizes}
use Rattle.model.specs.Tables.{Tables, node_at, present}

-- a parent, if any, is present
unfoldable pub parent_present : Tables → Parent → Bool
parent_present T Parent.None = true
parent_present T (Parent.Of p) = present T.nodes p

-- there is a parent, and its node is marked retired, in whatever phase; a removed one still is, and is refused as absent before
unfoldable pub parent_retired : Tables → Parent → Bool
parent_retired T Parent.None = false
parent_retired T (Parent.Of p) = (node_at T.nodes p).retired

-- a list repeats a port, or a present owner provides a listed provision
abbrev pub clashes : Tables → PortList → PortList → Bool
clashes T ds ps = not (distinct (listed ds)) || not (distinct (listed ps)) || any (taken T) (listed ps)

-- every declaration, and both lists
abbrev pub insert_sum : Tables → PortList → PortList → ℕ
insert_sum T ds ps = length T.declarations + length (listed ds) + length (listed ps)

abbrev pub insert_tests : Sizes → Tables → Parent → PortList → PortList → Tests
insert_tests S T q ds ps =
    (too_long ds || too_long ps, Error.Capacity)
    ∷ (leb S.identities (length T.nodes), Error.Capacity)
    ∷ (not (parent_present T q), Error.Unknown)
    ∷ (parent_retired T q, Error.Retired)
    ∷ (clashes T ds ps, Error.Conflict)
    ∷ (ltb S.declarations (insert_sum T ds ps), Error.Capacity)
    ∷ []

-- the new node's declarations: dependencies, then provisions
abbrev pub new_declarations : ℕ → PortList → PortList → List Declaration
new_declarations id ds ps = map (dependency id) (listed ds) ++ map (provision id) (listed ps)

-- the identity is the node count
abbrev pub inserted : Tables → Parent → PortList → PortList → Tables
inserted T q ds ps = record { nodes = T.nodes ++ (new_node q ∷ []); declarations = T.declarations ++ new_declarations (length T.nodes) ds ps; links = T.links }

unfoldable pub check_insert : Sizes → Tables → Parent → PortList → PortList → Reply
check_insert S T q ds ps = or_else (first (insert_tests S T q ds ps)) Reply.done
