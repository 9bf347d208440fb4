-- One record or one enum: tests on it, its blank value, and a node written anew for each transition.
-- Only this file and the laws about it (Laws/Records, Laws/Blanks) name the fields of Node, Declaration and Link, or make one; other files use the
-- readers and makers here, and name only fields that are a yes/no, a phase or a generation.
use Rattle.std.specs.Prelude.{Bool, ◌&&◌, ◌||◌, cond, false, not, true, List, [], ◌∷◌, ℕ, eqb, ltb}
use Rattle.model.specs.declared.Binding.{Binding}
use Rattle.model.specs.declared.records.Declaration.{Declaration}
use Rattle.model.specs.declared.records.Link.{Link}
use Rattle.model.specs.declared.records.Node.{Node}
use Rattle.model.specs.declared.records.StoredParent.{StoredParent}
use Rattle.model.specs.declared.Parent.{Parent}
use Rattle.model.specs.declared.Phase.{Phase}
use Rattle.model.specs.declared.Port.{Port}
use Rattle.model.specs.Lists.{◌⇒◌, conj}

-- ---- phases

abbrev pub is_inactive : Phase → Bool
is_inactive Phase.Inactive = true
is_inactive Phase.Loading = false
is_inactive Phase.Active = false
is_inactive Phase.Unloading = false

abbrev pub is_loading : Phase → Bool
is_loading Phase.Inactive = false
is_loading Phase.Loading = true
is_loading Phase.Active = false
is_loading Phase.Unloading = false

abbrev pub is_active : Phase → Bool
is_active Phase.Inactive = false
is_active Phase.Loading = false
is_active Phase.Active = true
is_active Phase.Unloading = false

abbrev pub is_unloading : Phase → Bool
is_unloading Phase.Inactive = false
is_unloading Phase.Loading = false
is_unloading Phase.Active = false
is_unloading Phase.Unloading = true

-- Loading or Active
abbrev pub is_running : Phase → Bool
is_running f = is_loading f || is_active f

-- ---- parents

abbrev pub no_parent : Parent → Bool
no_parent Parent.None = true
no_parent (Parent.Of p) = false

abbrev pub has_parent : ℕ → Parent → Bool
has_parent id Parent.None = false
has_parent id (Parent.Of p) = eqb p id

-- ---- ports and bindings, as callers see them

abbrev pub same_port : Port → Port → Bool
same_port p q = eqb p.key q.key && eqb p.realm q.realm

abbrev pub port_of : Binding → Port
port_of b = record { key = b.key; realm = b.realm }

abbrev pub binding_of : Port → ℕ → Binding
binding_of p o = record { key = p.key; realm = p.realm; provider = o }

abbrev pub blank_port : Port
blank_port = record { key = 0; realm = 0 }

abbrev pub blank_binding : Binding
blank_binding = record { key = 0; realm = 0; provider = 0 }

-- ---- identities in one byte

-- below 256 the identity itself; any other number becomes 255. A kernel of these sizes issues neither
abbrev pub byte_of : ℕ → ℕ
byte_of id = cond (ltb id 256) id 255

abbrev pub byte_parent : Parent → Parent
byte_parent Parent.None = Parent.None
byte_parent (Parent.Of p) = Parent.Of (byte_of p)

abbrev pub byte_binding : Binding → Binding
byte_binding b = binding_of (port_of b) (byte_of b.provider)

-- ---- the stored records, read

-- a parent as a node stores it, and as callers see it
abbrev pub stored_parent : Parent → StoredParent
stored_parent Parent.None = StoredParent.None
stored_parent (Parent.Of p) = StoredParent.Of p

abbrev pub given_parent : StoredParent → Parent
given_parent StoredParent.None = Parent.None
given_parent (StoredParent.Of p) = Parent.Of p

abbrev pub parent_in : Node → Parent
parent_in n = given_parent n.parent

abbrev pub owner_in : Declaration → ℕ
owner_in d = d.owner

abbrev pub declared_port : Declaration → Port
declared_port d = d.port

abbrev pub consumer_in : Link → ℕ
consumer_in l = l.consumer

abbrev pub provider_in : Link → ℕ
provider_in l = l.provider

abbrev pub port_in : Link → Port
port_in l = record { key = l.key; realm = l.realm }

abbrev pub binding_in : Link → Binding
binding_in l = binding_of (port_in l) (provider_in l)

abbrev pub is_live : Link → Bool
is_live l = l.live

-- ---- the stored records, made

-- present or not, retired or not, not restoring
abbrev pub node_of : Bool → Bool → Phase → Parent → ℕ → Node
node_of present retired f p g = record { present = present; retired = retired; phase = f; restoring = false; parent = stored_parent p; generation = g }

abbrev pub new_node : Parent → Node
new_node p = node_of true false Phase.Inactive p 0

-- a provision or a dependency
abbrev pub declaration_of : ℕ → Bool → Port → Declaration
declaration_of o provides p = record { port = p; owner = o; provides = provides }

abbrev pub dependency : ℕ → Port → Declaration
dependency o p = declaration_of o false p

abbrev pub provision : ℕ → Port → Declaration
provision o p = declaration_of o true p

-- a live link or a dead one, with the generation that its provider had when the consumer began
abbrev pub link_of : ℕ → Binding → ℕ → Bool → Link
link_of id b g live = record { key = b.key; realm = b.realm; generation = g; consumer = id; provider = b.provider; live = live }

abbrev pub live_link : ℕ → Binding → ℕ → Link
live_link id b g = link_of id b g true

-- a link of this consumer becomes dead, and keeps its generation; another stays
abbrev pub dead_for : ℕ → Link → Link
dead_for id l = link_of (consumer_in l) (binding_in l) l.generation (l.live && not (eqb (consumer_in l) id))

abbrev pub dead_link : Link → Link
dead_link l = link_of (consumer_in l) (binding_in l) l.generation false

-- ---- nodes written anew

abbrev pub with_phase : Phase → Node → Node
with_phase f n = record { present = n.present; retired = n.retired; phase = f; restoring = n.restoring; parent = n.parent; generation = n.generation }

-- Loading, in this generation
abbrev pub started_node : ℕ → Node → Node
started_node g n = record { present = n.present; retired = n.retired; phase = Phase.Loading; restoring = n.restoring; parent = n.parent; generation = g }

abbrev pub retired_node : Node → Node
retired_node n = record { present = n.present; retired = true; phase = n.phase; restoring = n.restoring; parent = n.parent; generation = n.generation }

abbrev pub restoring_node : Node → Node
restoring_node n = record { present = n.present; retired = n.retired; phase = n.phase; restoring = true; parent = n.parent; generation = n.generation }

-- Inactive and not restoring
abbrev pub restored_node : Node → Node
restored_node n = record { present = n.present; retired = n.retired; phase = Phase.Inactive; restoring = false; parent = n.parent; generation = n.generation }

abbrev pub absent_node : Node → Node
absent_node n = record { present = false; retired = n.retired; phase = n.phase; restoring = n.restoring; parent = n.parent; generation = n.generation }

-- ---- blank records: every number 0, every yes/no no, phase Inactive, no parent

abbrev pub blank_node : Node
blank_node = node_of false false Phase.Inactive Parent.None 0

abbrev pub blank_declaration : Declaration
blank_declaration = declaration_of 0 false blank_port

abbrev pub blank_link : Link
blank_link = link_of 0 blank_binding 0 false

abbrev pub blank_node_tests : Node → List Bool
blank_node_tests n = not n.present ∷ not n.retired ∷ is_inactive n.phase ∷ not n.restoring ∷ no_parent (parent_in n) ∷ eqb n.generation 0 ∷ []

abbrev pub is_blank_node : Node → Bool
is_blank_node n = conj (blank_node_tests n)

abbrev pub blank_declaration_tests : Declaration → List Bool
blank_declaration_tests d = eqb d.owner 0 ∷ eqb d.port.key 0 ∷ eqb d.port.realm 0 ∷ not d.provides ∷ []

abbrev pub is_blank_declaration : Declaration → Bool
is_blank_declaration d = conj (blank_declaration_tests d)

abbrev pub blank_link_tests : Link → List Bool
blank_link_tests l = eqb l.key 0 ∷ eqb l.realm 0 ∷ eqb l.generation 0 ∷ eqb l.consumer 0 ∷ eqb l.provider 0 ∷ not l.live ∷ []

abbrev pub is_blank_link : Link → Bool
is_blank_link l = conj (blank_link_tests l)

-- ---- tests on a node

-- never begun: Inactive with generation 0
abbrev pub is_pending : Node → Bool
is_pending n = is_inactive n.phase && eqb n.generation 0

-- present and not Inactive
abbrev pub is_installed : Node → Bool
is_installed n = n.present && not (is_inactive n.phase)

-- installed and not restoring: it may be a live link's provider
abbrev pub is_serving : Node → Bool
is_serving n = is_installed n && not n.restoring

-- present and Active: resolve may find it
abbrev pub is_providing : Node → Bool
is_providing n = n.present && is_active n.phase

-- an absent node is Inactive and not restoring; a restoring node is present and Unloading
abbrev pub consistency_tests : Node → List Bool
consistency_tests n = (not n.present ⇒ is_inactive n.phase) ∷ (not n.present ⇒ not n.restoring) ∷ (n.restoring ⇒ n.present) ∷ (n.restoring ⇒ is_unloading n.phase) ∷ []

abbrev pub is_consistent : Node → Bool
is_consistent n = conj (consistency_tests n)

-- present, and a child of this identity
abbrev pub is_child_of : ℕ → Node → Bool
is_child_of id n = n.present && has_parent id (parent_in n)
