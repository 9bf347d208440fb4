-- What is made of a line's operands. A record stores an identity in one byte: from 256 on the operand becomes 255.
use Rattle.std.specs.Prelude.{◌≡◌, ℕ, zero, suc, ◌+◌, ◌-◌, ◌%◌, ◌^◌, ◌<◌, ◌≤◌, Bool, cond, ◌==◌, slice_index_or}
use Rattle.model.specs.declared.Parent.{Parent}
use Rattle.model.specs.declared.Phase.{Phase}
use Rattle.model.specs.declared.Port.{Port}
use Rattle.model.specs.declared.PortList.{PortList}
use Rattle.model.specs.declared.records.Declaration.{Declaration}
use Rattle.model.specs.declared.records.Link.{Link}
use Rattle.model.specs.declared.records.Node.{Node}
use Rattle.model.specs.Records.{binding_of, blank_port, byte_of, byte_parent, declaration_of, link_of, parent_in}
use Rattle.model.specs.Sizes.{list_limit}
use Rattle.text.specs.Operands.{has_dash, operand}
use Rattle.text.specs.declared.words.Line.{Line}

-- an operand that is a yes/no: 1 for yes
abbrev pub is_yes : ℕ → Bool
is_yes n = n == 1

-- the phase of this place among the four, the last for any further place
abbrev pub phase_at : ℕ → Phase
phase_at n = cond (n == 0) Phase.Inactive (cond (n == 1) Phase.Loading (cond (n == 2) Phase.Active Phase.Unloading))

abbrev pub parent_of : Bool → ℕ → Parent
parent_of none id = cond none Parent.None (Parent.Of id)

abbrev pub port_for : ℕ → ℕ → Port
port_for key realm = record { key = key; realm = realm }

-- PLACE PRESENT RETIRED PHASE RESTORING PARENT GENERATION: every field of the node
pub record NodeFor (line : Line) (node : Node) : Type 0 where
  pub present : node.present ≡ is_yes (operand line 1)
  pub retired : node.retired ≡ is_yes (operand line 2)
  pub phase : node.phase ≡ phase_at (operand line 3)
  pub restoring : node.restoring ≡ is_yes (operand line 4)
  pub parent : parent_in node ≡ byte_parent (parent_of (has_dash line) (operand line 5))
  pub generation : node.generation ≡ operand line 6

-- PLACE OWNER KEY REALM PROVIDES
abbrev pub declaration_for : Line → Declaration
declaration_for line = declaration_of (byte_of (operand line 1)) (is_yes (operand line 4)) (port_for (operand line 2) (operand line 3))

-- PLACE CONSUMER KEY REALM PROVIDER LIVE GENERATION
abbrev pub link_for : Line → Link
link_for line = link_of (byte_of (operand line 1)) (binding_of (port_for (operand line 2) (operand line 3)) (byte_of (operand line 4))) (operand line 6) (is_yes (operand line 5))

-- a key, so many steps on; past the largest number it wraps
unfoldable pub stepped : ℕ → ℕ → ℕ → ℕ
stepped key step zero = key
stepped key step (suc n) = (stepped key step n + step) % 2 ^ 64

-- COUNT KEY REALM STEP: the ports below the list's count stay, from it on stand KEY/REALM and then keys further by STEP, past the new count too
pub record MorePorts (list : PortList) (count key realm step : ℕ) (r : PortList) : Type 0 where
  pub counted : r.count ≡ (list.count + count) % 2 ^ 64
  pub kept : (i : ℕ) → i < list.count → slice_index_or r.ports i blank_port ≡ slice_index_or list.ports i blank_port
  pub added : (i : ℕ) → list.count ≤ i → i < list_limit → slice_index_or r.ports i blank_port ≡ port_for (stepped key step (i - list.count)) realm
