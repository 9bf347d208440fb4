-- The bytes of a log: how many operands a command has, a number of several bytes, a parent, a port; and the number of a phase.
use Rattle.std.specs.Prelude.{ℕ, zero, suc, ◌+◌, ◌*◌, cond, List, [], ◌∷◌, ◌==◌, slice_index}
use Rattle.model.specs.declared.Parent.{Parent}
use Rattle.model.specs.declared.Phase.{Phase}
use Rattle.model.specs.declared.Port.{Port}

-- so many bytes of a log are played, the rest is ignored
abbrev pub log_limit : ℕ
log_limit = 65536

-- how many bytes of operands follow each command byte, from 01 to 10
abbrev pub lengths : List ℕ
lengths = 16 ∷ 16 ∷ 1 ∷ 1 ∷ 1 ∷ 1 ∷ 1 ∷ 1 ∷ 1 ∷ 1 ∷ 1 ∷ 0 ∷ 0 ∷ 17 ∷ 17 ∷ 1 ∷ []

-- of any byte: 0 outside 01 to 10
unfoldable pub operand_length : ℕ → ℕ
operand_length byte = slice_index (0 ∷ lengths) byte

-- FF is no parent, any other byte an identity
abbrev pub parent_of : ℕ → Parent
parent_of byte = cond (byte == 255) Parent.None (Parent.Of byte)

-- n bytes from this place, the least first; a byte past the end is 0
unfoldable pub number_at : List ℕ → ℕ → ℕ → ℕ
number_at bytes place zero = 0
number_at bytes place (suc n) = slice_index bytes place + 256 * number_at bytes (suc place) n

-- eight bytes of key, then eight of realm
abbrev pub port_at : List ℕ → ℕ → Port
port_at bytes place = record { key = number_at bytes place 8; realm = number_at bytes (place + 8) 8 }

-- a phase as a record has it
abbrev pub phase_number : Phase → ℕ
phase_number Phase.Inactive = 0
phase_number Phase.Loading = 1
phase_number Phase.Active = 2
phase_number Phase.Unloading = 3
