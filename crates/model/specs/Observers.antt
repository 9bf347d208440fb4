-- The observers of sound tables, under their names in lib.rs.
use Rattle.std.specs.Prelude.{Bool, ◌&&◌, cond, false, true, List, ℕ, length}
use Rattle.std.proofs.Math.Option.{Option, map, none, some}
use Rattle.model.specs.declared.Phase.{Phase}
use Rattle.model.specs.declared.Port.{Port}
use Rattle.model.specs.declared.records.Link.{Link}
use Rattle.model.specs.Lists.{find, places}
use Rattle.model.specs.Records.{is_child_of}
use Rattle.model.specs.Soundness.{declares, links_to}
use Rattle.model.specs.Tables.{Tables, node_at, present}

abbrev pub contains : Tables → ℕ → Bool
contains T id = present T.nodes id

-- none for an absent node
abbrev pub phase : Tables → ℕ → Option Phase
phase T id = cond (present T.nodes id) (some (node_at T.nodes id).phase) none

abbrev pub retired : Tables → ℕ → Bool
retired T id = present T.nodes id && (node_at T.nodes id).retired

abbrev pub cleanup_started : Tables → ℕ → Bool
cleanup_started T id = present T.nodes id && (node_at T.nodes id).restoring

-- none for an absent node
abbrev pub episode_generation : Tables → ℕ → Option ℕ
episode_generation T id = cond (present T.nodes id) (some (node_at T.nodes id).generation) none

abbrev pub binding_records : Tables → ℕ
binding_records T = length T.links

abbrev pub identity_slots : Tables → ℕ
identity_slots T = length T.nodes

abbrev pub declaration_records : Tables → ℕ
declaration_records T = length T.declarations

-- the generation of the first live link of this consumer and port: the provider's at the consumer's begin
abbrev pub link_generation : List Link → ℕ → Port → Option ℕ
link_generation ls consumer p = map (λ l. l.generation) (find (links_to consumer p) ls)

-- the owner need not be present
abbrev pub dependency_declared : Tables → ℕ → Port → Bool
dependency_declared T owner p = declares T.declarations owner p false

-- the owner need not be present
abbrev pub provision_reserved : Tables → ℕ → Port → Bool
provision_reserved T owner p = declares T.declarations owner p true

-- the present identities, ascending
abbrev pub ids : Tables → List ℕ
ids T = places (λ n. n.present) 0 T.nodes

-- the present identities with this parent, ascending; the parent need not be present
abbrev pub children : Tables → ℕ → List ℕ
children T parent = places (is_child_of parent) 0 T.nodes
