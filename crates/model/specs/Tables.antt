-- The three tables of a kernel: its entries below the counts. All meaning is defined on them.
use Rattle.std.specs.Prelude.{Bool, not, List, [], ℕ, get_or, set}
use Rattle.model.specs.declared.records.Declaration.{Declaration}
use Rattle.model.specs.declared.records.Link.{Link}
use Rattle.model.specs.declared.records.Node.{Node}
use Rattle.model.specs.Records.{blank_node, is_inactive, is_installed, is_providing, is_serving}

pub record Tables : Type 0 where
  pub nodes : List Node
  pub declarations : List Declaration
  pub links : List Link

-- the tables of the empty kernel
abbrev pub empty : Tables
empty = record { nodes = []; declarations = []; links = [] }

-- the node of an identity; past the count the blank one, which is absent
unfoldable pub node_at : List Node → ℕ → Node
node_at ns id = get_or ns id blank_node

abbrev pub present : List Node → ℕ → Bool
present ns id = (node_at ns id).present

abbrev pub not_inactive : List Node → ℕ → Bool
not_inactive ns id = not (is_inactive (node_at ns id).phase)

abbrev pub installed : List Node → ℕ → Bool
installed ns id = is_installed (node_at ns id)

abbrev pub serving : List Node → ℕ → Bool
serving ns id = is_serving (node_at ns id)

abbrev pub providing : List Node → ℕ → Bool
providing ns id = is_providing (node_at ns id)

abbrev pub generation_at : List Node → ℕ → ℕ
generation_at ns id = (node_at ns id).generation

-- ---- the tables with one of them anew

abbrev pub with_nodes : Tables → List Node → Tables
with_nodes T ns = record { nodes = ns; declarations = T.declarations; links = T.links }

abbrev pub with_declarations : Tables → List Declaration → Tables
with_declarations T ds = record { nodes = T.nodes; declarations = ds; links = T.links }

abbrev pub with_links : Tables → List Link → Tables
with_links T ls = record { nodes = T.nodes; declarations = T.declarations; links = ls }

abbrev pub with_node : Tables → ℕ → Node → Tables
with_node T id n = with_nodes T (set T.nodes id n)
