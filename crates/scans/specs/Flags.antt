-- What the scans read off the nodes, and the tables that update_node asks.
use Rattle.std.specs.Prelude.{List, [], map}
use Rattle.model.specs.declared.records.Link.{Link}
use Rattle.model.specs.declared.records.Node.{Node}
use Rattle.scans.specs.declared.NodeFlags.{NodeFlags}
use Rattle.model.specs.Records.{is_providing}
use Rattle.model.specs.Tables.{Tables}

-- which nodes are present, and which are present and Active
abbrev pub flags_of : List Node → NodeFlags
flags_of ns = record { present = map (λ n. n.present) ns; providing = map is_providing ns }

-- the tables that update_node reads; it asks nothing of declarations
abbrev pub nodes_and_links : List Node → List Link → Tables
nodes_and_links ns ls = record { nodes = ns; declarations = []; links = ls }
