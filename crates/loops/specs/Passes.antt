-- What one pass over a table asks of each record: its point of lib.rs's wf, and the points of what it stores.
use Rattle.std.specs.Prelude.{Bool, ◌&&◌, List, ℕ, length, ltb, true}
use Rattle.model.specs.declared.records.Declaration.{Declaration}
use Rattle.model.specs.declared.records.Link.{Link}
use Rattle.model.specs.declared.records.Node.{Node}
use Rattle.model.specs.declared.Parent.{Parent}
use Rattle.model.specs.Lists.{◌⇒◌}
use Rattle.model.specs.Soundness.{absent_ok, dead_ok, episode_ok, link_ok, node_ok}
use Rattle.model.specs.Tables.{generation_at, installed, present, serving}

abbrev pub node_passes : List Node → ℕ → Node → Bool
node_passes ns id n = node_ok ns id n && absent_ok id n

-- a parent, of a present node or of an absent one: smaller, and a present node's is present
abbrev pub parent_passes : List Node → ℕ → Bool → Parent → Bool
parent_passes ns id here Parent.None = true
parent_passes ns id here (Parent.Of p) = ltb p id && (here ⇒ present ns p)

abbrev pub link_passes : List Node → List Declaration → Link → Bool
link_passes ns ds l = link_ok (installed ns) (serving ns) ds l && dead_ok (length ns) l && episode_ok (generation_at ns) l
