-- update_node: not public. It writes one node anew if the tables allow it, and keeps soundness without point 6; points 7 to 9 of a new node of which `assumed` holds.
use Rattle.std.specs.Prelude.{Bool, ◌&&◌, ◌||◌, not, List, [], ◌++◌, ◌∷◌, ℕ, eqb}
use Rattle.model.specs.declared.Error.{Error}
use Rattle.model.specs.declared.records.Link.{Link}
use Rattle.model.specs.declared.records.Node.{Node}
use Rattle.model.specs.Lifecycle.{relies}
use Rattle.model.specs.Lists.{◌⇒◌, any}
use Rattle.model.specs.Records.{consumer_in, is_child_of, is_consistent, is_inactive, parent_in, provider_in}
use Rattle.model.specs.Refusals.{Tests}
use Rattle.model.specs.Soundness.{absent_ok, parent_ok}
use Rattle.model.specs.Tables.{Tables, generation_at, present}

-- absent or Inactive: not to be the consumer of a live link
abbrev pub idle : Node → Bool
idle n = not n.present || is_inactive n.phase

-- a live link that this node, written for this identity, would leave without a consumer or a provider
unfoldable pub blocks : ℕ → Node → Link → Bool
blocks id n l = l.live && (eqb (consumer_in l) id && idle n || eqb (provider_in l) id && (idle n || n.restoring))

-- of the nodes: 1 not present, 2 inconsistent new node, 1 parent, 8 a present child of a node that goes
abbrev pub update_node_tests : List Node → ℕ → Node → Tests
update_node_tests ns id n =
    (not (present ns id), Error.Unknown)
    ∷ (not (is_consistent n), Error.InvalidState)
    ∷ (n.present && not (parent_ok ns id (parent_in n)), Error.Unknown)
    ∷ (not n.present && any (is_child_of id) ns, Error.Children)
    ∷ []

-- then 7, a live link in the way
abbrev pub update_tests : Tables → ℕ → Node → Tests
update_tests T id n = update_node_tests T.nodes id n ++ ((any (blocks id n) T.links, Error.Relied) ∷ [])

-- what update_node may assume of its new node: point 8, and that a provider with a live link keeps its generation
abbrev pub assumed : Tables → ℕ → Node → Bool
assumed T id n = absent_ok id n && (any (relies id) T.links ⇒ eqb n.generation (generation_at T.nodes id))
