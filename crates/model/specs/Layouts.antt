-- A kernel's tables laid out in arrays, with counts and blanks, over the sizes: read back, and laid out again.
use Rattle.std.specs.Prelude.{◌≡◌, Bool, ◌&&◌, List, [], ◌∷◌, ℕ, leb, drop, length, take}
use Rattle.model.specs.declared.records.Declaration.{Declaration}
use Rattle.model.specs.declared.records.Link.{Link}
use Rattle.model.specs.declared.records.Node.{Node}
use Rattle.model.specs.Lists.{all, conj, padded}
use Rattle.model.specs.Records.{blank_declaration, blank_link, blank_node, is_blank_declaration, is_blank_link, is_blank_node}
use Rattle.model.specs.Sizes.{Sizes}
use Rattle.model.specs.Soundness.{every_point}
use Rattle.model.specs.Tables.{Tables}

-- the six fields of a kernel
pub record Layout : Type 0 where
  pub nodes : List Node
  pub node_count : ℕ
  pub declarations : List Declaration
  pub declaration_count : ℕ
  pub links : List Link
  pub link_count : ℕ

-- the entries below the counts
unfoldable pub tables_of : Layout → Tables
tables_of k = record { nodes = take k.node_count k.nodes; declarations = take k.declaration_count k.declarations; links = take k.link_count k.links }

-- tables with their counts, and blanks past them
unfoldable pub lay_out : Sizes → Tables → Layout
lay_out S T = record {
  nodes = padded S.identities blank_node T.nodes;
  node_count = length T.nodes;
  declarations = padded S.declarations blank_declaration T.declarations;
  declaration_count = length T.declarations;
  links = padded S.links blank_link T.links;
  link_count = length T.links;
}

-- counts within the sizes, and entries past them blank
abbrev pub layout_tests : Sizes → Layout → List Bool
layout_tests S k =
    leb k.node_count S.identities
    ∷ leb k.declaration_count S.declarations
    ∷ leb k.link_count S.links
    ∷ all is_blank_node (drop k.node_count k.nodes)
    ∷ all is_blank_declaration (drop k.declaration_count k.declarations)
    ∷ all is_blank_link (drop k.link_count k.links)
    ∷ []

-- the rules' soundness of a kernel: counts, blanks and the nine points
unfoldable pub sound_kernel : Sizes → Layout → Bool
sound_kernel S k = conj (layout_tests S k) && every_point (tables_of k)

-- each array is as long as its size, which its type says of every kernel value
pub record Sized (S : Sizes) (k : Layout) : Type 0 where
  pub nodes : length k.nodes ≡ S.identities
  pub declarations : length k.declarations ≡ S.declarations
  pub links : length k.links ≡ S.links
