-- What the arrays and counts of a sound kernel hold.
pub use Rattle.layouts.specs.Sound.{SoundKernel}
use Rattle.model.proofs.Logic.{Bool, List·getD-eq-default, ◌<◌, ◌∙◌, ◌≡◌, ◌≤◌, ap, arith, false, get_or, length, map, sym, take, true, ℕ}
use Rattle.model.specs.{Kernels.asked, Layouts.Layout, Layouts.lay_out, Layouts.tables_of, Lists.padded, Lists.places, Records.blank_declaration, Records.blank_link, Records.blank_node, Records.is_blank_node, Sizes.Sizes, Tables.Tables, Tables.node_at, Tables.present, declared.records.Node.Node}
use Rattle.loops.proofs.{Laws.Flags.flag-nodes}
use Rattle.loops.specs.{Columns.flag}
use Rattle.model.proofs.{Laws.Arrays.places-map, Laws.Arrays.places-padded, Laws.Arrays.whole-array, Laws.Blanks.blank_node_lem, Laws.Nodes.present-lt, Theorems.Kernels.asked-sound, Theorems.Layouts.Laid, Theorems.Layouts.declaration_count_lem, Theorems.Layouts.laid_of, Theorems.Layouts.laid_out, Theorems.Layouts.link-count, Theorems.Layouts.node-count, Theorems.Layouts.node-in-array}

module _ {S : Sizes} {k : Layout} (K : SoundKernel S k) where
  pub laid : Laid S k
  laid = laid_of S k K.sound

  pub ask-sound : {A : Type 0} (u : A) (f : Tables → A) → asked S k u f ≡ f (tables_of k)
  ask-sound u f = asked-sound S k u f K.sound

  -- ---- the counts

  pub node-count-is : length (tables_of k).nodes ≡ k.node_count
  node-count-is = node-count S k K.sized K.sound

  pub declaration_count_is : length (tables_of k).declarations ≡ k.declaration_count
  declaration_count_is = declaration_count_lem S k K.sized K.sound

  pub link-count-is : length (tables_of k).links ≡ k.link_count
  link-count-is = link-count S k K.sized K.sound

  -- ---- the arrays

  laid_again : lay_out S (tables_of k) ≡ k
  laid_again = laid_out S k K.sized K.sound

  pub nodes-laid : padded S.identities blank_node (tables_of k).nodes ≡ k.nodes
  unfolding lay_out
  nodes-laid = ap (λ (l : Layout). l.nodes) laid_again

  pub declarations-laid : padded S.declarations blank_declaration (tables_of k).declarations ≡ k.declarations
  unfolding lay_out
  declarations-laid = ap (λ (l : Layout). l.declarations) laid_again

  pub links-laid : padded S.links blank_link (tables_of k).links ≡ k.links
  unfolding lay_out
  links-laid = ap (λ (l : Layout). l.links) laid_again

  -- ---- the identity's node

  pub node-is : (id : ℕ) → node_at (tables_of k).nodes id ≡ get_or k.nodes id blank_node
  node-is id = node-in-array S k K.sized K.sound id

  -- past the array: blank
  pub node-past : (id : ℕ) → S.identities ≤ id → node_at (tables_of k).nodes id ≡ blank_node
  node-past id l = node-is id ∙ List·getD-eq-default k.nodes blank_node {n = id} (omega (arith, K.sized.nodes))

  -- what a test says of the array's node it says of the identity's
  pub node-has : {A : Type 0} (f : Node → A) {a : A} (id : ℕ) → f (get_or k.nodes id blank_node) ≡ a → f (node_at (tables_of k).nodes id) ≡ a
  node-has f id h = ap f (node-is id) ∙ h

  -- one that is present stands in the array
  pub present-below : (id : ℕ) → present (tables_of k).nodes id ≡ true → id < S.identities
  present-below id p = let l = laid.nodes in omega (arith, present-lt (tables_of k).nodes id p, node-count-is)

  -- ---- what a test says of each node

  pub nodes-flagged : (f : Node → Bool) → f blank_node ≡ false → flag S.identities (map f k.nodes) ≡ (λ id. f (node_at (tables_of k).nodes id))
  unfolding tables_of
  nodes-flagged f dark = flag-nodes S.identities f dark k.nodes K.sized.nodes k.node_count laid.nodes laid.blank_nodes

  -- places over the array are those over the nodes below the count
  pub places-are : (f : Node → Bool) → f blank_node ≡ false → places (λ b. b) 0 (map f k.nodes) ≡ places f 0 (tables_of k).nodes
  unfolding tables_of
  places-are f dark =
      let ns = whole-array is_blank_node blank_node blank_node_lem S.identities k.node_count k.nodes K.sized.nodes laid.nodes laid.blank_nodes in
      places-map f 0 k.nodes ∙ ap (places f 0) (sym ns) ∙ places-padded f 0 S.identities blank_node dark (take k.node_count k.nodes)
