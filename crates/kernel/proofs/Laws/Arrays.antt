-- The tables of a kernel value read off its arrays, as its observers and the rows of its commands ask them.
use Rattle.model.proofs.Logic.{◌<◌, ◌≡◌, ◌≤◌, ap, get_or, length, map, refl, sym, take, true, ℕ}
use Rattle.kernel.specs.{Fields.is_sound, Fields.layout_of, Ports.BlankPast, declared.Kernel.Kernel}
use Rattle.layouts.proofs.{Laws.Sound.SoundKernel, Laws.Sound.declaration_count_is, Laws.Sound.declarations-laid, Laws.Sound.laid, Laws.Sound.link-count-is, Laws.Sound.node-count-is, Laws.Sound.node-is, Laws.Sound.node-past, Laws.Sound.places-are, Laws.Sound.present-below, Laws.Targets.resolve-found}
use Rattle.loops.specs.{Columns.flag}
use Rattle.model.specs.{Layouts.tables_of, Lists.places, Observers.children, Observers.ids, Records.blank_node, Records.is_child_of, Records.is_providing, Resolution.look_up, Resolution.resolve, Tables.node_at, Tables.present, declared.Port.Port, declared.Resolution.Resolution, declared.records.Node.Node}
use Rattle.sizes.specs.{Sizes.DECLARATIONS, Sizes.IDENTITIES, Sizes.LINKS, Sizes.sizes}

module _ (k : Kernel) where
  pub declarations_read : (tables_of (layout_of k)).declarations ≡ take k.declaration_count k.declarations
  unfolding tables_of
  declarations_read = refl

  pub links_read : (tables_of (layout_of k)).links ≡ take k.link_count k.links
  unfolding tables_of
  links_read = refl

  pub sound_kernel : is_sound k ≡ true → length k.nodes ≡ IDENTITIES → length k.declarations ≡ DECLARATIONS → length k.links ≡ LINKS → SoundKernel sizes (layout_of k)
  sound_kernel s n d l = record { sized = record { nodes = n; declarations = d; links = l }; sound = s }

module _ {k : Kernel} (K : SoundKernel sizes (layout_of k)) where
  pub nodes_within : k.node_count ≤ IDENTITIES
  nodes_within = (laid K).nodes

  pub declarations_within : k.declaration_count ≤ DECLARATIONS
  declarations_within = (laid K).declarations

  pub links_within : k.link_count ≤ LINKS
  links_within = (laid K).links

  pub nodes_counted : length (tables_of (layout_of k)).nodes ≡ k.node_count
  nodes_counted = node-count-is K

  pub declarations_counted : length (tables_of (layout_of k)).declarations ≡ k.declaration_count
  declarations_counted = declaration_count_is K

  pub links_counted : length (tables_of (layout_of k)).links ≡ k.link_count
  links_counted = link-count-is K

  pub declarations_blank : BlankPast k.declaration_count k.declarations
  unfolding tables_of
  declarations_blank = sym (declarations-laid K)

  pub below : (id : ℕ) → present (tables_of (layout_of k)).nodes id ≡ true → id < IDENTITIES
  below id h = present-below K id h

  -- the node of an identity, blank past the array
  pub node_inside : (id : ℕ) → node_at (tables_of (layout_of k)).nodes id ≡ get_or k.nodes id blank_node
  node_inside id = node-is K id

  pub node_past : (id : ℕ) → IDENTITIES ≤ id → node_at (tables_of (layout_of k)).nodes id ≡ blank_node
  node_past id q = node-past K id q

  -- the places of the nodes that are present, and of a parent's children
  pub present_places : places (λ b. b) 0 (map (λ (m : Node). m.present) k.nodes) ≡ ids (tables_of (layout_of k))
  present_places = places-are K (λ (m : Node). m.present) refl

  pub child_places : (id : ℕ) → places (λ b. b) 0 (map (is_child_of id) k.nodes) ≡ children (tables_of (layout_of k)) id
  child_places id = places-are K (is_child_of id) refl

  -- what a lookup finds, by what the nodes show
  pub resolve_found : (p : Port) → look_up (flag IDENTITIES (map (λ (m : Node). m.present) k.nodes)) (flag IDENTITIES (map is_providing k.nodes)) (tables_of (layout_of k)).declarations p ≡ resolve (tables_of (layout_of k)) p
  unfolding tables_of
  resolve_found p = ap (λ (f : Port → Resolution). f p) (resolve-found K)

-- what the checks of the entry test and of the observers are given
pub ruleset entry_laws = (sound_kernel, nodes_within, declarations_within, links_within, node_inside, node_past)

pub ruleset observer_laws = (sound_kernel, nodes_counted, declarations_counted, links_counted, present_places, child_places)
