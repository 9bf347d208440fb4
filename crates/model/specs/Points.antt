-- Soundness as docs/RULES.md words it, over places: the nine points of the tables, and the counts and blanks of a kernel.
-- Theorems/Points.antt: they are the tests `every_point` and `sound_kernel`, and by them every stored identity was issued.
use Rattle.std.specs.Prelude.{◌≡◌, false, true, List, ◌<◌, ◌≤◌, ℕ, get_or, length}
use Rattle.model.specs.declared.records.Declaration.{Declaration}
use Rattle.model.specs.declared.records.Link.{Link}
use Rattle.model.specs.declared.records.Node.{Node}
use Rattle.model.specs.declared.Parent.{Parent}
use Rattle.model.specs.declared.Phase.{Phase}
use Rattle.model.specs.Layouts.{Layout, tables_of}
use Rattle.model.specs.Records.{blank_declaration, blank_link, blank_node, consumer_in, declared_port, dependency, owner_in, parent_in, port_in, provider_in, provision}
use Rattle.model.specs.Sizes.{Sizes}
use Rattle.model.specs.Tables.{Tables}

-- x stands at place i
abbrev pub At : {A : Type 0} → List A → ℕ → A → Type 0
At xs i x = (i < length xs) × (get_or xs i x ≡ x)

-- x stands somewhere
abbrev pub Among : {A : Type 0} → List A → A → Type 0
Among xs x = (i : ℕ) × At xs i x

abbrev pub Present : Tables → ℕ → Type 0
Present T id = (n : Node) × At T.nodes id n × (n.present ≡ true)

-- present and not Inactive
abbrev pub Installed : Tables → ℕ → Type 0
Installed T id = (n : Node) × At T.nodes id n × (n.present ≡ true) × (n.phase ≡ Phase.Inactive → ⊥)

abbrev pub Restoring : Tables → ℕ → Type 0
Restoring T id = (n : Node) × At T.nodes id n × (n.restoring ≡ true)

-- d stands at place i, a provision of a present owner
abbrev pub Offered : Tables → ℕ → Declaration → Type 0
Offered T i d = At T.declarations i d × (d.provides ≡ true) × Present T (owner_in d)

-- a live link of d's owner has d's port
abbrev pub Met : Tables → Declaration → Type 0
Met T d = (l : Link) × Among T.links l × (l.live ≡ true) × (consumer_in l ≡ owner_in d) × (port_in l ≡ declared_port d)

pub record Points (T : Tables) : Type 0 where
  -- every declaration's owner is below the node count
  pub owners : (i : ℕ) (d : Declaration) → At T.declarations i d → owner_in d < length T.nodes
  -- two provisions of one port by present owners have the same owner
  pub provisions : (i j : ℕ) (d e : Declaration) → Offered T i d → Offered T j e → declared_port d ≡ declared_port e → owner_in d ≡ owner_in e
  -- an absent node is Inactive and not restoring
  pub absent : (i : ℕ) (n : Node) → At T.nodes i n → n.present ≡ false → (n.phase ≡ Phase.Inactive) × (n.restoring ≡ false)
  -- a restoring node is present and Unloading
  pub restoring : (i : ℕ) (n : Node) → At T.nodes i n → n.restoring ≡ true → (n.present ≡ true) × (n.phase ≡ Phase.Unloading)
  -- a present node's parent, if any, is present and has a smaller identity
  pub parents : (i p : ℕ) (n : Node) → At T.nodes i n → n.present ≡ true → parent_in n ≡ Parent.Of p → Present T p × (p < i)
  -- a live link's consumer and provider are present and not Inactive
  pub ends : (i : ℕ) (l : Link) → At T.links i l → l.live ≡ true → Installed T (consumer_in l) × Installed T (provider_in l)
  -- its provider is not restoring
  pub providers : (i : ℕ) (l : Link) → At T.links i l → l.live ≡ true → Restoring T (provider_in l) → ⊥
  -- and both declared the port, as dependency and as provision
  pub declared : (i : ℕ) (l : Link) → At T.links i l → l.live ≡ true → Among T.declarations (dependency (consumer_in l) (port_in l)) × Among T.declarations (provision (provider_in l) (port_in l))
  -- where a live link's provider is a live link's consumer, the latter link stands strictly earlier
  pub order : (i j : ℕ) (l m : Link) → At T.links i l → At T.links j m → l.live ≡ true → m.live ≡ true → provider_in l ≡ consumer_in m → j < i
  -- each dependency of a present node that isn't Inactive has a live link of that consumer with that port
  pub covered : (i : ℕ) (d : Declaration) → At T.declarations i d → d.provides ≡ false → Installed T (owner_in d) → Met T d
  -- a dead link's consumer and provider are below the node count
  pub dead : (i : ℕ) (l : Link) → At T.links i l → l.live ≡ false → (consumer_in l < length T.nodes) × (provider_in l < length T.nodes)
  -- an absent node's parent, if any, is smaller than the node
  pub absent-parents : (i p : ℕ) (n : Node) → At T.nodes i n → n.present ≡ false → parent_in n ≡ Parent.Of p → p < i
  -- a live link's generation is its provider's
  pub episodes : (i : ℕ) (l : Link) (n : Node) → At T.links i l → l.live ≡ true → At T.nodes (provider_in l) n → l.generation ≡ n.generation

-- every identity that is stored was issued, and a node's parent before the node
pub record Issued (T : Tables) : Type 0 where
  pub owners : (i : ℕ) (d : Declaration) → At T.declarations i d → owner_in d < length T.nodes
  pub ends : (i : ℕ) (l : Link) → At T.links i l → (consumer_in l < length T.nodes) × (provider_in l < length T.nodes)
  pub parents : (i p : ℕ) (n : Node) → At T.nodes i n → parent_in n ≡ Parent.Of p → p < i

-- the tables are within the sizes
abbrev pub Within : Sizes → Tables → Type 0
Within S T = (length T.nodes ≤ S.identities) × (length T.declarations ≤ S.declarations) × (length T.links ≤ S.links)

-- past the count every entry is this blank
abbrev pub BlankPast : {A : Type 0} → A → ℕ → List A → Type 0
BlankPast {A} blank count xs = (i : ℕ) (x : A) → At xs i x → count ≤ i → x ≡ blank

-- a kernel: counts within the sizes, blanks past them, and the nine points of its tables
pub record KernelPoints (S : Sizes) (k : Layout) : Type 0 where
  pub nodes : k.node_count ≤ S.identities
  pub declarations : k.declaration_count ≤ S.declarations
  pub links : k.link_count ≤ S.links
  pub blank_nodes : BlankPast blank_node k.node_count k.nodes
  pub blank_declarations : BlankPast blank_declaration k.declaration_count k.declarations
  pub blank_links : BlankPast blank_link k.link_count k.links
  pub points : Points (tables_of k)
