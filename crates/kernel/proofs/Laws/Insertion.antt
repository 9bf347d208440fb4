-- What check_insert asks of the arrays, by its command's row.
use Rattle.model.proofs.Logic.{ℕ, none, false, ◌≤◌, ◌<◌, ◌+◌, ◌∙◌, ap, set, List, Bool, [], ◌≡◌, length, map, refl, sym, take, true}
use Rattle.kernel.specs.{Fields.layout_of, Ports.BlankPast, Ports.appended, Ports.clash, declared.Kernel.Kernel}
use Rattle.layouts.proofs.{Laws.Sound.SoundKernel, Laws.Declarations.Insertable, Laws.Declarations.clashes-are, Laws.Declarations.inserted-laid, Laws.Declarations.insertable, Laws.Declarations.length-listed, Laws.Declarations.more-padded}
use Rattle.kernel.proofs.{Laws.Arrays.declarations_blank, Laws.Arrays.declarations_read, Laws.Arrays.declarations_within, Laws.Arrays.nodes_counted, Laws.Arrays.sound_kernel, Laws.Stored.stored-parent-is}
use Rattle.model.proofs.{Laws.Refusals.passed}
use Rattle.loops.specs.{Columns.flag}
use Rattle.model.specs.{Refusals.first, Insertion.insert_tests, Insertion.inserted, Layouts.lay_out, Records.byte_parent, Records.new_node, declared.records.Declaration.Declaration, Insertion.clashes, Insertion.parent_present, Insertion.parent_retired, Interface.listed, Layouts.tables_of, Sizes.list_limit, declared.Parent.Parent, declared.PortList.PortList, declared.records.Node.Node}
use Rattle.scans.specs.{Flags.nodes_and_links}
use Rattle.sizes.specs.{Sizes.DECLARATIONS, Sizes.IDENTITIES, Sizes.sizes}

module _ (k : Kernel) where
  pub here_too : (q : Parent) → parent_present (nodes_and_links (take k.node_count k.nodes) []) q ≡ parent_present (tables_of (layout_of k)) q
  unfolding parent_present tables_of
  here_too Parent.None = refl
  here_too (Parent.Of p) = refl

  pub retired_too : (q : Parent) → parent_retired (nodes_and_links (take k.node_count k.nodes) []) q ≡ parent_retired (tables_of (layout_of k)) q
  unfolding parent_retired tables_of
  retired_too Parent.None = refl
  retired_too (Parent.Of p) = refl

pub clash_is :
    {k : Kernel} → SoundKernel sizes (layout_of k) → (fs : List Bool) (ds ps : PortList) → fs ≡ map (λ (m : Node). m.present) k.nodes →
    clash (flag IDENTITIES fs) (take k.declaration_count k.declarations) (listed ds) (listed ps) ≡ clashes (tables_of (layout_of k)) ds ps
unfolding clash
clash_is K fs ds ps f = sym (clashes-are K f ds ps refl refl)

-- ---- one component more

module _ {k : Kernel} (K : SoundKernel sizes (layout_of k)) (q : Parent) (ds ps : PortList) (n : length ds.ports ≡ list_limit) (m : length ps.ports ≡ list_limit) (p : first (insert_tests sizes (tables_of (layout_of k)) q ds ps) ≡ none) where
  room : Insertable sizes (layout_of k) q ds ps
  room = insertable K q n m (passed _ p)

  pub dependencies_short : ds.count ≤ list_limit
  dependencies_short = room.short.0.within

  pub provisions_short : ps.count ≤ list_limit
  provisions_short = room.short.1.within

  pub identity_free : k.node_count < IDENTITIES
  identity_free = room.node

  pub sum_within : k.declaration_count + ds.count + ps.count ≤ DECLARATIONS
  sum_within = room.sum

  -- whoever the owner is
  pub more_blank : (o : ℕ) {more : List Declaration} → more ≡ appended k.declaration_count o false k.declarations (listed ds) → BlankPast (k.declaration_count + length (listed ds)) more
  more_blank o e = let i = length-listed room.short.0 in rw i (more-padded K room.short o e)

  module _ {more : List Declaration} (e : more ≡ appended k.declaration_count k.node_count false k.declarations (listed ds)) where
    pub inserted_leaves :
        {most : List Declaration} → most ≡ appended (k.declaration_count + length (listed ds)) k.node_count true more (listed ps) → {x : Node} → x ≡ new_node (byte_parent q) →
        lay_out sizes (inserted (tables_of (layout_of k)) q ds ps)
        ≡ layout_of (record { nodes = set k.nodes k.node_count x; node_count = k.node_count + 1; declarations = most; declaration_count = k.declaration_count + length (listed ds) + length (listed ps); links = k.links; link_count = k.link_count })
    inserted_leaves f w =
        let i = length-listed room.short.0 in
        let j = length-listed room.short.1 in
        rw (i, j) (inserted-laid K room.short k.node_count e (rw i at f) refl room.node q (w ∙ ap new_node (stored-parent-is q room.parent)))

-- ---- what each function cites

pub ruleset check_insert_laws = (sound_kernel, nodes_counted, declarations_read, declarations_within, clash_is, here_too, retired_too)

pub ruleset insert_laws = (sound_kernel, nodes_counted, declarations_blank, dependencies_short, provisions_short, identity_free, sum_within, more_blank, inserted_leaves)
