-- A sound kernel's arrays and the list: what the column of its nodes and links tells of its tables, and what is answered of it.
use Rattle.std.specs.Prelude.{Err, Ok, Result}
use Rattle.model.proofs.Logic.{Bool, List, List·getD-eq-default, [], ◌<◌, ◌∙◌, ◌≡◌, ◌≤◌, ap, arith, dec_lt, false, get_or, length, length-take, map, min-le_left, not, refl, some, sym, take, true, ℕ}
use Rattle.kernel.specs.{Fields.is_sound, Fields.layout_of, declared.Kernel.Kernel}
use Rattle.layouts.proofs.{Laws.Nodes.node-refuses, Laws.Nodes.tested_array, Laws.Sound.SoundKernel, Laws.Sound.node-is, Laws.Sound.node-past, Laws.Sound.nodes-flagged}
use Rattle.loops.proofs.{Laws.Columns.length-rows, Laws.Columns.row_at}
use Rattle.loops.specs.{Columns.flag}
use Rattle.model.specs.{Impact.impact, Impact.is_provider, Impact.is_reliant, Impact.is_unserved, Impact.linked, Impact.refused_impact, Impact.reliant_tests, Layouts.tables_of, Lifecycle.leave_tests, Lists.conj, Lists.places, Records.is_providing, Refusals.Reply, Refusals.first, Tables.Tables, Tables.node_at, Tables.providing, Answers.Answer, Answers.checked, Lifecycle.running_tests, Records.blank_node, declared.Error.Error, declared.records.Link.Link, declared.records.Node.Node}
use Rattle.model.proofs.{Laws.Refusals.Passed, Laws.Refusals.stop, Theorems.Impact.Links.affected-column, Theorems.Impact.Rule.impact-done, Theorems.Impact.Rule.impact-refused, Theorems.Kernels.asked-sound, Theorems.Kernels.asked-unsound, Theorems.Layouts.laid_of, Theorems.Layouts.tables-sound}
use Rattle.results.specs.{Results.identities, declared.Identities.Identities}
use Rattle.scans.specs.{Flags.flags_of, declared.NodeFlags.NodeFlags}
use Rattle.impact.specs.{Affected.affected_of, Affected.answered, Uses.hit_of, Uses.uses_of, declared.links.Uses.Uses}
use Rattle.sizes.specs.{Sizes.DECLARATIONS, Sizes.IDENTITIES, Sizes.LINKS, Sizes.sizes}

module _ {k : Kernel} (K : SoundKernel sizes (layout_of k)) (id : ℕ) where
  abbrev T : Tables
  T = tables_of (layout_of k)

  abbrev ls : List Link
  ls = take k.link_count k.links

  -- the column that the code makes of the arrays
  abbrev pub column : List Bool
  column = hit_of k.nodes (uses_of (flag IDENTITIES (map is_providing k.nodes)) id ls)

  -- who is Active: told by the flags as by the tables
  active-are : flag IDENTITIES (map is_providing k.nodes) ≡ providing T.nodes
  active-are = nodes-flagged K is_providing refl

  -- an entry tells whether the identity relies on the leaving one; past the last nobody does
  column-tells : (j : ℕ) → get_or column j false ≡ is_reliant T id j
  unfolding is_reliant tables_of
  column-tells j = go (dec_lt j IDENTITIES)
    where
      go : Dec (j < IDENTITIES) → get_or column j false ≡ conj (reliant_tests (node_at T.nodes j) (linked (is_provider id) ls j) (linked (is_unserved (providing T.nodes)) ls j))
      go (yes l) =
          let node = sym (node-is K j) in
          let relying = row_at IDENTITIES j (linked (is_provider id) ls) false l in
          let unserved = row_at IDENTITIES j (linked (is_unserved (flag IDENTITIES (map is_providing k.nodes))) ls) false l ∙ ap (λ (f : ℕ → Bool). linked (is_unserved f) ls j) active-are in
          row_at IDENTITIES j _ false l ∙ (λ i. conj (reliant_tests (node i) (relying i) (unserved i)))
      go (no l) = List·getD-eq-default column false {n = j} (rw (length-rows 0 IDENTITIES) (omega arith)) ∙ sym (rw (node-past K j (omega arith)))

  -- leave does not refuse: the places of the column
  list_found : Passed (leave_tests T id) → affected_of k id ≡ Ok (identities (places (λ b. b) 0 column))
  list_found p =
      let list = affected-column sizes T (tables-sound sizes (layout_of k) K.sound) id p column column-tells in
      let found : impact T id ≡ record { reply = Reply.done; hit = places (λ b. b) 0 column } = impact-done T id p ∙ ap (λ (js : List ℕ). record { reply = Reply.done; hit = js }) list in
      ap answered (asked-sound sizes (layout_of k) (refused_impact Error.Damaged) (λ U. impact U id) K.sound ∙ found)

-- ---- what the code answers

module _ (k : Kernel) (id : ℕ) {s : Bool} (e : s ≡ is_sound k) where
  -- the kernel is not sound
  pub affected_unsound : s ≡ false → affected_of k id ≡ Err Error.Damaged
  affected_unsound t = ap answered (asked-unsound sizes (layout_of k) (refused_impact Error.Damaged) (λ T. impact T id) (sym e ∙ t))

  module _ (t : s ≡ true) where
    -- leave refuses
    list_refused : {x : Error} → first (leave_tests (tables_of (layout_of k)) id) ≡ some x → affected_of k id ≡ Err x
    list_refused {x} h = ap answered (asked-sound sizes (layout_of k) (refused_impact Error.Damaged) (λ T. impact T id) (sym e ∙ t) ∙ impact-refused (tables_of (layout_of k)) id x h)

    -- the links below the count are in the array
    pub links_within : k.link_count ≤ LINKS
    links_within = (laid_of sizes (layout_of k) (sym e ∙ t)).links

    pub affected_past : IDENTITIES ≤ id → affected_of k id ≡ Err Error.Unknown
    unfolding tables_of node_at
    affected_past l =
        let within = (laid_of sizes (layout_of k) (sym e ∙ t)).nodes in
        let past : node_at (take k.node_count k.nodes) id ≡ blank_node = List·getD-eq-default (take k.node_count k.nodes) blank_node {n = id} (rw (length-take k.node_count k.nodes) (omega (arith, min-le_left k.node_count (length k.nodes)))) in
        list_refused (stop _ _ _ (ap (λ (n : Node). not n.present) past))

    module _ (n : length k.nodes ≡ IDENTITIES) (d : length k.declarations ≡ DECLARATIONS) (m : length k.links ≡ LINKS) {a : Answer} (h : a ≡ checked (running_tests (get_or k.nodes id blank_node))) where
      abbrev K : SoundKernel sizes (layout_of k)
      K = record { sized = record { nodes = n; declarations = d; links = m }; sound = sym e ∙ t }

      pub affected_refused : {x : Error} {r : Result Identities Error} → a ≡ Err x → r ≡ Err x → affected_of k id ≡ r
      affected_refused o q = list_refused (node-refuses K id running_tests h [] o) ∙ sym q

      pub affected_found :
          {f : NodeFlags} {u : Uses} {hit : List Bool} {ids : Identities} → a ≡ Ok tt → f ≡ flags_of k.nodes → u ≡ uses_of (flag IDENTITIES f.providing) id (take k.link_count k.links) → hit ≡ hit_of k.nodes u →
          ids ≡ identities (places (λ b. b) 0 hit) → affected_of k id ≡ Ok ids
      affected_found o f u g i =
          let made = g ∙ ap (hit_of k.nodes) (u ∙ ap (λ (r : NodeFlags). uses_of (flag IDENTITIES r.providing) id (take k.link_count k.links)) f) in
          list_found K id (tested_array K id running_tests h o).tests ∙ ap Ok (sym (i ∙ ap (λ (col : List Bool). identities (places (λ b. b) 0 col)) made))
