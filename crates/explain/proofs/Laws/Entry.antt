-- Of a kernel that passed the entry test: its counts are within the sizes, and what target answers.
use Rattle.std.proofs.Common.{Ok, ap, arith, false, get_or, map, sym, take, true, ◌≡◌, ◌≤◌, ◌||◌, ℕ, Err, None, not}
use Rattle.explain.specs.{Explanations.explanation_of, Explanations.tables_in}
use Rattle.kernel.proofs.{Laws.Targets.bindings-are, Laws.Targets.there_is}
use Rattle.kernel.specs.{Fields.is_sound, Fields.layout_of, declared.Kernel.Kernel}
use Rattle.layouts.proofs.{Laws.Sound.SoundKernel, Laws.Sound.node-is, Laws.Targets.Held, Laws.Targets.target-most, Laws.Targets.target_found}
use Rattle.model.proofs.Logic.{List·getD-eq-default, length-take}
use Rattle.loops.specs.{Columns.flag}
use Rattle.model.proofs.{Laws.Lists.length-keep, Laws.Resolution.target_none, Theorems.Kernels.asked-sound, Theorems.Kernels.asked-unsound, Theorems.Layouts.laid_of}
use Rattle.model.specs.{Commands.Command, Explanation.damaged, Explanation.explained, Layouts.Sized, Layouts.tables_of, Records.blank_node, Records.is_providing, Resolution.bind_ports, Resolution.dependency_ports, Resolution.look_up, Resolution.target, Tables.node_at, declared.records.Node.Node}
use Rattle.results.specs.{Results.target_bindings, declared.TargetBindings.TargetBindings}
use Rattle.sizes.specs.{Sizes.DECLARATIONS, Sizes.IDENTITIES, Sizes.LINKS, Sizes.sizes}

module _ (k : Kernel) (h : is_sound k ≡ true) where
  pub nodes_within : k.node_count ≤ IDENTITIES
  nodes_within = (laid_of sizes (layout_of k) h).nodes

  pub declarations_within : k.declaration_count ≤ DECLARATIONS
  declarations_within = (laid_of sizes (layout_of k) h).declarations

  pub links_within : k.link_count ≤ LINKS
  links_within = (laid_of sizes (layout_of k) h).links

  -- past the table no node is
  pub node_past : (id : ℕ) → IDENTITIES ≤ id → node_at (tables_in k).nodes id ≡ blank_node
  unfolding tables_of node_at
  node_past id l = let n = nodes_within in List·getD-eq-default (take k.node_count k.nodes) blank_node {n = id} (omega (arith, length-take k.node_count k.nodes))

  -- an absent or retired component has no target
  pub untargeted : (id : ℕ) → let n = node_at (tables_in k).nodes id in not n.present || n.retired ≡ true → target_bindings (target (tables_in k) id) ≡ Err None
  untargeted id u = ap target_bindings (target_none (tables_in k) id u)

  module _ (z : Sized sizes (layout_of k)) (id : ℕ) where
    abbrev n : Node
    n = node_at (tables_in k).nodes id

    pub node_read : get_or k.nodes id blank_node ≡ node_at (tables_in k).nodes id
    node_read = let K : SoundKernel sizes (layout_of k) = record { sized = z; sound = h } in sym (node-is K id)

    -- that of another
    pub targeted : not n.present || n.retired ≡ false →
        bind_ports (look_up (flag IDENTITIES (map (λ m. m.present) k.nodes)) (flag IDENTITIES (map is_providing k.nodes)) (tables_in k).declarations) (dependency_ports (tables_in k).declarations id) ≡ target (tables_in k) id
    unfolding tables_of
    targeted u = let K : SoundKernel sizes (layout_of k) = record { sized = z; sound = h } in sym (target_found K id (rw (node-is K id) at u))

    -- no more bindings than declarations
    pub bindings_within : (b : TargetBindings) → Ok b ≡ target_bindings (target (tables_in k) id) → b.count ≤ DECLARATIONS
    bindings_within b e =
        let K : SoundKernel sizes (layout_of k) = record { sized = z; sound = h } in
        let t = target (tables_in k) id in
        let H : Held sizes (layout_of k) id true b.bindings b.count = record { kernel = K; is-there = there_is (Ok b) t e; bound = bindings-are b t e } in
        target-most H

pub ruleset within = (nodes_within, declarations_within, links_within)

pub ruleset targets = (targeted, untargeted, bindings_within)

-- no more declarations remain than there are
pub ruleset kept = (length-keep)

-- ---- past `if !kernel.sound()`

pub asks_damaged : (k : Kernel) (c : Command) → is_sound k ≡ false → damaged ≡ explanation_of k c
asks_damaged k c h = sym (asked-unsound sizes (layout_of k) damaged (λ T. explained sizes T c) h)

pub asks_explained : (k : Kernel) (c : Command) → is_sound k ≡ true → explained sizes (tables_in k) c ≡ explanation_of k c
asks_explained k c h = sym (asked-sound sizes (layout_of k) damaged (λ T. explained sizes T c) h)

pub ruleset asked = (asks_damaged, asks_explained)
