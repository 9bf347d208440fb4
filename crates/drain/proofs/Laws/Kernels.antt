-- A kernel's arrays and its drain: the columns of a sound one's nodes, the order found in them, how many pass a test; what drain and stop answer.
use Rattle.std.specs.Prelude.{Err, Ok}
use Rattle.model.proofs.Logic.{Bool, List, [], ◌*◌, ◌++◌, ◌+◌, ◌∙◌, ◌≡◌, ◌≤◌, ap, arith, false, length, length-append, length-map, length-take-le, map, refl, sym, take, true, ℕ}
use Rattle.kernel.specs.{Fields.is_sound, Fields.kernel_of, Fields.layout_of, declared.Kernel.Kernel}
use Rattle.layouts.proofs.{Laws.Sound.SoundKernel, Laws.Sound.declaration_count_is, Laws.Sound.declarations-laid, Laws.Sound.link-count-is, Laws.Sound.links-laid, Laws.Sound.node-count-is, Laws.Sound.nodes-laid}
use Rattle.loops.proofs.{Laws.Filled.map-padded, Laws.Flags.flag-entry, Laws.Flags.flag-nodes}
use Rattle.model.specs.{Drain.cleaned_in, Drain.cleanups, Drain.commands, Drain.count, Drain.drain, Drain.is_restoring, Drain.must_leave, Drain.preparation, Drain.results, Drain.step_of, Drain.stopped, Kernels.kernel_from, Layouts.lay_out, Layouts.tables_of, Lists.places, Records.blank_link, Records.blank_node, Records.dead_link, Records.is_blank_node, Records.is_serving, Records.restored_node, Soundness.sound, Tables.Tables, Tables.node_at, declared.Error.Error, declared.StepCommand.StepCommand, declared.records.Link.Link, declared.records.Node.Node}
use Rattle.model.proofs.{Laws.Arrays.places-map, Laws.Arrays.places-padded, Laws.Arrays.take-padded, Laws.Arrays.whole-array, Laws.Blanks.blank_node_lem, Laws.Lists.length-keep, Theorems.Drain.Sweep.length-places, Theorems.Drain.Whole.drain-bound, Theorems.Drain.Whole.drain-long, Theorems.Drain.Whole.preparation-long, Theorems.Kernels.asked-sound, Theorems.Kernels.asked-unsound, Theorems.Layouts.Laid, Theorems.Layouts.laid_of, Theorems.Layouts.tables-sound}
use Rattle.results.specs.{Results.identities, declared.Identities.Identities}
use Rattle.drain.proofs.{Laws.Steps.length-cleanups, Laws.Tables.order_is, Theorems.Stops.after_is}
use Rattle.drain.specs.{Drains.as_drain, Drains.drain_of, Drains.flags_of, Drains.stopped_of, Order.held, Order.order_of, Order.waits, declared.steps.Drain.Drain, declared.stopping.Flags.Flags}
use Rattle.sizes.specs.{Sizes.DECLARATIONS, Sizes.IDENTITIES, Sizes.LINKS, Sizes.STEPS, Sizes.sizes}

-- a kernel with nodes and links anew
abbrev pub kernel_with : Kernel → List Node → List Link → Kernel
kernel_with k ns ls =
    record { nodes = ns; node_count = k.node_count; declarations = k.declarations; declaration_count = k.declaration_count; links = ls; link_count = k.link_count }

-- the kernel with every node Inactive and every link dead
stopped-laid : {k : Kernel} (K : SoundKernel sizes (layout_of k)) → kernel_with k (map restored_node k.nodes) (map dead_link k.links) ≡ kernel_of (lay_out sizes (stopped (tables_of (layout_of k))))
unfolding lay_out
stopped-laid {k} K =
    let T = tables_of (layout_of k) in
    let nodes = ap (map restored_node) (sym (nodes-laid K)) ∙ map-padded restored_node blank_node refl IDENTITIES T.nodes in
    let node-count = sym (length-map T.nodes restored_node ∙ node-count-is K) in
    let links = ap (map dead_link) (sym (links-laid K)) ∙ map-padded dead_link blank_link refl LINKS T.links in
    let link-count = sym (length-map T.links dead_link ∙ link-count-is K) in
    let declarations = sym (declarations-laid K) in
    let declaration_count_lem = sym (declaration_count_is K) in
    λ i. record { nodes = nodes i; node_count = node-count i; declarations = declarations i; declaration_count = declaration_count_lem i; links = links i; link_count = link-count i }

-- ---- a sound kernel's nodes

abbrev tables : Kernel → Tables
tables k = tables_of (layout_of k)

module _ (k : Kernel) (h : is_sound k ≡ true) (n : length k.nodes ≡ IDENTITIES) where
  within : Laid sizes (layout_of k)
  within = laid_of sizes (layout_of k) h

  kernel-sound : sound sizes (tables k) ≡ true
  kernel-sound = tables-sound sizes (layout_of k) h

  nodes-counted : length (tables k).nodes ≡ k.node_count
  unfolding tables_of
  nodes-counted = length-take-le k.node_count k.nodes (omega (arith, within.nodes))

  -- the places where a column of the array holds are those of the tables' nodes that pass
  module _ (f : Node → Bool) (dark : f blank_node ≡ false) where
    column-places : places (λ b. b) 0 (map f k.nodes) ≡ places f 0 (tables k).nodes
    unfolding tables_of
    column-places =
        let whole = whole-array is_blank_node blank_node blank_node_lem IDENTITIES k.node_count k.nodes n within.nodes within.blank_nodes in
        places-map f 0 k.nodes ∙ ap (places f 0) (sym whole) ∙ places-padded f 0 IDENTITIES blank_node dark (take k.node_count k.nodes)

    column-length : held (map f k.nodes) ≡ count f (tables k)
    column-length = sym (length-places (λ b. b) 0 (map f k.nodes)) ∙ ap length column-places ∙ length-places f 0 (tables k).nodes

  column-waits : (i : ℕ) → waits (map is_serving k.nodes) i ≡ is_serving (node_at (tables k).nodes i)
  unfolding tables_of
  column-waits i =
      let flags = flag-nodes IDENTITIES is_serving refl k.nodes n k.node_count within.nodes within.blank_nodes in
      sym (flag-entry IDENTITIES (map is_serving k.nodes) (length-map k.nodes is_serving ∙ n) i) ∙ ap (λ (g : ℕ → Bool). g i) flags

  order-found : cleaned_in (results (tables k) (preparation (tables k))) ≡ order_of (map is_serving k.nodes) (tables k).links
  order-found = order_is sizes (tables k) (map is_serving k.nodes) kernel-sound column-waits (omega (arith, length-map k.nodes is_serving, nodes-counted, within.nodes)) (column-length is_serving refl)

  -- a list of identities that pass fits an array of identities
  count_fits : (f : Node → Bool) → count f (tables k) ≤ IDENTITIES
  count_fits f = omega (arith, length-keep f (tables k).nodes, nodes-counted, within.nodes)

-- ---- what the code answers

module _ (k : Kernel) {s : Bool} (e : s ≡ is_sound k) where
  -- the kernel is not sound
  module _ (t : s ≡ false) where
    pub drain_unsound : drain_of k ≡ Err Error.Damaged
    drain_unsound = asked-unsound sizes (layout_of k) (Err Error.Damaged) (λ T. Ok (as_drain (drain T))) (sym e ∙ t)

    pub stop_unsound : stopped_of k ≡ record { kernel = k; answer = Err Error.Damaged }
    unfolding kernel_from
    stop_unsound =
        let steps = asked-unsound sizes (layout_of k) [] drain (sym e ∙ t) in
        let answer = asked-unsound sizes (layout_of k) (Err Error.Damaged) (λ T. Ok (length (drain T))) (sym e ∙ t) in
        λ i. record { kernel = kernel_of (kernel_from sizes (layout_of k) (commands (steps i))); answer = answer i }

  module _ (t : s ≡ true) where
    -- the links below the count are in the array
    pub links_within : k.link_count ≤ LINKS
    links_within = (laid_of sizes (layout_of k) (sym e ∙ t)).links

    module _ (n : length k.nodes ≡ IDENTITIES) {fs : Flags} (f : fs ≡ flags_of k.nodes) where
      abbrev T : Tables
      T = tables k

      h : is_sound k ≡ true
      h = sym e ∙ t

      safe : sound sizes T ≡ true
      safe = kernel-sound k h n

      pub stop_done :
          {a b c : ℕ} {ns : List Node} {ls : List Link} → length k.declarations ≡ DECLARATIONS → length k.links ≡ LINKS → a ≡ held fs.leaving → b ≡ held fs.restoring → c ≡ held fs.serving →
          ns ≡ map restored_node k.nodes → ls ≡ map dead_link k.links → stopped_of k ≡ record { kernel = kernel_with k ns ls; answer = Ok (a + b + 2 * c) }
      stop_done {a} {b} {c} d m l r v g w =
          let K : SoundKernel sizes (layout_of k) = record { sized = record { nodes = n; declarations = d; links = m }; sound = h } in
          let leaving : a ≡ count must_leave T = l ∙ ap (λ (x : Flags). held x.leaving) f ∙ column-length k h n must_leave refl in
          let restoring : b ≡ count is_restoring T = r ∙ ap (λ (x : Flags). held x.restoring) f ∙ column-length k h n is_restoring refl in
          let serving : c ≡ count is_serving T = v ∙ ap (λ (x : Flags). held x.serving) f ∙ column-length k h n is_serving refl in
          let number : length (drain T) ≡ a + b + 2 * c = omega (arith, leaving, restoring, serving, drain-long sizes T safe) in
          let kernel = after_is k K.sized h ∙ sym (stopped-laid K) ∙ (λ i. kernel_with k (sym g i) (sym w i)) in
          let answer = asked-sound sizes (layout_of k) (Err Error.Damaged) (λ T. Ok (length (drain T))) h ∙ ap Ok number in
          λ i. record { kernel = kernel i; answer = answer i }

      module _ {ls rs cs : Identities} (l : ls ≡ identities (places (λ b. b) 0 fs.leaving)) (r : rs ≡ identities (places (λ b. b) 0 fs.restoring)) (o : cs ≡ identities (order_of fs.serving (take k.link_count k.links))) where
        abbrev leaving : List ℕ
        leaving = places must_leave 0 T.nodes

        abbrev restoring : List ℕ
        restoring = places is_restoring 0 T.nodes

        abbrev cleaned : List ℕ
        cleaned = cleaned_in (results T (preparation T))

        leaving-are : ls ≡ identities leaving
        leaving-are = l ∙ ap (λ (x : Flags). identities (places (λ b. b) 0 x.leaving)) f ∙ ap identities (column-places k h n must_leave refl)

        restoring-are : rs ≡ identities restoring
        restoring-are = r ∙ ap (λ (x : Flags). identities (places (λ b. b) 0 x.restoring)) f ∙ ap identities (column-places k h n is_restoring refl)

        cleaned-are : cs ≡ identities cleaned
        unfolding tables_of
        cleaned-are = o ∙ ap (λ (x : Flags). identities (order_of x.serving (take k.link_count k.links))) f ∙ ap identities (sym (order-found k h n))

        -- each list fits an array of identities, and the array of steps has room for all
        pub drain_fits : (ls.count ≤ IDENTITIES) × (rs.count ≤ IDENTITIES) × (cs.count ≤ IDENTITIES) × (ls.count + rs.count + 2 * cs.count ≤ STEPS)
        unfolding drain
        drain_fits =
            let a : ls.count ≡ count must_leave T = ap (λ (x : Identities). x.count) leaving-are ∙ length-places must_leave 0 T.nodes in
            let b : rs.count ≡ count is_restoring T = ap (λ (x : Identities). x.count) restoring-are ∙ length-places is_restoring 0 T.nodes in
            let c : cs.count ≡ length cleaned = ap (λ (x : Identities). x.count) cleaned-are in
            let whole : length (drain T) ≡ count must_leave T + count is_restoring T + 2 * length cleaned =
            omega (arith, preparation-long sizes T, length-append (preparation T) (cleanups cleaned), length-cleanups cleaned) in
            let long = drain-long sizes T safe in (
              omega (arith, a, count_fits k h n must_leave),
              omega (arith, b, count_fits k h n is_restoring),
              omega (arith, c, whole, long, count_fits k h n is_serving),
              omega (arith, a, b, c, whole, drain-bound sizes T safe),
            )

        -- the steps, the lists behind each other
        pub drain_done :
            {d : Drain} → d ≡ as_drain ((([] ++ map (step_of StepCommand.Leave) (take ls.count ls.ids)) ++ map (step_of StepCommand.FinishCleanup) (take rs.count rs.ids)) ++ cleanups (take cs.count cs.ids)) →
            drain_of k ≡ Ok d
        unfolding drain
        drain_done g =
            let a : take ls.count ls.ids ≡ leaving = ap (λ (x : Identities). take x.count x.ids) leaving-are ∙ take-padded IDENTITIES 0 leaving in
            let b : take rs.count rs.ids ≡ restoring = ap (λ (x : Identities). take x.count x.ids) restoring-are ∙ take-padded IDENTITIES 0 restoring in
            let c : take cs.count cs.ids ≡ cleaned = ap (λ (x : Identities). take x.count x.ids) cleaned-are ∙ take-padded IDENTITIES 0 cleaned in
            asked-sound sizes (layout_of k) (Err Error.Damaged) (λ T. Ok (as_drain (drain T))) h ∙ ap Ok (sym (rw (a, b, c) at g))
