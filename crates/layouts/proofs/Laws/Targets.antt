-- The target of a component of a sound kernel, as a scan of its arrays finds it.
use Rattle.model.proofs.Logic.{Bool, List, Option, ◌++◌, ◌+◌, ◌-◌, ◌<◌, ◌||◌, ◌∙◌, ◌≡◌, ◌≤◌, ◌⊎◌, ap, arith, cond, false, get_or, inl, inr, le-ltb, length, length-map, lt-ltb, ltb, map, none, not, or-true, refl, set, some, sym, take, true, ℕ}
use Rattle.model.specs.{Kernels.asked, Layouts.Layout, Layouts.lay_out, Layouts.sound_kernel, Layouts.tables_of, Lifecycle.begun, Lifecycle.begun_link, Lifecycle.begun_node, Lifecycle.bindings, Lists.is_none, Lists.keep, Lists.padded, Records.blank_binding, Records.blank_link, Records.blank_node, Records.is_providing, Records.live_link, Records.port_of, Resolution.Target, Resolution.bind_ports, Resolution.dependency_ports, Resolution.is_dependency_of, Resolution.look_up, Resolution.resolve, Resolution.target, Resolution.target_list, Sizes.Sizes, Tables.node_at, Tables.present, declared.Binding.Binding, declared.Port.Port, declared.Resolution.Resolution, declared.records.Link.Link, declared.records.Node.Node}
use Rattle.layouts.proofs.{Laws.Anew.Holds, Laws.Anew.holds_more, Laws.Anew.links-held, Laws.Anew.links_to, Laws.Anew.nodes_to, Laws.Nodes.node-and-links, Laws.Sound.SoundKernel, Laws.Sound.declaration_count_is, Laws.Sound.laid, Laws.Sound.link-count-is, Laws.Sound.node-has, Laws.Sound.node-is, Laws.Sound.nodes-flagged, Laws.Sound.present-below}
use Rattle.loops.specs.{Columns.flag}
use Rattle.model.proofs.{Laws.Arrays.get_d_padded, Laws.Arrays.length-padded, Laws.Arrays.take-padded, Laws.Booleans.cases, Laws.Lists.length-keep, Laws.Lists.place_in, Laws.Resolution.bound-ports, Laws.Resolution.target-bound, Laws.Resolution.target_none, Laws.Resolution.target-resolved, Laws.Resolution.targeted}

-- what looking up a port finds in the declarations below the count, by what the array's nodes show
abbrev pub looked_up : Sizes → Layout → Port → Resolution
looked_up S k = look_up (flag S.identities (map (λ n. n.present) k.nodes)) (flag S.identities (map is_providing k.nodes)) (take k.declaration_count k.declarations)

-- and each dependency below the count bound so
abbrev pub found : Sizes → Layout → ℕ → Target
found S k id = bind_ports (looked_up S k) (dependency_ports (take k.declaration_count k.declarations) id)

-- absent or retired: it has no target
abbrev pub is_untargeted : Node → Bool
is_untargeted n = not n.present || n.retired

-- of a sound kernel it is what resolve answers
pub resolve-found : {S : Sizes} {k : Layout} → SoundKernel S k → looked_up S k ≡ resolve (tables_of k)
unfolding tables_of
resolve-found {S} {k} K =
    let ds = take k.declaration_count k.declarations in
    ap (λ (F : ℕ → Bool). look_up F (flag S.identities (map is_providing k.nodes)) ds) (nodes-flagged K (λ n. n.present) refl)
    ∙ ap (λ (F : ℕ → Bool). look_up (present (tables_of k).nodes) F ds) (nodes-flagged K is_providing refl)

module _ {S : Sizes} {k : Layout} (K : SoundKernel S k) (id : ℕ) where
  abbrev node : Node
  node = get_or k.nodes id blank_node

  -- of a present component that is not retired it is the target
  pub target_found : is_untargeted node ≡ false → target (tables_of k) id ≡ found S k id
  unfolding tables_of
  target_found h =
      target-bound (tables_of k) id (node-has K is_untargeted id h)
      ∙ ap (λ (f : Port → Resolution). bind_ports f (dependency_ports (take k.declaration_count k.declarations) id)) (sym (resolve-found K))

  -- of a retired one there is none
  pub target-retired : node.retired ≡ true → target (tables_of k) id ≡ Target.nothing
  target-retired q = target_none (tables_of k) id (node-has K is_untargeted id (rw (q, or-true (not node.present))))

  -- whether a present one has none
  pub target-gone : node.present ≡ true → {there : Bool} → there ≡ not (is_none (target_list (found S k id))) → is_none (target_list (target (tables_of k) id)) ≡ node.retired || not there
  target-gone p {there} h = go (cases node.retired)
    where
      again : (b : Bool) → b ≡ not (not b)
      again true = refl
      again false = refl

      go : (node.retired ≡ true) ⊎ (node.retired ≡ false) → is_none (target_list (target (tables_of k) id)) ≡ node.retired || not there
      go (inl q) = rw (target-retired q, q)
      go (inr q) = ap (λ (t : Target). is_none (target_list t)) (target_found (rw (p, q))) ∙ rw (q, h) (again (is_none (target_list (found S k id))))

  -- no more bindings than declarations
  target-within : (o : Option (List Binding)) → target_list (target (tables_of k) id) ≡ o → length (bindings o) ≤ S.declarations
  unfolding dependency_ports
  target-within none h = omega arith
  target-within (some bs) h =
      let T = tables_of k in
      let kept = keep (is_dependency_of id) T.declarations in
      let c = declaration_count_is K in
      let w = (laid K).declarations in
      let b : length bs ≡ length kept = sym (length-map bs port_of) ∙ ap length (bound-ports _ _ bs (targeted T id bs h).is_bound) ∙ length-map kept (λ d. d.port) in
      omega (arith, b, c, w, length-keep (is_dependency_of id) T.declarations)

-- ---- of the node that a call looks up, blank where the kernel is not sound

module _ (S : Sizes) (k : Layout) (id : ℕ) where
  pub no_target : is_untargeted (asked S k blank_node (λ T. node_at T.nodes id)) ≡ true → Target.nothing ≡ asked S k Target.nothing (λ T. target T id)
  unfolding asked
  no_target h = go (sound_kernel S k) h
    where
      go : (b : Bool) → is_untargeted (cond b (node_at (tables_of k).nodes id) blank_node) ≡ true → Target.nothing ≡ cond b (target (tables_of k) id) Target.nothing
      go true q = sym (target_none (tables_of k) id q)
      go false q = refl

-- ---- a target in an array with its count, and a yes/no for "there is one"

pub record Held (S : Sizes) (k : Layout) (id : ℕ) (there : Bool) (array : List Binding) (count : ℕ) : Type 0 where
  pub kernel : SoundKernel S k
  pub is-there : there ≡ not (is_none (target_list (target (tables_of k) id)))
  pub bound : Holds S.declarations blank_binding (bindings (target_list (target (tables_of k) id))) array count

module _ {S : Sizes} {k : Layout} {id : ℕ} {there : Bool} {array : List Binding} {count : ℕ} (H : Held S k id there array count) where
  abbrev bs : List Binding
  bs = bindings (target_list (target (tables_of k) id))

  pub target-missing : is_none (target_list (target (tables_of k) id)) ≡ not there
  target-missing = go (is_none (target_list (target (tables_of k) id))) there H.is-there
    where
      go : (a b : Bool) → b ≡ not a → a ≡ not b
      go true b e = rw e
      go false b e = rw e

  pub target-most : count ≤ S.declarations
  target-most = rw (← H.bound.counted) (target-within H.kernel id (target_list (target (tables_of k) id)) refl)

  pub target-width : length array ≡ S.declarations
  target-width = rw (← H.bound.entries) (length-padded S.declarations blank_binding bs (target-within H.kernel id (target_list (target (tables_of k) id)) refl))

  -- a provider that it names stands in the nodes' array
  pub provider_below : (i : ℕ) → i < count → (get_or array i blank_binding).provider < S.identities
  provider_below i l =
      let T = tables_of k in
      rw (← H.bound.entries, get_d_padded S.declarations blank_binding bs i) (go (target_list (target T id)) refl (rw (← H.bound.counted) at l))
    where
      go : (o : Option (List Binding)) → target_list (target (tables_of k) id) ≡ o → i < length (bindings o) → (get_or (bindings o) i blank_binding).provider < S.identities
      go none e m = absurd (omega arith)
      go (some xs) e m = present-below H.kernel _ (target-resolved (tables_of k) id xs (targeted (tables_of k) id xs e) _ (place_in xs i blank_binding m)).there

  target-taken : take count array ≡ bs
  target-taken = rw (← H.bound.entries, ← H.bound.counted) (take-padded S.declarations blank_binding bs)

  -- ---- the space for its links

  pub space_none : S.links - k.link_count < count → ltb S.links (length (tables_of k).links + length bs) ≡ true
  space_none l = rw (link-count-is H.kernel, H.bound.counted) (lt-ltb S.links (k.link_count + count) (omega arith))

  pub space_some : count ≤ S.links - k.link_count → ltb S.links (length (tables_of k).links + length bs) ≡ false
  space_some l = rw (link-count-is H.kernel, H.bound.counted) (le-ltb S.links (k.link_count + count) (omega (arith, (laid H.kernel).links)))

  -- ---- the kernel that begin leaves

  -- the links that it appends, with the generations of the array's nodes
  abbrev fresh : List Binding → List Link
  fresh xs = map (begun_link k.nodes id) xs

  fresh-is : map (begun_link (tables_of k).nodes id) bs ≡ fresh bs
  unfolding node_at
  fresh-is = λ i. map (λ (b : Binding). live_link id b (node-is H.kernel b.provider i).generation) bs

  pub begun-laid :
      {n : Node} → n ≡ begun_node (get_or k.nodes id blank_node) → present (tables_of k).nodes id ≡ true →
      {ls : List Link} → ls ≡ padded S.links blank_link (take k.link_count k.links ++ fresh (take count array)) →
      lay_out S (begun (tables_of k) id) ≡ links_to (nodes_to k (set k.nodes id n) k.node_count) ls (k.link_count + count)
  begun-laid f p h =
      let written = h ∙ ap (λ (xs : List Binding). padded S.links blank_link (take k.link_count k.links ++ fresh xs)) target-taken in
      rw fresh-is (node-and-links H.kernel id p begun_node (ap (set k.nodes id) f) ((tables_of k).links ++ fresh bs)
      (holds_more (links-held H.kernel) (fresh bs) written (length-map bs (begun_link k.nodes id) ∙ H.bound.counted)))
