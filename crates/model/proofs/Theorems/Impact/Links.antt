-- On sound tables the list told from the links: a component that runs has a target exactly if it is not retired and every live link of it has an Active provider.
use Rattle.model.proofs.Logic.{Bool, List, List-as-Memᴰ, List·getD-eq-default, Memᴰ·cast, ◌&&◌, ◌+◌, ◌<◌, ◌↔◌, ◌∙◌, ◌≡◌, ap, arith, dec_lt, eq-eqb, eqb, eqb-true, false, get_or, length, none, refl, some, subst, sym, true, ℕ}
use Rattle.model.specs.{Impact.affected, Impact.is_provider, Impact.is_reliant, Impact.is_unserved, Impact.linked, Impact.reliant_tests, Lifecycle.leave_tests, Lifecycle.phase_at, Lifecycle.relies, Lists.places, Records.binding_in, Records.consumer_in, Records.dependency, Records.is_running, Records.port_in, Records.port_of, Records.provider_in, Records.provision, Resolution.Target, Resolution.bind_ports, Resolution.dependency_ports, Resolution.is_live_link_of, Resolution.resolve, Resolution.target, Resolution.target_list, Sizes.Sizes, Soundness.apart, Soundness.sound, Tables.Tables, Tables.node_at, Tables.present, Tables.providing, declared.Binding.Binding, declared.Port.Port, declared.Resolution.Resolution, declared.records.Link.Link}
use Rattle.model.proofs.{Laws.Ascending.ascending_same, Laws.Ascending.at_places, Laws.Ascending.places-ascend, Laws.Ascending.places-at, Laws.Booleans.Each, Laws.Booleans.and_i, Laws.Booleans.and_l, Laws.Booleans.and_r, Laws.Booleans.clash, Laws.Booleans.each, Laws.Booleans.f_not, Laws.Booleans.not_f, Laws.Booleans.not_t, Laws.Booleans.of_each, Laws.Committed.live-link_of, Laws.Facts.Linked, Laws.Facts.LiveOk, Laws.Facts.Sound, Laws.Facts.facts, Laws.Lists.any-in, Laws.Lists.at_in, Laws.Lists.in_any, Laws.Lists.in_at, Laws.Lists.in_keep, Laws.Lists.is_some, Laws.Lists.never, Laws.Lists.onward-at, Laws.Nodes.present-lt, Laws.Order.of_apart, Laws.Phases.active-is, Laws.Phases.running-installed, Laws.Refusals.Passed, Laws.Resolution.FirstUnresolved, Laws.Resolution.Resolved, Laws.Resolution.Targeted, Laws.Resolution.bind_missing, Laws.Resolution.bind_something, Laws.Resolution.target-bound, Laws.Resolution.target-covers, Laws.Resolution.target-resolved, Laws.Resolution.targeted, Laws.Resolution.wants_in, Theorems.Impact.Hit.Targets, Theorems.Impact.Hit.affected-ascend, Theorems.Impact.Hit.affected-is, Theorems.Impact.Hit.affected-relies, Theorems.Impact.Hit.binds_hit, Theorems.Impact.Hit.not_none, Theorems.Impact.Hit.one_provider, Theorems.Impact.Target.binds_to, Theorems.Points.node_at_lem, Theorems.Resolution.resolve-exactly}

-- ---- a live link of this consumer that passes

pub linked-in : (p : Link → Bool) (ls : List Link) (j : ℕ) → linked p ls j ≡ true → (l : Link) × List-as-Memᴰ l ls × (l.live ≡ true) × (consumer_in l ≡ j) × (p l ≡ true)
unfolding linked
linked-in p ls j h =
    let (l, m, e) = any-in (λ l. is_live_link_of j l && p l) ls h in
    let (v, c) = live-link_of j l (and_l (is_live_link_of j l) _ e) in
    (l, m, v, c, and_r (is_live_link_of j l) _ e)

live-passes : (p : Link → Bool) (j : ℕ) (l : Link) → l.live ≡ true → consumer_in l ≡ j → p l ≡ true → is_live_link_of j l && p l ≡ true
unfolding is_live_link_of
live-passes p j l v c e = and_i (l.live && eqb (consumer_in l) j) _ (and_i l.live _ v (eq-eqb _ _ c)) e

in_linked : (p : Link → Bool) (ls : List Link) (j : ℕ) (l : Link) → List-as-Memᴰ l ls → l.live ≡ true → consumer_in l ≡ j → p l ≡ true → linked p ls j ≡ true
unfolding linked
in_linked p ls j l m v c e = in_any (λ l. is_live_link_of j l && p l) m (live-passes p j l v c e)

relied : (id : ℕ) (l : Link) → relies id l ≡ true → (l.live ≡ true) × (is_provider id l ≡ true)
unfolding relies
relied id l y = (and_l l.live _ y, and_r l.live _ y)

-- where none passes, this one does not
none_linked : (p : Link → Bool) (ls : List Link) (j : ℕ) (l : Link) → linked p ls j ≡ false → List-as-Memᴰ l ls → l.live ≡ true → consumer_in l ≡ j → p l ≡ false
none_linked p ls j l h m v c = go (p l) refl
  where
    go : (b : Bool) → p l ≡ b → b ≡ false
    go true e = clash _ (in_linked p ls j l m v c e) h
    go false e = refl

module _ (S : Sizes) (T : Tables) (h : sound S T ≡ true) where
  abbrev k : Sound S T
  k = facts S T h

  abbrev active : ℕ → Bool
  active = providing T.nodes

  -- a binding of the target for each live link, with its provider
  link-bound :
      (j : ℕ) (bs : List Binding) → Targeted T j bs → (l : Link) → List-as-Memᴰ l T.links → l.live ≡ true → consumer_in l ≡ j
      → (b : Binding) × List-as-Memᴰ b bs × (b.provider ≡ provider_in l) × (active b.provider ≡ true)
  link-bound j bs t l m v c =
      let w : LiveOk T.nodes T.declarations (consumer_in l) (binding_in l) = k.safe.live l m v in
      let needed : List-as-Memᴰ (dependency j (port_in l)) T.declarations = subst (λ (i : ℕ). List-as-Memᴰ (dependency i (port_in l)) T.declarations) c w.needed in
      let (b, n, x) = target-covers T j bs t (port_in l) needed in
      let r : Resolved T.nodes T.declarations (port_of b) b.provider = target-resolved T j bs t b n in
      let offered : List-as-Memᴰ (provision b.provider (port_in l)) T.declarations = subst (λ (p : Port). List-as-Memᴰ (provision b.provider p) T.declarations) (sym x) r.offered in
      (b, n, one_provider S T h l m v b.provider offered r.there, and_i (present T.nodes b.provider) _ r.there r.is-active)

  -- who has a target is not retired, and each of its live links has an Active provider
  pub target-serves : (j : ℕ) (bs : List Binding) → target_list (target T j) ≡ some bs → ((node_at T.nodes j).retired ≡ false) × (linked (is_unserved active) T.links j ≡ false)
  target-serves j bs e = (t.kept, go (linked (is_unserved active) T.links j) refl)
    where
      t : Targeted T j bs
      t = targeted T j bs e

      go : (b : Bool) → linked (is_unserved active) T.links j ≡ b → b ≡ false
      go false x = refl
      go true x =
          let (l, m, v, c, u) = linked-in (is_unserved active) T.links j x in
          let (b, n, y, a) = link-bound j bs t l m v c in
          clash _ (ap active (sym y) ∙ a) (not_t _ u)

  -- and a component that runs and is so has one
  pub serves-target :
      (j : ℕ) → present T.nodes j ≡ true → is_running (phase_at T j) ≡ true → (node_at T.nodes j).retired ≡ false → linked (is_unserved active) T.links j ≡ false
      → target_list (target T j) ≡ none → ⊥
  serves-target j t r f s = go (bind_ports (resolve T) ports) refl
    where
      ports : List Port
      ports = dependency_ports T.declarations j

      bound : target T j ≡ bind_ports (resolve T) ports
      bound = target-bound T j (rw (t, f))

      -- a dependency of it resolves to the provider of its link
      found : (p : Port) → List-as-Memᴰ (dependency j p) T.declarations → (o : ℕ) × (resolve T p ≡ Resolution.Provider o)
      found p m =
          let c : Linked T.links j p = k.covered (dependency j p) m refl t (running-installed (phase_at T j) r) in
          let l = c.link in
          let o = provider_in l in
          let w : LiveOk T.nodes T.declarations (consumer_in l) (binding_in l) = k.safe.live l c.among c.is_live in
          let a : active o ≡ true = not_f _ (none_linked (is_unserved active) T.links j l s c.among c.is_live c.of_consumer) in
          let offered : List-as-Memᴰ (provision o p) T.declarations = subst (λ (q : Port). List-as-Memᴰ (provision o q) T.declarations) c.of_port w.offered in
          let stands = node_at_lem T.nodes o (present-lt _ _ w.provider_present) in
          (o, (resolve-exactly S T h p (Resolution.Provider o)).1 (node_at T.nodes o, stands, w.provider_present, active-is (phase_at T o) (and_r (present T.nodes o) _ a), in_at offered))

      go : (u : Target) → bind_ports (resolve T) ports ≡ u → target_list (target T j) ≡ none → ⊥
      go (Target.bound bs) e n = never bs (sym n ∙ ap target_list (bound ∙ e))
      go (Target.missing u) e n =
          let w : FirstUnresolved (resolve T) ports u = bind_missing (resolve T) ports u e in
          let (o, x) = found u.port (wants_in T.declarations j u.port (at_in ports w.place u.port w.stands)) in
          w.unprovided o (sym w.reason ∙ x)
      go Target.nothing e n = bind_something (resolve T) ports e

  -- ---- no live link leads from a component to itself

  not-to_itself : (l : Link) → List-as-Memᴰ l T.links → l.live ≡ true → provider_in l ≡ consumer_in l → ⊥
  not-to_itself l m v e = let (i, (a, x)) = in_at m in of_apart l l (subst (λ (z : Link). apart z z ≡ true) x (onward-at apart T.links k.safe.order i i l l (omega arith) a)) v v e

  -- ---- who is on the list

  module _ (id : ℕ) (q : Passed (leave_tests T id)) where
    pub reliant_is : (j : ℕ) → (is_reliant T id j ≡ true) ↔ List-as-Memᴰ j (affected T id)
    unfolding is_reliant
    reliant_is j = (forth, back)
      where
        tests : List Bool
        tests = reliant_tests (node_at T.nodes j) (linked (is_provider id) T.links j) (linked (is_unserved active) T.links j)

        forth : is_reliant T id j ≡ true → List-as-Memᴰ j (affected T id)
        forth x =
            let e : Each tests = each tests x in
            let t : present T.nodes j ≡ true = and_l (present T.nodes j) _ e.0 in
            let r : is_running (phase_at T j) ≡ true = and_r (present T.nodes j) _ e.0 in
            let has : target_list (target T j) ≡ none → ⊥ = serves-target j t r (not_t _ e.1.0) (not_t _ e.1.1.1.0) in
            let (l, m, v, c, y) = linked-in (is_provider id) T.links j e.1.1.0 in
            let (bs, z) = is_some (target_list (target T j)) (not_none _ has) in
            let (b, n, w, a) = link-bound j bs (targeted T j bs z) l m v c in
            let p : provider_in l ≡ id = eqb-true _ _ y in
            let other : j ≡ id → ⊥ = λ d. not-to_itself l m v (p ∙ sym d ∙ sym c) in
            binds_hit T id q j (record { there = t; other = other; runs = r; has = has }) bs z (binds_to n (w ∙ p))

        back : List-as-Memᴰ j (affected T id) → is_reliant T id j ≡ true
        back m =
            let t : Targets T id j = ((affected-is T id j).0 m).0 in
            let (bs, z) = is_some (target_list (target T j)) (not_none _ t.has) in
            let (f, s) = target-serves j bs z in
            let (l, n, c) = affected-relies S T h id q j m in
            let (i, y) = in_keep (relies id) T.links n in
            let (v, p) = relied id l y in
            of_each tests (and_i (present T.nodes j) _ t.there t.runs, (f_not _ f, (in_linked (is_provider id) T.links j l i v c p, (f_not _ s, tt))))

    -- a column that tells who is, told by its places
    pub affected-column : (col : List Bool) → ((j : ℕ) → get_or col j false ≡ is_reliant T id j) → affected T id ≡ places (λ b. b) 0 col
    affected-column col f = ascending_same 0 0 (affected T id) (places (λ b. b) 0 col) (affected-ascend T id) (places-ascend (λ b. b) 0 col) (λ j. (forth j, back j))
      where
        below : (j : ℕ) → get_or col j false ≡ true → j < length col
        below j x = go (dec_lt j (length col))
          where
            go : Dec (j < length col) → j < length col
            go (yes l) = l
            go (no l) = clash _ x (List·getD-eq-default col false {n = j} (omega arith))

        forth : (j : ℕ) → List-as-Memᴰ j (affected T id) → List-as-Memᴰ j (places (λ b. b) 0 col)
        forth j m =
            let x : get_or col j false ≡ true = f j ∙ (reliant_is j).1 m in
            let e : j ≡ 0 + j = omega arith in
            Memᴰ·cast e (at_places (λ b. b) 0 col j false (below j x) x)

        back : (j : ℕ) → List-as-Memᴰ j (places (λ b. b) 0 col) → List-as-Memᴰ j (affected T id)
        back j m =
            let (i, e, l, x) = places-at (λ b. b) 0 col j m in
            let s : i ≡ j = omega arith in
            (reliant_is j).0 (sym (f j) ∙ subst (λ (z : ℕ). get_or col z false ≡ true) s (x false))
