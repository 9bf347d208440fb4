-- The order of links by one pass that marks the providers met: what is left to test, a step on, a hit and the end.
use Rattle.model.proofs.Logic.{arith, Bool, Bool·not-not, List, [], ◌&&◌, ◌<◌, ◌+◌, ◌≤◌, ◌||◌, ◌∙◌, ◌∷◌, ◌≡◌, ◌⊎◌, and_comm, and-false, and-true, ap, cond, dec_lt, drop, eqb, eqb-false, eqb-true, false, get_or, get_or-set_other, get_or-set_same, inl, inr, length, lt-ltb, ltb-true, ne_eqb, not, refl, replicate, set, suc, sym, true, zero, ℕ}
use Rattle.model.specs.{Lists.◌⇒◌, Lists.all, Lists.any, Lists.conj, Lists.onward, Records.blank_link, Records.blank_node, Records.consumer_in, Records.is_installed, Records.is_serving, Records.declared_port, Records.owner_in, Records.port_in, Records.provider_in, Soundness.apart, Soundness.dead_ok, Soundness.declares, Soundness.end_tests, Soundness.episode_ok, Soundness.is_covered, Soundness.is_declaration, Soundness.link_ok, Soundness.link_tests, Soundness.links_to, Soundness.ordered, declared.records.Declaration.Declaration, Tables.generation_at, Tables.installed, Tables.node_at, Tables.serving, declared.records.Link.Link, declared.records.Node.Node}
use Rattle.model.proofs.{Laws.Booleans.Each, Laws.Booleans.and_l, Laws.Booleans.and_r, Laws.Booleans.cases, Laws.Booleans.clash, Laws.Booleans.each, Laws.Booleans.imp_e, Laws.Lists.in_all, Laws.Nodes.past-blank, Laws.Pieces.refuted}
use Rattle.loops.proofs.{Laws.Chains.is-dependency, Laws.Passes.all_both, Laws.Scan.rest-done, Laws.Scan.rest-next}
use Rattle.loops.specs.{Marks.marked, Marks.meets, Marks.unmarked, Passes.link_passes}

-- what is left to test: no consumer of the rest is marked, and the rest is ordered
abbrev pub left_to_order : List Bool → List Link → Bool
left_to_order seen ls = all (unmarked seen) ls && ordered ls

marked-at : (met : List Bool) (p x : ℕ) → p < length met → get_or (set met p true) x false ≡ eqb p x || get_or met x false
marked-at met p x l = go (eqb p x) refl
  where
    go : (b : Bool) → eqb p x ≡ b → get_or (set met p true) x false ≡ b || get_or met x false
    go true e = rw (← eqb-true p x e) (get_or-set_same met p true false l)
    go false e = get_or-set_other met p x true false (λ q. eqb-false p x e (sym q))

module _ (seen : List Bool) (l : Link) (b : l.live ≡ true → provider_in l < length seen) where
  -- a mark on the provider of a live link tells the links apart from it
  mark_one : (m : Link) → unmarked (marked seen l) m ≡ unmarked seen m && apart l m
  unfolding apart
  mark_one m = go l.live refl
    where
      regroup : (a e f : Bool) → not (a && (e || f)) ≡ not (a && f) && not (a && e)
      regroup false e f = refl
      regroup true true true = refl
      regroup true true false = refl
      regroup true false true = refl
      regroup true false false = refl

      go : (on : Bool) → l.live ≡ on
          → not (m.live && get_or (cond on (set seen (provider_in l) true) seen) (consumer_in m) false) ≡ unmarked seen m && not (on && m.live && eqb (provider_in l) (consumer_in m))
      go true e = rw (marked-at seen (provider_in l) (consumer_in m) (b e)) (regroup m.live (eqb (provider_in l) (consumer_in m)) (get_or seen (consumer_in m) false))
      go false e = sym (and-true (unmarked seen m))

  mark_step : (ls : List Link) → left_to_order seen (l ∷ ls) ≡ unmarked (marked seen l) l && left_to_order (marked seen l) ls
  unfolding onward
  mark_step ls = rw (mark_one l, all_both (unmarked seen) (apart l) (unmarked (marked seen l)) mark_one ls) (regroup (unmarked seen l) (all (unmarked seen) ls) (apart l l) (all (apart l) ls) (ordered ls))
    where
      regroup : (a b c d e : Bool) → (a && b) && ((c && d) && e) ≡ (a && c) && ((b && d) && e)
      regroup false b c d e = refl
      regroup true true true d e = refl
      regroup true true false d e = refl
      regroup true false true d e = refl
      regroup true false false d e = refl

-- what is left to test of the links: each by itself, and their order
abbrev pub left_to_pass : (Link → Bool) → List Bool → List Link → Bool
left_to_pass ok seen ls = all ok ls && left_to_order seen ls

module _ (ok : Link → Bool) (seen : List Bool) (l : Link) (ls : List Link) (w : Bool) (b : ok l ≡ true → provider_in l < length seen) (h : left_to_pass ok seen (l ∷ ls) ≡ w) where
  first-passes : ok l && unmarked (marked seen l) l ≡ true → left_to_pass ok (marked seen l) ls ≡ w
  first-passes t =
      let o : ok l ≡ true = and_l (ok l) _ t in
      let u : unmarked (marked seen l) l ≡ true = and_r (ok l) _ t in
      rw (o, mark_step seen l (λ _. b o) ls, u) at h

  first-fails : ok l && unmarked (marked seen l) l ≡ false → false ≡ w
  first-fails t = go (cases (ok l))
    where
      go : (ok l ≡ true) ⊎ (ok l ≡ false) → false ≡ w
      go (inl o) =
          let u : unmarked (marked seen l) l ≡ false = rw o at t in
          sym (and-false (all ok ls)) ∙ (rw (o, mark_step seen l (λ _. b o) ls, u) at h)
      go (inr o) = rw o at h

-- no marks
pub mark_none : (n : ℕ) (ls : List Link) → left_to_order (replicate n false) ls ≡ ordered ls
mark_none n ls = rw (in_all (unmarked (replicate n false)) ls (λ m k. rw (none_at n (consumer_in m), and-false m.live)))
  where
    none_at : (n x : ℕ) → get_or (replicate n false) x false ≡ false
    none_at zero x = refl
    none_at (suc n) zero = refl
    none_at (suc n) (suc x) = none_at n x

-- ---- one link

-- who is installed, or serves, is one of the nodes
below : (f : Node → Bool) → f blank_node ≡ false → (ns : List Node) (id : ℕ) → f (node_at ns id) ≡ true → id < length ns
below f dark ns id t = go (dec_lt id (length ns))
  where
    go : Dec (id < length ns) → id < length ns
    go (yes m) = m
    go (no m) = clash (f blank_node) (rw (past-blank ns id (omega arith)) at t) dark

-- a link that passes has both ends among the nodes
module _ (ns : List Node) (ds : List Declaration) (l : Link) where
  ends_below : link_passes ns ds l ≡ true → (consumer_in l < length ns) × (provider_in l < length ns)
  unfolding link_ok dead_ok
  ends_below h = go (cases l.live)
    where
      both : link_ok (installed ns) (serving ns) ds l && dead_ok (length ns) l ≡ true
      both = and_l _ _ h

      go : (l.live ≡ true) ⊎ (l.live ≡ false) → (consumer_in l < length ns) × (provider_in l < length ns)
      go (inl t) =
          let tests = link_tests (installed ns) (serving ns) ds l in
          let q : Each tests = each tests (imp_e l.live (conj tests) (and_l _ _ both) t) in
          (below is_installed refl ns (consumer_in l) q.0, below is_serving refl ns (provider_in l) q.1.0)
      go (inr t) =
          let tests = end_tests (length ns) l in
          let q : Each tests = each tests (imp_e (not l.live) (conj tests) (and_r (link_ok (installed ns) (serving ns) ds l) _ both) (rw t)) in
          (ltb-true (consumer_in l) (length ns) q.0, ltb-true (provider_in l) (length ns) q.1.0)

  -- so one with an end past the nodes fails
  pub end_past : (consumer_in l < length ns → provider_in l < length ns → ⊥) → link_passes ns ds l ≡ false
  end_past f = refuted (link_passes ns ds l) (λ t. let e = ends_below t in f e.0 e.1)

-- the links from place i on, where each node has a mark
module _ (ns : List Node) (ds : List Declaration) (seen : List Bool) (ls : List Link) (i : ℕ) {w : Bool} (n : length ns ≤ length seen) (m : i < length ls) (h : left_to_pass (link_passes ns ds) seen (drop i ls) ≡ w) where
  abbrev link : Link
  link = get_or ls i blank_link

  split : left_to_pass (link_passes ns ds) seen (link ∷ drop (i + 1) ls) ≡ w
  split = ap (left_to_pass (link_passes ns ds) seen) (sym (rest-next blank_link i ls m)) ∙ h

  marks : link_passes ns ds link ≡ true → provider_in link < length seen
  marks t = let e = ends_below ns ds link t in omega (arith, e.1)

  pub pass_next : link_passes ns ds link && unmarked (marked seen link) link ≡ true → left_to_pass (link_passes ns ds) (marked seen link) (drop (i + 1) ls) ≡ w
  pass_next t = first-passes (link_passes ns ds) seen link (drop (i + 1) ls) w marks split t

  pub pass_hit : link_passes ns ds link && unmarked (marked seen link) link ≡ false → false ≡ w
  pass_hit t = first-fails (link_passes ns ds) seen link (drop (i + 1) ls) w marks split t

pub pass_end : (ok : Link → Bool) (seen : List Bool) (ls : List Link) (i : ℕ) {w : Bool} → length ls ≤ i → left_to_pass ok seen (drop i ls) ≡ w → true ≡ w
unfolding onward
pass_end ok seen ls i m h = rw (rest-done i ls m, all, onward) at h

-- a dead link passes where its ends are issued, and meets no dependency
module _ (l : Link) (t : l.live ≡ false) where
  pub dead_passes : (ns : List Node) (ds : List Declaration) (seen : List Bool) → consumer_in l < length ns → provider_in l < length ns → link_passes ns ds l && unmarked (marked seen l) l ≡ true
  unfolding link_ok dead_ok episode_ok
  dead_passes ns ds seen c p = rw (t, lt-ltb (consumer_in l) (length ns) c, lt-ltb (provider_in l) (length ns) p)

  pub dead_meets : (d : Declaration) → meets d l ≡ false
  unfolding links_to
  dead_meets d = rw (t, and-false (not d.provides))

eqb_comm : (a b : ℕ) → eqb a b ≡ eqb b a
eqb_comm a b = go (cases (eqb a b))
  where
    go : (eqb a b ≡ true) ⊎ (eqb a b ≡ false) → eqb a b ≡ eqb b a
    go (inl t) = let e : a ≡ b = eqb-true a b t in rw e
    go (inr t) = t ∙ sym (ne_eqb b a (λ h. eqb-false a b t (sym h)))

-- a live link
module _ (l : Link) (t : l.live ≡ true) where
  module _ (ns : List Node) (ds : List Declaration) (seen : List Bool) where
    -- its ends are installed, its provider serving and of its generation
    abbrev holds : Bool
    holds = installed ns (consumer_in l) && serving ns (provider_in l) && eqb l.generation (generation_at ns (provider_in l))

    pub live_fails : holds ≡ false → link_passes ns ds l && unmarked (marked seen l) l ≡ false
    unfolding link_ok dead_ok episode_ok
    live_fails h = rw t (go (installed ns (consumer_in l) && serving ns (provider_in l)) _ _ _ (eqb l.generation (generation_at ns (provider_in l))) h)
      where
        go : (a b c u e : Bool) → a && e ≡ false → (a && b && c && true && e) && u ≡ false
        go false b c u e h = refl
        go true false c u e h = refl
        go true true false u e h = refl
        go true true true u e h = rw h

    -- both ends declared the port
    abbrev both : Bool
    both = declares ds (consumer_in l) (port_in l) false && declares ds (provider_in l) (port_in l) true

    -- the rest decides
    pub live_decides : holds ≡ true → link_passes ns ds l && unmarked (marked seen l) l ≡ both && not (get_or (set seen (provider_in l) true) (consumer_in l) false)
    unfolding link_ok dead_ok episode_ok
    live_decides h =
        let ends = and_l (installed ns (consumer_in l) && serving ns (provider_in l)) _ h in
        let episode = and_r (installed ns (consumer_in l) && serving ns (provider_in l)) _ h in
        rw (t, ends, episode, and-true both, and-true both)

  -- it meets its consumer's dependencies on its port
  pub live_meets : (d : Declaration) → is_declaration (consumer_in l) (port_in l) false d ≡ meets d l
  unfolding links_to
  live_meets d =
      let owner = eqb_comm (owner_in d) (consumer_in l) in
      let key = eqb_comm (declared_port d).key (port_in l).key in
      let realm = eqb_comm (declared_port d).realm (port_in l).realm in
      is-dependency (consumer_in l) (port_in l) d ∙ rw (t, owner, key, realm) (and_comm _ (not d.provides))

-- ---- what is met

any-meets : (d : Declaration) (ls : List Link) → any (meets d) ls ≡ not d.provides && any (links_to (owner_in d) (declared_port d)) ls
any-meets d ls = go d.provides ls
  where
    go : (b : Bool) (xs : List Link) → any (λ (l : Link). not b && links_to (owner_in d) (declared_port d) l) xs ≡ not b && any (links_to (owner_in d) (declared_port d)) xs
    go true [] = refl
    go true (x ∷ xs) = go true xs
    go false xs = refl

-- a dependency of an installed owner is covered where it is met
pub met_covered : (installs : ℕ → Bool) (ls : List Link) (d : Declaration) (m : Bool) → m ≡ any (meets d) ls → is_covered installs ls d ≡ not (not d.provides && installs (owner_in d) && not m)
unfolding is_covered
met_covered installs ls d m h = go d.provides (installs (owner_in d)) (any (links_to (owner_in d) (declared_port d)) ls) m (h ∙ any-meets d ls)
  where
    go : (b i a x : Bool) → x ≡ not b && a → (not b && i ⇒ a) ≡ not (not b && i && not x)
    go true i a x e = refl
    go false true a x e = rw e (sym (Bool·not-not a))
    go false false a x e = refl
