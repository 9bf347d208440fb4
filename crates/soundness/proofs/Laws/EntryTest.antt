-- The entry test: a kernel is sound where each of its scans answers yes.
use Rattle.model.proofs.Logic.{Bool, List, [], ◌∷◌, ◌&&◌, ◌∙◌, ◌≡◌, ◌≤◌, ◌⊎◌, drop, false, inl, inr, leb, length, le-leb, leb-true, sym, true}
use Rattle.model.specs.{Layouts.Layout, Layouts.sound_kernel, Layouts.tables_of, Lists.all, Lists.all_at, Lists.conj, Records.is_blank_declaration, Records.is_blank_link, Records.is_blank_node, Sizes.Sizes, Soundness.absent_ok, Soundness.coverage, Soundness.dead_ok, Soundness.episode_ok, Soundness.has_owner, Soundness.is_covered, Soundness.link_ok, Soundness.node_ok, Soundness.ordered, Soundness.same_owner, Tables.Tables, Tables.generation_at, Tables.installed, Tables.present, Tables.serving}
use Rattle.model.proofs.{Laws.Booleans.and_i, Laws.Booleans.and_l, Laws.Booleans.and_r, Laws.Booleans.cases, Laws.Booleans.each, Laws.Booleans.of_each, Laws.Pieces.Pieces, Laws.Pieces.pieces, Laws.Pieces.refuted, Laws.Pieces.sound-rest, Laws.Pieces.unsound-by}
use Rattle.loops.proofs.Laws.Passes.{all_at-both, all_three}
use Rattle.loops.specs.{Passes.link_passes, Passes.node_passes}

-- ---- the scans

abbrev pub counts_pass : Sizes → Layout → Bool
counts_pass S k = leb k.node_count S.identities && leb k.declaration_count S.declarations && leb k.link_count S.links

pub counts_within : (S : Sizes) (k : Layout) → k.node_count ≤ S.identities → k.declaration_count ≤ S.declarations → k.link_count ≤ S.links → counts_pass S k ≡ true
counts_within S k n d l = rw (le-leb _ _ n, le-leb _ _ d, le-leb _ _ l)

module _ (S : Sizes) (k : Layout) where
  abbrev T : Tables
  T = tables_of k

  abbrev pub nodes_pass : Bool
  nodes_pass = all_at (node_passes T.nodes) 0 T.nodes && all is_blank_node (drop k.node_count k.nodes)

  abbrev pub declarations_pass : Bool
  declarations_pass =
      all is_blank_declaration (drop k.declaration_count k.declarations) && all (has_owner (length T.nodes)) T.declarations && all (λ d. all (same_owner (present T.nodes) d) T.declarations) T.declarations

  abbrev pub links_pass : Bool
  links_pass = all is_blank_link (drop k.link_count k.links) && (all (link_passes T.nodes T.declarations) T.links && ordered T.links) && all (is_covered (installed T.nodes) T.links) T.declarations

  -- the three points of a link
  abbrev link_points : List Bool
  link_points = all (link_ok (installed T.nodes) (serving T.nodes) T.declarations) T.links ∷ all (dead_ok (length T.nodes)) T.links ∷ all (episode_ok (generation_at T.nodes)) T.links ∷ []

  links-are : all (link_passes T.nodes T.declarations) T.links ≡ conj link_points
  links-are = all_three _ _ _ T.links

  nodes-are : all_at (node_passes T.nodes) 0 T.nodes ≡ all_at (node_ok T.nodes) 0 T.nodes && all_at absent_ok 0 T.nodes
  nodes-are = all_at-both (node_ok T.nodes) absent_ok 0 T.nodes

  pub counts_fail : (k.node_count ≤ S.identities → k.declaration_count ≤ S.declarations → k.link_count ≤ S.links → ⊥) → sound_kernel S k ≡ false
  counts_fail f = refuted (sound_kernel S k) (λ h. let q = (pieces S k h).layout in f (leb-true _ _ q.0) (leb-true _ _ q.1.0) (leb-true _ _ q.1.1.0))

  -- a sound kernel's scans pass
  scans : Pieces S k → nodes_pass && declarations_pass && links_pass ≡ true
  unfolding coverage
  scans q =
      let l = q.layout.1.1.1 in
      let s = q.safety in
      let nodes = and_i _ _ (nodes-are ∙ and_i _ _ s.1.1.0 q.stored.1.0) l.0 in
      let declarations = and_i _ _ (and_i _ _ l.1.0 s.0) s.1.0 in
      let links = and_i _ _ (and_i _ _ l.1.1.0 (and_i _ _ (links-are ∙ of_each link_points (s.1.1.1.0, (q.stored.0, (q.stored.1.1.0, tt)))) s.1.1.1.1.0)) q.covers in
      and_i _ _ (and_i _ _ nodes declarations) links

  -- and where they pass, it is sound
  sound : counts_pass S k ≡ true → nodes_pass && declarations_pass && links_pass ≡ true → sound_kernel S k ≡ true
  unfolding coverage
  sound n h =
      let both = and_l (nodes_pass && declarations_pass) _ h in
      let nodes = and_l nodes_pass _ both in
      let declarations = and_r nodes_pass _ both in
      let links = and_r (nodes_pass && declarations_pass) _ h in
      let two = and_l (leb k.node_count S.identities && leb k.declaration_count S.declarations) _ n in
      let each_node = sym nodes-are ∙ and_l (all_at (node_passes T.nodes) 0 T.nodes) _ nodes in
      let owners = and_l (all is_blank_declaration (drop k.declaration_count k.declarations) && all (has_owner (length T.nodes)) T.declarations) _ declarations in
      let past = and_l (all is_blank_link (drop k.link_count k.links) && (all (link_passes T.nodes T.declarations) T.links && ordered T.links)) _ links in
      let in-order = and_r (all is_blank_link (drop k.link_count k.links)) _ past in
      let points = each link_points (sym links-are ∙ and_l (all (link_passes T.nodes T.declarations) T.links) _ in-order) in
      sound-rest
      S
      k
      (and_l (leb k.node_count S.identities) _ two, (and_r (leb k.node_count S.identities) _ two, (and_r (leb k.node_count S.identities && leb k.declaration_count S.declarations) _ n, (and_r (all_at (node_passes T.nodes) 0 T.nodes) _ nodes, (and_l _ _ owners, (and_l _ _ past, tt))))))
      (and_r (all is_blank_declaration (drop k.declaration_count k.declarations)) _ owners, (and_r (all is_blank_declaration (drop k.declaration_count k.declarations) && all (has_owner (length T.nodes)) T.declarations) _ declarations, (and_l _ _ each_node, (points.0, (and_r (all (link_passes T.nodes T.declarations) T.links) _ in-order, tt)))))
      (points.1.0, (and_r (all_at (node_ok T.nodes) 0 T.nodes) _ each_node, (points.1.1.0, tt)))
      ∙ and_r (all is_blank_link (drop k.link_count k.links) && (all (link_passes T.nodes T.declarations) T.links && ordered T.links)) _ links

  sound_is : counts_pass S k ≡ true → sound_kernel S k ≡ nodes_pass && declarations_pass && links_pass
  sound_is n = go (cases (nodes_pass && declarations_pass && links_pass))
    where
      go : (nodes_pass && declarations_pass && links_pass ≡ true) ⊎ (nodes_pass && declarations_pass && links_pass ≡ false) → sound_kernel S k ≡ nodes_pass && declarations_pass && links_pass
      go (inl t) = sound n t ∙ sym t
      go (inr f) = unsound-by S k _ f scans ∙ sym f

-- the answers of the scans decide in turn
module _ (S : Sizes) (k : Layout) (n : counts_pass S k ≡ true) where
  pub nodes_fail : {x : Bool} → x ≡ nodes_pass S k → x ≡ false → false ≡ sound_kernel S k
  nodes_fail e a = sym (sound_is S k n ∙ rw (← e, a))

  pub declarations_fail : {x y : Bool} → x ≡ nodes_pass S k → x ≡ true → y ≡ declarations_pass S k → y ≡ false → false ≡ sound_kernel S k
  declarations_fail e a f b = sym (sound_is S k n ∙ rw (← e, a, ← f, b))

  pub links_decide : {x y z : Bool} → x ≡ nodes_pass S k → x ≡ true → y ≡ declarations_pass S k → y ≡ true → z ≡ links_pass S k → z ≡ sound_kernel S k
  links_decide e a f b g = g ∙ sym (sound_is S k n ∙ rw (← e, a, ← f, b))
