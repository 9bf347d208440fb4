-- A sound kernel is its tables laid out, and tables come back from their layout.
use Rattle.model.proofs.Logic.{List, ◌∙◌, ◌≡◌, ◌≤◌, ap, arith, drop, get_or, le-leb, leb-true, length, length-take-le, refl, sym, take, true, ℕ}
use Rattle.model.specs.{Layouts.Layout, Layouts.Sized, Layouts.lay_out, Layouts.layout_tests, Layouts.sound_kernel, Layouts.tables_of, Lists.all, Lists.conj, Lists.padded, Records.blank_declaration, Records.blank_link, Records.blank_node, Records.is_blank_declaration, Records.is_blank_link, Records.is_blank_node, Sizes.Sizes, Soundness.every_point, Soundness.fits, Soundness.sound, Tables.Tables, Tables.node_at, declared.records.Node.Node}
use Rattle.model.proofs.{Laws.Arrays.get_d_padded, Laws.Arrays.rest-blank, Laws.Arrays.take-most, Laws.Arrays.take-padded, Laws.Arrays.whole-array, Laws.Blanks.blank_declaration_lem, Laws.Blanks.blank_link_lem, Laws.Blanks.blank_node_lem, Laws.Booleans.Each, Laws.Booleans.and_i, Laws.Booleans.and_l, Laws.Booleans.and_r, Laws.Booleans.each, Laws.Booleans.of_each, Laws.Facts.Fits, Laws.Facts.fits-of, Laws.Facts.of_fits}

-- what the tests of a layout say
pub record Laid (S : Sizes) (k : Layout) : Type 0 where
  pub nodes : k.node_count ≤ S.identities
  pub declarations : k.declaration_count ≤ S.declarations
  pub links : k.link_count ≤ S.links
  pub blank_nodes : all is_blank_node (drop k.node_count k.nodes) ≡ true
  pub blank_declarations : all is_blank_declaration (drop k.declaration_count k.declarations) ≡ true
  pub blank_links : all is_blank_link (drop k.link_count k.links) ≡ true
  pub points : every_point (tables_of k) ≡ true

pub laid_of : (S : Sizes) (k : Layout) → sound_kernel S k ≡ true → Laid S k
unfolding sound_kernel
laid_of S k h =
    let e : Each (layout_tests S k) = each (layout_tests S k) (and_l (conj (layout_tests S k)) _ h) in
    record {
      nodes = leb-true _ _ e.0;
      declarations = leb-true _ _ e.1.0;
      links = leb-true _ _ e.1.1.0;
      blank_nodes = e.1.1.1.0;
      blank_declarations = e.1.1.1.1.0;
      blank_links = e.1.1.1.1.1.0;
      points = and_r (conj (layout_tests S k)) _ h;
    }

pub of_laid : (S : Sizes) (k : Layout) → Laid S k → sound_kernel S k ≡ true
unfolding sound_kernel
of_laid S k l =
    let e : Each (layout_tests S k) = (le-leb _ _ l.nodes, (le-leb _ _ l.declarations, (le-leb _ _ l.links, (l.blank_nodes, (l.blank_declarations, (l.blank_links, tt)))))) in
    and_i (conj (layout_tests S k)) _ (of_each (layout_tests S k) e) l.points

-- a sound kernel's tables are sound
pub tables-sound : (S : Sizes) (k : Layout) → sound_kernel S k ≡ true → sound S (tables_of k) ≡ true
unfolding sound tables_of
tables-sound S k h =
    let l : Laid S k = laid_of S k h in
    let within : Fits S (tables_of k) = record {
      nodes = omega (arith, l.nodes, take-most k.node_count k.nodes);
      declarations = omega (arith, l.declarations, take-most k.declaration_count k.declarations);
      links = omega (arith, l.links, take-most k.link_count k.links);
    } in
    and_i (fits S (tables_of k)) _ (of_fits S (tables_of k) within) l.points

module _ (S : Sizes) (k : Layout) (a : Sized S k) (h : sound_kernel S k ≡ true) where
  laid : Laid S k
  laid = laid_of S k h

  -- its tables are within the sizes
  count_of : {A : Type 0} (n c : ℕ) (xs : List A) → length xs ≡ n → c ≤ n → length (take c xs) ≡ c
  count_of n c xs e l = length-take-le c xs (omega arith)

  pub node-count : length (tables_of k).nodes ≡ k.node_count
  unfolding tables_of
  node-count = count_of _ _ k.nodes a.nodes laid.nodes

  pub declaration_count_lem : length (tables_of k).declarations ≡ k.declaration_count
  unfolding tables_of
  declaration_count_lem = count_of _ _ k.declarations a.declarations laid.declarations

  pub link-count : length (tables_of k).links ≡ k.link_count
  unfolding tables_of
  link-count = count_of _ _ k.links a.links laid.links

  whole-nodes : padded S.identities blank_node (take k.node_count k.nodes) ≡ k.nodes
  whole-nodes = whole-array is_blank_node blank_node blank_node_lem _ _ k.nodes a.nodes laid.nodes laid.blank_nodes

  -- a sound kernel is its tables laid out
  pub laid_out : lay_out S (tables_of k) ≡ k
  unfolding lay_out tables_of
  laid_out =
      let q = whole-array is_blank_declaration blank_declaration blank_declaration_lem _ _ k.declarations a.declarations laid.declarations laid.blank_declarations in
      let r = whole-array is_blank_link blank_link blank_link_lem _ _ k.links a.links laid.links laid.blank_links in
      λ i. record { nodes = whole-nodes i; node_count = node-count i; declarations = q i; declaration_count = declaration_count_lem i; links = r i; link_count = link-count i }

  -- an identity's node is what the array holds, and blank past it
  pub node-in-array : (id : ℕ) → node_at (tables_of k).nodes id ≡ get_or k.nodes id blank_node
  unfolding node_at tables_of
  node-in-array id = sym (get_d_padded S.identities blank_node (take k.node_count k.nodes) id) ∙ ap (λ (ns : List Node). get_or ns id blank_node) whole-nodes

-- tables come back from their layout
pub read_back : (S : Sizes) (T : Tables) → tables_of (lay_out S T) ≡ T
unfolding tables_of lay_out
read_back S T = λ i. record {
  nodes = take-padded S.identities blank_node T.nodes i;
  declarations = take-padded S.declarations blank_declaration T.declarations i;
  links = take-padded S.links blank_link T.links i;
}

-- and their layout is sound as they are
pub layout_sound : (S : Sizes) (T : Tables) → sound S T ≡ true → sound_kernel S (lay_out S T) ≡ true
unfolding lay_out sound
layout_sound S T h =
    let f : Fits S T = fits-of S T (and_l (fits S T) _ h) in
    of_laid S (lay_out S T) (record {
      nodes = f.nodes;
      declarations = f.declarations;
      links = f.links;
      blank_nodes = rest-blank is_blank_node blank_node refl S.identities T.nodes;
      blank_declarations = rest-blank is_blank_declaration blank_declaration refl S.declarations T.declarations;
      blank_links = rest-blank is_blank_link blank_link refl S.links T.links;
      points = rw (read_back S T) (and_r (fits S T) _ h);
    })
