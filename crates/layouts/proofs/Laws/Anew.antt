-- The tables laid out again, one or two of them anew, the rest as it was.
use Rattle.model.proofs.Logic.{Bool, List, [], ◌++◌, ◌+◌, ◌-◌, ◌<◌, ◌∙◌, ◌∷◌, ◌≡◌, ◌≤◌, ap, arith, drop, length, length-append, length-drop, length-map, length-set, map, replicate, set, sym, take, true, ℕ}
use Rattle.model.specs.{Layouts.Layout, Layouts.lay_out, Layouts.tables_of, Lists.keep, Lists.padded, Records.blank_declaration, Records.blank_link, Records.blank_node, Records.is_blank_link, Sizes.Sizes, Tables.Tables, Tables.present, Tables.with_declarations, Tables.with_links, declared.records.Declaration.Declaration, declared.records.Link.Link, declared.records.Node.Node}
use Rattle.layouts.proofs.{Laws.Sound.SoundKernel, Laws.Sound.declaration_count_is, Laws.Sound.declarations-laid, Laws.Sound.laid, Laws.Sound.link-count-is, Laws.Sound.links-laid, Laws.Sound.node-count-is, Laws.Sound.nodes-laid}
use Rattle.loops.specs.{InPlace.compacted}
use Rattle.loops.proofs.{Laws.InPlace.compacted-none, Laws.InPlace.compacted-padded, Laws.InPlace.kept-within}
use Rattle.model.proofs.{Laws.Arrays.blank_rest, Laws.Arrays.set-padded, Laws.Arrays.snoc_padded, Laws.Arrays.take-padded, Laws.Blanks.blank_link_lem, Laws.Nodes.present-lt}

-- ---- an array and its count hold a list

pub record Holds {A : Type 0} (size : ℕ) (blank : A) (xs : List A) (array : List A) (count : ℕ) : Type 0 where
  pub entries : padded size blank xs ≡ array
  pub counted : length xs ≡ count

module _ {A : Type 0} {size : ℕ} {blank : A} {xs array : List A} {n : ℕ} (h : Holds size blank xs array n) where
  read : take n array ≡ xs
  read = rw (← h.entries, ← h.counted) (take-padded size blank xs)

  -- a list behind it
  pub holds_more : (ys : List A) {more : List A} → more ≡ padded size blank (take n array ++ ys) → {m : ℕ} → length ys ≡ m → Holds size blank (xs ++ ys) more (n + m)
  holds_more ys e l = record {
    entries = sym (e ∙ ap (λ (zs : List A). padded size blank (zs ++ ys)) read);
    counted = length-append xs ys ∙ rw (h.counted, l);
  }

  -- one entry more, at the first free place
  pub holds-one : (x : A) {y : A} → n < size → y ≡ x → Holds size blank (xs ++ (x ∷ [])) (set array n y) (n + 1)
  holds-one x l e = record {
    entries = sym (snoc_padded size blank xs x (rw h.counted l)) ∙ rw (h.entries, h.counted, e);
    counted = length-append xs (x ∷ []) ∙ ap (λ (m : ℕ). m + 1) h.counted;
  }

  -- the array is blank past its count
  pub holds-padded : array ≡ padded size blank (take n array)
  holds-padded = sym h.entries ∙ ap (padded size blank) (sym read)

  -- compacted: what passes of it
  pub holds_kept : (p : A → Bool) → n ≤ size → Holds size blank (keep p xs) (compacted p blank n array) (length (keep p (take n array)))
  holds_kept p l =
      let c : length xs ≡ n = h.counted in
      record {
        entries = rw (← h.entries, ← c) (sym (compacted-padded p blank size xs (omega arith)));
        counted = rw read;
      }

-- ---- an array of which the first `end` records were compacted, and n of them kept

pub record Compacted {A : Type 0} (p : A → Bool) (blank : A) (end : ℕ) (array out : List A) (n : ℕ) : Type 0 where
  pub entries : out ≡ compacted p blank end array
  pub counted : n ≡ length (keep p (take end array))

module _ {A : Type 0} {p : A → Bool} {blank : A} {end n : ℕ} {array out : List A} (c : Compacted p blank end array out n) where
  pub kept_read : n ≤ end
  kept_read = rw c.counted (kept-within p array end)

  -- none was read: the array, its count and nothing gone
  pub none_read : end ≡ 0 → (count : ℕ) → (array ≡ out) × (count ≡ count - (end - n)) × (0 ≡ end - n)
  none_read e count =
      let z = kept_read in
      (sym (c.entries ∙ ap (λ (m : ℕ). compacted p blank m array) e ∙ compacted-none p blank array), omega arith, omega arith)

  -- all below the count were read
  module _ {size count : ℕ} {xs : List A} (h : Holds size blank xs array count) (l : count ≤ size) (e : end ≡ count) where
    pub all-kept : Holds size blank (keep p xs) out n
    all-kept = rw (c.entries, c.counted, e) (holds_kept h p l)

    pub all_read : Holds size blank (keep p xs) out (count - (end - n))
    all_read = let z = kept_read in record { entries = all-kept.entries; counted = all-kept.counted ∙ omega arith }

    pub all-gone : length xs - length (keep p xs) ≡ end - n
    all-gone = rw (h.counted, all-kept.counted, e)

-- ---- a layout with one array anew, and its count

abbrev pub nodes_to : Layout → List Node → ℕ → Layout
nodes_to k ns n = record { nodes = ns; node_count = n; declarations = k.declarations; declaration_count = k.declaration_count; links = k.links; link_count = k.link_count }

abbrev pub declarations_to : Layout → List Declaration → ℕ → Layout
declarations_to k ds n = record { nodes = k.nodes; node_count = k.node_count; declarations = ds; declaration_count = n; links = k.links; link_count = k.link_count }

abbrev pub links_to : Layout → List Link → ℕ → Layout
links_to k ls n = record { nodes = k.nodes; node_count = k.node_count; declarations = k.declarations; declaration_count = k.declaration_count; links = ls; link_count = n }

-- ---- each table in its array

abbrev pub HoldsNodes : Sizes → List Node → List Node → ℕ → Type 0
HoldsNodes S = Holds S.identities blank_node

abbrev pub HoldsDeclarations : Sizes → List Declaration → List Declaration → ℕ → Type 0
HoldsDeclarations S = Holds S.declarations blank_declaration

abbrev pub HoldsLinks : Sizes → List Link → List Link → ℕ → Type 0
HoldsLinks S = Holds S.links blank_link

module _ (S : Sizes) (U : Tables) (m : Layout) where
  pub laid_as :
      HoldsNodes S U.nodes m.nodes m.node_count → HoldsDeclarations S U.declarations m.declarations m.declaration_count →
      HoldsLinks S U.links m.links m.link_count → lay_out S U ≡ m
  unfolding lay_out
  laid_as n d l = λ i. record { nodes = n.entries i; node_count = n.counted i; declarations = d.entries i; declaration_count = d.counted i; links = l.entries i; link_count = l.counted i }

module _ {S : Sizes} {k : Layout} (K : SoundKernel S k) where
  pub nodes-held : HoldsNodes S (tables_of k).nodes k.nodes k.node_count
  nodes-held = record { entries = nodes-laid K; counted = node-count-is K }

  pub declarations-held : HoldsDeclarations S (tables_of k).declarations k.declarations k.declaration_count
  declarations-held = record { entries = declarations-laid K; counted = declaration_count_is K }

  pub links-held : HoldsLinks S (tables_of k).links k.links k.link_count
  links-held = record { entries = links-laid K; counted = link-count-is K }

  -- a node written anew
  pub node-set : (id : ℕ) (n : Node) → present (tables_of k).nodes id ≡ true → HoldsNodes S (set (tables_of k).nodes id n) (set k.nodes id n) k.node_count
  node-set id n h = record {
    entries = sym (set-padded S.identities blank_node (tables_of k).nodes id n (present-lt _ id h)) ∙ ap (λ (ns : List Node). set ns id n) (nodes-laid K);
    counted = length-set (tables_of k).nodes id n ∙ node-count-is K;
  }

  -- links changed one by one below the count, the blanks past it as they were
  abbrev changed : (Link → Link) → List Link
  changed f = map f (take k.link_count k.links) ++ drop k.link_count k.links

  links-past : drop k.link_count k.links ≡ replicate (S.links - k.link_count) blank_link
  links-past =
      let n : length (drop k.link_count k.links) ≡ S.links - k.link_count = length-drop k.link_count k.links ∙ ap (λ (m : ℕ). m - k.link_count) K.sized.links in
      blank_rest is_blank_link blank_link blank_link_lem _ (laid K).blank_links ∙ ap (λ (m : ℕ). replicate m blank_link) n

  pub links-changed : (f : Link → Link) → HoldsLinks S (map f (tables_of k).links) (changed f) k.link_count
  unfolding padded tables_of
  links-changed f =
      let ls = take k.link_count k.links in
      let n : length (map f ls) ≡ k.link_count = length-map ls f ∙ link-count-is K in
      record { entries = ap (map f ls ++◌) (ap (λ (m : ℕ). replicate (S.links - m) blank_link) n ∙ sym links-past); counted = n }

  -- ---- one table anew, and nothing else

  pub declarations-anew : (ds : List Declaration) {array : List Declaration} {n : ℕ} → HoldsDeclarations S ds array n → lay_out S (with_declarations (tables_of k) ds) ≡ declarations_to k array n
  declarations-anew ds h = laid_as S _ _ nodes-held h links-held

  pub links-anew : (ls : List Link) {array : List Link} {n : ℕ} → HoldsLinks S ls array n → lay_out S (with_links (tables_of k) ls) ≡ links_to k array n
  links-anew ls h = laid_as S _ _ nodes-held declarations-held h
