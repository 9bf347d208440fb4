-- Declarations of a sound kernel: what scans of its arrays find, and one list or record behind them.
use Rattle.std.specs.Prelude.{Ok}
use Rattle.model.proofs.Logic.{Bool, List, [], ◌&&◌, ◌++◌, ◌+◌, ◌<◌, ◌||◌, ◌∙◌, ◌∷◌, ◌≡◌, ◌≤◌, ap, append_assoc, arith, cond, false, get_or, leb-false, length, length-map, length-take-le, lt-ltb, ltb-false, map, not, not-false, refl, set, sym, take, true, ℕ}
use Rattle.model.specs.{Insertion.clashes, Insertion.insert_tests, Insertion.inserted, Insertion.parent_present, Insertion.parent_retired, Interface.configurable_tests, Interface.configure_tests, Interface.dependencies_configured, Interface.distinct, Interface.listed, Interface.own, Interface.provision_declared, Interface.remaining, Interface.taken, Interface.too_long, Layouts.Layout, Layouts.Sized, Layouts.lay_out, Layouts.tables_of, Lists.any, Lists.padded, Records.blank_declaration, Records.blank_node, Records.dependency, Records.new_node, Records.provision, Resolution.offers, Sizes.Sizes, Sizes.list_limit, Soundness.smaller, Tables.Tables, Tables.present, Tables.with_declarations, Answers.Answer, declared.Parent.Parent, declared.Port.Port, declared.PortList.PortList, declared.records.Declaration.Declaration, declared.records.Node.Node}
use Rattle.layouts.proofs.{Laws.Anew.HoldsDeclarations, Laws.Anew.declarations-anew, Laws.Anew.declarations-held, Laws.Anew.declarations_to, Laws.Anew.holds_more, Laws.Anew.holds-one, Laws.Anew.holds-padded, Laws.Anew.laid_as, Laws.Anew.links-held, Laws.Anew.nodes_to, Laws.Rows.done-row, Laws.Rows.done-sound, Laws.Sound.SoundKernel, Laws.Sound.declaration_count_is, Laws.Sound.node-count-is, Laws.Sound.node-is, Laws.Sound.nodes-flagged, Laws.Sound.nodes-laid, Laws.Sound.present-below}
use Rattle.layouts.specs.{Rows.row_answer}
use Rattle.loops.specs.{Columns.flag}
use Rattle.model.proofs.{Laws.Booleans.or_f_l, Laws.Booleans.or_f_r, Laws.Refusals.Passed, Theorems.Layouts.laid_out}

-- ---- operand lists

-- a list whose array is full, and whose count is within the limit
pub record Short (l : PortList) : Type 0 where
  pub array : length l.ports ≡ list_limit
  pub within : l.count ≤ list_limit

-- it has as many ports as its count says
pub length-listed : {l : PortList} → Short l → length (listed l) ≡ l.count
length-listed {l} h = let a = h.array in let w = h.within in length-take-le l.count l.ports (omega arith)

pub both-short : {ds ps : PortList} → length ds.ports ≡ list_limit → length ps.ports ≡ list_limit → too_long ds || too_long ps ≡ false → Short ds × Short ps
both-short {ds} {ps} d p h =
    let m = ltb-false list_limit ds.count (or_f_l (too_long ds) (too_long ps) h) in
    let n = ltb-false list_limit ps.count (or_f_r (too_long ds) (too_long ps) h) in
    (record { array = d; within = m }, record { array = p; within = n })

clash_test : (d p a : Bool) → not d || not p || a ≡ not ((p && not a) && d)
clash_test true true true = refl
clash_test true true false = refl
clash_test true false true = refl
clash_test true false false = refl
clash_test false true true = refl
clash_test false true false = refl
clash_test false false true = refl
clash_test false false false = refl

pub no_parent_retired : (T : Tables) {q : Parent} → q ≡ Parent.None → parent_retired T q ≡ false
unfolding parent_retired
no_parent_retired T i = ap (parent_retired T) i

module _ {S : Sizes} {k : Layout} (K : SoundKernel S k) where
  abbrev D : List Declaration
  D = take k.declaration_count k.declarations

  -- ---- what the scans find

  pub parent-retired-is : {q : Parent} {p : ℕ} → q ≡ Parent.Of p → parent_retired (tables_of k) q ≡ (get_or k.nodes p blank_node).retired
  unfolding parent_retired
  parent-retired-is {q} {p} i = ap (parent_retired (tables_of k)) i ∙ ap (λ (n : Node). n.retired) (node-is K p)

  -- by the column of who is present
  module _ {fs : List Bool} (f : fs ≡ map (λ (n : Node). n.present) k.nodes) where
    flags_are : flag S.identities fs ≡ present (tables_of k).nodes
    flags_are = ap (λ (X : List Bool). flag S.identities X) f ∙ nodes-flagged K (λ n. n.present) refl

    pub taken_is : {r : Bool} (p : Port) → r ≡ any (offers (flag S.identities fs) p) (take k.declaration_count k.declarations) → taken (tables_of k) p ≡ r
    unfolding taken tables_of
    taken_is p h = sym (h ∙ ap (λ (F : ℕ → Bool). any (offers F p) D) flags_are)

    pub parent_is : {q : Parent} {p : ℕ} {r : Bool} → q ≡ Parent.Of p → r ≡ flag S.identities fs p → parent_present (tables_of k) q ≡ r
    unfolding parent_present
    parent_is {q} {p} i h = ap (parent_present (tables_of k)) i ∙ sym (h ∙ ap (λ (F : ℕ → Bool). F p) flags_are)

    -- the two scans of an insertion's lists
    abbrev free : List Port → Bool
    free ps = distinct ps && not (any (λ p. any (offers (flag S.identities fs) p) (take k.declaration_count k.declarations)) ps)

    pub clashes-are : (ds ps : PortList) {a b : Bool} → a ≡ free (listed ps) → b ≡ distinct (listed ds) → clashes (tables_of k) ds ps ≡ not (a && b)
    unfolding tables_of taken
    clashes-are ds ps {a} h i =
        clash_test (distinct (listed ds)) (distinct (listed ps)) (any (taken (tables_of k)) (listed ps))
        ∙ ap (λ (F : ℕ → Bool). not ((distinct (listed ps) && not (any (λ p. any (offers F p) D) (listed ps))) && distinct (listed ds))) (sym flags_are)
        ∙ ap (λ (x : Bool). not (x && distinct (listed ds))) (sym h)
        ∙ ap (λ (x : Bool). not (a && x)) (sym i)

  -- ---- a provision declared

  -- before: the kernel unchanged
  pub declared-before : (id : ℕ) (p : Port) → own (tables_of k) id p ≡ true → lay_out S (provision_declared (tables_of k) id p) ≡ k
  declared-before id p h =
      let T = tables_of k in
      ap (λ (b : Bool). lay_out S (with_declarations T (cond b T.declarations (T.declarations ++ (provision id p ∷ []))))) h ∙ laid_out S k K.sized K.sound

  -- a new one: at the first free place
  pub declared-now :
      (id : ℕ) (p : Port) {d : Declaration} → own (tables_of k) id p ≡ false → k.declaration_count < S.declarations → d ≡ provision id p →
      lay_out S (provision_declared (tables_of k) id p) ≡ declarations_to k (set k.declarations k.declaration_count d) (k.declaration_count + 1)
  declared-now id p h l q =
      let T = tables_of k in
      ap (λ (b : Bool). lay_out S (with_declarations T (cond b T.declarations (T.declarations ++ (provision id p ∷ []))))) h
      ∙ declarations-anew K (T.declarations ++ (provision id p ∷ [])) (holds-one (declarations-held K) (provision id p) l q)

  -- ---- one component more: its dependencies and its provisions behind the declarations, its node behind the nodes

  module _ {ds ps : PortList} (short : Short ds × Short ps) (id : ℕ) {more : List Declaration}
      (b : more ≡ padded S.declarations blank_declaration (take k.declaration_count k.declarations ++ map (dependency id) (listed ds))) where
    more-held : HoldsDeclarations S ((tables_of k).declarations ++ map (dependency id) (listed ds)) more (k.declaration_count + ds.count)
    more-held = holds_more (declarations-held K) (map (dependency id) (listed ds)) b (length-map (listed ds) (dependency id) ∙ length-listed short.0)

    pub more-padded : more ≡ padded S.declarations blank_declaration (take (k.declaration_count + ds.count) more)
    more-padded = holds-padded more-held

    module _ {most : List Declaration} (c : most ≡ padded S.declarations blank_declaration (take (k.declaration_count + ds.count) more ++ map (provision id) (listed ps))) where
      most-held : HoldsDeclarations S ((tables_of k).declarations ++ (map (dependency id) (listed ds) ++ map (provision id) (listed ps))) most (k.declaration_count + ds.count + ps.count)
      most-held =
          let two = holds_more more-held (map (provision id) (listed ps)) c (length-map (listed ps) (provision id) ∙ length-listed short.1) in
          rw append_assoc at two

      pub inserted-laid :
          id ≡ k.node_count → id < S.identities → (q : Parent) {n : Node} → n ≡ new_node q →
          lay_out S (inserted (tables_of k) q ds ps) ≡ declarations_to (nodes_to k (set k.nodes id n) (id + 1)) most (k.declaration_count + ds.count + ps.count)
      inserted-laid e l q w =
          let T = tables_of k in
          let here : length T.nodes ≡ id = node-count-is K ∙ sym e in
          ap (λ (i : ℕ). lay_out S (record { nodes = T.nodes ++ (new_node q ∷ []); declarations = T.declarations ++ (map (dependency i) (listed ds) ++ map (provision i) (listed ps)); links = T.links })) here
          ∙ laid_as S _ _ (holds-one (record { entries = nodes-laid K; counted = here }) (new_node q) l w) most-held (links-held K)

-- ---- the dependencies of one owner replaced

-- a sound kernel whose row passed its tests of the list and of the node
pub record Configurable (S : Sizes) (k : Layout) (id : ℕ) (l : PortList) : Type 0 where
  pub kernel : SoundKernel S k
  pub tests : Passed (configurable_tests (tables_of k) id l)
  pub short : Short l
  pub below : id < S.identities

configurable_by : {S : Sizes} {k : Layout} → SoundKernel S k → (id : ℕ) {l : PortList} → length l.ports ≡ list_limit → Passed (configurable_tests (tables_of k) id l) → Configurable S k id l
configurable_by K id {l} n passed = record {
  kernel = K;
  tests = passed;
  short = record { array = n; within = ltb-false list_limit l.count passed.0 };
  below = present-below K id (not-false _ passed.1.0);
}

-- where they answered done
pub configurable :
    {S : Sizes} {k : Layout} (z : Sized S k) (id : ℕ) {l : PortList} → length l.ports ≡ list_limit → {a : Answer} → a ≡ row_answer S k (λ T. configurable_tests T id l) → a ≡ Ok tt →
    Configurable S k id l
configurable z id {l} n {a} e d = configurable_by (done-sound z (λ T. configurable_tests T id l) a e d) id n (done-row z (λ T. configurable_tests T id l) a e d)

-- where no test of the whole row applies: the same, and the sum is within the size
pub configured : {S : Sizes} {k : Layout} → SoundKernel S k → (id : ℕ) {l : PortList} → length l.ports ≡ list_limit → Passed (configure_tests S (tables_of k) id l) →
    Configurable S k id l × (length (remaining (tables_of k) id) + length (listed l) ≤ S.declarations)
configured K id n p = (configurable_by K id n (p.0, (p.1.0, (p.1.1.0, (p.1.1.1.0, tt)))), ltb-false _ _ p.1.1.1.1.0)

module _ {S : Sizes} {k : Layout} {id : ℕ} {l : PortList} (C : Configurable S k id l) {array : List Declaration} {n : ℕ} (h : HoldsDeclarations S (remaining (tables_of k) id) array n) where
  -- the sum that the row tests, by the counts
  pub configured-sum : length (remaining (tables_of k) id) + length (listed l) ≡ n + l.count
  configured-sum = rw (h.counted, length-listed C.short)

  pub configured-laid :
      {more : List Declaration} → more ≡ padded S.declarations blank_declaration (take n array ++ map (dependency id) (listed l)) →
      lay_out S (dependencies_configured (tables_of k) id l) ≡ declarations_to k more (n + l.count)
  configured-laid e = declarations-anew C.kernel _ (holds_more h (map (dependency id) (listed l)) e (length-map (listed l) (dependency id) ∙ length-listed C.short))

-- ---- what insertion's tests leave room for

pub record Insertable (S : Sizes) (k : Layout) (q : Parent) (ds ps : PortList) : Type 0 where
  pub kernel : SoundKernel S k
  pub parent : smaller S.identities q ≡ true
  pub short : Short ds × Short ps
  pub node : k.node_count < S.identities
  pub sum : k.declaration_count + ds.count + ps.count ≤ S.declarations

-- a parent that is present stands in the array
parent-below : {S : Sizes} {k : Layout} → SoundKernel S k → (q : Parent) → parent_present (tables_of k) q ≡ true → smaller S.identities q ≡ true
unfolding parent_present
parent-below K Parent.None h = refl
parent-below K (Parent.Of p) h = lt-ltb _ _ (present-below K p h)

module _ {S : Sizes} {k : Layout} (K : SoundKernel S k) {ds ps : PortList} where
  -- how many declarations there would be
  pub declared-count : Short ds × Short ps → length (tables_of k).declarations + length (listed ds) + length (listed ps) ≡ k.declaration_count + ds.count + ps.count
  declared-count s = rw (declaration_count_is K, length-listed s.0, length-listed s.1)

  -- the one line that reads the row by place
  pub insertable : (q : Parent) → length ds.ports ≡ list_limit → length ps.ports ≡ list_limit → Passed (insert_tests S (tables_of k) q ds ps) → Insertable S k q ds ps
  insertable q d p (long, (full, (parent, (_, (_, (sum, _)))))) =
      let s = both-short {ds = ds} {ps = ps} d p long in
      let free : length (tables_of k).nodes < S.identities = leb-false _ _ full in
      let fits : length (tables_of k).declarations + length (listed ds) + length (listed ps) ≤ S.declarations = ltb-false _ _ sum in
      record { kernel = K; parent = parent-below K q (not-false _ parent); short = s; node = rw (node-count-is K) at free; sum = rw (declared-count s) at fits }
