-- A column of what a function says of each node is that function of an identity's node: a column of flags, or of numbers.
use Rattle.model.proofs.Logic.{Bool, List, List·getD-eq-default, List·getD-map, ◌&&◌, ◌<◌, ◌∙◌, ◌≡◌, ◌≤◌, ap, arith, dec_lt, drop, false, get_or, le-ltb, length, length-map, lt-ltb, ltb, map, sym, take, true, ℕ}
use Rattle.model.specs.{Lists.all, Records.blank_node, Records.is_blank_node, Tables.node_at, declared.records.Node.Node}
use Rattle.model.proofs.{Laws.Arrays.get_d_padded, Laws.Arrays.whole-array, Laws.Blanks.blank_node_lem}
use Rattle.loops.specs.{Columns.flag}

-- an identity's flag is its entry, and no past the last
pub flag-entry : (size : ℕ) (fs : List Bool) → length fs ≡ size → (id : ℕ) → flag size fs id ≡ get_or fs id false
flag-entry size fs len id = go (dec_lt id size)
  where
    go : Dec (id < size) → ltb id size && get_or fs id false ≡ get_or fs id false
    go (yes l) = rw (lt-ltb id size l)
    go (no l) = rw (le-ltb id size (omega arith)) (sym (List·getD-eq-default fs false {n = id} (omega arith)))

-- where the entries from n on are blank: of the nodes below n
column-nodes :
    {B : Type 0} {b : B} (size : ℕ) (f : Node → B) → f blank_node ≡ b → (ns : List Node) → length ns ≡ size → (n : ℕ) → n ≤ size → all is_blank_node (drop n ns) ≡ true
    → (id : ℕ) → get_or (map f ns) id b ≡ f (node_at (take n ns) id)
unfolding node_at
column-nodes {B} size f dark ns len n le blank id =
    let whole = whole-array is_blank_node blank_node blank_node_lem size n ns len le blank in
    let same = ap (λ (xs : List Node). get_or xs id blank_node) (sym whole) ∙ get_d_padded size blank_node (take n ns) id in
    ap (λ (b : B). get_or (map f ns) id b) (sym dark) ∙ List·getD-map f ns id blank_node ∙ ap f same

pub flag-nodes :
    (size : ℕ) (f : Node → Bool) → f blank_node ≡ false → (ns : List Node) → length ns ≡ size → (n : ℕ) → n ≤ size → all is_blank_node (drop n ns) ≡ true
    → flag size (map f ns) ≡ (λ id. f (node_at (take n ns) id))
flag-nodes size f dark ns len n le blank = λ i id. (flag-entry size (map f ns) (length-map ns f ∙ len) id ∙ column-nodes size f dark ns len n le blank id) i
