-- The node table: an identity read, one node written anew, one node behind the others.
use Rattle.model.proofs.Logic.{List, List-as-Memᴰ, List·getD-append, List·getD-eq-default, [], ◌++◌, ◌<◌, ◌∙◌, ◌∷◌, ◌≡◌, ◌≤◌, ap, arith, dec_lt, false, get_or-append_seam, get_or-set_other, get_or-set_same, length, length-append, ltb, refl, set, sym, true, ℕ, ℕ_discrete}
use Rattle.model.specs.{Records.blank_node, Soundness.parent_ok, Soundness.smaller, Tables.node_at, Tables.present, declared.Parent.Parent, declared.records.Node.Node}
use Rattle.model.proofs.{Laws.Booleans.and_i, Laws.Booleans.and_l, Laws.Booleans.and_r, Laws.Booleans.clash, Laws.Lists.place_in}

pub present-lt : (ns : List Node) (i : ℕ) → present ns i ≡ true → i < length ns
unfolding node_at
present-lt ns i h = go (dec_lt i (length ns))
  where
    go : Dec (i < length ns) → i < length ns
    go (yes l) = l
    go (no l) = clash false (sym (ap (λ (n : Node). n.present) (List·getD-eq-default ns blank_node {n = i} (omega arith))) ∙ h) refl

pub at_same : (ns : List Node) (id : ℕ) (n : Node) → id < length ns → node_at (set ns id n) id ≡ n
unfolding node_at
at_same ns id n l = get_or-set_same ns id n blank_node l

pub at_other : (ns : List Node) (id i : ℕ) (n : Node) → (i ≡ id → ⊥) → node_at (set ns id n) i ≡ node_at ns i
unfolding node_at
at_other ns id i n d = get_or-set_other ns id i n blank_node d

-- a family that holds of the new node and of every other holds of all
pub at_set : (P : ℕ → Node → Type 0) (ns : List Node) (id : ℕ) (n : Node) → id < length ns → P id n → ((i : ℕ) → P i (node_at ns i)) → (i : ℕ) → P i (node_at (set ns id n) i)
at_set P ns id n l p f i = go (ℕ_discrete i id)
  where
    go : Dec (i ≡ id) → P i (node_at (set ns id n) i)
    go (yes e) = rw (e, at_same ns id n l) p
    go (no d) = rw (at_other ns id i n d) (f i)

-- the same, where the others are known to be others
pub at_set_other : (P : ℕ → Node → Type 0) (ns : List Node) (id : ℕ) (n : Node) → id < length ns → P id n → ((i : ℕ) → (i ≡ id → ⊥) → P i (node_at ns i)) → (i : ℕ) → P i (node_at (set ns id n) i)
at_set_other P ns id n l p f i = go (ℕ_discrete i id)
  where
    go : Dec (i ≡ id) → P i (node_at (set ns id n) i)
    go (yes e) = rw (e, at_same ns id n l) p
    go (no d) = rw (at_other ns id i n d) (f i d)

-- past the count stands the blank node
pub past-blank : (ns : List Node) (i : ℕ) → length ns ≤ i → node_at ns i ≡ blank_node
unfolding node_at
past-blank ns i l = List·getD-eq-default ns blank_node {n = i} l

pub node_in : (ns : List Node) (i : ℕ) → i < length ns → List-as-Memᴰ (node_at ns i) ns
unfolding node_at
node_in ns i l = place_in ns i blank_node l

-- a node behind the others
pub old_at : (ns : List Node) (n : Node) (i : ℕ) → i < length ns → node_at (ns ++ (n ∷ [])) i ≡ node_at ns i
unfolding node_at
old_at ns n i l = List·getD-append ns (n ∷ []) blank_node i l

pub at_snoc : (P : ℕ → Node → Type 0) (ns : List Node) (n : Node) → P (length ns) n → ((i : ℕ) → P i (node_at ns i)) → (i : ℕ) → P i (node_at (ns ++ (n ∷ [])) i)
at_snoc P ns n p f i = go (dec_lt i (length ns)) (ℕ_discrete i (length ns))
  where
    past : (length ns < i) → node_at (ns ++ (n ∷ [])) i ≡ node_at ns i
    past l = unfold node_at in List·getD-eq-default (ns ++ (n ∷ [])) blank_node {n = i} (rw (length-append ns (n ∷ [])) (omega arith)) ∙ sym (List·getD-eq-default ns blank_node {n = i} (omega arith))

    seam : node_at (ns ++ (n ∷ [])) (length ns) ≡ n
    seam = unfold node_at in get_or-append_seam ns n [] blank_node

    go : Dec (i < length ns) → Dec (i ≡ length ns) → P i (node_at (ns ++ (n ∷ [])) i)
    go (yes l) e = rw (old_at ns n i l) (f i)
    go (no l) (yes e) = rw (e, seam) p
    go (no l) (no e) = rw (past (omega arith)) (f i)

-- a present node's parent is smaller
pub parent-smaller : (ns : List Node) (i : ℕ) (p : Parent) → parent_ok ns i p ≡ true → smaller i p ≡ true
unfolding parent_ok
parent-smaller ns i Parent.None h = refl
parent-smaller ns i (Parent.Of k) h = and_l (ltb k i) (present ns k) h

pub parent-kept : (ns ms : List Node) (i : ℕ) (p : Parent) → ((k : ℕ) → p ≡ Parent.Of k → present ns k ≡ true → present ms k ≡ true) → parent_ok ns i p ≡ true → parent_ok ms i p ≡ true
unfolding parent_ok
parent-kept ns ms i Parent.None f h = refl
parent-kept ns ms i (Parent.Of k) f h = and_i (ltb k i) (present ms k) (and_l (ltb k i) (present ns k) h) (f k refl (and_r (ltb k i) (present ns k) h))
