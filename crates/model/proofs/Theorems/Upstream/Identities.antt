-- ids and children: which identities they list, and that these ascend.
use Rattle.model.proofs.Logic.{Bool, List-as-Memᴰ, Memᴰ·cast, ◌+◌, ◌<◌, ◌↔◌, ◌≡◌, arith, get_or, length, subst, true, ℕ}
use Rattle.model.specs.{Lists.places, Observers.children, Observers.ids, Records.blank_node, Records.is_child_of, Tables.Tables, Tables.node_at, Tables.present, declared.records.Node.Node}
use Rattle.model.proofs.{Laws.Ascending.Ascending, Laws.Ascending.at_places, Laws.Ascending.places-ascend, Laws.Ascending.places-at, Laws.Booleans.and_l, Laws.Nodes.present-lt}

module _ (T : Tables) (p : Node → Bool) where
  node-places : (i : ℕ) → List-as-Memᴰ i (places p 0 T.nodes) → p (node_at T.nodes i) ≡ true
  unfolding node_at
  node-places i m =
      let (j, e, l, h) = places-at p 0 T.nodes i m in
      let s : j ≡ i = omega arith in
      subst (λ (z : ℕ). p (get_or T.nodes z blank_node) ≡ true) s (h blank_node)

  places-node : (i : ℕ) → i < length T.nodes → p (node_at T.nodes i) ≡ true → List-as-Memᴰ i (places p 0 T.nodes)
  unfolding node_at
  places-node i l h = let e : i ≡ 0 + i = omega arith in Memᴰ·cast e (at_places p 0 T.nodes i blank_node l h)

-- just the present identities
pub ids-present : (T : Tables) (i : ℕ) → List-as-Memᴰ i (ids T) ↔ (present T.nodes i ≡ true)
ids-present T i = (node-places T (λ n. n.present) i, λ h. places-node T (λ n. n.present) i (present-lt _ _ h) h)

pub ids-ascend : (T : Tables) → Ascending 0 (ids T)
ids-ascend T = places-ascend (λ n. n.present) 0 T.nodes

-- just the present identities with that parent
pub children-present : (T : Tables) (id i : ℕ) → List-as-Memᴰ i (children T id) ↔ (is_child_of id (node_at T.nodes i) ≡ true)
children-present T id i = (node-places T (is_child_of id) i, λ h. places-node T (is_child_of id) i (present-lt _ _ (and_l (present T.nodes i) _ h)) h)

pub children-ascend : (T : Tables) (id : ℕ) → Ascending 0 (children T id)
children-ascend T id = places-ascend (is_child_of id) 0 T.nodes
