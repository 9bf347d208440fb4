-- The order of cleaning on sound tables is the one found in columns: what waits is what is installed, and a link is live while its consumer is.
use Rattle.model.proofs.Logic.{Bool, List, List·getD-eq-default, Option, ◌&&◌, ◌<◌, ◌∙◌, ◌≡◌, ◌≤◌, ◌⊎◌, and-false, ap, arith, cond, eqb, false, get_or, get_or-set_other, get_or-set_same, inl, inr, length, length-map, length-set, map, none, not, refl, set, some, suc, sym, true, zero, ℕ, ℕ_discrete}
use Rattle.model.specs.{Drain.can_be_cleaned, Drain.cleaned_in, Drain.cleaning_order, Drain.cleanup, Drain.count, Drain.lowest, Drain.next_cleaned, Drain.preparation, Drain.results, Lifecycle.begin_cleanup_tests, Lifecycle.relies, Lists.any, Lists.is_none, Records.blank_node, Records.consumer_in, Records.is_installed, Records.is_serving, Records.is_unloading, Records.provider_in, Records.restored_node, Refusals.first, Sizes.Sizes, Soundness.sound, Tables.Tables, Tables.installed, Tables.node_at, declared.Error.Error, declared.records.Link.Link, declared.records.Node.Node}
use Rattle.model.proofs.{Laws.Booleans.and_i, Laws.Booleans.and_l, Laws.Booleans.and_r, Laws.Booleans.cases, Laws.Booleans.clash, Laws.Booleans.not_f, Laws.Lists.any-map, Laws.Lowest.lowest-longer, Laws.Lowest.lowest-some, Laws.Nodes.present-lt, Laws.Phases.unloading_installed, Laws.Refusals.Passed, Theorems.Drain.Cleanups.cleanable_passed, Theorems.Drain.Cleanups.cleanup-nodes, Theorems.Drain.Cleanups.cleanup-passing, Theorems.Drain.Cleanups.cleanup-readied, Theorems.Drain.Cleanups.order-done, Theorems.Drain.Cleanups.order-next, Theorems.Drain.Key.Readied, Theorems.Drain.Links.links-while-installed, Theorems.Drain.Links.sound-while-installed, Theorems.Drain.Links.while_installed, Theorems.Drain.Whole.node-readied, Theorems.Drain.Whole.preparation-count, Theorems.Drain.Whole.preparation-nodes, Theorems.Drain.Whole.preparation-passing, Theorems.Drain.Whole.preparation-readied, Theorems.Drain.Whole.readied_at, Theorems.Drain.Whole.readied_node}
use Rattle.drain.proofs.{Laws.Order.order-none, Laws.Order.order-some}
use Rattle.drain.specs.{Order.held, Order.next_ready, Order.order_from, Order.order_of, Order.ready, Order.uses, Order.waits}

-- ---- the column of what waits

pub record Mirrors (U : Tables) (L : List Link) (waiting : List Bool) : Type 0 where
  pub readied : Readied U.nodes
  pub links : U.links ≡ map (while_installed U.nodes) L
  pub waits-are : (i : ℕ) → waits waiting i ≡ installed U.nodes i
  pub short : length U.nodes ≤ length waiting

module _ {U : Tables} {L : List Link} {waiting : List Bool} (h : Mirrors U L waiting) where
  -- a live link of the tables with this provider
  used : (id : ℕ) → any (relies id) U.links ≡ any (uses waiting id) L
  unfolding relies uses
  used id =
      ap (any (relies id)) h.links ∙ sym (any-map (while_installed U.nodes) (relies id) L)
      ∙ ap (λ (p : Link → Bool). any p L) (λ i l. l.live && sym (h.waits-are (consumer_in l)) i && eqb (provider_in l) id)

  -- begin_cleanup accepts an installed one that no live link has as provider
  cleanable : (id : ℕ) → can_be_cleaned U id ≡ installed U.nodes id && not (any (relies id) U.links)
  unfolding can_be_cleaned first
  cleanable id = go (cases (installed U.nodes id)) (cases (node_at U.nodes id).present) (cases (is_unloading (node_at U.nodes id).phase))
    where
      n : Node
      n = node_at U.nodes id

      last : (b : Bool) → is_none (cond b (some Error.Relied) none) ≡ not b
      last true = refl
      last false = refl

      go : (installed U.nodes id ≡ true) ⊎ (installed U.nodes id ≡ false) → (n.present ≡ true) ⊎ (n.present ≡ false) → (is_unloading n.phase ≡ true) ⊎ (is_unloading n.phase ≡ false) →
          is_none (first (begin_cleanup_tests U id)) ≡ installed U.nodes id && not (any (relies id) U.links)
      go (inl t) p u =
          let (a, b) = h.readied id t in
          rw (and_l n.present _ t, a, b, and_r n.present _ t) (last (any (relies id) U.links))
      go (inr t) (inr p) u = rw (t, p)
      go (inr t) (inl p) (inr u) = rw (t, p, u)
      go (inr t) (inl p) (inl u) = clash (installed U.nodes id) (and_i n.present _ p (unloading_installed n.phase u)) t

  ready-are : (id : ℕ) → can_be_cleaned U id ≡ ready waiting L id
  unfolding ready
  ready-are id = cleanable id ∙ rw (used id, h.waits-are id)

  -- the lowest is the same
  same_next : next_cleaned U ≡ next_ready waiting L
  unfolding node_at
  same_next =
      ap (λ (p : ℕ → Bool). lowest p (length U.nodes) 0) (λ i id. ready-are id i)
      ∙ sym (lowest-longer (ready waiting L) (length U.nodes) (length waiting) 0 (λ j l. sym (ready-are j) ∙ cleanable j ∙ rw (past j (omega arith))) h.short)
    where
      past : (j : ℕ) → length U.nodes ≤ j → installed U.nodes j ≡ false
      past j l = rw (List·getD-eq-default U.nodes blank_node {n = j} l)

-- one cleaned
mirrors-next :
    (S : Sizes) {U : Tables} {L : List Link} {waiting : List Bool} → Mirrors U L waiting → (k : ℕ) → Passed (begin_cleanup_tests U k) → Mirrors (results U (cleanup k)) L (set waiting k false)
unfolding node_at
mirrors-next S {U} {L} {waiting} h k p =
    record {
      readied = cleanup-readied S U k p h.readied;
      links = links-while-installed S U (cleanup k) L (cleanup-passing S U k p) h.links;
      waits-are = λ i. rw (cleanup-nodes S U k p) (same i (ℕ_discrete i k));
      short = rw (cleanup-nodes S U k p, length-set U.nodes k (restored_node (node_at U.nodes k)), length-set waiting k false) h.short;
    }
  where
    below : k < length U.nodes
    below = present-lt U.nodes k (not_f _ p.0)

    same : (i : ℕ) → Dec (i ≡ k) → waits (set waiting k false) i ≡ installed (set U.nodes k (restored_node (node_at U.nodes k))) i
    same i (yes e) =
        let node = get_or-set_same U.nodes k (restored_node (get_or U.nodes k blank_node)) blank_node below in
        rw (e, get_or-set_same waiting k false false (omega (arith, h.short, below)), node) (sym (and-false (node_at U.nodes k).present))
    same i (no e) = get_or-set_other waiting k i false false e ∙ h.waits-are i ∙ ap is_installed (sym (get_or-set_other U.nodes k i (restored_node (get_or U.nodes k blank_node)) blank_node e))

-- the same order
pub same_order : (S : Sizes) (n : ℕ) {U : Tables} {L : List Link} {waiting : List Bool} → Mirrors U L waiting → cleaning_order n U ≡ order_from n waiting L
same_order S zero h = unfold cleaning_order order_from in refl
same_order S (suc n) {U} {L} {waiting} h = go (next_cleaned U) refl (λ k p. same_order S n (mirrors-next S h k p))
  where
    go :
        (o : Option ℕ)
        → next_cleaned U ≡ o
        → ((k : ℕ) → Passed (begin_cleanup_tests U k) → cleaning_order n (results U (cleanup k)) ≡ order_from n (set waiting k false) L)
        → cleaning_order (suc n) U ≡ order_from (suc n) waiting L
    go none e ih = rw (order-done n U e, order-none (suc n) waiting L (sym (same_next h) ∙ e))
    go (some k) e ih =
        let p : Passed (begin_cleanup_tests U k) = cleanable_passed U k (lowest-some (can_be_cleaned U) (length U.nodes) 0 k e).0 in
        rw (order-next n U k e, order-some n waiting L k (sym (same_next h) ∙ e), ih k p)

-- ---- the drain's

-- where the column says which serve: what is installed once all have left and the restoring ones are restored
pub order_is :
    (S : Sizes) (T : Tables) (serving : List Bool) → sound S T ≡ true → ((i : ℕ) → waits serving i ≡ is_serving (node_at T.nodes i)) → length T.nodes ≤ length serving →
    held serving ≡ count is_serving T → cleaned_in (results T (preparation T)) ≡ order_of serving T.links
order_is S T serving h w l c =
    same_order S (count is_installed (results T (preparation T))) start ∙ ap (λ (n : ℕ). order_from n serving T.links) (preparation-count S T ∙ sym c)
  where
    start : Mirrors (results T (preparation T)) T.links serving
    start =
        record {
          readied = preparation-readied S T;
          links = sound-while-installed S T (preparation T) h (preparation-passing S T);
          waits-are = λ i. w i ∙ rw (preparation-nodes S T, readied_at T.nodes i) (sym (node-readied (node_at T.nodes i)).serves);
          short = rw (preparation-nodes S T, length-map T.nodes readied_node) l;
        }
