-- begin_cleanup and finish_cleanup of the lowest identity that can be cleaned, until none is installed.
use Rattle.model.proofs.Logic.{Bool, List, Option, [], ◌*◌, ◌<◌, ◌∙◌, ◌∷◌, ◌≡◌, ◌≤◌, ◌⊎◌, ap, arith, false, head-eq_of_cons-eq, inl, inr, length, nil≢cons, none, refl, set, set-set, some, suc, sym, true, zero, ℕ}
use Rattle.model.specs.{Commands.Command, Commands.result, Drain.can_be_cleaned, Drain.cleaning_order, Drain.cleanup, Drain.cleanups, Drain.count, Drain.next_cleaned, Drain.results, Lifecycle.begin_cleanup_tests, Lists.is_none, Lists.keep, Records.blank_node, Records.is_installed, Records.is_unloading, Records.restored_node, Records.restoring_node, Refusals.first, Sizes.Sizes, Soundness.sound, Tables.Tables, Tables.installed, Tables.node_at, Tables.present, declared.records.Node.Node}
use Rattle.model.proofs.{Laws.Booleans.and_i, Laws.Booleans.and_l, Laws.Booleans.cases, Laws.Booleans.clash, Laws.Booleans.not_f, Laws.Lists.keep-less, Laws.Lowest.lowest-none, Laws.Lowest.lowest-some, Laws.Nodes.at_same, Laws.Nodes.at_set, Laws.Nodes.present-lt, Laws.Phases.unloading_installed, Laws.Refusals.Passed, Laws.Refusals.of_passed, Laws.Refusals.passed, Theorems.Drain.Key.Readied, Theorems.Drain.Key.one_cleanable, Theorems.Drain.Sweep.Passing, Theorems.Drain.Sweep.passing_append, Theorems.Drain.Sweep.passing_sound, Theorems.Drain.Sweep.results-append}

-- ---- what begin_cleanup accepts

pub cleanable_passed : (T : Tables) (id : ℕ) → can_be_cleaned T id ≡ true → Passed (begin_cleanup_tests T id)
unfolding can_be_cleaned
cleanable_passed T id h = passed (begin_cleanup_tests T id) (go (first (begin_cleanup_tests T id)) h)
  where
    go : {A : Type 0} → (o : Option A) → is_none o ≡ true → o ≡ none
    go none e = refl
    go (some a) e = clash false e refl

pub passed_cleanable : (T : Tables) (id : ℕ) → Passed (begin_cleanup_tests T id) → can_be_cleaned T id ≡ true
unfolding can_be_cleaned
passed_cleanable T id p = rw (of_passed (begin_cleanup_tests T id) p)

-- ---- how many nodes pass

module _ (p : Node → Bool) where
  -- none passes
  count_none : p blank_node ≡ false → (ns : List Node) → length (keep p ns) ≡ 0 → (i : ℕ) → p (node_at ns i) ≡ false
  unfolding node_at
  count_none z [] h i = z
  count_none z (n ∷ ns) h i = go (p n) refl i (λ e j. count_none z ns e j)
    where
      go : (b : Bool) → p n ≡ b → (i : ℕ) → (length (keep p ns) ≡ 0 → (j : ℕ) → p (node_at ns j) ≡ false) → p (node_at (n ∷ ns) i) ≡ false
      go true e i ih = let z : length (n ∷ keep p ns) ≡ 0 = rw e at h in absurd (omega arith)
      go false e zero ih = e
      go false e (suc i) ih = ih (rw e at h) i

  pub none_count : (ns : List Node) → ((i : ℕ) → p (node_at ns i) ≡ false) → length (keep p ns) ≡ 0
  unfolding node_at
  none_count [] f = refl
  none_count (n ∷ ns) f = rw (f 0) (none_count ns (λ i. f (suc i)))

-- ---- one component cleaned

module _ (S : Sizes) (T : Tables) (k : ℕ) (p : Passed (begin_cleanup_tests T k)) where
  there : present T.nodes k ≡ true
  there = not_f _ p.0

  below : k < length T.nodes
  below = present-lt T.nodes k there

  restoring : node_at (result T (Command.begin_cleanup k)).nodes k ≡ restoring_node (node_at T.nodes k)
  restoring = at_same T.nodes k _ below

  pub cleanup-passing : Passing S T (cleanup k)
  cleanup-passing = (p, ((rw (restoring, there), (rw restoring, tt)), tt))

  -- its node is Inactive, and the others stay
  pub cleanup-nodes : (results T (cleanup k)).nodes ≡ set T.nodes k (restored_node (node_at T.nodes k))
  unfolding results
  cleanup-nodes = ap (λ (n : Node). set (set T.nodes k (restoring_node (node_at T.nodes k))) k (restored_node n)) restoring ∙ set-set T.nodes k _ _

  was_installed : installed T.nodes k ≡ true
  was_installed = and_i (present T.nodes k) _ there (unloading_installed (node_at T.nodes k).phase (and_l (is_unloading (node_at T.nodes k).phase) _ (not_f _ p.1.0)))

  pub cleanup-fewer : count is_installed T ≡ suc (count is_installed (results T (cleanup k)))
  unfolding node_at
  cleanup-fewer = rw cleanup-nodes (keep-less is_installed blank_node T.nodes k _ below was_installed (rw there))

  pub cleanup-readied : Readied T.nodes → Readied (results T (cleanup k)).nodes
  cleanup-readied q = rw cleanup-nodes (at_set (λ i n. is_installed n ≡ true → (is_unloading n.phase ≡ true) × (n.restoring ≡ false)) T.nodes k _ below
      (λ e. clash {A = (is_unloading (restored_node (node_at T.nodes k)).phase ≡ true) × (false ≡ false)} _ e (rw there)) q)

-- ---- all of them

pub record Cleaned (S : Sizes) (T : Tables) (ids : List ℕ) : Type 0 where
  pub passing : Passing S T (cleanups ids)
  pub idle : (i : ℕ) → installed (results T (cleanups ids)).nodes i ≡ false
  pub long : length (cleanups ids) ≡ 2 * count is_installed T

pub order-done : (n : ℕ) (T : Tables) → next_cleaned T ≡ none → cleaning_order (suc n) T ≡ []
unfolding cleaning_order
order-done n T e = rw (e, cleaning_order)

pub order-next : (n : ℕ) (T : Tables) (k : ℕ) → next_cleaned T ≡ some k → cleaning_order (suc n) T ≡ k ∷ cleaning_order n (results T (cleanup k))
unfolding cleaning_order
order-next n T k e = rw (e, cleaning_order)

-- each time the lowest that can be cleaned
pub order-lowest : (n : ℕ) (T : Tables) (k : ℕ) (ids : List ℕ) → cleaning_order (suc n) T ≡ k ∷ ids → (can_be_cleaned T k ≡ true) × ((j : ℕ) → j < k → can_be_cleaned T j ≡ false)
order-lowest n T k ids h = go (next_cleaned T) refl
  where
    go : (o : Option ℕ) → next_cleaned T ≡ o → (can_be_cleaned T k ≡ true) × ((j : ℕ) → j < k → can_be_cleaned T j ≡ false)
    go none e = absurd (nil≢cons (sym (order-done n T e) ∙ h))
    go (some i) e =
        let same : i ≡ k = head-eq_of_cons-eq (sym (order-next n T i e) ∙ h) in
        let (a, f) = lowest-some (can_be_cleaned T) (length T.nodes) 0 k (rw same at e) in
        (a, λ j l. f j (omega arith) l)

module _ (S : Sizes) where
  -- none can be cleaned: none is installed
  ended : (T : Tables) → sound S T ≡ true → Readied T.nodes → next_cleaned T ≡ none → (i : ℕ) → installed T.nodes i ≡ false
  ended T h q e i = go (cases (installed T.nodes i))
    where
      go : (installed T.nodes i ≡ true) ⊎ (installed T.nodes i ≡ false) → installed T.nodes i ≡ false
      go (inl x) =
          let (j, p) = one_cleanable S T h q i x in
          clash _ (passed_cleanable T j p) (lowest-none (can_be_cleaned T) (length T.nodes) 0 e j (omega arith) (omega (arith, below S T j p)))
      go (inr x) = x

  nothing : (T : Tables) → ((i : ℕ) → installed T.nodes i ≡ false) → Cleaned S T []
  unfolding results cleanups
  nothing T f = record { passing = tt; idle = f; long = rw (none_count is_installed T.nodes f) }

  one_more : (T : Tables) (k : ℕ) (ids : List ℕ) → Passed (begin_cleanup_tests T k) → Cleaned S (results T (cleanup k)) ids → Cleaned S T (k ∷ ids)
  unfolding cleanups
  one_more T k ids p r = record {
    passing = passing_append S T (cleanup k) (cleanups ids) (cleanup-passing S T k p) r.passing;
    idle = λ i. rw (results-append T (cleanup k) (cleanups ids)) (r.idle i);
    long = omega (arith, r.long, cleanup-fewer S T k p);
  }

  -- n times is enough for n installed components
  pub cleaned : (n : ℕ) (T : Tables) → sound S T ≡ true → Readied T.nodes → count is_installed T ≤ n → Cleaned S T (cleaning_order n T)
  cleaned zero T h q l = unfold cleaning_order in nothing T (count_none is_installed refl T.nodes (omega arith))
  cleaned (suc n) T h q l = go (next_cleaned T) refl (λ U x y z. cleaned n U x y z)
    where
      go :
          (o : Option ℕ)
          → next_cleaned T ≡ o
          → ((U : Tables) → sound S U ≡ true → Readied U.nodes → count is_installed U ≤ n → Cleaned S U (cleaning_order n U))
          → Cleaned S T (cleaning_order (suc n) T)
      go none e ih = rw (order-done n T e) (nothing T (ended T h q e))
      go (some k) e ih =
          let p : Passed (begin_cleanup_tests T k) = cleanable_passed T k (lowest-some (can_be_cleaned T) (length T.nodes) 0 k e).0 in
          let U : Tables = results T (cleanup k) in
          let r : Cleaned S U (cleaning_order n U) =
          ih U (passing_sound S T (cleanup k) h (cleanup-passing S T k p)) (cleanup-readied S T k p q) (omega (arith, cleanup-fewer S T k p)) in
          rw (order-next n T k e) (one_more T k (cleaning_order n U) p r)
