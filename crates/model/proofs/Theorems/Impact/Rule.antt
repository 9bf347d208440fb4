-- The claim: what asking says of a leave is what leave, target, leave_if_changed and check_iteration answer, of every kernel.
use Rattle.model.proofs.Logic.{Bool, List-as-Memᴰ, List·Memᴰ·not-nil, Option, ◌↔◌, ◌∙◌, ◌≡◌, ◌≤◌, ap, arith, false, length, none, refl, some, sym, true, ℕ}
use Rattle.model.specs.{Commands.Command, Commands.step, Drain.must_leave, Impact.Hit, Impact.ImpactRule, Impact.Predicts, Impact.affected, Impact.impact, Impact.is_hit, Impact.kernel_impact, Impact.refused_impact, Impact.runs, Impact.unless_refused, Iteration.target_of, Kernels.asked, Kernels.commanded, Layouts.Layout, Layouts.lay_out, Layouts.sound_kernel, Layouts.tables_of, Lifecycle.check_iteration, Lifecycle.leave_tests, Lifecycle.left, Lifecycle.phase_at, Observers.ids, Records.is_loading, Refusals.Reply, Refusals.first, Resolution.Target, Resolution.target, Resolution.target_list, Sizes.Sizes, Soundness.sound, Tables.Tables, Tables.node_at, Tables.present, declared.Error.Error}
use Rattle.model.proofs.{Laws.Ascending.ascending_at, Laws.Booleans.and_i, Laws.Booleans.and_l, Laws.Booleans.and_r, Laws.Facts.facts, Laws.Facts.of_facts, Laws.Lists.length-keep, Laws.Refusals.Passed, Laws.Refusals.of_passed, Laws.Refusals.passed, Theorems.Drain.Sweep.length-places, Theorems.Impact.Changed.checks-exactly, Theorems.Impact.Changed.done_refused, Theorems.Impact.Changed.leaves-exactly, Theorems.Impact.Hit.affected-ascend, Theorems.Impact.Hit.affected-few, Theorems.Impact.Hit.affected-is, Theorems.Impact.Hit.affected-relies, Theorems.Impact.Hit.unaffected_same, Theorems.Kernels.asked_of, Theorems.Kernels.asked-sound, Theorems.Kernels.asked-unsound, Theorems.Kernels.commanded-accepted, Theorems.Kernels.commanded-refused, Theorems.Kernels.commanded-unsound, Theorems.Layouts.tables-sound, Theorems.Lifecycle.left-sound}

-- done, with the list; or leave's refusal, and nobody
pub impact-done : (T : Tables) (id : ℕ) → Passed (leave_tests T id) → impact T id ≡ record { reply = Reply.done; hit = affected T id }
unfolding unless_refused
impact-done T id q = ap (λ (o : Option Error). unless_refused o (affected T id)) (of_passed (leave_tests T id) q)

pub impact-refused : (T : Tables) (id : ℕ) (e : Error) → first (leave_tests T id) ≡ some e → impact T id ≡ refused_impact e
unfolding unless_refused
impact-refused T id e h = ap (λ (o : Option Error). unless_refused o (affected T id)) h

both : {A B : Type 0} (P : A → B → Type 0) {a c : A} {b d : B} → a ≡ c → b ≡ d → P c d → P a b
both P e f p = rw (e, f) p

-- two answers told on tables, told on kernels
through : {L : Type 0} {A : Type 0} {x y u v a b : A} → L ↔ ((x ≡ a) × (y ≡ b)) → u ≡ x → v ≡ y → L ↔ ((u ≡ a) × (v ≡ b))
through (to, of) e f = (λ l. let (g, h) = to l in (e ∙ g, f ∙ h), λ (g, h). of (sym e ∙ g, sym f ∙ h))

-- a refusal, and nobody
predicted_refused : (S : Sizes) (k : Layout) (id : ℕ) (e : Error) → Predicts S k id (refused_impact e) (record { kernel = k; reply = Reply.refused e })
predicted_refused S k id e = record {
  replies = refl;
  empty-if-refused = λ f x. refl;
  lists = λ x. done_refused x;
  ascends = λ a b l m. absurd (omega arith);
  relying = λ j m. absurd (List·Memᴰ·not-nil m);
  few = omega arith;
  others = λ x. done_refused x;
  leaves = λ x. done_refused x;
  checks = λ x. done_refused x;
}

-- a leave that is done, and the list
module _ (S : Sizes) (k : Layout) (id : ℕ) (h : sound_kernel S k ≡ true) (q : Passed (leave_tests (tables_of k) id)) where
  abbrev T : Tables
  T = tables_of k

  abbrev after : Layout
  after = lay_out S (left T id)

  sound-before : sound S T ≡ true
  sound-before = tables-sound S k h

  sound-after : sound S (left T id) ≡ true
  sound-after = of_facts S (left T id) (left-sound S T id (facts S T sound-before) q)

  on-before : {A : Type 0} (u : A) (f : Tables → A) → asked S k u f ≡ f T
  on-before u f = asked-sound S k u f h

  on-after : {A : Type 0} (u : A) (f : Tables → A) → asked S after u f ≡ f (left T id)
  on-after u f = asked_of S (left T id) sound-after u f

  target-before : (j : ℕ) → target_of S k j ≡ target T j
  target-before j = on-before Target.nothing (λ U. target U j)

  target-after : (j : ℕ) → target_of S after j ≡ target (left T id) j
  target-after j = on-after Target.nothing (λ U. target U j)

  running : (j : ℕ) → runs S k j ≡ must_leave (node_at T.nodes j)
  running j = on-before false (λ U. must_leave (node_at U.nodes j))

  hit-is : (j : ℕ) → List-as-Memᴰ j (affected T id) ↔ Hit S k after id j
  hit-is j = (
    λ m.
        let (t, e) = (affected-is T id j).0 m in
        record {
          other = t.other;
          running = running j ∙ and_i (present T.nodes j) _ t.there t.runs;
          before = λ n. t.has (sym (ap target_list (target-before j)) ∙ n);
          after = ap target_list (target-after j) ∙ e;
        },
    λ w.
        let r : must_leave (node_at T.nodes j) ≡ true = sym (running j) ∙ w.running in
        let has : target_list (target T j) ≡ none → ⊥ = λ n. w.before (ap target_list (target-before j) ∙ n) in
        (affected-is T id j).1 (
          record { there = and_l (present T.nodes j) _ r; other = w.other; runs = and_r (present T.nodes j) _ r; has = has },
          sym (ap target_list (target-after j)) ∙ w.after,
        ),
  )

  same_off : (j : ℕ) → (j ≡ id → ⊥) → runs S k j ≡ true → (List-as-Memᴰ j (affected T id) → ⊥) → target_list (target_of S after j) ≡ target_list (target_of S k j)
  same_off j d r f =
      let w : must_leave (node_at T.nodes j) ≡ true = sym (running j) ∙ r in
      let same = unaffected_same T id q j d (and_l (present T.nodes j) _ w) (and_r (present T.nodes j) _ w) f in
      ap target_list (target-after j) ∙ same ∙ sym (ap target_list (target-before j))

  predicted_done : Predicts S k id (record { reply = Reply.done; hit = affected T id }) (record { kernel = after; reply = Reply.done })
  predicted_done = record {
    replies = refl;
    empty-if-refused = λ e x. done_refused (sym x);
    lists = λ x. hit-is;
    ascends = ascending_at 0 (affected T id) (affected-ascend T id);
    relying = affected-relies S T sound-before id q;
    few = affected-few S T sound-before id q;
    others = λ x. same_off;
    leaves = λ x j d.
        let u = Reply.refused Error.Damaged in
        let c = Command.leave_if_changed j in
        through (leaves-exactly S T id q j d) (on-before u (λ U. (step S U c).reply)) (on-after u (λ U. (step S U c).reply));
    checks = λ x j d l.
        let u = Reply.refused Error.Damaged in
        let loading = sym (on-before false (λ U. is_loading (phase_at U j))) ∙ l in
        through (checks-exactly S T id q j d loading) (on-before u (λ U. check_iteration U j)) (on-after u (λ U. check_iteration U j));
  }

pub impact-rule : ImpactRule
impact-rule S k id = go (sound_kernel S k) refl
  where
    go : (b : Bool) → sound_kernel S k ≡ b → Predicts S k id (kernel_impact S k id) (commanded S k (Command.leave id))
    go false h = both (Predicts S k id) (asked-unsound S k _ _ h) (commanded-unsound S k (Command.leave id) h) (predicted_refused S k id Error.Damaged)
    go true h = tested (first (leave_tests (tables_of k) id)) refl
      where
        tested : (o : Option Error) → first (leave_tests (tables_of k) id) ≡ o → Predicts S k id (kernel_impact S k id) (commanded S k (Command.leave id))
        tested (some e) x = both (Predicts S k id) (asked-sound S k _ _ h ∙ impact-refused (tables_of k) id e x) (commanded-refused S k (Command.leave id) e h x) (predicted_refused S k id e)
        tested none x =
            let q = passed (leave_tests (tables_of k) id) x in
            both (Predicts S k id) (asked-sound S k _ _ h ∙ impact-done (tables_of k) id q) (commanded-accepted S k (Command.leave id) h q) (predicted_done S k id h q)

-- the list is no longer than there are identities
affected-within : (S : Sizes) (T : Tables) (id : ℕ) → sound S T ≡ true → length (affected T id) ≤ S.identities
unfolding affected
affected-within S T id h =
    let kept = length-keep (is_hit T id) (ids T) in
    let listed = length-places (λ n. n.present) 0 T.nodes in
    omega (arith, kept, listed, length-keep (λ n. n.present) T.nodes, (facts S T h).sizes.nodes)

pub impact-fits : (S : Sizes) (k : Layout) (id : ℕ) → length (kernel_impact S k id).hit ≤ S.identities
unfolding unless_refused
impact-fits S k id = go (sound_kernel S k) refl
  where
    within : sound S (tables_of k) ≡ true → (o : Option Error) → length (unless_refused o (affected (tables_of k) id)).hit ≤ S.identities
    within h none = affected-within S (tables_of k) id h
    within h (some e) = omega arith

    go : (b : Bool) → sound_kernel S k ≡ b → length (kernel_impact S k id).hit ≤ S.identities
    go false h = rw (asked-unsound S k (refused_impact Error.Damaged) (λ U. impact U id) h) (omega arith)
    go true h = rw (asked-sound S k (refused_impact Error.Damaged) (λ U. impact U id) h) (within (tables-sound S k h) (first (leave_tests (tables_of k) id)))
