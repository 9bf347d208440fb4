-- What leave_if_changed and check_iteration answer before the leave and after it: just of those on the list the answers turn.
use Rattle.model.proofs.Logic.{Bool, List-as-Memᴰ, Option, [], ◌↔◌, ◌∙◌, ◌∷◌, ◌≡◌, ap, arith, false, none, not, refl, some, sym, true, ℕ}
use Rattle.model.specs.{Commands.Command, Commands.settle, Commands.step, Impact.affected, Impact.has_target, Lifecycle.check_iteration, Lifecycle.leave_if_changed_tests, Lifecycle.leave_tests, Lifecycle.left, Lifecycle.phase_at, Records.is_loading, Records.is_running, Refusals.Reply, Refusals.Tests, Refusals.first, Refusals.or_else, Sizes.Sizes, Tables.Tables, Tables.node_at, Tables.present, declared.Error.Error, declared.records.Node.Node}
use Rattle.model.proofs.{Laws.Booleans.f_not, Laws.Booleans.not_f, Laws.Booleans.not_t, Laws.Phases.loading_running, Laws.Refusals.Passed, Laws.Refusals.of_passed, Laws.Refusals.passed, Laws.Refusals.refused-at, Theorems.Impact.Hit.affected-is, Theorems.Impact.Hit.is-none, Theorems.Impact.Hit.is-there, Theorems.Impact.Hit.not_none, Theorems.Impact.Target.node_kept}

pub done_refused : {C : Type 0} {e : Error} → Reply.refused e ≡ Reply.done → C
done_refused x = let z : ◌≡◌ {A = ℕ} 0 1 = cc in absurd (omega arith)

-- ---- a row whose last test gives 6: what leave_if_changed and check_iteration test

module _ (a b c : Bool) where
  abbrev row : Tests
  row = (a, Error.Unknown) ∷ (b, Error.InvalidState) ∷ (c, Error.Changed) ∷ []

  row-changed : (or_else (first row) Reply.done ≡ Reply.refused Error.Changed) ↔ ((a ≡ false) × (b ≡ false) × (c ≡ true))
  row-changed =
      let (to, of) = refused-at ((a, Error.Unknown) ∷ (b, Error.InvalidState) ∷ []) c Error.Changed [] refl refl in
      (λ x. let (p, e) = to (refused-by (first row) x) in (p.0, p.1.0, e), λ (x, y, e). ap (λ (o : Option Error). or_else o Reply.done) (of ((x, (y, tt)), e)))
    where
      refused-by : (o : Option Error) → or_else o Reply.done ≡ Reply.refused Error.Changed → o ≡ some Error.Changed
      refused-by none x = done_refused (sym x)
      refused-by (some e) x = let y : e ≡ Error.Changed = cc in ap some y

  row_done : (or_else (first row) Reply.done ≡ Reply.done) ↔ ((a ≡ false) × (b ≡ false) × (c ≡ false))
  row_done = (λ x. let p = passed row (none_of (first row) x) in (p.0, p.1.0, p.1.1.0), λ (x, y, e). ap (λ (o : Option Error). or_else o Reply.done) (of_passed row (x, (y, (e, tt)))))
    where
      none_of : (o : Option Error) → or_else o Reply.done ≡ Reply.done → o ≡ none
      none_of none x = refl
      none_of (some e) x = done_refused x

-- ---- on tables, where leave's tests are passed

settled : (o : Option Error) (T U : Tables) → (settle o T (record { tables = U; reply = Reply.done })).reply ≡ or_else o Reply.done
unfolding settle
settled none T U = refl
settled (some e) T U = refl

abbrev leave_reply : Sizes → Tables → ℕ → Reply
leave_reply S T j = (step S T (Command.leave_if_changed j)).reply

module _ (S : Sizes) (T : Tables) (id : ℕ) (q : Passed (leave_tests T id)) (j : ℕ) (d : j ≡ id → ⊥) where
  leave-reply : (U : Tables) → leave_reply S U j ≡ or_else (first (leave_if_changed_tests U j)) Reply.done
  unfolding step
  leave-reply U = settled (first (leave_if_changed_tests U j)) U (left U j)

  -- what a test says of another's node it says after the leave
  kept : {A : Type 0} (f : Node → A) → f (node_at (left T id).nodes j) ≡ f (node_at T.nodes j)
  kept f = ap f (node_kept T id q j d)

  abbrev Listed : Type 0
  Listed = List-as-Memᴰ j (affected T id)

  listed : present T.nodes j ≡ true → is_running (phase_at T j) ≡ true → has_target T j ≡ true → has_target (left T id) j ≡ false → Listed
  listed t r x y = (affected-is T id j).1 (record { there = t; other = d; runs = r; has = is-there _ (not_t _ x) }, is-none _ (not_f _ y))

  -- on it exactly if leave_if_changed refuses it now as unchanged, and makes it leave afterwards
  pub leaves-exactly : Listed ↔ ((leave_reply S T j ≡ Reply.refused Error.Changed) × (leave_reply S (left T id) j ≡ Reply.done))
  leaves-exactly = (
    λ m.
        let (t, e) = (affected-is T id j).0 m in
        let now : leave_reply S T j ≡ Reply.refused Error.Changed = leave-reply T ∙ (row-changed _ _ _).1 (rw t.there, rw t.runs, f_not _ (not_none _ t.has)) in
        let there : not (present (left T id).nodes j) ≡ false = kept (λ n. not n.present) ∙ rw t.there in
        let runs : not (is_running (phase_at (left T id) j)) ≡ false = kept (λ n. not (is_running n.phase)) ∙ rw t.runs in
        let then : leave_reply S (left T id) j ≡ Reply.done = leave-reply (left T id) ∙ (row_done _ _ _).1 (there, runs, rw e) in
        (now, then),
    λ (x, y).
        let (a, b, c) = (row-changed _ _ _).0 (sym (leave-reply T) ∙ x) in
        let (u, v, w) = (row_done _ _ _).0 (sym (leave-reply (left T id)) ∙ y) in
        listed (not_f _ a) (not_f _ b) c w,
  )

  -- a Loading one: exactly if check_iteration accepts it now, and refuses it afterwards as changed
  pub checks-exactly : is_loading (phase_at T j) ≡ true → Listed ↔ ((check_iteration T j ≡ Reply.done) × (check_iteration (left T id) j ≡ Reply.refused Error.Changed))
  unfolding check_iteration
  checks-exactly l = (
    λ m.
        let (t, e) = (affected-is T id j).0 m in (
          (row_done _ _ _).1 (rw t.there, rw l, not_none _ t.has),
          (row-changed _ _ _).1 (kept (λ n. not n.present) ∙ rw t.there, kept (λ n. not (is_loading n.phase)) ∙ rw l, rw e),
        ),
    λ (x, y).
        let (a, b, c) = (row_done _ _ _).0 x in
        let (u, v, w) = (row-changed _ _ _).0 y in
        listed (not_f _ a) (loading_running (phase_at T j) l) (f_not _ c) (rw w),
  )
