-- The refusals of check_insert: 9, 1, 3 and 5 exactly where the row puts them.
use Rattle.model.proofs.Logic.{Bool, Option, [], ◌++◌, ◌+◌, ◌||◌, ◌↔◌, ◌∷◌, ◌≡◌, ◌⊎◌, ap, arith, false, inl, inr, leb, length, ltb, none, not, refl, some, true, ℕ, ⊎_elim}
use Rattle.model.specs.{Insertion.check_insert, Insertion.clashes, Insertion.insert_tests, Insertion.parent_present, Insertion.parent_retired, Interface.listed, Interface.too_long, Refusals.Reply, Refusals.Tests, Refusals.first, Refusals.or_else, Sizes.Sizes, Tables.Tables, declared.Error.Error, declared.Parent.Parent, declared.PortList.PortList}
use Rattle.model.proofs.{Laws.Refusals.refused-ahead, Laws.Refusals.refused-at}

-- what a check replies, by its row
or_else_lem : (o : Option Error) (x : Error) → (or_else o Reply.done ≡ Reply.refused x) ↔ (o ≡ some x)
or_else_lem none x = (λ h. let z : ◌≡◌ {A = ℕ} 0 1 = cc in absurd (omega arith), λ h. let z : ◌≡◌ {A = ℕ} 0 1 = cc in absurd (omega arith))
or_else_lem (some e) x = (λ h. let z : e ≡ x = cc in ap some z, λ h. let z : e ≡ x = cc in ap Reply.refused z)

module _ (S : Sizes) (T : Tables) (q : Parent) (ds ps : PortList) where
  abbrev long : Bool
  long = too_long ds || too_long ps

  abbrev full : Bool
  full = leb S.identities (length T.nodes)

  abbrev absent : Bool
  absent = not (parent_present T q)

  abbrev retired : Bool
  retired = parent_retired T q

  abbrev clashing : Bool
  clashing = clashes T ds ps

  abbrev exceeded : Bool
  exceeded = ltb S.declarations (length T.declarations + length (listed ds) + length (listed ps))

  abbrev refusal : Option Error
  refusal = first (insert_tests S T q ds ps)

  -- the tests in front of the parent's, and those behind
  abbrev front : Tests
  front = (long, Error.Capacity) ∷ (full, Error.Capacity) ∷ []

  abbrev behind : Tests
  behind = (clashing, Error.Conflict) ∷ (exceeded, Error.Capacity) ∷ []

  pub check_insert_unknown : (check_insert S T q ds ps ≡ Reply.refused Error.Unknown) ↔ ((long ≡ false) × (full ≡ false) × (absent ≡ true))
  unfolding check_insert
  check_insert_unknown =
      let r = refused-at front absent Error.Unknown ((retired, Error.Retired) ∷ behind) refl refl in
      (λ h. let ((l, (f, _)), o) = r.0 ((or_else_lem refusal Error.Unknown).0 h) in (l, f, o), λ (l, f, o). (or_else_lem refusal Error.Unknown).1 (r.1 ((l, (f, tt)), o)))

  pub check_insert_retired : (check_insert S T q ds ps ≡ Reply.refused Error.Retired) ↔ ((long ≡ false) × (full ≡ false) × (absent ≡ false) × (retired ≡ true))
  unfolding check_insert
  check_insert_retired =
      let r = refused-at (front ++ ((absent, Error.Unknown) ∷ [])) retired Error.Retired behind refl refl in
      (λ h. let ((l, (f, (o, _))), t) = r.0 ((or_else_lem refusal Error.Retired).0 h) in (l, f, o, t), λ (l, f, o, t). (or_else_lem refusal Error.Retired).1 (r.1 ((l, (f, (o, tt))), t)))

  pub check_insert_conflict : (check_insert S T q ds ps ≡ Reply.refused Error.Conflict) ↔ ((long ≡ false) × (full ≡ false) × (absent ≡ false) × (retired ≡ false) × (clashing ≡ true))
  unfolding check_insert
  check_insert_conflict =
      let r = refused-at (front ++ ((absent, Error.Unknown) ∷ (retired, Error.Retired) ∷ [])) clashing Error.Conflict ((exceeded, Error.Capacity) ∷ []) refl refl in
      (λ h. let ((l, (f, (o, (t, _)))), c) = r.0 ((or_else_lem refusal Error.Conflict).0 h) in (l, f, o, t, c), λ (l, f, o, t, c). (or_else_lem refusal Error.Conflict).1 (r.1 ((l, (f, (o, (t, tt)))), c)))

  -- where 9 comes from: a list too long, no identity left, or, with none of 1, 3 and 5, no room for the declarations
  abbrev pub Full : Type 0
  Full = (long ≡ true) ⊎ (full ≡ true) ⊎ ((absent ≡ false) × (retired ≡ false) × (clashing ≡ false) × (exceeded ≡ true))

  -- the tests behind the first two, of which the last alone gives 9
  sum-refuses : (first ((absent, Error.Unknown) ∷ (retired, Error.Retired) ∷ behind) ≡ some Error.Capacity) ↔ ((absent ≡ false) × (retired ≡ false) × (clashing ≡ false) × (exceeded ≡ true))
  sum-refuses =
      let r = refused-at ((absent, Error.Unknown) ∷ (retired, Error.Retired) ∷ (clashing, Error.Conflict) ∷ []) exceeded Error.Capacity [] refl refl in
      (λ h. let ((o, (t, (c, _))), s) = r.0 h in (o, t, c, s), λ (o, t, c, s). r.1 ((o, (t, (c, tt))), s))

  pub check_insert_capacity : (check_insert S T q ds ps ≡ Reply.refused Error.Capacity) ↔ Full
  unfolding check_insert
  check_insert_capacity =
      let a = refused-ahead long Error.Capacity _ in
      let b = refused-ahead full Error.Capacity _ in (
        λ h. ⊎_elim (λ e. inl e) (λ g. ⊎_elim (λ e. inr (inl e)) (λ f. inr (inr (sum-refuses.0 f))) (b.0 g)) (a.0 ((or_else_lem refusal Error.Capacity).0 h)),
        λ h. (or_else_lem refusal Error.Capacity).1 (a.1 (⊎_elim (λ e. inl e) (λ g. inr (b.1 (⊎_elim (λ e. inl e) (λ f. inr (sum-refuses.1 f)) g))) h)),
      )
