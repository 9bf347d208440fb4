-- Accepted and refused: a command is accepted exactly if no test of its row applies, and a refused one changes nothing.
use Rattle.model.proofs.Logic.{Bool, ◌∙◌, ◌↔◌, ◌≡◌, ap, arith, eq-eqb, eqb, false, not, refl, some, true, ℕ}
use Rattle.model.specs.{Commands.Command, Commands.report, Commands.result, Commands.settle, Commands.step, Commands.tests, Lists.all, Refusals.Reply, Refusals.accepted, Refusals.first, Refusals.number, Sizes.Sizes, Tables.Tables, declared.Error.Error}
use Rattle.model.proofs.{Laws.Booleans.clash, Laws.Refusals.Passed, Laws.Refusals.first-among, Laws.Refusals.of_passed, Laws.Refusals.report-accepts, Laws.Refusals.step-cases}

module _ (S : Sizes) (T : Tables) (c : Command) where
  pub accepted-step : Passed (tests S T c) → step S T c ≡ record { tables = result T c; reply = report T c }
  unfolding step settle
  accepted-step p = rw (of_passed (tests S T c) p)

  -- accepted exactly if no test of the row applies
  pub accepts : (accepted (step S T c).reply ≡ true) ↔ Passed (tests S T c)
  accepts = (step-cases (λ o. accepted o.reply ≡ true → Passed (tests S T c)) S T c (λ e h q. clash false q refl) (λ p q. p), λ p. rw (accepted-step p) (report-accepts T c))

  -- refused exactly as the first test that applies says
  pub refuses : (x : Error) → ((step S T c).reply ≡ Reply.refused x) ↔ (first (tests S T c) ≡ some x)
  refuses x = (
    step-cases (λ o. o.reply ≡ Reply.refused x → first (tests S T c) ≡ some x) S T c
        (λ e h q. let z : e ≡ x = cc in h ∙ ap some z)
        (λ p q. clash (accepted (report T c)) (report-accepts T c) (rw q)),
    λ h. step-cases (λ o. o.reply ≡ Reply.refused x) S T c
        (λ e f. let z : e ≡ x = cc in ap Reply.refused z)
        (λ p. let z : ◌≡◌ {A = ℕ} 0 1 = cc (of_passed (tests S T c) p, h) in absurd (omega arith)),
  )

  -- unchanged
  pub refused-unchanged : accepted (step S T c).reply ≡ false → (step S T c).tables ≡ T
  refused-unchanged = step-cases (λ o. accepted o.reply ≡ false → o.tables ≡ T) S T c (λ e h q. refl) (λ p q. clash _ (report-accepts T c) q)

  -- a refusal that no test of the row gives
  pub never-refused_with : (e : Error) → all (λ (t : Bool × Error). not (eqb (number t.1) (number e))) (tests S T c) ≡ true → (step S T c).reply ≡ Reply.refused e → ⊥
  never-refused_with e h = step-cases (λ o. o.reply ≡ Reply.refused e → ⊥) S T c
      (λ x f q. let d : x ≡ e = cc in clash {A = ⊥} _ (first-among (tests S T c) e (λ y. not (eqb (number y) (number e))) h (rw d at f)) (rw (eq-eqb (number e) (number e) refl)))
      (λ p q. clash {A = ⊥} (accepted (report T c)) (report-accepts T c) (rw q))
