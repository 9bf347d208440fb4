-- Tests in order: those that all passed, and the first that applies.
use Rattle.std.specs.Prelude.{Err, Ok}
use Rattle.model.proofs.Logic.{Bool, Option, [], ◌++◌, ◌∙◌, ◌↔◌, ◌∷◌, ◌≡◌, ◌⊎◌, ap, arith, eq-eqb, eqb, false, inl, inr, none, not, refl, some, sym, true, ℕ, ⊎_elim}
use Rattle.model.specs.{Answers.checked, Commands.Command, Commands.Step, Commands.report, Commands.result, Commands.settle, Commands.step, Commands.tests, Lists.all, Refusals.Reply, Refusals.Tests, Refusals.accepted, Refusals.first, Refusals.number, Sizes.Sizes, Tables.Tables, Answers.Answer, declared.Error.Error}
use Rattle.model.proofs.{Laws.Booleans.and_l, Laws.Booleans.and_r, Laws.Booleans.clash}

-- no test of a row applies, by place
abbrev pub Passed : Tests → Type 0
Passed [] = Unit {0}
Passed (t ∷ ts) = (t.0 ≡ false) × Passed ts

pub passed : (ts : Tests) → first ts ≡ none → Passed ts
unfolding first
passed [] h = tt
passed (t ∷ ts) h = go t.0 refl (λ e. passed ts e)
  where
    go : (b : Bool) → t.0 ≡ b → (first ts ≡ none → Passed ts) → (t.0 ≡ false) × Passed ts
    go true e f = let z : ◌≡◌ {A = ℕ} 0 1 = cc (rw e at h) in absurd (omega arith)
    go false e f = (e, f (rw e at h))

pub of_passed : (ts : Tests) → Passed ts → first ts ≡ none
unfolding first
of_passed [] p = refl
of_passed (t ∷ ts) p = rw p.0 (of_passed ts p.1)

pub skip : (b : Bool) (e : Error) (ts : Tests) → b ≡ false → first ((b, e) ∷ ts) ≡ first ts
unfolding first
skip b e ts h = rw h

pub stop : (b : Bool) (e : Error) (ts : Tests) → b ≡ true → first ((b, e) ∷ ts) ≡ some e
unfolding first
stop b e ts h = rw h

-- ---- a row whose first tests are answered by themselves

-- a refusal among them is the row's
pub refused-among : (ts us : Tests) (a : Answer) (x : Error) → a ≡ checked ts → a ≡ Err x → first (ts ++ us) ≡ some x
unfolding first
refused-among [] us a x h r = let z : ◌≡◌ {A = ℕ} 0 1 = cc in absurd (omega arith)
refused-among (t ∷ ts) us a x h r = go t.0 refl (λ q. refused-among ts us a x q r)
  where
    go : (b : Bool) → t.0 ≡ b → (a ≡ checked ts → first (ts ++ us) ≡ some x) → first ((t ∷ ts) ++ us) ≡ some x
    go true e f = let y : t.1 ≡ x = cc (rw e at h, r) in rw (e, y)
    go false e f = rw e (f (rw e at h))

-- done: none of them applies
pub done-passed : (ts : Tests) (a : Answer) → a ≡ checked ts → a ≡ Ok tt → Passed ts
unfolding first
done-passed [] a h d = tt
done-passed (t ∷ ts) a h d = go t.0 refl (λ q. done-passed ts a q d)
  where
    go : (b : Bool) → t.0 ≡ b → (a ≡ checked ts → Passed ts) → (t.0 ≡ false) × Passed ts
    go true e f = let z : ◌≡◌ {A = ℕ} 0 1 = cc (rw e at h, d) in absurd (omega arith)
    go false e f = (e, f (rw e at h))

-- and the others decide
pub passed_first : (ts us : Tests) → Passed ts → first (ts ++ us) ≡ first us
unfolding first
passed_first [] us p = refl
passed_first (t ∷ ts) us p = rw p.0 (passed_first ts us p.1)

-- a command's outcome, refused or accepted
pub step-cases :
    (P : Step → Type 0) (S : Sizes) (T : Tables) (c : Command)
    → ((e : Error) → first (tests S T c) ≡ some e → P (record { tables = T; reply = Reply.refused e }))
    → (Passed (tests S T c) → P (record { tables = result T c; reply = report T c }))
    → P (step S T c)
unfolding step settle
step-cases P S T c p f = go (first (tests S T c)) refl
  where
    go : (o : Option Error) → first (tests S T c) ≡ o → P (settle o T (record { tables = result T c; reply = report T c }))
    go none e = f (passed (tests S T c) e)
    go (some x) e = p x e

-- what holds of the tables before, and of those that an accepted command leaves, holds after it
pub step_keeps : (P : Tables → Type 0) (S : Sizes) (T : Tables) (c : Command) → P T → (Passed (tests S T c) → P (result T c)) → P (step S T c).tables
step_keeps P S T c p f = step-cases (λ o. P o.tables) S T c (λ e h. p) f

-- the refusal of the first test that applies is one of the row
pub first-among : (ts : Tests) (e : Error) (f : Error → Bool) → all (λ (t : Bool × Error). f t.1) ts ≡ true → first ts ≡ some e → f e ≡ true
unfolding first
first-among [] e f h q = let z : ◌≡◌ {A = ℕ} 0 1 = cc in absurd (omega arith)
first-among (t ∷ ts) e f h q = go t.0 refl (λ x. first-among ts e f (and_r (f t.1) _ h) x)
  where
    go : (b : Bool) → t.0 ≡ b → (first ts ≡ some e → f e ≡ true) → f e ≡ true
    go true x g = let y : t.1 ≡ e = cc (rw x at q) in rw y at (and_l (f t.1) _ h)
    go false x g = g (rw x at q)

-- no test of a row gives this refusal
abbrev pub without : Error → Tests → Bool
without x ts = all (λ (t : Bool × Error). not (eqb (number t.1) (number x))) ts

-- a refusal that one test of a row alone gives: it applies, and none before it does
pub refused-at : (ts : Tests) (b : Bool) (x : Error) (us : Tests) → without x ts ≡ true → without x us ≡ true → (first (ts ++ ((b, x) ∷ us)) ≡ some x) ↔ (Passed ts × (b ≡ true))
unfolding first
refused-at ts b x us no-earlier no-later = (at ts no-earlier, λ (p, h). passed_first ts ((b, x) ∷ us) p ∙ stop b x us h)
  where
    itself : (C : Type 0) → not (eqb (number x) (number x)) ≡ true → C
    itself C h = clash _ h (ap not (eq-eqb (number x) (number x) refl))

    here : (c : Bool) → b ≡ c → first ((b, x) ∷ us) ≡ some x → Unit {0} × (b ≡ true)
    here true e h = (tt, e)
    here false e h = itself _ (first-among us x (λ (y : Error). not (eqb (number y) (number x))) no-later (sym (skip b x us e) ∙ h))

    at : (vs : Tests) → without x vs ≡ true → first (vs ++ ((b, x) ∷ us)) ≡ some x → Passed vs × (b ≡ true)
    at [] o h = here b refl h
    at (v ∷ vs) o h = go v.0 refl (λ q. at vs (and_r (not (eqb (number v.1) (number x))) _ o) q)
      where
        go : (c : Bool) → v.0 ≡ c → (first (vs ++ ((b, x) ∷ us)) ≡ some x → Passed vs × (b ≡ true)) → Passed (v ∷ vs) × (b ≡ true)
        go true e f = let y : v.1 ≡ x = cc (rw e at h) in itself _ (rw y at (and_l (not (eqb (number v.1) (number x))) _ o))
        go false e f = let (p, z) = f (rw e at h) in ((e, p), z)

-- a refusal that a later test gives too: this one applies, or the others refuse so
pub refused-ahead : (b : Bool) (x : Error) (us : Tests) → (first ((b, x) ∷ us) ≡ some x) ↔ ((b ≡ true) ⊎ (first us ≡ some x))
unfolding first
refused-ahead true x us = (λ h. inl refl, λ h. refl)
refused-ahead false x us = (λ h. inr h, λ h. ⊎_elim (λ e. clash false e refl) (λ e. e) h)

-- what a command replies when no test applies is no refusal
pub report-accepts : (T : Tables) (c : Command) → accepted (report T c) ≡ true
report-accepts T (Command.insert q ds ps) = refl
report-accepts T (Command.declare_provision id p) = refl
report-accepts T (Command.release_provision id p) = refl
report-accepts T (Command.configure_pending_dependencies id l) = refl
report-accepts T (Command.begin id) = refl
report-accepts T (Command.finish id) = refl
report-accepts T (Command.leave id) = refl
report-accepts T (Command.leave_if_changed id) = refl
report-accepts T (Command.retire id) = refl
report-accepts T (Command.begin_cleanup id) = refl
report-accepts T (Command.finish_cleanup id) = refl
report-accepts T (Command.remove id) = refl
report-accepts T Command.compact_bindings = refl
report-accepts T Command.compact_declarations = refl
