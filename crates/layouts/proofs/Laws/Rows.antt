-- What follows from an answer: of a row of tests asked of a kernel, and of the commands and checks whose rows start with it.
use Rattle.std.specs.Prelude.{Err, Ok}
use Rattle.model.proofs.Logic.{Option, ◌++◌, ◌∙◌, ◌≡◌, ◌⊎◌, ap, arith, false, inl, inr, none, some, sym, true, ℕ}
use Rattle.model.specs.{Answers.answer, Answers.checked, Commands.Command, Commands.report, Commands.result, Commands.tests, Kernels.commanded, Layouts.Layout, Layouts.Sized, Layouts.lay_out, Layouts.sound_kernel, Layouts.tables_of, Refusals.Reply, Refusals.Tests, Refusals.first, Refusals.or_else, Sizes.Sizes, Tables.Tables, Answers.Answer, declared.Error.Error}
use Rattle.layouts.proofs.{Laws.Sound.SoundKernel, Laws.Sound.ask-sound}
use Rattle.layouts.specs.{Rows.row_answer}
use Rattle.model.proofs.{Laws.Booleans.cases, Laws.Refusals.Passed, Laws.Refusals.done-passed, Laws.Refusals.passed, Laws.Refusals.refused-among, Theorems.Kernels.asked-unsound, Theorems.Kernels.commanded-accepted, Theorems.Kernels.commanded-refused, Theorems.Kernels.commanded-unsound}

-- a command refused, the kernel unchanged
abbrev pub Refused : Sizes → Layout → Command → Error → Type 0
Refused S k c x = commanded S k c ≡ record { kernel = k; reply = Reply.refused x }

-- and accepted
abbrev pub Accepted : Sizes → Layout → Command → Type 0
Accepted S k c = commanded S k c ≡ record { kernel = lay_out S (result (tables_of k) c); reply = report (tables_of k) c }

pub done-or-refused : {A : Type 0} (a : Answer) (x : Error) → a ≡ Ok tt → a ≡ Err x → A
done-or-refused a x d r = let z : ◌≡◌ {A = ℕ} 0 1 = cc in absurd (omega arith)

-- ---- on a sound kernel

module _ {S : Sizes} {k : Layout} (K : SoundKernel S k) where
  pub row_is : (f : Tables → Tests) → checked (f (tables_of k)) ≡ row_answer S k f
  row_is f = sym (ask-sound K (Err Error.Damaged) (λ T. checked (f T)))

  pub row-refuses : (f : Tables → Tests) {x : Error} → first (f (tables_of k)) ≡ some x → Err x ≡ row_answer S k f
  row-refuses f h = sym (ap (λ (o : Option Error). answer (or_else o Reply.done)) h) ∙ row_is f

  pub refused-by : (c : Command) {x : Error} → first (tests S (tables_of k) c) ≡ some x → Refused S k c x
  refused-by c f = commanded-refused S k c _ K.sound f

  pub accepted-by : (c : Command) → first (tests S (tables_of k) c) ≡ none → Accepted S k c
  accepted-by c f = commanded-accepted S k c K.sound (passed _ f)

-- ---- from the answer

module _ {S : Sizes} {k : Layout} (z : Sized S k) (f : Tables → Tests) (a : Answer) (e : a ≡ row_answer S k f) where
  Ways : Type 0
  Ways = ((sound_kernel S k ≡ false) × (a ≡ Err Error.Damaged)) ⊎ (SoundKernel S k × (a ≡ checked (f (tables_of k))))

  ways : Ways
  unfolding Ways
  ways = go (cases (sound_kernel S k))
    where
      go : (sound_kernel S k ≡ true) ⊎ (sound_kernel S k ≡ false) → Ways
      go (inl h) = inr (record { sized = z; sound = h }, e ∙ sym (row_is (record { sized = z; sound = h }) f))
      go (inr h) = inl (h, e ∙ asked-unsound S k (Err Error.Damaged) (λ T. checked (f T)) h)

  -- done: the kernel is sound, and no test applies
  pub done-sound : a ≡ Ok tt → SoundKernel S k
  unfolding Ways
  done-sound d = go ways
    where
      go : Ways → SoundKernel S k
      go (inl w) = done-or-refused a _ d w.1
      go (inr w) = w.0

  pub done-row : a ≡ Ok tt → Passed (f (tables_of k))
  unfolding Ways
  done-row d = go ways
    where
      go : Ways → Passed (f (tables_of k))
      go (inl w) = done-or-refused a _ d w.1
      go (inr w) = done-passed (f (tables_of k)) a w.1 d

  -- a refusal is that of every longer row, and of a command with such a row
  module _ (us : Tests) {x : Error} (r : a ≡ Err x) where
    pub refused-row : (g : Tables → Tests) → g (tables_of k) ≡ f (tables_of k) ++ us → Err x ≡ row_answer S k g
    unfolding Ways
    refused-row g q = go ways
      where
        go : Ways → Err x ≡ row_answer S k g
        go (inl w) = sym r ∙ w.1 ∙ sym (asked-unsound S k (Err Error.Damaged) (λ T. checked (g T)) w.0)
        go (inr w) = row-refuses w.0 g (ap first q ∙ refused-among (f (tables_of k)) us a x w.1 r)

    pub refused-command : (c : Command) → tests S (tables_of k) c ≡ f (tables_of k) ++ us → Refused S k c x
    unfolding Ways
    refused-command c q = go ways
      where
        go : Ways → Refused S k c x
        go (inl w) = commanded-unsound S k c w.0 ∙ ap (λ (y : Error). record { kernel = k; reply = Reply.refused y }) (let y : Error.Damaged ≡ x = cc in y)
        go (inr w) = refused-by w.0 c (ap first q ∙ refused-among (f (tables_of k)) us a x w.1 r)
