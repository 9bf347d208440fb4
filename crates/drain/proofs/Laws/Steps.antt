-- Steps put behind each other in one array, blank past the count.
use Rattle.model.proofs.Logic.{List, [], ◌*◌, ◌++◌, ◌+◌, ◌<◌, ◌∙◌, ◌∷◌, ◌≡◌, add-one, ap, append_assoc, arith, get_or, length, length-append, refl, set, sym, take, take-suc, ℕ}
use Rattle.model.proofs.{Laws.Arrays.snoc_padded}
use Rattle.model.specs.{Drain.blank_step, Drain.cleanup, Drain.cleanups, Drain.step_of, declared.Step.Step, declared.StepCommand.StepCommand}
use Rattle.drain.specs.{Drains.as_drain, declared.steps.Drain.Drain}
use Rattle.sizes.specs.{Sizes.STEPS}

-- one step more
pub push_laid : {d : Drain} (ss : List Step) (x : Step) → d.count < STEPS → d ≡ as_drain ss → record { steps = set d.steps d.count x; count = d.count + 1 } ≡ as_drain (ss ++ (x ∷ []))
push_laid {d} ss x l e =
    let m : length ss < STEPS = rw e at l in
    let steps = snoc_padded STEPS blank_step ss x m in
    let count : length ss + 1 ≡ length (ss ++ (x ∷ [])) = omega (arith, length-append ss (x ∷ [])) in
    rw e (λ i. record { steps = steps i; count = count i })

-- ---- two steps for each identity

pub length-cleanups : (xs : List ℕ) → length (cleanups xs) ≡ 2 * length xs
unfolding cleanups
length-cleanups [] = refl
length-cleanups (x ∷ xs) = omega (arith, length-cleanups xs)

cleanups-snoc : (xs : List ℕ) (x : ℕ) → cleanups (xs ++ (x ∷ [])) ≡ cleanups xs ++ cleanup x
unfolding cleanups
cleanups-snoc [] x = refl
cleanups-snoc (y ∷ ys) x = ap (λ (zs : List Step). cleanup y ++ zs) (cleanups-snoc ys x)

-- ---- a loop that pushes

-- what a push promises
abbrev pub Pushes : Drain → Drain → Step → Type 0
Pushes d e x = (ss : List Step) → d ≡ as_drain ss → e ≡ as_drain (ss ++ (x ∷ []))

-- the two steps of one more identity
pub cleanups_next :
    {d m e : Drain} (xs : List ℕ) {i : ℕ} (ss : List Step) → i < length xs → d ≡ as_drain (ss ++ cleanups (take i xs)) → Pushes d m (step_of StepCommand.BeginCleanup (get_or xs i 0)) →
    Pushes m e (step_of StepCommand.FinishCleanup (get_or xs i 0)) → e ≡ as_drain (ss ++ cleanups (take (i + 1) xs))
cleanups_next xs {i} ss l h p q =
    let id = get_or xs i 0 in
    let begun = step_of StepCommand.BeginCleanup id in
    let ended = step_of StepCommand.FinishCleanup id in
    let more : cleanups (take (i + 1) xs) ≡ cleanups (take i xs) ++ cleanup id = rw (add-one i, take-suc xs i 0 l) (cleanups-snoc (take i xs) id) in
    q _ (p _ h) ∙ ap as_drain (append_assoc (ss ++ cleanups (take i xs)) (begun ∷ []) (ended ∷ []) ∙ append_assoc ss (cleanups (take i xs)) (cleanup id) ∙ ap (λ (rs : List Step). ss ++ rs) (sym more))
