-- What a command hands back, refused or accepted; reached kernels are sound, so that no command on one answers 10; and the iteration rule holds of them.
use Rattle.model.proofs.Logic.{Bool, List, Option, Option·map, [], ◌&&◌, ◌∙◌, ◌∷◌, ◌≡◌, ◌≤◌, ◌⊎◌, ap, arith, cond, eqb, false, inl, inr, map, none, not, refl, some, subst, sym, true, ℕ}
use Rattle.model.specs.{Commands.Command, Commands.report, Commands.result, Commands.settle, Commands.step, Commands.tests, Iteration.IterationRule, Iteration.RuleAt, Iteration.begins, Iteration.committed_of, Iteration.iteration_of, Iteration.last, Iteration.last_from, Iteration.phase_of, Iteration.target_of, Kernels.Commanded, Kernels.EveryCallAnswered, Kernels.asked, Kernels.commanded, Kernels.empty_kernel, Kernels.kernel_from, Kernels.reached, Kernels.replied, Layouts.Layout, Layouts.lay_out, Layouts.sound_kernel, Layouts.tables_of, Lifecycle.begun_link, Lifecycle.check_iteration, Lists.all, Observers.phase, Records.binding_in, Refusals.Reply, Refusals.accepted, Refusals.first, Refusals.number, Refusals.reply_number, Resolution.Target, Resolution.committed, Resolution.target, Resolution.target_list, Sizes.Sizes, Soundness.sound, Tables.Tables, Tables.empty, declared.Binding.Binding, declared.Error.Error, declared.records.Link.Link, declared.records.Node.Node}
use Rattle.model.proofs.{Laws.Booleans.clash, Laws.Committed.begun-bindings, Laws.Refusals.Passed, Laws.Refusals.first-among, Laws.Refusals.of_passed, Laws.Refusals.report-accepts, Laws.Refusals.step-cases, Theorems.Commands.empty-sound, Theorems.Commands.run, Theorems.Commands.run_sound, Theorems.Commands.run_from, Theorems.Commands.step-sound, Theorems.Iteration.RuleOn, Theorems.Iteration.rule, Theorems.IterationInvariant.IterationInvariant, Theorems.IterationInvariant.begun_links, Theorems.IterationInvariant.empty-kept, Theorems.IterationInvariant.from-kept, Theorems.IterationInvariant.noted, Theorems.IterationInvariant.noted-map, Theorems.IterationInvariant.noted_from, Theorems.Layouts.layout_sound, Theorems.Layouts.read_back}

-- what a sound kernel answers, and an unsound one
pub asked-sound : {A : Type 0} (S : Sizes) (k : Layout) (u : A) (f : Tables → A) → sound_kernel S k ≡ true → asked S k u f ≡ f (tables_of k)
unfolding asked
asked-sound S k u f h = rw h

pub asked-unsound : {A : Type 0} (S : Sizes) (k : Layout) (u : A) (f : Tables → A) → sound_kernel S k ≡ false → asked S k u f ≡ u
unfolding asked
asked-unsound S k u f h = rw h

pub commanded-unsound : (S : Sizes) (k : Layout) (c : Command) → sound_kernel S k ≡ false → commanded S k c ≡ record { kernel = k; reply = Reply.refused Error.Damaged }
unfolding commanded asked
commanded-unsound S k c h = rw h

-- a refusal hands the kernel back unchanged
pub commanded-refused :
    (S : Sizes) (k : Layout) (c : Command) (e : Error)
    → sound_kernel S k ≡ true
    → first (tests S (tables_of k) c) ≡ some e
    → commanded S k c ≡ record { kernel = k; reply = Reply.refused e }
unfolding commanded asked step settle
commanded-refused S k c e h f = rw (h, f)

pub commanded-accepted :
    (S : Sizes) (k : Layout) (c : Command)
    → sound_kernel S k ≡ true
    → Passed (tests S (tables_of k) c)
    → commanded S k c ≡ record { kernel = lay_out S (result (tables_of k) c); reply = report (tables_of k) c }
unfolding commanded asked step settle
commanded-accepted S k c h p = rw (h, of_passed (tests S (tables_of k) c) p, report-accepts (tables_of k) c)

-- demand 1
numbered : (e : Error) → (1 ≤ number e) × (number e ≤ 10)
numbered Error.Unknown = (omega arith, omega arith)
numbered Error.InvalidState = (omega arith, omega arith)
numbered Error.Retired = (omega arith, omega arith)
numbered Error.MissingDependency = (omega arith, omega arith)
numbered Error.Conflict = (omega arith, omega arith)
numbered Error.Changed = (omega arith, omega arith)
numbered Error.Relied = (omega arith, omega arith)
numbered Error.Children = (omega arith, omega arith)
numbered Error.Capacity = (omega arith, omega arith)
numbered Error.Damaged = (omega arith, omega arith)

pub every_call_answered : EveryCallAnswered
unfolding commanded
every_call_answered S k c = go (replied S k c)
  where
    go : (r : Reply) → (reply_number r ≡ 0) ⊎ ((1 ≤ reply_number r) × (reply_number r ≤ 10) × (cond (accepted r) (lay_out S (step S (tables_of k) c).tables) k ≡ k))
    go Reply.done = inl refl
    go (Reply.issued id) = inl refl
    go (Reply.removed n) = inl refl
    go (Reply.refused e) = let (l, m) = numbered e in inr (l, m, refl)

module _ (S : Sizes) (T : Tables) (h : sound S T ≡ true) where
  -- on a laid out kernel: what is asked, and what is commanded
  pub asked_of : {A : Type 0} (u : A) (f : Tables → A) → asked S (lay_out S T) u f ≡ f T
  unfolding asked
  asked_of u f = rw (layout_sound S T h, read_back S T)

  pub commanded-of : (c : Command) → commanded S (lay_out S T) c ≡ record { kernel = lay_out S (step S T c).tables; reply = (step S T c).reply }
  commanded-of c = step-cases (λ o. step S T c ≡ o → commanded S (lay_out S T) c ≡ record { kernel = lay_out S o.tables; reply = o.reply }) S T c
      (λ e f q. commanded-refused S (lay_out S T) c e (layout_sound S T h) (ap (λ (U : Tables). first (tests S U c)) (read_back S T) ∙ f))
      (λ p q. rw (read_back S T) at (commanded-accepted S (lay_out S T) c (layout_sound S T h) (subst (λ (U : Tables). Passed (tests S U c)) (sym (read_back S T)) p))) refl

pub kernel-run : (S : Sizes) (T : Tables) (cs : List Command) → sound S T ≡ true → kernel_from S (lay_out S T) cs ≡ lay_out S (run_from S T cs)
unfolding kernel_from run_from
kernel-run S T [] h = refl
kernel-run S T (c ∷ cs) h = ap (λ (o : Commanded). kernel_from S o.kernel cs) (commanded-of S T h c) ∙ kernel-run S (step S T c).tables cs (step-sound S T c h)

pub reached-is : (S : Sizes) (cs : List Command) → reached S cs ≡ lay_out S (run S cs)
reached-is S cs = kernel-run S empty cs (empty-sound S)

pub reached-sound : (S : Sizes) (cs : List Command) → sound_kernel S (reached S cs) ≡ true
reached-sound S cs = rw (reached-is S cs) (layout_sound S (run S cs) (run_sound S cs))

-- no row has a test that gives 10, so only the entry does
undamaged : (S : Sizes) (T : Tables) (c : Command) → all (λ (t : Bool × Error). not (eqb (number t.1) (number Error.Damaged))) (tests S T c) ≡ true
undamaged S T (Command.insert q ds ps) = refl
undamaged S T (Command.declare_provision id p) = refl
undamaged S T (Command.release_provision id p) = refl
undamaged S T (Command.configure_pending_dependencies id l) = refl
undamaged S T (Command.begin id) = refl
undamaged S T (Command.finish id) = refl
undamaged S T (Command.leave id) = refl
undamaged S T (Command.leave_if_changed id) = refl
undamaged S T (Command.retire id) = refl
undamaged S T (Command.begin_cleanup id) = refl
undamaged S T (Command.finish_cleanup id) = refl
undamaged S T (Command.remove id) = refl
undamaged S T Command.compact_bindings = refl
undamaged S T Command.compact_declarations = refl

report-accepted : (T : Tables) (c : Command) (e : Error) → report T c ≡ Reply.refused e → ⊥
report-accepted T c e h = clash {A = ⊥} (accepted (report T c)) (report-accepts T c) (rw h)

step-undamaged : (S : Sizes) (T : Tables) (c : Command) → (step S T c).reply ≡ Reply.refused Error.Damaged → ⊥
step-undamaged S T c = step-cases (λ o. o.reply ≡ Reply.refused Error.Damaged → ⊥) S T c
    (λ e h q.
    let d : e ≡ Error.Damaged = cc in
    clash {A = ⊥} false (first-among (tests S T c) Error.Damaged (λ x. not (eqb (number x) (number Error.Damaged))) (undamaged S T c) (rw d at h)) refl)
    (λ p q. report-accepted T c Error.Damaged q)

-- no command on a reached kernel answers 10
pub reached-undamaged : (S : Sizes) (cs : List Command) (c : Command) → (commanded S (reached S cs) c).reply ≡ Reply.refused Error.Damaged → ⊥
reached-undamaged S cs c q = step-undamaged S (run S cs) c (rw (reached-is S cs, commanded-of S (run S cs) (run_sound S cs) c) at q)

-- what was seen of the kernels handed to begin is what is seen of their tables
pub kernel-last :
    {A : Type 0} (S : Sizes) (on-kernels : Layout → A) (on-tables : Tables → A) → ((T : Tables) → sound S T ≡ true → on-kernels (lay_out S T) ≡ on-tables T)
    → (T : Tables) (id : ℕ) (cs : List Command) (a : A) → sound S T ≡ true → last_from S on-kernels (lay_out S T) id cs a ≡ noted_from S on-tables T id cs a
unfolding last_from noted_from noted
kernel-last S f g e T id [] a h = refl
kernel-last {A} S f g e T id (c ∷ cs) a h =
    ap (λ (o : Commanded). last_from S f o.kernel id cs (cond (begins id c && accepted o.reply) (f (lay_out S T)) a)) (commanded-of S T h c)
    ∙ ap (λ (x : A). last_from S f (lay_out S (step S T c).tables) id cs (cond (begins id c && accepted (step S T c).reply) x a)) (e T h)
    ∙ kernel-last S f g e (step S T c).tables id cs (cond (begins id c && accepted (step S T c).reply) (g T) a) (step-sound S T c h)

-- the rule of sound tables is that of their kernel
kernel-rule : (S : Sizes) (T : Tables) (id : ℕ) (a : Option (List Binding)) → sound S T ≡ true → RuleOn S T id a → RuleAt S (lay_out S T) id a
kernel-rule S T id a h r =
    let U : Tables = (step S T (Command.leave_if_changed id)).tables in
    let now : phase_of S (lay_out S T) id ≡ phase T id = asked_of S T h none (λ T. phase T id) in
    let held : committed_of S (lay_out S T) id ≡ committed T.links id = asked_of S T h [] (λ T. committed T.links id) in
    let wanted : target_of S (lay_out S T) id ≡ target T id = asked_of S T h Target.nothing (λ T. target T id) in
    let check : iteration_of S (lay_out S T) id ≡ check_iteration T id = asked_of S T h (Reply.refused Error.Damaged) (λ T. check_iteration T id) in
    let after : phase_of S (lay_out S U) id ≡ phase U id = asked_of S U (step-sound S T (Command.leave_if_changed id) h) none (λ T. phase T id) in
    rw (now, held, wanted, check, commanded-of S T h (Command.leave_if_changed id), after) r

-- what was noted at the last accepted begin of a component, in a list from the empty kernel: the links that it appended
abbrev pub last_links : Sizes → List Command → ℕ → Option (List Link)
last_links S cs id = noted_from S (λ T. begun_links T id) empty id cs none

-- and what is read off them, if of each kernel it is what is seen of the kernel itself
pub last-links :
    {A : Type 0} (S : Sizes) (cs : List Command) (id : ℕ) (seen : Layout → Option A) (read : Option (List Link) → Option A) → read none ≡ none
    → ((T : Tables) → sound S T ≡ true → seen (lay_out S T) ≡ read (begun_links T id)) → last_from S seen (empty_kernel S) id cs none ≡ read (last_links S cs id)
last-links S cs id seen read n e =
    kernel-last S seen (λ T. read (begun_links T id)) e empty id cs none (empty-sound S)
    ∙ sym (noted-map read S (λ T. begun_links T id) empty id cs none ∙ ap (noted_from S (λ T. read (begun_links T id)) empty id cs) n)

pub last-invariant : (S : Sizes) (cs : List Command) (id : ℕ) → IterationInvariant (run S cs) id (last_links S cs id)
last-invariant S cs id = from-kept S empty id none cs (empty-sound S) (empty-kept id)

begun-read : (ns : List Node) (id : ℕ) (o : Option (List Binding)) → o ≡ Option·map (map binding_in) (Option·map (map (begun_link ns id)) o)
begun-read ns id none = refl
begun-read ns id (some bs) = ap some (sym (begun-bindings ns id bs))

-- demand 3
pub iteration-rule : IterationRule
iteration-rule S cs id =
    let begun : last S cs id ≡ Option·map (map binding_in) (last_links S cs id) =
    last-links S cs id _ (Option·map (map binding_in)) refl (λ T h. ap target_list (asked_of S T h Target.nothing (λ U. target U id)) ∙ begun-read T.nodes id (target_list (target T id))) in
    rw (reached-is S cs, begun) (kernel-rule S (run S cs) id _ (run_sound S cs) (rule S (run S cs) (run_sound S cs) id (last_links S cs id) (last-invariant S cs id)))
