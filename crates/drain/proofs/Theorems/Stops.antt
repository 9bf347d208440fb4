-- Every sound kernel stops: the drain's commands are done in turn, then every present component is Inactive, and how many they are.
use Rattle.std.specs.Prelude.{Err, Ok}
use Rattle.model.proofs.Logic.{Bool, List, [], ◌&&◌, ◌<◌, ◌↔◌, ◌∙◌, ◌≡◌, ◌≤◌, and-false, ap, cond, false, get_or, length, none, some, subst, sym, true, ℕ}
use Rattle.drain.specs.{Drains.EveryKernelStops, Drains.as_drain, Drains.steps_of, Drains.stopped_of}
use Rattle.kernel.specs.{Fields.ask, Fields.is_sound, Fields.kernel_of, Fields.layout_of, declared.Kernel.Kernel}
use Rattle.model.specs.{Drain.KernelDrained, Drain.KernelInTurn, Drain.blank_step, Drain.commands, Drain.drain, Drain.results, Drain.stopped, Kernels.kernel_from, Layouts.Sized, Layouts.lay_out, Layouts.tables_of, Observers.cleanup_started, Observers.contains, Observers.phase, Soundness.sound, Tables.Tables, Tables.installed, Tables.node_at, Tables.present, declared.Error.Error, declared.Phase.Phase, declared.Step.Step}
use Rattle.model.proofs.{Theorems.Drain.Kept.drain-again, Theorems.Drain.Kept.drain-empty, Theorems.Drain.Kept.drain-stops, Theorems.Drain.Once.drain-once, Theorems.Drain.Rule.kernel-drain, Theorems.Drain.Whole.drain-bound, Theorems.Drain.Whole.drain-inactive, Theorems.Drain.Whole.drain-long, Theorems.Drain.Whole.drain-restored, Theorems.Drain.Whole.drain-sound, Theorems.Kernels.asked_of, Theorems.Kernels.asked-sound, Theorems.Layouts.layout_sound, Theorems.Layouts.tables-sound}
use Rattle.sizes.specs.{Sizes.STEPS, Sizes.sizes}

module _ (k : Kernel) (z : Sized sizes (layout_of k)) (h : is_sound k ≡ true) where
  abbrev pub T : Tables
  T = tables_of (layout_of k)

  t : sound sizes T ≡ true
  t = tables-sound sizes (layout_of k) h

  steps_are : steps_of k ≡ drain T
  steps_are = asked-sound sizes (layout_of k) [] drain h

  drained : KernelDrained sizes (layout_of k)
  drained = kernel-drain sizes (layout_of k) z h

  pub after_is : (stopped_of k).kernel ≡ kernel_of (lay_out sizes (stopped T))
  after_is = ap (λ (ss : List Step). kernel_of (kernel_from sizes (layout_of k) (commands ss))) steps_are ∙ ap kernel_of drained.1

  stopped-sound : sound sizes (stopped T) ≡ true
  stopped-sound = rw (← drain-stops sizes T t) (drain-sound sizes T t)

  asks : {A : Type 0} (u : A) (f : Tables → A) → ask (stopped_of k).kernel u f ≡ f (stopped T)
  asks u f = ap (λ (m : Kernel). ask m u f) after_is ∙ asked_of sizes (stopped T) stopped-sound u f

-- the commands are done in turn, and then every present component is Inactive
pub every_kernel_stops : EveryKernelStops
every_kernel_stops k z h =
    record {
      steps = asked-sound sizes (layout_of k) (Err Error.Damaged) (λ U. Ok (as_drain (drain U))) h ∙ ap (λ (ss : List Step). Ok (as_drain ss)) (sym e);
      number = asked-sound sizes (layout_of k) (Err Error.Damaged) (λ U. Ok (length (drain U))) h ∙ ap (λ (ss : List Step). Ok (length ss)) (sym e);
      in_turn = subst (λ (ss : List Step). KernelInTurn sizes (layout_of k) (commands ss)) (sym e) (drained k z h).0;
      once = subst (λ (ss : List Step). (i j : ℕ) → i < j → j < length ss → get_or ss i blank_step ≡ get_or ss j blank_step → ⊥) (sym e) (drain-once sizes (T k z h) (t k z h));
      empty = subst (λ (ss : List Step). (ss ≡ []) ↔ ((id : ℕ) → ask k false (λ U. installed U.nodes id) ≡ false)) (sym e) none_installed;
      leaves = after_is k z h;
      sound = ap is_sound (after_is k z h) ∙ layout_sound sizes (stopped (T k z h)) (stopped-sound k z h);
      inactive = λ id p. asks k z h none (λ U. phase U id) ∙ idle id (sym (asks k z h false (λ U. contains U id)) ∙ p);
      restored = λ id. asks k z h false (λ U. cleanup_started U id) ∙ whole id;
      again = asks k z h [] drain ∙ subst (λ (U : Tables). drain U ≡ []) stops (drain-again sizes (T k z h) (t k z h));
      long = ap length e ∙ drain-long sizes (T k z h) (t k z h) ∙ sym (asked-sound sizes (layout_of k) 0 _ h);
      fits = subst (λ (ss : List Step). length ss ≤ STEPS) (sym e) (drain-bound sizes (T k z h) (t k z h));
    }
  where
    e : steps_of k ≡ drain (T k z h)
    e = steps_are k z h

    stops : results (T k z h) (drain (T k z h)) ≡ stopped (T k z h)
    stops = drain-stops sizes (T k z h) (t k z h)

    tells : (id : ℕ) → ask k false (λ U. installed U.nodes id) ≡ installed (T k z h).nodes id
    tells id = asked-sound sizes (layout_of k) false (λ U. installed U.nodes id) h

    none_installed : (drain (T k z h) ≡ []) ↔ ((id : ℕ) → ask k false (λ U. installed U.nodes id) ≡ false)
    none_installed =
        let (there, back) = drain-empty sizes (T k z h) (t k z h) in
        (λ n id. tells id ∙ there n id, λ f. back (λ id. sym (tells id) ∙ f id))

    idle : (id : ℕ) → present (stopped (T k z h)).nodes id ≡ true → phase (stopped (T k z h)) id ≡ some Phase.Inactive
    idle id p =
        let at = subst (λ (U : Tables). present U.nodes id ≡ true → (node_at U.nodes id).phase ≡ Phase.Inactive) stops (drain-inactive sizes (T k z h) (t k z h) id) in
        ap (λ (b : Bool). cond b (some (node_at (stopped (T k z h)).nodes id).phase) none) p ∙ ap some (at p)

    whole : (id : ℕ) → cleanup_started (stopped (T k z h)) id ≡ false
    whole id =
        let at = subst (λ (U : Tables). (node_at U.nodes id).restoring ≡ false) stops (drain-restored sizes (T k z h) (t k z h) id) in
        ap (λ (b : Bool). present (stopped (T k z h)).nodes id && b) at ∙ and-false (present (stopped (T k z h)).nodes id)
