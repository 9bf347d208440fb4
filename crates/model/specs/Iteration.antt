-- The iteration rule: demand 3 in the words of docs/RULES.md, over the sizes.
use Rattle.std.specs.Prelude.{◌≡◌, Bool, ◌&&◌, cond, false, true, List, [], ◌∷◌, ◌↔◌, ◌<◌, ℕ, eqb, get_or}
use Rattle.std.proofs.Math.Option.{Option, none, some}
use Rattle.model.specs.declared.Binding.{Binding}
use Rattle.model.specs.declared.Error.{Error}
use Rattle.model.specs.declared.Phase.{Phase}
use Rattle.model.specs.Commands.{Command}
use Rattle.model.specs.Kernels.{asked, commanded, empty_kernel, reached}
use Rattle.model.specs.Layouts.{Layout}
use Rattle.model.specs.Lifecycle.{check_iteration}
use Rattle.model.specs.Observers.{phase}
use Rattle.model.specs.Records.{blank_binding, is_loading, is_running}
use Rattle.model.specs.Refusals.{Reply, accepted}
use Rattle.model.specs.Resolution.{Target, committed, target, target_list}
use Rattle.model.specs.Sizes.{Sizes}

-- ---- what the observers and check_iteration give of a kernel

abbrev pub target_of : Sizes → Layout → ℕ → Target
target_of S k id = asked S k Target.nothing (λ T. target T id)

abbrev pub committed_of : Sizes → Layout → ℕ → List Binding
committed_of S k id = asked S k [] (λ T. committed T.links id)

abbrev pub iteration_of : Sizes → Layout → ℕ → Reply
iteration_of S k id = asked S k (Reply.refused Error.Damaged) (λ T. check_iteration T id)

abbrev pub phase_of : Sizes → Layout → ℕ → Option Phase
phase_of S k id = asked S k none (λ T. phase T id)

-- ---- the bindings of the last accepted begin, told from the calls

-- a begin of this component
unfoldable pub begins : ℕ → Command → Bool
begins id (Command.insert q ds ps) = false
begins id (Command.declare_provision j p) = false
begins id (Command.release_provision j p) = false
begins id (Command.configure_pending_dependencies j l) = false
begins id (Command.begin j) = eqb j id
begins id (Command.finish j) = false
begins id (Command.leave j) = false
begins id (Command.leave_if_changed j) = false
begins id (Command.retire j) = false
begins id (Command.begin_cleanup j) = false
begins id (Command.finish_cleanup j) = false
begins id (Command.remove j) = false
begins id Command.compact_bindings = false
begins id Command.compact_declarations = false

-- what was seen of the kernel handed to the component's latest begin that was accepted
unfoldable pub last_from : {A : Type 0} → Sizes → (Layout → A) → Layout → ℕ → List Command → A → A
last_from S seen k id [] a = a
last_from S seen k id (c ∷ cs) a = last_from S seen (commanded S k c).kernel id cs (cond (begins id c && accepted (commanded S k c).reply) (seen k) a)

-- what target gave on it, in a list from the empty kernel; none if there was no such begin
abbrev pub last : Sizes → List Command → ℕ → Option (List Binding)
last S cs id = last_from S (λ k. target_list (target_of S k id)) (empty_kernel S) id cs none

-- ---- the rule, of one component

-- Loading; Loading or Active: of a phase as the observer gives it, none for an absent component
abbrev pub loads : Option Phase → Bool
loads none = false
loads (some f) = is_loading f

abbrev pub runs : Option Phase → Bool
runs none = false
runs (some f) = is_running f

-- phase, committed and target now; `begun` is what target gave at the last accepted begin; `check` is check_iteration's reply;
-- `leaving` is leave_if_changed's reply, and `after` the phase that it leaves. No target is none, which differs from every list.
pub record Rule (phase : Option Phase) (begun : Option (List Binding)) (committed : List Binding) (target : Option (List Binding)) (check leaving : Reply) (after : Option Phase) : Type 0 where
  pub committed-is : runs phase ≡ true → begun ≡ some committed
  pub check_accepts : loads phase ≡ true → (check ≡ Reply.done) ↔ (target ≡ begun)
  pub check_refuses : loads phase ≡ true → (target ≡ begun → ⊥) → check ≡ Reply.refused Error.Changed
  pub leave-accepts : runs phase ≡ true → ((leaving ≡ Reply.done) × (after ≡ some Phase.Unloading)) ↔ (target ≡ begun → ⊥)
  pub leave-refuses : runs phase ≡ true → target ≡ begun → leaving ≡ Reply.refused Error.Changed

-- of a kernel's component, with what target gave at its last accepted begin
abbrev pub RuleAt : Sizes → Layout → ℕ → Option (List Binding) → Type 0
RuleAt S k id begun =
    let o = commanded S k (Command.leave_if_changed id) in
    Rule (phase_of S k id) begun (committed_of S k id) (target_list (target_of S k id)) (iteration_of S k id) o.reply (phase_of S o.kernel id)

-- one claim about every list of commands
abbrev pub IterationRule : Type 0
IterationRule = (S : Sizes) (cs : List Command) (id : ℕ) → RuleAt S (reached S cs) id (last S cs id)

-- ---- the same in what target and committed return, bindings in an array with a count

abbrev pub SameBinding : Binding → Binding → Type 0
SameBinding b c = (b.key ≡ c.key) × (b.realm ≡ c.realm) × (b.provider ≡ c.provider)

-- two answers agree: the same count, and the same key, realm and provider at each place below it
abbrev pub Agree : List Binding → ℕ → List Binding → ℕ → Type 0
Agree xs n ys m = (n ≡ m) × ((i : ℕ) → i < n → SameBinding (get_or xs i blank_binding) (get_or ys i blank_binding))
