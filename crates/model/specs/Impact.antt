-- Who is hit if a component leaves: the list, which depends on no size; what asking for it replies; and what is claimed of both.
use Rattle.std.specs.Prelude.{◌≡◌, Bool, ◌&&◌, false, not, true, ◌↔◌, ◌<◌, ◌≤◌, ℕ, eqb, get_or, length}
use mathlib.Core.List.{List, Memᴰ, [], ◌∷◌}
use Rattle.std.proofs.Math.Option.{Option, none, some}
use Rattle.model.specs.declared.Error.{Error}
use Rattle.model.specs.declared.records.Link.{Link}
use Rattle.model.specs.declared.records.Node.{Node}
use Rattle.model.specs.Commands.{Command}
use Rattle.model.specs.Drain.{must_leave}
use Rattle.model.specs.Iteration.{iteration_of, target_of}
use Rattle.model.specs.Kernels.{Commanded, asked, commanded, replied}
use Rattle.model.specs.Layouts.{Layout, tables_of}
use Rattle.model.specs.Lifecycle.{leave_tests, left, phase_at, relies}
use Rattle.model.specs.Lists.{any, conj, is_none, keep}
use Rattle.model.specs.Observers.{ids}
use Rattle.model.specs.Records.{consumer_in, is_loading, is_running, provider_in}
use Rattle.model.specs.Refusals.{Reply, first}
use Rattle.model.specs.Resolution.{is_live_link_of, target, target_list}
use Rattle.model.specs.Sizes.{Sizes}
use Rattle.model.specs.Tables.{Tables, node_at, providing}

-- it has a target, which has no binding if it has no dependency
abbrev pub has_target : Tables → ℕ → Bool
has_target T id = not (is_none (target_list (target T id)))

-- another component, Loading or Active, that has a target, and none on the tables that the leave leaves
abbrev pub hit_tests : Tables → ℕ → ℕ → List Bool
hit_tests T id j = not (eqb j id) ∷ is_running (phase_at T j) ∷ has_target T j ∷ not (has_target (left T id) j) ∷ []

unfoldable pub is_hit : Tables → ℕ → ℕ → Bool
is_hit T id j = conj (hit_tests T id j)

-- the present components that are hit if id leaves, ascending
unfoldable pub affected : Tables → ℕ → List ℕ
affected T id = keep (is_hit T id) (ids T)

-- what asking replies: leave's refusal with an empty list, else done with the list
pub record Impact : Type 0 where
  pub reply : Reply
  pub hit : List ℕ

abbrev pub refused_impact : Error → Impact
refused_impact e = record { reply = Reply.refused e; hit = [] }

unfoldable pub unless_refused : Option Error → List ℕ → Impact
unless_refused none js = record { reply = Reply.done; hit = js }
unless_refused (some e) js = refused_impact e

abbrev pub impact : Tables → ℕ → Impact
impact T id = unless_refused (first (leave_tests T id)) (affected T id)

-- of any kernel: 10 if it is not sound
abbrev pub kernel_impact : Sizes → Layout → ℕ → Impact
kernel_impact S k id = asked S k (refused_impact Error.Damaged) (λ T. impact T id)

-- ---- what is claimed of it

-- Loading or Active
abbrev pub runs : Sizes → Layout → ℕ → Bool
runs S k id = asked S k false (λ T. must_leave (node_at T.nodes id))

-- Loading
abbrev pub loads : Sizes → Layout → ℕ → Bool
loads S k id = asked S k false (λ T. is_loading (phase_at T id))

-- another that is Loading or Active and has a target on k, and has none on m
pub record Hit (S : Sizes) (k m : Layout) (id j : ℕ) : Type 0 where
  pub other : j ≡ id → ⊥
  pub running : runs S k j ≡ true
  pub before : target_list (target_of S k j) ≡ none → ⊥
  pub after : target_list (target_of S m j) ≡ none

-- `i` is what asking replies on the kernel k, `o` what leave hands back
pub record Predicts (S : Sizes) (k : Layout) (id : ℕ) (i : Impact) (o : Commanded) : Type 0 where
  -- leave's own reply, a refusal too, which comes with an empty list
  pub replies : i.reply ≡ o.reply
  pub empty-if-refused : (e : Error) → i.reply ≡ Reply.refused e → i.hit ≡ []
  -- just those that are hit; ascending, each once
  pub lists : i.reply ≡ Reply.done → (j : ℕ) → Memᴰ j i.hit ↔ Hit S k o.kernel id j
  pub ascends : (a b : ℕ) → a < b → b < length i.hit → get_or i.hit a 0 < get_or i.hit b 0
  -- each has a live link that names the leaving one as provider, and there are no more of them than of such links
  pub relying : (j : ℕ) → Memᴰ j i.hit → (l : Link) × Memᴰ l (keep (relies id) (tables_of k).links) × (consumer_in l ≡ j)
  pub few : length i.hit ≤ length (keep (relies id) (tables_of k).links)
  -- another that is Loading or Active and off the list: the same bindings, or none both times
  pub others : i.reply ≡ Reply.done → (j : ℕ) → (j ≡ id → ⊥) → runs S k j ≡ true → (Memᴰ j i.hit → ⊥) → target_list (target_of S o.kernel j) ≡ target_list (target_of S k j)
  -- on it exactly if leave_if_changed refuses it now as unchanged, and makes it leave afterwards
  pub leaves :
      i.reply ≡ Reply.done → (j : ℕ) → (j ≡ id → ⊥)
      → Memᴰ j i.hit ↔ ((replied S k (Command.leave_if_changed j) ≡ Reply.refused Error.Changed) × (replied S o.kernel (Command.leave_if_changed j) ≡ Reply.done))
  -- a Loading one: exactly if check_iteration accepts it now, and refuses it afterwards as changed
  pub checks :
      i.reply ≡ Reply.done → (j : ℕ) → (j ≡ id → ⊥) → loads S k j ≡ true
      → Memᴰ j i.hit ↔ ((iteration_of S k j ≡ Reply.done) × (iteration_of S o.kernel j ≡ Reply.refused Error.Changed))

-- one claim about all kernels, sound or not
abbrev pub ImpactRule : Type 0
ImpactRule = (S : Sizes) (k : Layout) (id : ℕ) → Predicts S k id (kernel_impact S k id) (commanded S k (Command.leave id))

-- ---- the list told from the links, without the tables after the leave: on sound tables the same list (`affected-column`, Theorems/Impact/Links)

-- some live link of this consumer passes
unfoldable pub linked : (Link → Bool) → List Link → ℕ → Bool
linked p ls id = any (λ l. is_live_link_of id l && p l) ls

abbrev pub is_provider : ℕ → Link → Bool
is_provider id l = eqb (provider_in l) id

-- its provider is not Active, which `active` tells
abbrev pub is_unserved : (ℕ → Bool) → Link → Bool
is_unserved active l = not (active (provider_in l))

-- of a node, whether it relies on the leaving one, and whether it relies on one that is not Active
abbrev pub reliant_tests : Node → Bool → Bool → List Bool
reliant_tests n relying unserved = must_leave n ∷ not n.retired ∷ relying ∷ not unserved ∷ []

unfoldable pub is_reliant : Tables → ℕ → ℕ → Bool
is_reliant T id j = conj (reliant_tests (node_at T.nodes j) (linked (is_provider id) T.links j) (linked (is_unserved (providing T.nodes)) T.links j))
