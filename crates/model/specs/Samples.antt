-- The sample sequences C01 to C12, the episodes of a provider, and the order of the tests, each as one table of rows: what is asked of a kernel, and what it shows; and explanations.
use Rattle.std.specs.Prelude.{Err, Ok, ◌≡◌, Bool, cond, false, true, List, [], ◌∷◌, map, suc, ℕ}
use Rattle.std.proofs.Math.Option.{Option, none, some}
use Rattle.model.specs.declared.Error.{Error}
use Rattle.model.specs.Explanation.{Explanation}
use Rattle.model.specs.declared.explanation.ListKind.{ListKind}
use Rattle.model.specs.declared.explanation.Measure.{Measure}
use Rattle.model.specs.declared.explanation.Place.{Place}
use Rattle.model.specs.declared.explanation.Witness.{Witness}
use Rattle.model.specs.declared.records.Link.{Link}
use Rattle.model.specs.declared.records.Node.{Node}
use Rattle.model.specs.declared.Parent.{Parent}
use Rattle.model.specs.declared.Phase.{Phase}
use Rattle.model.specs.declared.Port.{Port}
use Rattle.model.specs.declared.PortList.{PortList}
use Rattle.model.specs.declared.Resolution.{Resolution}
use Rattle.model.specs.Commands.{Command}
use Rattle.model.specs.Explanation.{explained_on, number}
use Rattle.model.specs.Interface.{port_list}
use Rattle.model.specs.Kernels.{asked, commanded, empty_kernel, reached}
use Rattle.model.specs.Layouts.{Layout, tables_of}
use Rattle.model.specs.Lifecycle.{check_iteration}
use Rattle.model.specs.Observers.{episode_generation, ids, link_generation, phase}
use Rattle.model.specs.Records.{binding_of, dependency, link_of, node_of, provision}
use Rattle.model.specs.Refusals.{Reply}
use Rattle.model.specs.Sizes.{Sizes, controller, list_limit}
use Rattle.model.specs.Tables.{Tables}

-- a command, or a question that changes nothing
pub data Ask : Type 0 where
  does : Command → Ask
  checks : ℕ → Ask
  phase_of : ℕ → Ask
  generation_of : ℕ → Ask
  link_generation_of : ℕ → Port → Ask
  lists : Ask
  tables : Ask

pub data Shown : Type 0 where
  says : Reply → Shown
  is : Option Phase → Shown
  has : Option ℕ → Shown
  gives : List ℕ → Shown
  holds : Tables → Shown

unfoldable pub shown : Sizes → Layout → Ask → Shown
shown S k (Ask.does c) = Shown.says (commanded S k c).reply
shown S k (Ask.checks id) = Shown.says (asked S k (Reply.refused Error.Damaged) (λ T. check_iteration T id))
shown S k (Ask.phase_of id) = Shown.is (asked S k none (λ T. phase T id))
shown S k (Ask.generation_of id) = Shown.has (asked S k none (λ T. episode_generation T id))
shown S k (Ask.link_generation_of id p) = Shown.has (asked S k none (λ T. link_generation T.links id p))
shown S k Ask.lists = Shown.gives (asked S k [] ids)
shown S k Ask.tables = Shown.holds (tables_of k)

unfoldable pub after : Sizes → Layout → Ask → Layout
after S k (Ask.does c) = (commanded S k c).kernel
after S k (Ask.checks id) = k
after S k (Ask.phase_of id) = k
after S k (Ask.generation_of id) = k
after S k (Ask.link_generation_of id p) = k
after S k Ask.lists = k
after S k Ask.tables = k

pub record Row : Type 0 where
  pub ask : Ask
  pub shows : Shown

-- what the rows' questions show, one after the other
unfoldable pub play : Sizes → Layout → List Row → List Shown
play S k [] = []
play S k (r ∷ rs) = shown S k r.ask ∷ play S (after S k r.ask) rs

abbrev pub asks : Ask → Shown → Row
asks a s = record { ask = a; shows = s }

-- a command and its reply
abbrev pub calls : Command → Reply → Row
calls c r = asks (Ask.does c) (Shown.says r)

abbrev pub refuses : Command → Error → Row
refuses c e = calls c (Reply.refused e)

abbrev pub port : ℕ → ℕ → Port
port k r = record { key = k; realm = r }

abbrev pub no_ports : PortList
no_ports = port_list []

abbrev pub only : Port → PortList
only p = port_list (p ∷ [])

-- ---- C01 to C12

abbrev P : Port
P = port 7 1

-- consumer 1, provider 0 in its first episode
abbrev link10 : Bool → Link
link10 b = link_of 1 (binding_of P 0) 1 b

-- present and with no parent, in this phase and generation
abbrev root : Phase → ℕ → Node
root f g = node_of true false f Parent.None g

abbrev after01 : Tables
after01 = record { nodes = root Phase.Inactive 0 ∷ []; declarations = provision 0 P ∷ []; links = [] }

abbrev after05 : Tables
after05 = record { nodes = root Phase.Active 1 ∷ node_of true false Phase.Loading Parent.None 1 ∷ []; declarations = provision 0 P ∷ dependency 1 P ∷ []; links = link10 true ∷ [] }

abbrev after08 : Bool → Tables
after08 compacted = record { nodes = root Phase.Unloading 1 ∷ root Phase.Inactive 1 ∷ []; declarations = provision 0 P ∷ dependency 1 P ∷ []; links = cond compacted [] (link10 false ∷ []) }

abbrev after11 : Tables
after11 =
    let removed = node_of false true Phase.Inactive Parent.None 1 in
    record { nodes = removed ∷ removed ∷ root Phase.Inactive 0 ∷ []; declarations = dependency 1 P ∷ provision 2 P ∷ []; links = [] }

abbrev pub samples : List Row
samples =
    -- C01
    calls (Command.insert Parent.None no_ports (only P)) (Reply.issued 0) ∷
    asks Ask.tables (Shown.holds after01) ∷
    -- C02
    calls (Command.insert Parent.None (only P) no_ports) (Reply.issued 1) ∷
    -- C03
    refuses (Command.begin 1) Error.MissingDependency ∷
    -- C04
    calls (Command.begin 0) Reply.done ∷
    calls (Command.finish 0) Reply.done ∷
    asks (Ask.phase_of 0) (Shown.is (some Phase.Active)) ∷
    asks (Ask.generation_of 0) (Shown.has (some 1)) ∷
    -- C05
    calls (Command.begin 1) Reply.done ∷
    asks Ask.tables (Shown.holds after05) ∷
    -- C06
    asks (Ask.checks 1) (Shown.says Reply.done) ∷
    -- C07
    calls (Command.leave 0) Reply.done ∷
    asks (Ask.checks 1) (Shown.says (Reply.refused Error.Changed)) ∷
    refuses (Command.begin_cleanup 0) Error.Relied ∷
    -- C08
    calls (Command.leave 1) Reply.done ∷
    calls (Command.begin_cleanup 1) Reply.done ∷
    calls (Command.finish_cleanup 1) Reply.done ∷
    asks Ask.tables (Shown.holds (after08 false)) ∷
    calls Command.compact_bindings (Reply.removed 1) ∷
    asks Ask.tables (Shown.holds (after08 true)) ∷
    -- C09
    calls (Command.begin_cleanup 0) Reply.done ∷
    calls (Command.finish_cleanup 0) Reply.done ∷
    calls (Command.retire 0) Reply.done ∷
    refuses (Command.insert Parent.None no_ports (only P)) Error.Conflict ∷
    -- C10
    calls (Command.remove 0) Reply.done ∷
    calls (Command.insert Parent.None no_ports (only P)) (Reply.issued 2) ∷
    asks Ask.lists (Shown.gives (1 ∷ 2 ∷ [])) ∷
    calls Command.compact_declarations (Reply.removed 1) ∷
    -- C11
    calls (Command.retire 1) Reply.done ∷
    refuses (Command.insert (Parent.Of 1) no_ports no_ports) Error.Retired ∷
    calls (Command.remove 1) Reply.done ∷
    asks Ask.tables (Shown.holds after11) ∷
    -- C12
    calls (Command.release_provision 2 (port 8 1)) Reply.done ∷
    asks Ask.tables (Shown.holds after11) ∷ []

abbrev pub SamplesHold : Type 0
SamplesHold = play controller (empty_kernel controller) samples ≡ map (λ r. r.shows) samples

-- ---- a provider's second and third episode, each met by a consumer's next begin

abbrev episode : ℕ → List Row → List Row
episode id rs = calls (Command.begin id) Reply.done ∷ calls (Command.finish id) Reply.done ∷ rs

abbrev ended : ℕ → List Row → List Row
ended id rs = calls (Command.leave id) Reply.done ∷ calls (Command.begin_cleanup id) Reply.done ∷ calls (Command.finish_cleanup id) Reply.done ∷ rs

-- in the first place a dead link, whose number is not the provider's any more
abbrev numbered : Tables
numbered = record {
  nodes = root Phase.Active 3 ∷ root Phase.Active 2 ∷ [];
  declarations = provision 0 P ∷ dependency 1 P ∷ [];
  links = link_of 1 (binding_of P 0) 2 false ∷ link_of 1 (binding_of P 0) 3 true ∷ [];
}

abbrev pub episodes : List Row
episodes =
    calls (Command.insert Parent.None no_ports (only P)) (Reply.issued 0) ∷
    calls (Command.insert Parent.None (only P) no_ports) (Reply.issued 1) ∷
    episode 0 (ended 0 (episode 0 (
    asks (Ask.link_generation_of 1 P) (Shown.has none) ∷
    episode 1 (
    asks (Ask.link_generation_of 1 P) (Shown.has (some 2)) ∷
    asks (Ask.link_generation_of 0 P) (Shown.has none) ∷
    ended 1 (
    asks (Ask.link_generation_of 1 P) (Shown.has none) ∷
    ended 0 (episode 0 (episode 1 (
    asks (Ask.link_generation_of 1 P) (Shown.has (some 3)) ∷
    asks Ask.tables (Shown.holds numbered) ∷ []))))))))

abbrev pub EpisodesHold : Type 0
EpisodesHold = play controller (empty_kernel controller) episodes ≡ map (λ r. r.shows) episodes

-- ---- the order of the tests of a row, where two of them apply: at small sizes, so that the tables fill soon

abbrev tiny : Sizes
tiny = record { identities = 4; declarations = 4; links = 2 }

abbrev A : Port
A = port 1 0

abbrev B : Port
B = port 2 0

abbrev C : Port
C = port 3 0

abbrev too_many : PortList
too_many = record { ports = []; count = suc list_limit }

abbrev pub orders : List Row
orders =
    calls (Command.insert Parent.None no_ports (only P)) (Reply.issued 0) ∷
    -- list before parent, parent before conflict, conflict before sum
    refuses (Command.insert (Parent.Of 9) too_many no_ports) Error.Capacity ∷
    refuses (Command.insert (Parent.Of 9) no_ports (only P)) Error.Unknown ∷
    refuses (Command.insert Parent.None no_ports (port_list (A ∷ B ∷ C ∷ P ∷ []))) Error.Conflict ∷
    calls (Command.insert Parent.None (only P) no_ports) (Reply.issued 1) ∷
    calls (Command.insert (Parent.Of 0) no_ports no_ports) (Reply.issued 2) ∷
    -- configure: list before identity, sum before repeat; the sum counts another's dependencies and the component's provisions
    refuses (Command.configure_pending_dependencies 9 too_many) Error.Capacity ∷
    refuses (Command.configure_pending_dependencies 2 (port_list (A ∷ A ∷ B ∷ []))) Error.Capacity ∷
    refuses (Command.configure_pending_dependencies 0 (port_list (A ∷ A ∷ B ∷ []))) Error.Capacity ∷
    -- and not the component's dependencies: at a full table as many again, with a repeat and without, and one more
    calls (Command.configure_pending_dependencies 1 (port_list (A ∷ B ∷ C ∷ []))) Reply.done ∷
    refuses (Command.configure_pending_dependencies 1 (port_list (A ∷ B ∷ B ∷ []))) Error.Conflict ∷
    refuses (Command.configure_pending_dependencies 1 (port_list (A ∷ B ∷ B ∷ C ∷ []))) Error.Capacity ∷
    calls (Command.configure_pending_dependencies 1 (port_list (C ∷ B ∷ A ∷ []))) Reply.done ∷
    -- of none: one, and none
    refuses (Command.configure_pending_dependencies 0 (only A)) Error.Capacity ∷
    calls (Command.configure_pending_dependencies 0 no_ports) Reply.done ∷
    calls (Command.configure_pending_dependencies 1 (only P)) Reply.done ∷
    calls (Command.begin 0) Reply.done ∷
    calls (Command.finish 0) Reply.done ∷
    calls (Command.begin 1) Reply.done ∷
    calls (Command.finish 1) Reply.done ∷
    -- phase before sum, links, children, target
    refuses (Command.configure_pending_dependencies 1 (port_list (A ∷ A ∷ B ∷ C ∷ []))) Error.InvalidState ∷
    refuses (Command.begin_cleanup 0) Error.InvalidState ∷
    refuses (Command.remove 0) Error.InvalidState ∷
    refuses (Command.leave_if_changed 2) Error.InvalidState ∷
    calls (Command.leave 0) Reply.done ∷
    refuses (Command.finish 1) Error.InvalidState ∷
    -- begin: phase before retired; declare and configure: retired before phase
    calls (Command.retire 1) Reply.done ∷
    refuses (Command.begin 1) Error.InvalidState ∷
    refuses (Command.configure_pending_dependencies 1 no_ports) Error.Retired ∷
    calls (Command.retire 0) Reply.done ∷
    refuses (Command.declare_provision 0 A) Error.Retired ∷
    -- begin: retired before target
    calls (Command.leave 1) Reply.done ∷
    calls (Command.begin_cleanup 1) Reply.done ∷
    calls (Command.finish_cleanup 1) Reply.done ∷
    refuses (Command.begin 1) Error.Retired ∷
    -- declare at a full table: conflict before space, an own port again done
    calls (Command.begin 2) Reply.done ∷
    calls (Command.declare_provision 2 A) Reply.done ∷
    calls (Command.declare_provision 2 B) Reply.done ∷
    refuses (Command.declare_provision 2 P) Error.Conflict ∷
    calls (Command.declare_provision 2 A) Reply.done ∷
    refuses (Command.declare_provision 2 C) Error.Capacity ∷
    -- declare: phase before conflict
    calls (Command.leave 2) Reply.done ∷
    refuses (Command.declare_provision 2 P) Error.InvalidState ∷
    -- insert: list before a retired parent, and that before conflict and sum, before the sum alone; no parent is not retired
    refuses (Command.insert (Parent.Of 0) too_many no_ports) Error.Capacity ∷
    refuses (Command.insert (Parent.Of 0) no_ports (only P)) Error.Retired ∷
    refuses (Command.insert (Parent.Of 0) no_ports (only C)) Error.Retired ∷
    refuses (Command.insert Parent.None no_ports (only P)) Error.Conflict ∷
    refuses (Command.insert Parent.None no_ports (only C)) Error.Capacity ∷
    -- absent before retired
    calls (Command.remove 1) Reply.done ∷
    refuses (Command.insert (Parent.Of 1) no_ports (only P)) Error.Unknown ∷
    -- identities before an absent parent and a retired one
    calls (Command.insert (Parent.Of 2) no_ports no_ports) (Reply.issued 3) ∷
    refuses (Command.insert (Parent.Of 9) no_ports no_ports) Error.Capacity ∷
    refuses (Command.insert (Parent.Of 0) no_ports no_ports) Error.Capacity ∷ []

abbrev pub OrdersHold : Type 0
OrdersHold = play tiny (empty_kernel tiny) orders ≡ map (λ r. r.shows) orders

-- ---- explanations, each of a command on the one kernel that these commands reach; its declarations and links are full

abbrev small : Sizes
small = record { identities = 8; declarations = 7; links = 1 }

-- 0 provided P to 2, which is Loading, and leaves; 1 has never begun, and nobody provides A; 3 is retired, with the children 4, which is Active and
-- provides B, and 5, which depends on it; 6 is Loading and retired
abbrev pub explained_after : List Command
explained_after =
    Command.insert Parent.None no_ports (only P) ∷
    Command.insert Parent.None (port_list (A ∷ B ∷ C ∷ [])) no_ports ∷
    Command.insert Parent.None (only P) no_ports ∷
    Command.insert Parent.None no_ports no_ports ∷
    Command.insert (Parent.Of 3) no_ports (only B) ∷
    Command.insert (Parent.Of 3) (only B) no_ports ∷
    Command.insert Parent.None no_ports no_ports ∷
    Command.begin 0 ∷
    Command.finish 0 ∷
    Command.begin 2 ∷
    Command.leave 0 ∷
    Command.retire 3 ∷
    Command.begin 4 ∷
    Command.finish 4 ∷
    Command.begin 6 ∷
    Command.retire 6 ∷ []

-- a list whose count is past the limit
abbrev overlong : ℕ → PortList
overlong n = record { ports = []; count = n }

abbrev because : Error → Place → ℕ → Witness → Explanation
because e r n w = Err (record { error = e; place = r; test = n; witness = w })

abbrev repeats : ListKind → ℕ → ℕ → Witness
repeats l i j = Witness.Repeated (record { list = l; earlier = i; later = j })

abbrev unresolved : Port → Resolution → Witness
unresolved p r = Witness.Dependency (record { port = p; found = r })

abbrev first_link : Witness
first_link = Witness.Link (record { place = 0; consumer = 2; binding = binding_of P 0 })

abbrev pub explanations : List (Command × Explanation)
explanations =
    -- of two lists too long the dependencies; each list
    (Command.insert (Parent.Of 9) (overlong 40) (overlong 50), because Error.Capacity Place.Lists 1 (number Measure.DependencyCount 40)) ∷
    (Command.insert Parent.None no_ports (overlong 50), because Error.Capacity Place.Lists 1 (number Measure.ProvisionCount 50)) ∷
    (Command.configure_pending_dependencies 9 (overlong 40), because Error.Capacity Place.Lists 1 (number Measure.DependencyCount 40)) ∷
    -- the parent: absent, retired
    (Command.insert (Parent.Of 9) no_ports (only P), because Error.Unknown Place.Insertion 2 (Witness.Component 9)) ∷
    (Command.insert (Parent.Of 3) no_ports (only P), because Error.Retired Place.Insertion 3 (Witness.Component 3)) ∷
    -- a clash before a repeat, a repeat before a clash; of the dependencies the smallest later place, and a clash before them
    (Command.insert Parent.None no_ports (port_list (C ∷ P ∷ P ∷ [])), because Error.Conflict Place.Insertion 4 (Witness.Clash (binding_of P 0))) ∷
    (Command.insert Parent.None (port_list (P ∷ P ∷ [])) (port_list (C ∷ C ∷ P ∷ [])), because Error.Conflict Place.Insertion 4 (repeats ListKind.Provisions 0 1)) ∷
    (Command.insert Parent.None (port_list (P ∷ A ∷ C ∷ A ∷ P ∷ [])) no_ports, because Error.Conflict Place.Insertion 4 (repeats ListKind.Dependencies 1 3)) ∷
    (Command.insert Parent.None (port_list (A ∷ A ∷ [])) (only B), because Error.Conflict Place.Insertion 4 (Witness.Clash (binding_of B 4))) ∷
    (Command.insert Parent.None (only A) no_ports, because Error.Capacity Place.Insertion 5 (number Measure.DeclarationSum 8)) ∷
    (Command.insert Parent.None no_ports no_ports, Ok tt) ∷
    (Command.declare_provision 1 P, because Error.Conflict Place.DeclareProvision 3 (Witness.Clash (binding_of P 0))) ∷
    (Command.declare_provision 1 A, because Error.Capacity Place.DeclareProvision 4 (number Measure.DeclarationCount 7)) ∷
    (Command.release_provision 0 P, because Error.Relied Place.ReleaseProvision 1 first_link) ∷
    (Command.release_provision 0 A, Ok tt) ∷
    (Command.configure_pending_dependencies 1 (port_list (A ∷ A ∷ B ∷ C ∷ [])), because Error.Capacity Place.ConfigurePendingDependencies 3 (number Measure.DeclarationSum 8)) ∷
    (Command.configure_pending_dependencies 1 (port_list (A ∷ B ∷ A ∷ [])), because Error.Conflict Place.ConfigurePendingDependencies 4 (repeats ListKind.Dependencies 0 2)) ∷
    -- a port that nobody provides; a provider that is not Active
    (Command.begin 1, because Error.MissingDependency Place.Begin 4 (unresolved A Resolution.NoOwner)) ∷
    (Command.finish 2, because Error.Changed Place.Finish 2 (unresolved P (Resolution.NotActive 0))) ∷
    -- of a retired component only itself
    (Command.finish 6, because Error.Changed Place.Finish 2 (Witness.Component 6)) ∷
    (Command.begin 3, because Error.Retired Place.Begin 2 (Witness.Component 3)) ∷
    (Command.begin 5, because Error.Capacity Place.Begin 5 (number Measure.LinkSum 2)) ∷
    (Command.leave 1, because Error.InvalidState Place.Leave 1 (Witness.Component 1)) ∷
    (Command.leave_if_changed 2, Ok tt) ∷
    (Command.leave_if_changed 4, because Error.Changed Place.LeaveIfChanged 2 (Witness.Component 4)) ∷
    (Command.retire 9, because Error.Unknown Place.Identity 1 (Witness.Component 9)) ∷
    (Command.begin_cleanup 0, because Error.Relied Place.BeginCleanup 2 first_link) ∷
    (Command.finish_cleanup 0, because Error.InvalidState Place.FinishCleanup 1 (Witness.Component 0)) ∷
    (Command.remove 3, because Error.Children Place.Remove 2 (Witness.Child 4)) ∷
    (Command.compact_bindings, Ok tt) ∷ []

abbrev pub ExplanationsHold : Type 0
ExplanationsHold = map (λ (x : Command × Explanation). explained_on small (reached small explained_after) x.0) explanations ≡ map (λ (x : Command × Explanation). x.1) explanations
