-- The test behind a refusal: for each test of a command's row its place in the rules' table, its number there and what it names; the explanation of a command.
use Rattle.std.specs.Prelude.{◌≡◌, Bool, Err, Ok, Result, cond, false, true, List, [], ◌++◌, ◌∷◌, map, ◌↔◌, ◌⊎◌, ◌<◌, ◌≤◌, suc, ℕ, length}
use Rattle.std.proofs.Math.Option.{Option, none, some}
use Rattle.model.specs.declared.Binding.{Binding}
use Rattle.model.specs.declared.Error.{Error}
use Rattle.model.specs.declared.explanation.LinkAt.{LinkAt}
use Rattle.model.specs.declared.explanation.ListKind.{ListKind}
use Rattle.model.specs.declared.explanation.Measure.{Measure}
use Rattle.model.specs.declared.explanation.Measured.{Measured}
use Rattle.model.specs.declared.explanation.Place.{Place}
use Rattle.model.specs.declared.explanation.Refusal.{Refusal}
use Rattle.model.specs.declared.explanation.Repeat.{Repeat}
use Rattle.model.specs.declared.explanation.Witness.{Witness}
use Rattle.model.specs.declared.Parent.{Parent}
use Rattle.model.specs.declared.Port.{Port}
use Rattle.model.specs.declared.PortList.{PortList}
use Rattle.model.specs.declared.Resolution.{Resolution}
use Rattle.model.specs.declared.Unresolved.{Unresolved}
use Rattle.model.specs.declared.records.Link.{Link}
use Rattle.model.specs.declared.records.Node.{Node}
use Rattle.model.specs.Commands.{Command, tests}
use Rattle.model.specs.Insertion.{check_insert, insert_sum}
use Rattle.model.specs.Interface.{configure_sum, distinct, listed, relies_on, taken, too_long}
use Rattle.model.specs.Iteration.{iteration_of}
use Rattle.model.specs.Kernels.{asked, commanded}
use Rattle.model.specs.Layouts.{Layout, sound_kernel, tables_of}
use Rattle.model.specs.Lifecycle.{begin_sum, relies}
use Rattle.model.specs.Lists.{any, find_at}
use Rattle.model.specs.Points.{Among, At}
use Rattle.model.specs.Records.{binding_in, binding_of, consumer_in, dependency, is_child_of, parent_in, port_in, port_of, provider_in, same_port}
use Rattle.model.specs.Refusals.{Reply, Tests, accepted}
use Rattle.model.specs.Resolution.{Owns, Says, Target, dependency_ports, resolve, target}
use Rattle.model.specs.Sizes.{Sizes, last_generation, list_limit}
use Rattle.model.specs.Tables.{Tables, generation_at, node_at}

-- ---- what a test names

abbrev pub number : Measure → ℕ → Witness
number m n = Witness.Number (record { measure = m; number = n })

-- of two lists too long, the dependencies
abbrev pub long_list : PortList → PortList → Witness
long_list ds ps = cond (too_long ds) (number Measure.DependencyCount ds.count) (number Measure.ProvisionCount ps.count)

abbrev pub parent_named : Parent → Witness
parent_named Parent.None = Witness.Nothing
parent_named (Parent.Of p) = Witness.Component p

-- the first dependency that does not resolve, and why; only the component, where it has a target or is retired
abbrev pub lacking : ℕ → Target → Witness
lacking id (Target.bound bs) = Witness.Component id
lacking id (Target.missing u) = Witness.Dependency u
lacking id Target.nothing = Witness.Component id

-- an entry with its place, if one was found
abbrev pub witness : {A : Type 0} → (ℕ → A → Witness) → Option (ℕ × A) → Witness
witness f none = Witness.Nothing
witness f (some e) = f e.0 e.1

abbrev pub link_at : ℕ → Link → Witness
link_at i l = Witness.Link (record { place = i; consumer = consumer_in l; binding = binding_in l })

-- the first link in the way
abbrev pub link_named : (Link → Bool) → List Link → Witness
link_named p ls = witness link_at (find_at p 0 ls)

-- the lowest present child
abbrev pub child_named : ℕ → List Node → Witness
child_named id ns = witness (λ i n. Witness.Child i) (find_at (is_child_of id) 0 ns)

-- ---- clashes and repeats, in the order of lib.rs's scan

-- the first, unless it is nothing
abbrev pub or_next : Witness → Witness → Witness
or_next Witness.Nothing v = v
or_next (Witness.Component id) v = Witness.Component id
or_next (Witness.Dependency u) v = Witness.Dependency u
or_next (Witness.Link l) v = Witness.Link l
or_next (Witness.Child id) v = Witness.Child id
or_next (Witness.Clash b) v = Witness.Clash b
or_next (Witness.Repeated r) v = Witness.Repeated r
or_next (Witness.Number m) v = Witness.Number m

-- something is named
abbrev pub is_witness : Witness → Bool
is_witness Witness.Nothing = false
is_witness (Witness.Component id) = true
is_witness (Witness.Dependency u) = true
is_witness (Witness.Link l) = true
is_witness (Witness.Child id) = true
is_witness (Witness.Clash b) = true
is_witness (Witness.Repeated r) = true
is_witness (Witness.Number m) = true

-- a port with the present owner that provides it, by what looking it up answered
abbrev pub clash_of : Port → Resolution → Witness
clash_of p (Resolution.Provider o) = Witness.Clash (binding_of p o)
clash_of p (Resolution.NotActive o) = Witness.Clash (binding_of p o)
clash_of p Resolution.NoOwner = Witness.Nothing

abbrev pub repeat_at : ListKind → ℕ → ℕ → Port → Witness
repeat_at s later earlier p = Witness.Repeated (record { list = s; earlier = earlier; later = later })

-- port by port, behind those that were read: the earlier places of its list, then who provides it
unfoldable pub clash_from : ListKind → (Port → Resolution) → List Port → List Port → Witness
clash_from s f es [] = Witness.Nothing
clash_from s f es (p ∷ ps) = or_next (witness (repeat_at s (length es)) (find_at (same_port p) 0 es)) (or_next (clash_of p (f p)) (clash_from s f (es ++ (p ∷ [])) ps))

-- the provisions, then the dependencies, which clash only with themselves
abbrev pub repeat_named : List Port → Witness
repeat_named ds = clash_from ListKind.Dependencies (λ p. Resolution.NoOwner) [] ds

abbrev pub clash_named : Tables → List Port → List Port → Witness
clash_named T ds ps = or_next (clash_from ListKind.Provisions (resolve T) [] ps) (repeat_named ds)

-- ---- the rows

pub record Reason : Type 0 where
  pub place : Place
  pub test : ℕ
  pub witness : Witness

-- what the tests of a place name, counted from n
abbrev pub numbered : Place → ℕ → List Witness → List Reason
numbered r n [] = []
numbered r n (w ∷ ws) = record { place = r; test = n; witness = w } ∷ numbered r (suc n) ws

abbrev pub at : Place → List Witness → List Reason
at r ws = numbered r 1 ws

-- the place 'identity', then another
abbrev pub after : ℕ → Place → List Witness → List Reason
after id r ws = at Place.Identity (Witness.Component id ∷ []) ++ at r ws

-- of each test of a command's row, in its order
abbrev pub reasons : Tables → Command → List Reason
reasons T (Command.insert q ds ps) =
    at Place.Lists (long_list ds ps ∷ [])
    ++ at Place.Insertion
    (number Measure.IdentityCount (length T.nodes)
    ∷ parent_named q
    ∷ parent_named q
    ∷ clash_named T (listed ds) (listed ps)
    ∷ number Measure.DeclarationSum (insert_sum T ds ps)
    ∷ [])
reasons T (Command.declare_provision id p) =
    after id Place.DeclareProvision (Witness.Component id ∷ Witness.Component id ∷ clash_of p (resolve T p) ∷ number Measure.DeclarationCount (length T.declarations) ∷ [])
reasons T (Command.release_provision id p) = after id Place.ReleaseProvision (link_named (relies_on id p) T.links ∷ [])
reasons T (Command.configure_pending_dependencies id l) =
    at Place.Lists (number Measure.DependencyCount l.count ∷ [])
    ++ after id Place.ConfigurePendingDependencies (Witness.Component id ∷ Witness.Component id ∷ number Measure.DeclarationSum (configure_sum T id l) ∷ repeat_named (listed l) ∷ [])
reasons T (Command.begin id) =
    after id Place.Begin
    (Witness.Component id
    ∷ Witness.Component id
    ∷ number Measure.Generation (generation_at T.nodes id)
    ∷ lacking id (target T id)
    ∷ number Measure.LinkSum (begin_sum T id)
    ∷ [])
reasons T (Command.finish id) = after id Place.Finish (Witness.Component id ∷ lacking id (target T id) ∷ [])
reasons T (Command.leave id) = after id Place.Leave (Witness.Component id ∷ [])
reasons T (Command.leave_if_changed id) = after id Place.LeaveIfChanged (Witness.Component id ∷ Witness.Component id ∷ [])
reasons T (Command.retire id) = at Place.Identity (Witness.Component id ∷ [])
reasons T (Command.begin_cleanup id) = after id Place.BeginCleanup (Witness.Component id ∷ link_named (relies id) T.links ∷ [])
reasons T (Command.finish_cleanup id) = after id Place.FinishCleanup (Witness.Component id ∷ [])
reasons T (Command.remove id) = after id Place.Remove (Witness.Component id ∷ child_named id T.nodes ∷ [])
reasons T Command.compact_bindings = []
reasons T Command.compact_declarations = []

abbrev pub refusal_for : Error → Reason → Refusal
refusal_for e r = record { error = e; place = r.place; test = r.test; witness = r.witness }

-- tests with their reasons, one for one (`rows_told`, Theorems/Explanation.antt: no test is left without one)
abbrev pub named : Tests → List Reason → List (Bool × Refusal)
named [] rs = []
named (t ∷ ts) [] = []
named (t ∷ ts) (r ∷ rs) = (t.0, refusal_for t.1 r) ∷ named ts rs

abbrev pub row : Sizes → Tables → Command → List (Bool × Refusal)
row S T c = named (tests S T c) (reasons T c)

-- ---- the explanation

-- accepted, or the refusal with its place, its test and what that found
abbrev pub Explanation : Type 0
Explanation = Result (Unit {0}) Refusal

-- the first test that applies
unfoldable pub explain : List (Bool × Refusal) → Explanation
explain [] = Ok tt
explain (t ∷ ts) = cond t.0 (Err t.1) (explain ts)

unfoldable pub explained : Sizes → Tables → Command → Explanation
explained S T c = explain (row S T c)

-- the place 'entry': an unsound kernel has no witness
abbrev pub damaged : Explanation
damaged = Err (record { error = Error.Damaged; place = Place.Entry; test = 1; witness = Witness.Nothing })

-- of a command on a kernel, sound or not
abbrev pub explained_on : Sizes → Layout → Command → Explanation
explained_on S k c = asked S k damaged (λ T. explained S T c)

-- what check_insert replies
abbrev pub insertion_of : Sizes → Layout → Parent → PortList → PortList → Reply
insertion_of S k q ds ps = asked S k (Reply.refused Error.Damaged) (λ T. check_insert S T q ds ps)

-- ---- when a witness is real

-- x stands at place i and has P, and no entry before it has
abbrev pub First : {A : Type 0} → (A → Type 0) → List A → ℕ → A → Type 0
First P xs i x = At xs i x × P x × ((j : ℕ) (y : _) → j < i → At xs j y → P y → ⊥)

-- what a command names: an identity, insert's parent; the port that it releases; its lists, declare_provision's port as a list of provisions; and the sum
-- that it compares with a size
pub record Subject : Type 0 where
  pub identity : Option ℕ
  pub released : Option Port
  pub dependencies : PortList
  pub provisions : PortList
  pub sum : Tables → ℕ

abbrev pub no_ports : PortList
no_ports = record { ports = []; count = 0 }

abbrev pub one_port : Port → PortList
one_port p = record { ports = p ∷ []; count = 1 }

abbrev pub naming : Option ℕ → Subject
naming o = record { identity = o; released = none; dependencies = no_ports; provisions = no_ports; sum = λ T. 0 }

abbrev pub identity_of : Parent → Option ℕ
identity_of Parent.None = none
identity_of (Parent.Of p) = some p

abbrev pub subject : Command → Subject
subject (Command.insert q ds ps) = record { identity = identity_of q; released = none; dependencies = ds; provisions = ps; sum = λ T. insert_sum T ds ps }
subject (Command.declare_provision id p) = record { identity = some id; released = none; dependencies = no_ports; provisions = one_port p; sum = λ T. 0 }
subject (Command.release_provision id p) = record { identity = some id; released = some p; dependencies = no_ports; provisions = no_ports; sum = λ T. 0 }
subject (Command.configure_pending_dependencies id l) = record { identity = some id; released = none; dependencies = l; provisions = no_ports; sum = λ T. configure_sum T id l }
subject (Command.begin id) = record { identity = some id; released = none; dependencies = no_ports; provisions = no_ports; sum = λ T. begin_sum T id }
subject (Command.finish id) = naming (some id)
subject (Command.leave id) = naming (some id)
subject (Command.leave_if_changed id) = naming (some id)
subject (Command.retire id) = naming (some id)
subject (Command.begin_cleanup id) = naming (some id)
subject (Command.finish_cleanup id) = naming (some id)
subject (Command.remove id) = naming (some id)
subject Command.compact_bindings = naming none
subject Command.compact_declarations = naming none

-- the component's first dependency that does not resolve, and what looking it up answers
pub record Unmet (T : Tables) (id : ℕ) (p : Port) (found : Resolution) : Type 0 where
  pub declared : Among T.declarations (dependency id p)
  pub looked_up : resolve T p ≡ found
  pub first : (i : ℕ) × First (λ q. (o : ℕ) → resolve T q ≡ Resolution.Provider o → ⊥) (dependency_ports T.declarations id) i p

-- a live link whose provider is the identity named, with the port released if one is
abbrev pub InTheWay : Subject → Link → Type 0
InTheWay s l = (l.live ≡ true) × (s.identity ≡ some (provider_in l)) × ((p : Port) → s.released ≡ some p → port_in l ≡ p)

-- a present node whose parent is the identity named
abbrev pub ChildOf : Subject → Node → Type 0
ChildOf s n = (n.present ≡ true) × ((p : ℕ) × (s.identity ≡ some p) × (parent_in n ≡ Parent.Of p))

-- ---- the order of lib.rs's scan, by places

-- no port of the list below place j stands earlier too
abbrev pub NoRepeat : List Port → ℕ → Type 0
NoRepeat ps j = (i k : ℕ) (q : Port) → i < k → k < j → At ps i q → At ps k q → ⊥

-- no present owner provides a port below place j
abbrev pub NoneTaken : Tables → List Port → ℕ → Type 0
NoneTaken T ps j = (k : ℕ) (q : Port) → k < j → At ps k q → (o : ℕ) → Owns T q o → ⊥

-- places i and j hold one port; no smaller later place is a repeat's, and no place before i holds the port
abbrev pub FirstRepeat : List Port → ℕ → ℕ → Type 0
FirstRepeat ps i j = (p : Port) × (i < j) × At ps i p × At ps j p × NoRepeat ps j × ((k : ℕ) → k < i → At ps k p → ⊥)

-- what the scan has met before a repeat in this list: nothing
abbrev pub MetBefore : ListKind → Tables → Subject → ℕ → Type 0
MetBefore ListKind.Provisions T s j = NoneTaken T (listed s.provisions) j
MetBefore ListKind.Dependencies T s j = (distinct (listed s.provisions) ≡ true) × (any (taken T) (listed s.provisions) ≡ false)

-- the port at place j is the first that is taken, by this owner, and none up to there repeats
abbrev pub FirstTaken : Tables → List Port → Binding → Type 0
FirstTaken T ps b = (j : ℕ) × At ps j (port_of b) × NoRepeat ps (suc j) × NoneTaken T ps j × Owns T (port_of b) b.provider

abbrev pub list_of : ListKind → Subject → List Port
list_of ListKind.Dependencies s = listed s.dependencies
list_of ListKind.Provisions s = listed s.provisions

-- the figure that a test for 9 compares, past its limit
abbrev pub Exceeds : Sizes → Tables → Subject → Measure → ℕ → Type 0
Exceeds S T s Measure.DependencyCount n = (n ≡ s.dependencies.count) × (list_limit < n)
Exceeds S T s Measure.ProvisionCount n = (n ≡ s.provisions.count) × (list_limit < n) × (s.dependencies.count ≤ list_limit)
Exceeds S T s Measure.IdentityCount n = (n ≡ length T.nodes) × (S.identities ≤ n)
Exceeds S T s Measure.DeclarationCount n = (n ≡ length T.declarations) × (S.declarations ≤ n)
Exceeds S T s Measure.DeclarationSum n = (n ≡ s.sum T) × (S.declarations < n)
Exceeds S T s Measure.LinkSum n = (n ≡ s.sum T) × (S.links < n)
Exceeds S T s Measure.Generation n = (id : ℕ) × (s.identity ≡ some id) × (n ≡ generation_at T.nodes id) × (n ≡ last_generation)

-- nothing is never real
abbrev pub Real : Sizes → Tables → Subject → Witness → Type 0
Real S T s Witness.Nothing = ⊥
Real S T s (Witness.Component id) = s.identity ≡ some id
Real S T s (Witness.Dependency u) = (id : ℕ) × (s.identity ≡ some id) × Unmet T id u.port u.found
Real S T s (Witness.Link w) = (l : Link) × First (InTheWay s) T.links w.place l × (w.consumer ≡ consumer_in l) × (w.binding ≡ binding_in l)
Real S T s (Witness.Child i) = (n : Node) × First (ChildOf s) T.nodes i n
Real S T s (Witness.Clash b) = FirstTaken T (listed s.provisions) b
Real S T s (Witness.Repeated r) = FirstRepeat (list_of r.list s) r.earlier r.later × MetBefore r.list T s r.later
Real S T s (Witness.Number m) = Exceeds S T s m.measure m.number

-- ---- which witness a refusal has

abbrev pub IsComponent : Witness → Type 0
IsComponent w = (id : ℕ) × (w ≡ Witness.Component id)

abbrev pub IsDependency : Witness → Type 0
IsDependency w = (u : Unresolved) × (w ≡ Witness.Dependency u)

abbrev pub Suits : Error → Witness → Type 0
Suits Error.Unknown w = IsComponent w
Suits Error.InvalidState w = IsComponent w
Suits Error.Retired w = IsComponent w
Suits Error.MissingDependency w = IsDependency w
Suits Error.Conflict w = ((b : Binding) × (w ≡ Witness.Clash b)) ⊎ ((r : Repeat) × (w ≡ Witness.Repeated r))
Suits Error.Changed w = IsComponent w ⊎ IsDependency w
Suits Error.Relied w = (l : LinkAt) × (w ≡ Witness.Link l)
Suits Error.Children w = (id : ℕ) × (w ≡ Witness.Child id)
Suits Error.Capacity w = (m : Measured) × (w ≡ Witness.Number m)
Suits Error.Damaged w = w ≡ Witness.Nothing

-- ---- what is claimed

-- r is the refusal of the first test of the row that applies, and its witness is real and of its kind
pub record Behind (S : Sizes) (T : Tables) (c : Command) (r : Refusal) : Type 0 where
  pub first : (i : ℕ) × First (λ t. t.0 ≡ true) (row S T c) i (true, r)
  pub real : Real S T (subject c) r.witness
  pub suits : Suits r.error r.witness

-- x explains the command c on the kernel k
pub record Explains (S : Sizes) (k : Layout) (c : Command) (x : Explanation) : Type 0 where
  -- accepted exactly if the command is, and else the refusal that it replies
  pub accepts : (x ≡ Ok tt) ↔ (accepted (commanded S k c).reply ≡ true)
  pub refuses : (r : Refusal) → x ≡ Err r → (commanded S k c).reply ≡ Reply.refused r.error
  pub behind : sound_kernel S k ≡ true → (r : Refusal) → x ≡ Err r → Behind S (tables_of k) c r
  -- of a dependency that does not resolve: which of the two reasons holds
  pub reason : sound_kernel S k ≡ true → (r : Refusal) (u : Unresolved) → x ≡ Err r → r.witness ≡ Witness.Dependency u → Says (tables_of k) u.port u.found
  pub unsound : sound_kernel S k ≡ false → x ≡ damaged

-- one claim about all kernels, sound or not, and all commands
abbrev pub EveryRefusalExplained : Type 0
EveryRefusalExplained = (S : Sizes) (k : Layout) (c : Command) → Explains S k c (explained_on S k c)

-- the rows explained are the rows of the commands
abbrev pub RowsTold : Type 0
RowsTold = (S : Sizes) (T : Tables) (c : Command) → map (λ (t : Bool × Refusal). (t.0, t.1.error)) (row S T c) ≡ tests S T c

-- finish of a retired component names only the identity, and so does leave_if_changed
abbrev pub RetiredNamed : Type 0
RetiredNamed = (S : Sizes) (T : Tables) (id : ℕ) (r : Refusal) → (node_at T.nodes id).retired ≡ true → explained S T (Command.finish id) ≡ Err r → r.witness ≡ Witness.Component id

abbrev pub UnchangedNamed : Type 0
UnchangedNamed = (S : Sizes) (T : Tables) (id : ℕ) (r : Refusal) → explained S T (Command.leave_if_changed id) ≡ Err r → r.witness ≡ Witness.Component id

-- what a check replies, by an explanation
abbrev pub reply_by : Explanation → Reply
reply_by (Ok _) = Reply.done
reply_by (Err r) = Reply.refused r.error

-- check_insert and check_iteration reply by the same rows
pub record ChecksExplained (S : Sizes) (k : Layout) : Type 0 where
  pub insertion : (q : Parent) (ds ps : PortList) → insertion_of S k q ds ps ≡ reply_by (explained_on S k (Command.insert q ds ps))
  pub iteration : (id : ℕ) → iteration_of S k id ≡ reply_by (explained_on S k (Command.finish id))
