-- resolve, target, committed.
use Rattle.std.specs.Prelude.{◌≡◌, Bool, ◌&&◌, cond, not, true, List, [], ◌∷◌, map, ℕ, eqb, None, Option as CodeOption, Some}
use Rattle.std.proofs.Math.Option.{Option, none, some}
use Rattle.model.specs.declared.Binding.{Binding}
use Rattle.model.specs.declared.records.Declaration.{Declaration}
use Rattle.model.specs.declared.records.Link.{Link}
use Rattle.model.specs.declared.records.Node.{Node}
use Rattle.model.specs.declared.Phase.{Phase}
use Rattle.model.specs.declared.Port.{Port}
use Rattle.model.specs.declared.Resolution.{Resolution}
use Rattle.model.specs.declared.Unresolved.{Unresolved}
use Rattle.model.specs.Lists.{keep}
use Rattle.model.specs.Points.{Among, At}
use Rattle.model.specs.Records.{binding_in, binding_of, consumer_in, declared_port, owner_in, provision, same_port}
use Rattle.model.specs.Tables.{Tables, node_at, present, providing}

-- a provision of the port by a present owner, whatever its phase or retirement: `here` tells who is present
unfoldable pub offers : (ℕ → Bool) → Port → Declaration → Bool
offers here p d = d.provides && same_port (declared_port d) p && here (owner_in d)

-- what is said of a present owner that provides the port: whether it is Active, which `active` tells
abbrev pub owned : (ℕ → Bool) → ℕ → Resolution
owned active o = cond (active o) (Resolution.Provider o) (Resolution.NotActive o)

-- the first present owner that provides the port and whether it is Active, or that there is no such owner
unfoldable pub look_up : (ℕ → Bool) → (ℕ → Bool) → List Declaration → Port → Resolution
look_up here active [] p = Resolution.NoOwner
look_up here active (d ∷ ds) p = cond (offers here p d) (owned active (owner_in d)) (look_up here active ds p)

-- what looking up a port answers
abbrev pub resolve : Tables → Port → Resolution
resolve T = look_up (present T.nodes) (providing T.nodes) T.declarations

-- o is present, in such a phase, and provides the port
abbrev pub Owner : (Phase → Type 0) → Tables → Port → ℕ → Type 0
Owner F T p o = (n : Node) × At T.nodes o n × (n.present ≡ true) × F n.phase × Among T.declarations (provision o p)

-- in whatever phase
abbrev pub Owns : Tables → Port → ℕ → Type 0
Owns = Owner (λ f. Unit {0})

-- the Active provider: the original's
abbrev pub Provides : Tables → Port → ℕ → Type 0
Provides = Owner (λ f. f ≡ Phase.Active)

-- what each answer says (Theorems/Resolution.antt: on sound tables resolve answers just what holds)
abbrev pub Says : Tables → Port → Resolution → Type 0
Says T p (Resolution.Provider o) = Provides T p o
Says T p (Resolution.NotActive o) = Owner (λ f. f ≡ Phase.Active → ⊥) T p o
Says T p Resolution.NoOwner = (o : ℕ) → Owns T p o → ⊥

-- a dependency of this component
unfoldable pub is_dependency_of : ℕ → Declaration → Bool
is_dependency_of id d = not d.provides && eqb (owner_in d) id

-- its dependency ports, in declaration order
unfoldable pub dependency_ports : List Declaration → ℕ → List Port
dependency_ports ds id = map declared_port (keep (is_dependency_of id) ds)

-- what target answers: a binding for each dependency; no target, since this dependency did not resolve; no target, and no dependency named
pub data Target : Type 0 where
  bound : List Binding → Target
  missing : Unresolved → Target
  nothing : Target

-- the bindings, if there is a target: the original's answer
abbrev pub target_list : Target → Option (List Binding)
target_list (Target.bound bs) = some bs
target_list (Target.missing u) = none
target_list Target.nothing = none

-- what is missing: nothing if there is a target
abbrev pub missing_of : Target → CodeOption Unresolved
missing_of (Target.bound bs) = None
missing_of (Target.missing u) = Some u
missing_of Target.nothing = None

-- a first binding before those of the rest, if the rest has them
abbrev pub before : Binding → Target → Target
before b (Target.bound bs) = Target.bound (b ∷ bs)
before b (Target.missing u) = Target.missing u
before b Target.nothing = Target.nothing

-- a first port with what its lookup answered, and the rest
unfoldable pub joined : Port → Resolution → Target → Target
joined p (Resolution.Provider o) t = before (binding_of p o) t
joined p (Resolution.NotActive o) t = Target.missing (record { port = p; found = Resolution.NotActive o })
joined p Resolution.NoOwner t = Target.missing (record { port = p; found = Resolution.NoOwner })

-- each port with its provider, or the first port that has none
unfoldable pub bind_ports : (Port → Resolution) → List Port → Target
bind_ports f [] = Target.bound []
bind_ports f (p ∷ ps) = joined p (f p) (bind_ports f ps)

-- a binding for each dependency record, in declaration order, or the first that does not resolve; none of a retired or absent component
unfoldable pub target : Tables → ℕ → Target
target T id = cond (present T.nodes id && not (node_at T.nodes id).retired) (bind_ports (resolve T) (dependency_ports T.declarations id)) Target.nothing

-- a live link of this consumer
unfoldable pub is_live_link_of : ℕ → Link → Bool
is_live_link_of id l = l.live && eqb (consumer_in l) id

-- the bindings of a consumer's live links, in link order
unfoldable pub committed : List Link → ℕ → List Binding
committed ls id = map binding_in (keep (is_live_link_of id) ls)
