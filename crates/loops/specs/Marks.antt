-- Marks that a pass over the links makes: the providers seen, and the dependencies met.
use Rattle.std.specs.Prelude.{Bool, ◌&&◌, cond, not, true, false, List, get_or, set}
use Rattle.model.specs.declared.records.Declaration.{Declaration}
use Rattle.model.specs.declared.records.Link.{Link}
use Rattle.model.specs.Records.{consumer_in, declared_port, owner_in, provider_in}
use Rattle.model.specs.Soundness.{links_to}

-- a live link meets a dependency of its consumer on its port
abbrev pub meets : Declaration → Link → Bool
meets d l = not d.provides && links_to (owner_in d) (declared_port d) l

-- the providers seen, after one more link
abbrev pub marked : List Bool → Link → List Bool
marked seen l = cond l.live (set seen (provider_in l) true) seen

-- no mark on the consumer of a live link
abbrev pub unmarked : List Bool → Link → Bool
unmarked seen l = not (l.live && get_or seen (consumer_in l) false)
