-- Declarations in chains.
use Rattle.std.specs.Prelude.{◌+◌, List, ℕ, get_or, set}
use Rattle.model.specs.declared.records.Declaration.{Declaration}
use Rattle.loops.specs.Chains.{Chained, owner_bucket, port_bucket}
use Rattle.soundness.specs.declared.chains.Chain.{Chain}

-- one more entry, put before the others of bucket b
abbrev pub pushed : Chain → ℕ → ℕ → Chain
pushed s i b = record { first = set s.first b (i + 1); next = set s.next i (get_or s.first b 0) }

-- the first n declarations are in their chains, by their ports and by their owners too
pub record BothChained (ds : List Declaration) (n : ℕ) (by_port by_owner : Chain) : Type 0 where
  pub ports : Chained port_bucket ds n by_port.first by_port.next
  pub owners : Chained owner_bucket ds n by_owner.first by_owner.next
