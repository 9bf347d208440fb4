-- What the crate's two passes give: of each identity whether a live link of it passes a test, and whether it is hit.
use Rattle.std.specs.Prelude.{Bool, false, List, ℕ, get_or}
use Rattle.impact.specs.declared.links.Uses.{Uses}
use Rattle.loops.specs.Columns.{rows_from}
use Rattle.model.specs.declared.records.Link.{Link}
use Rattle.model.specs.declared.records.Node.{Node}
use Rattle.model.specs.Impact.{is_provider, is_unserved, linked, reliant_tests}
use Rattle.model.specs.Lists.{conj}
use Rattle.model.specs.Records.{blank_node}
use Rattle.sizes.specs.Sizes.{IDENTITIES}

abbrev pub linked_column : (Link → Bool) → List Link → List Bool
linked_column p ls = rows_from 0 IDENTITIES (linked p ls)

-- `active` tells who is Active
abbrev pub uses_of : (ℕ → Bool) → ℕ → List Link → Uses
uses_of active id ls = record { relying = linked_column (is_provider id) ls; unserved = linked_column (is_unserved active) ls }

abbrev pub hit_of : List Node → Uses → List Bool
hit_of ns u = rows_from 0 IDENTITIES (λ j. conj (reliant_tests (get_or ns j blank_node) (get_or u.relying j false) (get_or u.unserved j false)))
