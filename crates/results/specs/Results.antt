-- How a list stands in what ids, children, target and committed return: in an array with a count, blank past it.
use Rattle.std.specs.Prelude.{Err, List, None, Ok, Option as CodeOption, Result, Some, ℕ, length}
use Rattle.model.specs.declared.Binding.{Binding}
use Rattle.results.specs.declared.CommittedBindings.{CommittedBindings}
use Rattle.results.specs.declared.Identities.{Identities}
use Rattle.results.specs.declared.TargetBindings.{TargetBindings}
use Rattle.model.specs.declared.Unresolved.{Unresolved}
use Rattle.model.specs.Lists.{padded}
use Rattle.model.specs.Records.{blank_binding}
use Rattle.model.specs.Resolution.{Target}
use Rattle.sizes.specs.Sizes.{DECLARATIONS, IDENTITIES, LINKS}

-- a list of identities in an array
abbrev pub identities : List ℕ → Identities
identities xs = record { ids = padded IDENTITIES 0 xs; count = length xs }

-- the bindings of a target in an array
abbrev pub bound_bindings : List Binding → TargetBindings
bound_bindings bs = record { bindings = padded DECLARATIONS blank_binding bs; count = length bs }

-- what target answers: a target's bindings, or what is missing
abbrev pub target_bindings : Target → Result TargetBindings (CodeOption Unresolved)
target_bindings (Target.bound bs) = Ok (bound_bindings bs)
target_bindings (Target.missing u) = Err (Some u)
target_bindings Target.nothing = Err None

-- the bindings of a consumer's live links in an array
abbrev pub committed_bindings : List Binding → CommittedBindings
committed_bindings bs = record { bindings = padded LINKS blank_binding bs; count = length bs }
