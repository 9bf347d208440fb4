-- What is written of answers, of what may be missing, and of a dependency that did not resolve.
use Rattle.std.specs.Prelude.{Err, List, None, Ok, Option, Result, Some, [], ℕ, ◌++◌, ◌∷◌, ◌==◌, codes, cond, decimal, min, take}
use Rattle.std.specs.Fmt.{option_append}
use Rattle.model.specs.declared.Error.{Error}
use Rattle.model.specs.declared.Port.{Port}
use Rattle.model.specs.declared.Resolution.{Resolution}
use Rattle.model.specs.declared.Unresolved.{Unresolved}
use Rattle.model.specs.Refusals.{number}
use Rattle.model.specs.Shown.{binding_text, error_name, port_text, resolution_text}
use Rattle.results.specs.declared.CommittedBindings.{CommittedBindings}
use Rattle.results.specs.declared.Identities.{Identities}
use Rattle.results.specs.declared.TargetBindings.{TargetBindings}
use Rattle.sizes.specs.Sizes.{DECLARATIONS, IDENTITIES, LINKS}

-- an answer by its number
abbrev pub answer_text : ℕ → List ℕ
answer_text n = cond (n == 0) (codes "done") (codes "refused " ++ decimal n)

-- refused, with the refusal's number
abbrev pub refused_text : Error → List ℕ
refused_text e = codes "refused " ++ decimal (number e)

abbrev pub reply_text : {T : Type 0} → Result T Error → List ℕ
reply_text (Ok _) = codes "done"
reply_text (Err e) = refused_text e

-- and with its name
abbrev pub refused_line : Error → List ℕ
refused_line e = refused_text e ++ (codes " " ++ error_name e)

-- the text of what there is, or none
abbrev pub or_none : {T : Type 0} → (T → Option (List ℕ)) → Option T → Option (List ℕ)
or_none text (Some there) = text there
or_none text None = Some (codes "none")

-- members with a space before each
abbrev pub spaced : {T : Type 0} → (T → Option (List ℕ)) → List T → Option (List ℕ)
spaced text [] = Some []
spaced text (x ∷ xs) = option_append (option_append (Some (codes " ")) (text x)) (spaced text xs)

-- members with a space between
abbrev pub list_text : {T : Type 0} → (T → Option (List ℕ)) → List T → Option (List ℕ)
list_text text [] = Some (codes "empty")
list_text text (x ∷ xs) = option_append (text x) (spaced text xs)

-- a list in an array with a count
abbrev pub ids_text : Identities → Option (List ℕ)
ids_text list = list_text (λ id. Some (decimal id)) (take (min list.count IDENTITIES) list.ids)

abbrev pub committed_text : CommittedBindings → Option (List ℕ)
committed_text list = list_text (λ b. Some (binding_text b)) (take (min list.count LINKS) list.bindings)

-- what target answers: its bindings, or none and the dependency that is missing, if one is named
abbrev pub target_text : Result TargetBindings (Option Unresolved) → Option (List ℕ)
target_text (Ok found) = list_text (λ b. Some (binding_text b)) (take (min found.count DECLARATIONS) found.bindings)
target_text (Err (Some u)) = Some (codes "none, " ++ (port_text u.port ++ (codes " " ++ resolution_text u.found)))
target_text (Err None) = Some (codes "none")

abbrev pub key_realm : Port → List ℕ
key_realm p = codes "key " ++ (decimal p.key ++ (codes " realm " ++ decimal p.realm))

-- a port with the reason that it did not resolve
abbrev pub missing_text : Unresolved → List ℕ
missing_text u = key_realm u.port ++ found_text u.found
  where
    found_text : Resolution → List ℕ
    found_text (Resolution.NotActive id) = codes ", which " ++ (decimal id ++ codes " provides but is not Active")
    found_text (Resolution.Provider id) = codes ", which nobody provides"
    found_text Resolution.NoOwner = codes ", which nobody provides"
