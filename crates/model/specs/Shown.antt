-- What is written of phases, refusals, ports, bindings, lookups, steps, places and lists.
use Rattle.std.specs.Prelude.{ℕ, List, ◌++◌, codes, decimal}
use Rattle.model.specs.declared.Phase.{Phase}
use Rattle.model.specs.declared.Error.{Error}
use Rattle.model.specs.declared.Port.{Port}
use Rattle.model.specs.declared.Binding.{Binding}
use Rattle.model.specs.declared.Resolution.{Resolution}
use Rattle.model.specs.declared.explanation.ListKind.{ListKind}
use Rattle.model.specs.declared.explanation.Place.{Place}
use Rattle.model.specs.declared.Step.{Step}
use Rattle.model.specs.declared.StepCommand.{StepCommand}

abbrev pub phase_name : Phase → List ℕ
phase_name Phase.Inactive = codes "Inactive"
phase_name Phase.Loading = codes "Loading"
phase_name Phase.Active = codes "Active"
phase_name Phase.Unloading = codes "Unloading"

abbrev pub error_name : Error → List ℕ
error_name Error.Unknown = codes "Unknown"
error_name Error.InvalidState = codes "InvalidState"
error_name Error.Retired = codes "Retired"
error_name Error.MissingDependency = codes "MissingDependency"
error_name Error.Conflict = codes "Conflict"
error_name Error.Changed = codes "Changed"
error_name Error.Relied = codes "Relied"
error_name Error.Children = codes "Children"
error_name Error.Capacity = codes "Capacity"
error_name Error.Damaged = codes "Damaged"

abbrev pub port_text : Port → List ℕ
port_text p = decimal p.key ++ (codes "/" ++ decimal p.realm)

abbrev pub binding_text : Binding → List ℕ
binding_text b = decimal b.key ++ (codes "/" ++ (decimal b.realm ++ (codes "@" ++ decimal b.provider)))

abbrev pub resolution_text : Resolution → List ℕ
resolution_text (Resolution.Provider id) = decimal id
resolution_text (Resolution.NotActive id) = codes "not active " ++ decimal id
resolution_text Resolution.NoOwner = codes "no owner"

abbrev pub step_command_name : StepCommand → List ℕ
step_command_name StepCommand.Leave = codes "leave"
step_command_name StepCommand.BeginCleanup = codes "begin_cleanup"
step_command_name StepCommand.FinishCleanup = codes "finish_cleanup"

abbrev pub step_text : Step → List ℕ
step_text s = step_command_name s.command ++ (codes " " ++ decimal s.id)

-- the rules' name of a place
abbrev pub place_name : Place → List ℕ
place_name Place.Entry = codes "entry"
place_name Place.Lists = codes "lists"
place_name Place.Insertion = codes "insertion"
place_name Place.Identity = codes "identity"
place_name Place.DeclareProvision = codes "declare_provision"
place_name Place.ReleaseProvision = codes "release_provision"
place_name Place.ConfigurePendingDependencies = codes "configure_pending_dependencies"
place_name Place.Begin = codes "begin"
place_name Place.Finish = codes "finish"
place_name Place.Leave = codes "leave"
place_name Place.LeaveIfChanged = codes "leave_if_changed"
place_name Place.BeginCleanup = codes "begin_cleanup"
place_name Place.FinishCleanup = codes "finish_cleanup"
place_name Place.Remove = codes "remove"

abbrev pub list_name : ListKind → List ℕ
list_name ListKind.Dependencies = codes "dependencies"
list_name ListKind.Provisions = codes "provisions"
