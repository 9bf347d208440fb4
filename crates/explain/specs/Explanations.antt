-- The explanation of a command on every kernel value, sound or not; and what is claimed of it.
use Rattle.std.specs.Prelude.{Bool, Err, None, Ok, Option, Some, cond, ℕ}
use Rattle.explain.specs.declared.calls.Call.{Call}
use Rattle.kernel.specs.declared.Kernel.{Kernel}
use Rattle.kernel.specs.Fields.{layout_of}
use Rattle.model.specs.declared.Error.{Error}
use Rattle.model.specs.declared.explanation.Place.{Place}
use Rattle.model.specs.declared.explanation.Refusal.{Refusal}
use Rattle.model.specs.declared.explanation.Witness.{Witness}
use Rattle.model.specs.Commands.{Command}
use Rattle.model.specs.Explanation.{ChecksExplained, Explains, Explanation, explained_on, is_witness}
use Rattle.model.specs.Layouts.{tables_of}
use Rattle.model.specs.Tables.{Tables}
use Rattle.sizes.specs.Sizes.{sizes}

-- a command as a value, read
abbrev pub command_of : Call → Command
command_of (Call.Insert q ds ps) = Command.insert q ds ps
command_of (Call.DeclareProvision id p) = Command.declare_provision id p
command_of (Call.ReleaseProvision id p) = Command.release_provision id p
command_of (Call.ConfigurePendingDependencies id ds) = Command.configure_pending_dependencies id ds
command_of (Call.Begin id) = Command.begin id
command_of (Call.Finish id) = Command.finish id
command_of (Call.Leave id) = Command.leave id
command_of (Call.LeaveIfChanged id) = Command.leave_if_changed id
command_of (Call.Retire id) = Command.retire id
command_of (Call.BeginCleanup id) = Command.begin_cleanup id
command_of (Call.FinishCleanup id) = Command.finish_cleanup id
command_of (Call.Remove id) = Command.remove id
command_of Call.CompactBindings = Command.compact_bindings
command_of Call.CompactDeclarations = Command.compact_declarations

-- of a command on a kernel value, sound or not
abbrev pub explanation_of : Kernel → Command → Explanation
explanation_of k c = explained_on sizes (layout_of k) c

-- ---- what is claimed of every kernel value, sound or not, and of every command and check

abbrev pub EveryExplanation : Type 0
EveryExplanation = (k : Kernel) → ((c : Command) → Explains sizes (layout_of k) c (explanation_of k c)) × ChecksExplained sizes (layout_of k)

-- ---- for the inner functions

abbrev pub tables_in : Kernel → Tables
tables_in k = tables_of (layout_of k)

abbrev pub refusal : Error → Place → ℕ → Witness → Refusal
refusal e p t w = record { error = e; place = p; test = t; witness = w }

-- what a test finds: the witness, if it applies
abbrev pub found_if : Bool → Witness → Option Witness
found_if b w = cond b (Some w) None

-- a witness, unless nothing is named
abbrev pub witnessed : Witness → Option Witness
witnessed w = found_if (is_witness w) w

-- the answer of a test, by what it found
abbrev pub refused_by : Error → Place → ℕ → Option Witness → Explanation
refused_by e p t None = Ok tt
refused_by e p t (Some w) = Err (refusal e p t w)
