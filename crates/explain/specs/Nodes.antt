-- The tests of a component's node with what they name.
use Rattle.std.specs.Prelude.{Err, None, Ok, Option, Some, ◌≡◌, ℕ}
use Rattle.model.specs.declared.Unresolved.{Unresolved}
use Rattle.explain.specs.Explanations.{refusal}
use Rattle.explain.specs.declared.nodes.Numbers.{Numbers}
use Rattle.model.specs.Answers.{Answer}
use Rattle.model.specs.Explanation.{Explanation, number}
use Rattle.model.specs.declared.Error.{Error}
use Rattle.model.specs.declared.explanation.Measure.{Measure}
use Rattle.model.specs.declared.explanation.Place.{Place}
use Rattle.model.specs.declared.explanation.Refusal.{Refusal}
use Rattle.model.specs.declared.explanation.Witness.{Witness}
use Rattle.model.specs.declared.records.Node.{Node}

-- the test that gives this refusal of the node, with its number in its place; 9 is begin's, of the generation
abbrev pub node_refusal : Place → Numbers → ℕ → Node → Error → Refusal
node_refusal place s id n Error.Unknown = refusal Error.Unknown Place.Identity 1 (Witness.Component id)
node_refusal place s id n Error.Capacity = refusal Error.Capacity place 3 (number Measure.Generation n.generation)
node_refusal place s id n Error.InvalidState = refusal Error.InvalidState place s.state (Witness.Component id)
node_refusal place s id n e = refusal e place s.retired (Witness.Component id)

-- by what f says of the refusal answered
abbrev pub refused_as : (Error → Refusal) → Answer → Explanation
refused_as f (Ok _) = Ok tt
refused_as f (Err e) = Err (f e)

-- what a check says of the node; post is what it may answer
abbrev pub Told : (Node → Answer → Type 0) → Place → Numbers → ℕ → Node → Explanation → Type 0
Told post place s id n r = (a : Answer) × post n a × (r ≡ refused_as (node_refusal place s id n) a)

-- of what target says is missing
abbrev pub lacked : ℕ → Option Unresolved → Witness
lacked id (Some u) = Witness.Dependency u
lacked id None = Witness.Component id
