-- What is written of an explanation: the refusal, its place and its test, and what the test found; of an accepted command one word.
use Rattle.std.specs.Prelude.{Err, List, Ok, Result, [], ℕ, ◌++◌, ◌==◌, codes, cond, decimal}
use Rattle.model.specs.Records.{port_of}
use Rattle.model.specs.Shown.{list_name, place_name}
use Rattle.model.specs.declared.Binding.{Binding}
use Rattle.model.specs.declared.Error.{Error}
use Rattle.model.specs.declared.explanation.LinkAt.{LinkAt}
use Rattle.model.specs.declared.explanation.Measure.{Measure}
use Rattle.model.specs.declared.explanation.Measured.{Measured}
use Rattle.model.specs.declared.explanation.Place.{Place}
use Rattle.model.specs.declared.explanation.Refusal.{Refusal}
use Rattle.model.specs.declared.explanation.Repeat.{Repeat}
use Rattle.model.specs.declared.explanation.Witness.{Witness}
use Rattle.text.specs.Shown.{key_realm, missing_text, refused_line}
use Rattle.text.specs.declared.explanations.LogRefusal.{LogRefusal}

-- the words of a place's test; its last stands for any further number
abbrev pub test_words : Place → ℕ → List ℕ
test_words Place.Entry n = codes "the kernel is not sound"
test_words Place.Lists n = codes "a list is over 32"
test_words Place.Insertion n =
    cond (n == 1) (codes "64 identities are issued") (
    cond (n == 2) (codes "the parent is absent") (
    cond (n == 3) (codes "the parent is retired") (
    cond (n == 4) (codes "a port is listed twice or taken") (codes "declarations and both lists exceed 256"))))
test_words Place.Identity n = codes "it is absent"
test_words Place.DeclareProvision n =
    cond (n == 1) (codes "it is retired") (
    cond (n == 2) (codes "it is neither Loading, Active nor never begun") (
    cond (n == 3) (codes "another present component provides the port") (codes "declarations are 256")))
test_words Place.ReleaseProvision n = codes "a live link has this provider and port"
test_words Place.ConfigurePendingDependencies n =
    cond (n == 1) (codes "it is retired") (
    cond (n == 2) (codes "it has begun") (
    cond (n == 3) (codes "list and remaining declarations exceed 256") (codes "the list has a port twice")))
test_words Place.Begin n =
    cond (n == 1) (codes "it is not Inactive") (
    cond (n == 2) (codes "it is retired") (
    cond (n == 3) (codes "the generation is the largest") (
    cond (n == 4) (codes "there is no target") (codes "links and target exceed 512"))))
test_words Place.Finish n = cond (n == 1) (codes "it is not Loading") (codes "there is no target")
test_words Place.Leave n = codes "it is neither Loading nor Active"
test_words Place.LeaveIfChanged n = cond (n == 1) (codes "it is neither Loading nor Active") (codes "there is a target")
test_words Place.BeginCleanup n = cond (n == 1) (codes "it is not Unloading, or it is restoring") (codes "a live link has this provider")
test_words Place.FinishCleanup n = codes "it is not restoring"
test_words Place.Remove n = cond (n == 1) (codes "it is not retired, or not Inactive") (codes "a present component has it as parent")

-- a place's test, with its number and its words
abbrev pub test_text : Place → ℕ → List ℕ
test_text place n = codes "place: " ++ (place_name place ++ (codes ", test " ++ (decimal n ++ (codes ", " ++ test_words place n))))

-- a live link in the way
abbrev pub link_text : LinkAt → List ℕ
link_text link = codes "link " ++ (decimal link.place ++ (codes ", consumer " ++ (decimal link.consumer ++ (codes ", " ++
    (key_realm (port_of link.binding) ++ (codes ", provider " ++ decimal link.binding.provider))))))

-- what was compared with its limit
abbrev pub measured_text : Measured → List ℕ
measured_text m = what m.measure ++ decimal m.number
  where
    what : Measure → List ℕ
    what Measure.DependencyCount = codes "dependencies, count "
    what Measure.ProvisionCount = codes "provisions, count "
    what Measure.IdentityCount = codes "count "
    what Measure.DeclarationCount = codes "count "
    what Measure.DeclarationSum = codes "sum "
    what Measure.LinkSum = codes "sum "
    what Measure.Generation = codes "generation "

-- a listed port and who provides it
abbrev pub clash_text : Binding → List ℕ
clash_text b = key_realm (port_of b) ++ (codes " is provided by " ++ decimal b.provider)

-- two places of a list with one port
abbrev pub repeat_text : Repeat → List ℕ
repeat_text r = list_name r.list ++ (codes " " ++ (decimal r.earlier ++ (codes " and " ++ (decimal r.later ++ codes " are the same port"))))

-- what a test found
abbrev pub witness_text : Witness → List ℕ
witness_text Witness.Nothing = []
witness_text (Witness.Component id) = codes "component " ++ decimal id
witness_text (Witness.Dependency missing) = codes "dependency " ++ missing_text missing
witness_text (Witness.Link link) = link_text link
witness_text (Witness.Child id) = codes "child " ++ decimal id
witness_text (Witness.Clash b) = clash_text b
witness_text (Witness.Repeated r) = repeat_text r
witness_text (Witness.Number m) = measured_text m

-- behind the test what it found, if it names anything
abbrev pub found_text : List ℕ → Witness → List ℕ
found_text between Witness.Nothing = []
found_text between w = between ++ (codes "witness: " ++ witness_text w)

-- an explanation, its parts separated by these bytes
abbrev pub explained_text : Result (Unit {0}) Refusal → List ℕ → List ℕ
explained_text (Ok _) between = codes "accepted"
explained_text (Err r) between = refused_line r.error ++ (between ++ (test_text r.place r.test ++ found_text between r.witness))

-- a refusal by the log itself, as lines
abbrev pub log_refusal_text : LogRefusal → List ℕ
log_refusal_text LogRefusal.Unknown = codes "refused 11\nplace: log, test 1, no such command"
log_refusal_text LogRefusal.Cut = codes "refused 12\nplace: log, test 2, the operands are cut"
log_refusal_text (LogRefusal.Full n) = refused_line Error.Capacity ++ (codes "\nplace: log, test 3, the list is full\nwitness: count " ++ decimal n)
