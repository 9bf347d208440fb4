-- A drain, computed: 1 depends on 0 and 2 on 1, all Active, and 3 is restoring.
use Rattle.model.proofs.Logic.{List, [], ◌++◌, ◌∷◌, ◌≡◌, map, refl}
use Rattle.model.specs.{Commands.Command, Commands.settle, Commands.step, Drain.can_be_cleaned, Drain.cleaning_order, Drain.cleanups, Drain.drain, Drain.lowest, Drain.results, Drain.step_of, Insertion.parent_present, Insertion.parent_retired, Interface.distinct, Interface.taken, Lifecycle.relies, Lists.find, Lists.padded, Lists.places, Refusals.first, Resolution.bind_ports, Resolution.dependency_ports, Resolution.is_dependency_of, Resolution.joined, Resolution.look_up, Resolution.offers, Resolution.target, Samples.no_ports, Samples.only, Samples.port, Sizes.controller, Tables.node_at, declared.Parent.Parent, declared.Step.Step, declared.StepCommand.StepCommand}
use Rattle.model.proofs.{Theorems.Commands.run, Theorems.Commands.run_from}

abbrev pub chain : List Command
chain =
    Command.insert Parent.None no_ports (only (port 1 0))
    ∷ Command.insert Parent.None (only (port 1 0)) (only (port 2 0))
    ∷ Command.insert Parent.None (only (port 2 0)) no_ports
    ∷ Command.insert Parent.None no_ports no_ports
    ∷ Command.begin 0
    ∷ Command.finish 0
    ∷ Command.begin 1
    ∷ Command.finish 1
    ∷ Command.begin 2
    ∷ Command.finish 2
    ∷ Command.begin 3
    ∷ Command.leave 3
    ∷ Command.begin_cleanup 3
    ∷ []

-- three leaves, one finish_cleanup, and a cleanup of each that served: 3 + 1 + 2 * 3 steps
abbrev pub chain_drain : List Step
chain_drain = map (step_of StepCommand.Leave) (0 ∷ 1 ∷ 2 ∷ []) ++ (step_of StepCommand.FinishCleanup 3 ∷ cleanups (2 ∷ 1 ∷ 0 ∷ []))

pub drain-of-chain : drain (run controller chain) ≡ chain_drain
unfolding find places padded first node_at offers look_up is_dependency_of dependency_ports joined bind_ports target distinct taken parent_present parent_retired
    relies settle step run_from results can_be_cleaned lowest cleaning_order cleanups drain
drain-of-chain = refl
