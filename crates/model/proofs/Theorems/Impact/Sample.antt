-- Lists, computed: 1, 3 and 4 rely on 0, 2 and 4 on 1; 2 is Loading, 3 is retired, the others are Active.
use Rattle.model.proofs.Logic.{List, [], ◌∷◌, ◌≡◌, map, refl, ℕ}
use Rattle.model.specs.{Commands.Command, Commands.settle, Commands.step, Impact.Impact, Impact.affected, Impact.impact, Impact.is_hit, Impact.refused_impact, Impact.unless_refused, Insertion.parent_present, Insertion.parent_retired, Interface.distinct, Interface.port_list, Interface.taken, Lifecycle.relies, Lists.find, Lists.padded, Lists.places, Refusals.Reply, Refusals.first, Resolution.bind_ports, Resolution.dependency_ports, Resolution.is_dependency_of, Resolution.joined, Resolution.look_up, Resolution.offers, Resolution.target, Samples.no_ports, Samples.only, Samples.port, Sizes.controller, Tables.Tables, Tables.node_at, declared.Error.Error, declared.Parent.Parent}
use Rattle.model.proofs.{Theorems.Commands.run, Theorems.Commands.run_from}

abbrev pub reliances : List Command
reliances =
    Command.insert Parent.None no_ports (only (port 1 0))
    ∷ Command.insert Parent.None (only (port 1 0)) (only (port 2 0))
    ∷ Command.insert Parent.None (only (port 2 0)) no_ports
    ∷ Command.insert Parent.None (only (port 1 0)) no_ports
    ∷ Command.insert Parent.None (port_list (port 1 0 ∷ port 2 0 ∷ [])) no_ports
    ∷ Command.begin 0
    ∷ Command.finish 0
    ∷ Command.begin 1
    ∷ Command.finish 1
    ∷ Command.begin 2
    ∷ Command.begin 3
    ∷ Command.finish 3
    ∷ Command.retire 3
    ∷ Command.begin 4
    ∷ Command.finish 4
    ∷ []

unfoldable pub started : Tables
started = run controller reliances

abbrev hits : List ℕ → Impact
hits js = record { reply = Reply.done; hit = js }

-- 3 is retired and so has no target; 2 keeps its own when 0 leaves; 5 is unknown
pub impact-of-each : map (impact started) (0 ∷ 1 ∷ 2 ∷ 5 ∷ []) ≡ hits (1 ∷ 4 ∷ []) ∷ hits (2 ∷ 4 ∷ []) ∷ hits [] ∷ refused_impact Error.Unknown ∷ []
unfolding started find places padded first node_at offers look_up is_dependency_of dependency_ports joined bind_ports target distinct taken parent_present parent_retired
    relies settle step run_from is_hit affected unless_refused
impact-of-each = refl

-- once 1 has left, 4 has no target: 0 hits nobody, though 1, 3 and 4 have live links to it; and 1 cannot leave twice
pub impact-after-leave : map (impact (step controller started (Command.leave 1)).tables) (0 ∷ 1 ∷ []) ≡ hits [] ∷ refused_impact Error.InvalidState ∷ []
unfolding started find places padded first node_at offers look_up is_dependency_of dependency_ports joined bind_ports target distinct taken parent_present parent_retired
    relies settle step run_from is_hit affected unless_refused
impact-after-leave = refl
