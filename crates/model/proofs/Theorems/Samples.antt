-- C01 to C12, the episodes of a provider, the order of the tests and explanations, computed.
use Rattle.model.proofs.Logic.{refl}
use Rattle.model.specs.{Commands.settle, Commands.step, Explanation.clash_from, Explanation.explain, Explanation.explained, Insertion.parent_present, Insertion.parent_retired, Interface.distinct, Interface.relies_on, Interface.taken, Kernels.asked, Kernels.commanded, Kernels.kernel_from, Layouts.lay_out, Layouts.sound_kernel, Layouts.tables_of, Lifecycle.check_iteration, Lifecycle.relies, Lists.all_at, Lists.find, Lists.find_at, Lists.onward, Lists.padded, Lists.places, Refusals.first, Resolution.bind_ports, Resolution.committed, Resolution.dependency_ports, Resolution.is_dependency_of, Resolution.is_live_link_of, Resolution.joined, Resolution.look_up, Resolution.offers, Resolution.target, Samples.EpisodesHold, Samples.ExplanationsHold, Samples.OrdersHold, Samples.SamplesHold, Samples.after, Samples.play, Samples.shown, Soundness.absent_ok, Soundness.apart, Soundness.coverage, Soundness.dead_ok, Soundness.episode_ok, Soundness.every_point, Soundness.has_owner, Soundness.is_covered, Soundness.is_declaration, Soundness.link_ok, Soundness.links_to, Soundness.node_ok, Soundness.parent_ok, Soundness.safety_wf, Soundness.same_owner, Soundness.stored_wf, Soundness.wf, Tables.node_at}

pub samples-hold : SamplesHold
unfolding find all_at places onward padded first node_at has_owner same_owner parent_ok node_ok is_declaration link_ok apart links_to is_covered
    dead_ok absent_ok episode_ok safety_wf coverage wf stored_wf every_point offers look_up is_dependency_of dependency_ports joined bind_ports target
    is_live_link_of committed distinct taken relies_on parent_present parent_retired check_iteration relies settle step tables_of lay_out sound_kernel asked
    commanded shown after play
samples-hold = refl

pub episodes-hold : EpisodesHold
unfolding find all_at places onward padded first node_at has_owner same_owner parent_ok node_ok is_declaration link_ok apart links_to is_covered
    dead_ok absent_ok episode_ok safety_wf coverage wf stored_wf every_point offers look_up is_dependency_of dependency_ports joined bind_ports target
    is_live_link_of committed distinct taken relies_on parent_present parent_retired check_iteration relies settle step tables_of lay_out sound_kernel asked
    commanded shown after play
episodes-hold = refl

pub orders-hold : OrdersHold
unfolding find all_at places onward padded first node_at has_owner same_owner parent_ok node_ok is_declaration link_ok apart links_to is_covered
    dead_ok absent_ok episode_ok safety_wf coverage wf stored_wf every_point offers look_up is_dependency_of dependency_ports joined bind_ports target
    is_live_link_of committed distinct taken relies_on parent_present parent_retired check_iteration relies settle step tables_of lay_out sound_kernel asked
    commanded shown after play
orders-hold = refl

pub explanations-hold : ExplanationsHold
unfolding find find_at all_at places onward padded first node_at has_owner same_owner parent_ok node_ok is_declaration link_ok apart links_to is_covered
    dead_ok absent_ok episode_ok safety_wf coverage wf stored_wf every_point offers look_up is_dependency_of dependency_ports joined bind_ports target
    is_live_link_of committed distinct taken relies_on parent_present parent_retired relies settle step tables_of lay_out sound_kernel asked commanded kernel_from
    clash_from explain explained
explanations-hold = refl
