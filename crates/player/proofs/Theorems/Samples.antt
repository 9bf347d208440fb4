-- The samples, computed.
use Rattle.model.proofs.Logic.{refl}
use Rattle.model.specs.{Commands.settle, Commands.step, Insertion.parent_present, Insertion.parent_retired, Interface.distinct, Interface.relies_on, Interface.taken, Kernels.asked, Kernels.commanded, Layouts.lay_out, Layouts.sound_kernel, Layouts.tables_of, Lifecycle.relies, Lists.all_at, Lists.onward, Lists.padded, Refusals.first, Resolution.bind_ports, Resolution.dependency_ports, Resolution.is_dependency_of, Resolution.joined, Resolution.look_up, Resolution.offers, Resolution.target, Soundness.absent_ok, Soundness.apart, Soundness.coverage, Soundness.dead_ok, Soundness.episode_ok, Soundness.every_point, Soundness.has_owner, Soundness.is_covered, Soundness.is_declaration, Soundness.link_ok, Soundness.links_to, Soundness.node_ok, Soundness.parent_ok, Soundness.safety_wf, Soundness.same_owner, Soundness.stored_wf, Soundness.wf, Tables.node_at}
use Rattle.player.specs.{Log.number_at, Log.operand_length, Played.addition, Played.item, Played.turns_from, Played.with_port, Printed.lines_from, Samples.SamplesHold, Samples.log, Samples.ports}
use Rattle.player.specs.Played as played
use Rattle.text.specs.{Written.digits_of}

pub samples-hold : SamplesHold
unfolding all_at onward padded first node_at has_owner same_owner parent_ok node_ok is_declaration link_ok apart links_to is_covered dead_ok
    absent_ok episode_ok safety_wf coverage wf stored_wf every_point offers look_up is_dependency_of dependency_ports joined bind_ports target distinct taken
    relies_on parent_present parent_retired relies settle step tables_of lay_out sound_kernel asked commanded number_at operand_length item with_port addition
    played.taken turns_from lines_from digits_of log ports
samples-hold = record {
  request = refl;
  tens = refl;
  little = refl;
  details = refl;
  lists = refl;
  parents = refl;
  lifecycle = refl;
  changes = refl;
  provisions = refl;
  configured = refl;
  below = refl;
  above = refl;
  alone = refl;
  cut = refl;
  cut-port = refl;
  full = refl;
}
