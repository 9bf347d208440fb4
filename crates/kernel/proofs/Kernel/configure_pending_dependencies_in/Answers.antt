use Rattle.model.proofs.Logic.{arith, rules, ◌≡◌}
use Rattle.kernel.specs.{Ports.declarations_kept}
use Rattle.kernel.proofs.{Laws.Arrays.sound_kernel, Laws.Interface.configured_leaves, Laws.Interface.rest_blank, Laws.Interface.rest_room}
use Rattle.model.specs.{Commands.settle, Commands.step, Interface.remains, Kernels.asked, Kernels.commanded}
use Rattle.kernel.proofs.Kernel.configure_pending_dependencies_in.Goals as goal

pub append_ports-self-requires-clause-room : goal.append_ports-self-requires-clause-room
unfolding asked
append_ports-self-requires-clause-room c =
    let e : c.keep_declarations.new.self ≡ declarations_kept (remains c.args.id) c.args.self.now = c.keep_declarations.ensures (remains c.args.id) (search rules) in
    grind (arith, sound_kernel, rest_room)

pub append_ports-self-requires-clause-blank : goal.append_ports-self-requires-clause-blank
unfolding asked
append_ports-self-requires-clause-blank c =
    let e : c.keep_declarations.new.self ≡ declarations_kept (remains c.args.id) c.args.self.now = c.keep_declarations.ensures (remains c.args.id) (search rules) in
    grind (arith, sound_kernel, rest_blank)

pub returns-clause-does : goal.returns-clause-does
unfolding asked commanded step settle
returns-clause-does c =
    let e : c.keep_declarations.new.self ≡ declarations_kept (remains c.args.id) c.args.self.now = c.keep_declarations.ensures (remains c.args.id) (search rules) in
    grind (arith, sound_kernel, configured_leaves)
