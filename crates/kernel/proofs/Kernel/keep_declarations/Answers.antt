use Rattle.kernel.proofs.{Laws.Edits.retained_within}
use Rattle.kernel.proofs.Kernel.keep_declarations.Goals as goal

pub returns : goal.returns
returns g c p a =
    let k = c.args.self.now in
    let split = c.split_at_mut-used.ensures in
    let r = retained_within {out = c.retain-self.new.table} _ split.value split.front_len c.blank_declaration.ensures (c.retain-self.ensures p a) in
    λ i. record { nodes = k.nodes; node_count = k.node_count; declarations = r.entries i; declaration_count = r.counted i; links = k.links; link_count = k.link_count }
