use Rattle.model.proofs.Logic.{arith, refl, sym}
use Rattle.loops.proofs.Laws.Chains.{chain_next, chain_start}
use Rattle.soundness.proofs.chains.Chains.of.Goals as goal

pub loop-i-init : goal.loop-i-init
loop-i-init c = rw (c.empty-by_port.ensures, c.empty-by_owner.ensures) record { ports = chain_start refl c.requires; owners = chain_start refl c.requires }

pub loop-i-preserved : goal.loop-i-preserved
loop-i-preserved c =
    let h = c.loop-i.invariant in
    let p = rw c.declared_port-key.ensures at c.bucket_of.ensures in
    let o = rw (c.owner_in.ensures, c.declared_port-key.ensures) at c.bucket_of-in-loop-i.ensures in
    record {
      ports = rw c.push.ensures (chain_next h.ports (omega arith) (sym p.0) p.1);
      owners = rw c.push-in-loop-i.ensures (chain_next h.owners (omega arith) (sym o.0) o.1);
    }
