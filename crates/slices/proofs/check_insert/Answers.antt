-- `slices::check_insert` meets its contract: the kernel's check, of the two slices' port lists.
use Rattle.slices.proofs.check_insert.Goals as goal

pub returns : goal.returns
returns c = rw (← c.port_list.ensures, ← c.port_list-2.ensures) c.check_insert.ensures
