use Rattle.edits.proofs.Stores.{beside_next}
use Rattle.edits.proofs.tables.LentTable.set.Goals as goal

pub returns-clause-stored : goal.returns-clause-stored
returns-clause-stored g c s is h = (h.0, beside_next is c.args.i s.records.now c.args.self.now.records.now c.args.x h.1)
