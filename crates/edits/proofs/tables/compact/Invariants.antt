-- At each point of the scan, for any test that the closure answers, the table is the scanned one and was made by stores at the places that the scan has
-- written so far, so that the laws of `InPlace` hold of it and of the stores; then the freed places are blanked.
use Rattle.std.proofs.Common.{◌≡◌, ◌≤◌, ◌++◌, ◌-◌, Bool, length}
use Rattle.loops.proofs.Laws.Compacting.{Blanking, Compacting}
use Rattle.loops.specs.InPlace.{interval, scanned}
use Rattle.edits.specs.Kept.{Answers}
use Rattle.edits.proofs.tables.compact.Given as goal

abbrev pub invariant-loop-i : goal.invariant-loop-i
invariant-loop-i g l = record {
  size : l.len ≡ length (g.A.Table.records l.fn.table);
  keeps_size : length (g.A.Table.records l.table) ≡ l.len;
  read : l.n ≤ l.i;
  scans : (p : g.row.T.Denot → Bool) → Answers (goal.F-post g l.keeps) p →
      Compacting p l.blank (g.A.Table.records l.fn.table) (length (g.A.Table.records l.fn.table)) l.i (g.A.Table.records l.table) l.n;
  stores : (p : g.row.T.Denot → Bool) → Answers (goal.F-post g l.keeps) p →
      g.A.Table.stores l.fn.table (scanned p l.blank (g.A.Table.records l.fn.table) l.i).written l.table;
}

abbrev pub invariant-loop-j : goal.invariant-loop-j
invariant-loop-j g l = record {
  keeps_size : length (g.A.Table.records l.table) ≡ l.len;
  blanks : Blanking l.blank (g.A.Table.records l.initial.table) (length (g.A.Table.records l.fn.table)) l.n l.j (g.A.Table.records l.table);
  stores : (p : g.row.T.Denot → Bool) → Answers (goal.F-post g l.keeps) p →
      g.A.Table.stores l.fn.table ((scanned p l.blank (g.A.Table.records l.fn.table) (length (g.A.Table.records l.fn.table))).written ++ interval l.n (l.j - l.n)) l.table;
}
