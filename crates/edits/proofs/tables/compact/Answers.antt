use Rattle.std.proofs.Common.{refl, ◌∙◌, ap, append-nil, arith, sym, false, true, Bool, List, ◌≡◌, ◌+◌, ◌-◌, ◌<◌, ◌≤◌, get_or, length, length-set}
use Rattle.std.proofs.Math.ListN.{set}
use Rattle.std.proofs.lemmas.List.{get_or_default}
use Rattle.loops.proofs.Laws.Compacting.{Compacting, Writes, WritesNone, blanking_next, blanking_start, blanks_next, compacting-done, compacting_drops, compacting_moves, compacting_stays, compacting_start, drop-writes, stay_writes, store_writes, writes-done}
use Rattle.loops.specs.InPlace.{interval, scanned}
use Rattle.edits.specs.Kept.{Answers}
use Rattle.edits.proofs.tables.compact.Given.{F-post, Over}
use Rattle.edits.proofs.tables.compact.Goals.{Joined-keeps, then-keeps, then-n-i, else-n-i, else-keeps}
use Rattle.edits.proofs.tables.compact.Goals as goal

pub loop-i-init : goal.loop-i-init
unfolding scanned
loop-i-init g c = record {
  size = c.len-len.ensures;
  keeps_size = sym c.len-len.ensures;
  read = omega arith;
  scans = λ p a. compacting_start;
  stores = λ p a. g.met.A.Table.stores_none c.args.table.now;
}

-- a turn: the closure answered the test of the record read
module _ (g : Over) (c : Joined-keeps g) (p : g.row.T.Denot → Bool) (a : Answers (F-post g c.args.keeps) p) where
  abbrev xs : List g.row.T.Denot
  xs = g.A.Table.records c.args.table.now

  abbrev now : List g.row.T.Denot
  now = g.A.Table.records c.loop-i.table

  same : c.get-x.result ≡ get_or now c.loop-i.i c.args.blank
  same = c.get-x.ensures ∙ get_or_default now c.loop-i.i c.get-x.result c.args.blank (omega (arith, c.loop-i.invariant.keeps_size))

  passes : p (get_or now c.loop-i.i c.args.blank) ≡ c.keeps.result
  passes = sym (a c.get-x.result c.keeps.result c.keeps.ensures ∙ ap p same)

  scans-on : Compacting p c.args.blank xs (length xs) (c.loop-i.i + 1) (g.A.Table.records c.if-keeps.table) c.if-keeps.n
  scans-on =
      let h = c.loop-i.invariant.scans p a in
      let l : c.loop-i.i < length xs = omega (arith, c.loop-i.invariant.size) in
      elim c.if-keeps.branch [
        | then-keeps w ↦ elim w.if-n-i.branch [
          | then-n-i v ↦ compacting_moves h l (passes ∙ w.if-keeps.true) v.if-n-i.true (ap g.A.Table.records (w.table-is ∙ v.table-is) ∙ v.set.ensures.after ∙ ap (set now c.loop-i.n) same) w.n-is
          | else-n-i v ↦ compacting_stays h l (passes ∙ w.if-keeps.true) v.if-n-i.false (ap g.A.Table.records (w.table-is ∙ v.table-is)) w.n-is
        ]
        | else-keeps w ↦ compacting_drops h l (passes ∙ w.if-keeps.false) (ap g.A.Table.records w.table-is) w.n-is
      ]

  -- where the code stores, the list of places written grows by n; on the two other ways through a turn it stays
  at_store : c.keeps.result ≡ true → c.loop-i.n < c.loop-i.i → Writes p c.args.blank (g.A.Table.records c.args.table.now) c.loop-i.i c.loop-i.n
  at_store t l = store_writes (c.loop-i.invariant.scans p a) (passes ∙ t) l

  past-store : c.keeps.result ≡ true → c.loop-i.i ≤ c.loop-i.n → WritesNone p c.args.blank (g.A.Table.records c.args.table.now) c.loop-i.i
  past-store t l = stay_writes (c.loop-i.invariant.scans p a) (passes ∙ t) l

  past-dropped : c.keeps.result ≡ false → WritesNone p c.args.blank (g.A.Table.records c.args.table.now) c.loop-i.i
  past-dropped t = drop-writes (c.loop-i.invariant.scans p a) (passes ∙ t)

  stores-on : g.A.Table.stores c.args.table.now (scanned p c.args.blank xs (c.loop-i.i + 1)).written c.if-keeps.table
  stores-on =
      let s = c.loop-i.invariant.stores p a in
      elim c.if-keeps.branch [
        | then-keeps w ↦ elim w.if-n-i.branch [
          | then-n-i v ↦ rw (at_store w.if-keeps.true v.if-n-i.true, w.table-is ∙ v.table-is) (v.set.ensures.stored _ _ s)
          | else-n-i v ↦ rw (past-store w.if-keeps.true v.if-n-i.false, w.table-is ∙ v.table-is) s
        ]
        | else-keeps w ↦ rw (past-dropped w.if-keeps.false, w.table-is) s
      ]

pub loop-i-preserved : goal.loop-i-preserved
loop-i-preserved g c = record {
  size = c.loop-i.invariant.size;
  keeps_size =
      let h = c.loop-i.invariant.keeps_size in
      elim c.if-keeps.branch [
        | then-keeps w ↦ elim w.if-n-i.branch [
          | then-n-i v ↦ ap (λ t. length (g.A.Table.records t)) (w.table-is ∙ v.table-is) ∙ ap length v.set.ensures.after ∙ simp length-set h
          | else-n-i v ↦ ap (λ t. length (g.A.Table.records t)) (w.table-is ∙ v.table-is) ∙ h
        ]
        | else-keeps w ↦ ap (λ t. length (g.A.Table.records t)) w.table-is ∙ h
      ];
  read = elim c.if-keeps.branch [ then-keeps w ↦ omega arith | else-keeps w ↦ omega arith ];
  scans = scans-on g c;
  stores = stores-on g c;
}

pub loop-j-init : goal.loop-j-init
unfolding interval
loop-j-init g c =
    let e : c.loop-i.i ≡ length (g.A.Table.records c.args.table.now) = omega (arith, c.loop-i.invariant.size) in
    let z : c.loop-i.n - c.loop-i.n ≡ 0 = omega arith in
    record {
      keeps_size = c.loop-i.invariant.keeps_size;
      blanks = blanking_start (omega (arith, c.loop-i.invariant.size));
      stores = λ p a. rw (z, append-nil) (rw e at (c.loop-i.invariant.stores p a));
    }

pub loop-j-preserved : goal.loop-j-preserved
loop-j-preserved g c =
    let h = c.loop-j.invariant in
    record {
      keeps_size = ap length c.set-in-loop-j.ensures.after ∙ simp length-set h.keeps_size;
      blanks = rw c.set-in-loop-j.ensures.after (blanking_next h.blanks (omega (arith, c.loop-i.invariant.size)) refl);
      stores = λ p a. rw (blanks_next (scanned p c.args.blank (g.A.Table.records c.args.table.now) (length (g.A.Table.records c.args.table.now))).written c.loop-i.n c.loop-j.j h.blanks.first) (c.set-in-loop-j.ensures.stored _ _ (h.stores p a));
    }

pub returns-clause-kept : goal.returns-clause-kept
returns-clause-kept g c = λ p a.
    let done = compacting-done (c.loop-i.invariant.scans p a) (omega (arith, c.loop-i.invariant.size)) c.loop-j.invariant.blanks (omega (arith, c.loop-i.invariant.size)) in
    record { entries = done.0; counted = done.1 }

pub returns-clause-writes : goal.returns-clause-writes
returns-clause-writes g c = λ p a.
    let xs = g.A.Table.records c.args.table.now in
    let e : c.loop-j.j ≡ length xs = omega (arith, c.loop-i.invariant.size, c.loop-j.invariant.blanks.last) in
    let f : c.loop-i.i ≡ length xs = omega (arith, c.loop-i.invariant.size) in
    let n : c.loop-i.n ≡ (scanned p c.args.blank xs (length xs)).kept = rw f at (c.loop-i.invariant.scans p a).counted in
    rw (← writes-done p c.args.blank xs c.loop-i.n n) (rw e at (c.loop-j.invariant.stores p a))
