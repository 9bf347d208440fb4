-- `text::words::place_of` meets its contract: each turn passes a byte, and the place goes on only past a space.
use Rattle.model.proofs.Logic.{List, ◌+◌, ◌<◌, ◌≡◌, add-one, arith, drop, drop-cons, eq-eqb, get_or, length, ne_eqb, ℕ}
use Rattle.text.proofs.words.place_of.Goals.{else-byte-eq32, then-byte-eq32+else-eq}
use Rattle.text.proofs.words.place_of.Goals as goal
use Rattle.text.specs.Words.{names_in}

module _ (row : List ℕ) (i : ℕ) (h : i < length row) where
  -- a space ends a name
  ended : get_or row i 0 ≡ 32 → names_in (drop i row) ≡ names_in (drop (i + 1) row) + 1
  unfolding names_in
  ended e = rw (drop-cons row i 0, eq-eqb (get_or row i 0) 32 e, add-one i) (omega arith)

  -- another byte does not
  going : (get_or row i 0 ≡ 32 → ⊥) → names_in (drop i row) ≡ names_in (drop (i + 1) row)
  unfolding names_in
  going n = rw (drop-cons row i 0, ne_eqb (get_or row i 0) 32 n, add-one i)

pub loop-i-init : goal.loop-i-init
loop-i-init c = record { within = omega arith; begun = omega arith; names = omega arith }

pub loop-i-preserved : goal.loop-i-preserved
loop-i-preserved c = elim c.if-byte-eq32.branch [
  | then-byte-eq32+else-eq w ↦
      let e = ended c.args.names.now c.loop-i.i c.loop-i-test.true w.if-byte-eq32.true in
      record { within = omega arith; begun = omega arith; names = omega arith }
  | else-byte-eq32 w ↦
      let e = going c.args.names.now c.loop-i.i c.loop-i-test.true w.if-byte-eq32.false in
      record { within = omega arith; begun = omega arith; names = omega arith }
]
