-- A list read for a port that comes again or passes a test: what is left of it answers as the whole does.
use Rattle.model.proofs.Logic.{Bool, List, ◌&&◌, ◌+◌, ◌-◌, ◌<◌, ◌≡◌, ◌≤◌, arith, drop, false, get_or, length, length-drop, not, take, take_all, true, ℕ}
use Rattle.model.specs.{Interface.distinct, Lists.any, Records.same_port, declared.Port.Port}
use Rattle.loops.proofs.{Laws.Scan.rest-done, Laws.Scan.rest-next}

-- no port twice, and none that passes the test
abbrev pub distinct_apart : (Port → Bool) → List Port → Bool
distinct_apart bad ps = distinct ps && not (any bad ps)

-- what stands behind place i
abbrev pub behind : List Port → ℕ → List Port
behind ps i = take (length ps - (i + 1)) (drop (i + 1) ps)

behind_is : (ps : List Port) (i : ℕ) → behind ps i ≡ drop (i + 1) ps
behind_is ps i = take_all (length ps - (i + 1)) (drop (i + 1) ps) (omega (arith, length-drop (i + 1) ps))

-- ---- a port that comes again

module _ (ps : List Port) (i : ℕ) (d : Port) (l : i < length ps) where
  pub distinct_next : any (same_port (get_or ps i d)) (behind ps i) ≡ false → distinct (drop (i + 1) ps) ≡ distinct (drop i ps)
  unfolding distinct
  distinct_next a = let f : any (same_port (get_or ps i d)) (drop (i + 1) ps) ≡ false = rw behind_is at a in rw (rest-next d i ps l, distinct, f)

  pub distinct_twice : any (same_port (get_or ps i d)) (behind ps i) ≡ true → distinct (drop i ps) ≡ false
  unfolding distinct
  distinct_twice a = let f : any (same_port (get_or ps i d)) (drop (i + 1) ps) ≡ true = rw behind_is at a in rw (rest-next d i ps l, distinct, f)

pub distinct_end : (ps : List Port) (i : ℕ) → length ps ≤ i → distinct (drop i ps) ≡ true
unfolding distinct
distinct_end ps i l = rw (rest-done i ps l, distinct)

-- ---- or one that passes the test

module _ (bad : Port → Bool) (ps : List Port) (i : ℕ) (d : Port) (l : i < length ps) where
  abbrev port : Port
  port = get_or ps i d

  pub apart_next : any (same_port port) (behind ps i) ≡ false → bad port ≡ false → distinct_apart bad (drop (i + 1) ps) ≡ distinct_apart bad (drop i ps)
  unfolding distinct
  apart_next a b = let f : any (same_port port) (drop (i + 1) ps) ≡ false = rw behind_is at a in rw (rest-next d i ps l, distinct, f, b)

  pub apart_twice : any (same_port port) (behind ps i) ≡ true → distinct_apart bad (drop i ps) ≡ false
  unfolding distinct
  apart_twice a = let f : any (same_port port) (drop (i + 1) ps) ≡ true = rw behind_is at a in rw (rest-next d i ps l, distinct, f)

pub apart_end : (bad : Port → Bool) (ps : List Port) (i : ℕ) → length ps ≤ i → distinct_apart bad (drop i ps) ≡ true
unfolding distinct
apart_end bad ps i l = rw (rest-done i ps l, distinct)
