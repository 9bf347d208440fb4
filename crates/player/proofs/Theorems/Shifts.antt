-- Of every log: which numbers its items answer, what kernel its commands leave, what it answers if it is cut, how long its lines are.
use Rattle.model.proofs.Logic.{Bool, List, [], ◌*◌, ◌++◌, ◌+◌, ◌∙◌, ◌∷◌, ◌≡◌, ◌≤◌, ◌⊎◌, ap, arith, cond, drop, false, inl, inr, le-ltb, length, length-append, length-map, length-take, ltb, ltb-false, refl, suc, sym, take, take-append-drop, true, zero, ℕ, ⊎_elim}
use Rattle.std.proofs.Common.{take-take}
use lib.Seq.{take-nil}
use Rattle.kernel.specs.{Fields.kernel_of, Fields.layout_of, declared.Kernel.Kernel}
use Rattle.kernel.proofs.{Theorems.Reached.demand-1, Theorems.Reached.demand-3, Theorems.Reached.reached-kernels-sound}
use Rattle.model.specs.{Commands.Command, Kernels.commanded, Kernels.kernel_from, Refusals.reply_number, declared.PortList.PortList}
use Rattle.player.specs.{Log.log_limit, Log.operand_length, Played.Item, Played.State, Played.Turn, Played.addition, Played.answers_of, Played.decoded, Played.fresh, Played.is_full, Played.is_last, Played.is_unknown, Played.item, Played.played, Played.state_after, Played.taken, Played.turn, Played.turns, Played.turns_from, Printed.lines_from, Shifts.CutAnywhere, Shifts.EveryLine, Shifts.EveryShift, Shifts.NumbersApart, Shifts.PlayLeaves, Shifts.line_limit, declared.commands.Player.Player}
use Rattle.player.proofs.{Laws.Answers.lines-append, Laws.Shifts.length-line, Laws.Shifts.line-ends, Laws.Shifts.take-swap}
use Rattle.sizes.specs.{Sizes.sizes}

-- ---- the numbers

-- a port's: 0, or 9 from a full list
added : (l : PortList) → addition l ≤ 10
unfolding addition
added l = go (is_full l)
  where
    go : (b : Bool) → cond b 9 0 ≤ 10
    go true = omega arith
    go false = omega arith

-- a command's: 0, or one of the ten
answered : (k : Kernel) (c : Command) → reply_number (commanded sizes (layout_of k) c).reply ≤ 10
answered k c = ⊎_elim (λ e. omega arith) (λ e. e.1) (demand-1 k c)

pub numbers_apart : NumbersApart
unfolding taken
numbers_apart s n (Item.dependency p) = inl (refl, added s.dependencies)
numbers_apart s n (Item.provision p) = inl (refl, added s.provisions)
numbers_apart s n (Item.plain c) = inl (refl, answered s.kernel c)
numbers_apart s n (Item.listing c) = inl (refl, answered s.kernel c)
numbers_apart s n Item.unknown = inr (inl (refl, refl))
numbers_apart s n Item.cut = inr (inr (refl, refl))

-- ---- the kernel

-- the kernel behind these turns is what their commands make of the one before
abbrev Along : State → List Turn → Type 0
Along s ts = (state_after s ts).kernel ≡ kernel_of (kernel_from sizes (layout_of s.kernel) (decoded ts))

-- a turn, and those behind it
abbrev behind : Turn → ℕ → List ℕ → List Turn
behind t n bytes = t ∷ cond (is_last t.item) [] (turns_from t.after n bytes)

-- one turn: behind four items the run goes on, from any state alike
turn_along : (s : State) (m n k : ℕ) (i : Item) (bytes : List ℕ) → ((r : State) → Along r (take n (turns_from r k bytes))) → Along s (take (suc n) (behind (taken s m i) k bytes))
unfolding taken state_after decoded kernel_from
turn_along s m n k (Item.dependency p) bytes f = f _
turn_along s m n k (Item.provision p) bytes f = f _
turn_along s m n k (Item.plain c) bytes f = f _
turn_along s m n k (Item.listing c) bytes f = f _
turn_along s m n k Item.unknown bytes f = rw (take-nil n)
turn_along s m n k Item.cut bytes f = rw (take-nil n)

turns_along : (s : State) (n k : ℕ) (bytes : List ℕ) → Along s (take n (turns_from s k bytes))
unfolding turns_from state_after decoded kernel_from
turns_along s zero k bytes = refl
turns_along s (suc n) k [] = refl
turns_along s (suc n) zero (byte ∷ bytes) = turn_along s _ n (operand_length byte) (item s byte bytes) bytes (λ r. turns_along r n (operand_length byte) bytes)
turns_along s (suc n) (suc k) (byte ∷ bytes) = turns_along s (suc n) k bytes

pub every_shift : EveryShift
every_shift log n =
    let cs = decoded (take n (turns fresh log)) in
    let e = turns_along fresh n 0 log in
    record { reached = e; sound = rw e (reached-kernels-sound cs).0; rule = λ id. rw e (demand-3 cs id) }

pub play-leaves : PlayLeaves
unfolding state_after
play-leaves log answers r answers' (e, w) = ap (λ (p : Player). p.kernel) e ∙ (every_shift log (length answers)).reached

-- ---- a cut

-- the first answers of the whole, and at most one 12
abbrev Shorter : List ℕ → List ℕ → Type 0
Shorter whole cut = (same : ℕ) × (more : List ℕ) × (cut ≡ take same whole ++ more) × ((more ≡ []) ⊎ (more ≡ 12 ∷ []))

-- an item of a log that is cut behind its byte: the same, or its operands are cut
abbrev SameOrCut : State → ℕ → ℕ → List ℕ → Type 0
SameOrCut s byte n rest = (item s byte (take n rest) ≡ item s byte rest) ⊎ (item s byte (take n rest) ≡ Item.cut)

item-cut : (s : State) (byte n : ℕ) (rest : List ℕ) → SameOrCut s byte n rest
unfolding item
item-cut s byte n rest = go (is_unknown byte) (ltb (length (take n rest)) (operand_length byte)) refl refl
  where
    go : (b c : Bool) → is_unknown byte ≡ b → ltb (length (take n rest)) (operand_length byte) ≡ c → SameOrCut s byte n rest
    go true c u h = inl (rw u)
    go false true u h = inr (rw (u, h))
    go false false u h =
        let l = ltb-false (length (take n rest)) (operand_length byte) h in
        let m = length-take n rest in
        inl (rw (u, h, le-ltb (length rest) (operand_length byte) (omega arith), take-take (operand_length byte) n rest (omega arith)))

-- a turn of both runs, and what is cut behind it
turn-cut : (t : Turn) (k n : ℕ) (bytes : List ℕ) → Shorter (answers_of (turns_from t.after k bytes)) (answers_of (turns_from t.after k (take n bytes)))
    → Shorter (answers_of (behind t k bytes)) (answers_of (behind t k (take n bytes)))
turn-cut t k n bytes (same, more, e, twelve) = go (is_last t.item)
  where
    go : (b : Bool) → Shorter (answers_of (t ∷ cond b [] (turns_from t.after k bytes))) (answers_of (t ∷ cond b [] (turns_from t.after k (take n bytes))))
    go true = (1, [], refl, inl refl)
    go false = (suc same, more, ap (λ (ns : List ℕ). t.answer ∷ ns) e, twelve)

turns-cut : (s : State) (k n : ℕ) (bytes : List ℕ) → Shorter (answers_of (turns_from s k bytes)) (answers_of (turns_from s k (take n bytes)))
unfolding turns_from taken
turns-cut s k zero bytes = (0, [], refl, inl refl)
turns-cut s k (suc n) [] = (0, [], refl, inl refl)
turns-cut s (suc k) (suc n) (byte ∷ bytes) = turns-cut s k n bytes
turns-cut s zero (suc n) (byte ∷ bytes) = go (item-cut s byte n bytes) (λ r. turns-cut r (operand_length byte) n bytes)
  where
    go : SameOrCut s byte n bytes
        → ((r : State) → Shorter (answers_of (turns_from r (operand_length byte) bytes)) (answers_of (turns_from r (operand_length byte) (take n bytes))))
        → Shorter (answers_of (turns_from s 0 (byte ∷ bytes))) (answers_of (turns_from s 0 (byte ∷ take n bytes)))
    go (inl e) f = rw e (turn-cut (turn s byte bytes) (operand_length byte) n bytes (f _))
    go (inr e) f = rw e (0, 12 ∷ [], refl, inr refl)

behind-first : (xs ys : List ℕ) → lines_from 0 (xs ++ ys) ≡ lines_from 0 xs ++ lines_from (length xs) ys
behind-first xs ys = let e : 0 + length xs ≡ length xs = omega arith in lines-append 0 xs ys ∙ ap (λ (n : ℕ). lines_from 0 xs ++ lines_from n ys) e

pub cut-anywhere : CutAnywhere
cut-anywhere log n =
    let (same, more, e, twelve) = turns-cut fresh 0 n (take log_limit log) in
    let first = take same (played log) in
    let rest = drop same (played log) in
    let whole : played log ≡ first ++ rest = sym (take-append-drop same (played log)) in
    let answers : played (take n log) ≡ first ++ more = rw (take-swap log_limit n log) e in
    record {
      first = first;
      rest = rest;
      more = more;
      whole = whole;
      answers = answers;
      twelve = twelve;
      whole-lines = ap (lines_from 0) whole ∙ behind-first first rest;
      lines = ap (lines_from 0) answers ∙ behind-first first more;
    }

-- ---- the lines

most-twelve : (s : State) (n : ℕ) (i : Item) → (taken s n i).answer ≤ 12
most-twelve s n i = ⊎_elim (λ h. omega arith) (⊎_elim (λ h. omega arith) (λ h. omega arith)) (numbers_apart s n i)

-- at most a turn for each byte, and a line's bytes, while the count has five digits
abbrev Within : ℕ → List Turn → List ℕ → Type 0
Within count ts bytes = (length ts ≤ length bytes) × (count + length bytes ≤ log_limit → length (lines_from count (answers_of ts)) ≤ line_limit * length bytes)

turn-within : (t : Turn) (count k byte : ℕ) (bytes : List ℕ) → t.answer ≤ 12 → Within (suc count) (turns_from t.after k bytes) bytes → Within count (behind t k bytes) (byte ∷ bytes)
unfolding lines_from
turn-within t count k byte bytes a (l, f) = go (is_last t.item)
  where
    go : (b : Bool) → Within count (t ∷ cond b [] (turns_from t.after k bytes)) (byte ∷ bytes)
    go true = (omega arith, λ h. rw length-append (omega (arith, length-line count t.answer (omega arith) a)))
    go false = (omega arith, λ h. rw length-append (omega (arith, length-line count t.answer (omega arith) a, f (omega arith))))

turns-within : (s : State) (k count : ℕ) (bytes : List ℕ) → Within count (turns_from s k bytes) bytes
unfolding turns_from lines_from
turns-within s k count [] = (omega arith, λ h. omega arith)
turns-within s (suc k) count (byte ∷ bytes) = let (l, f) = turns-within s k count bytes in (omega arith, λ h. omega (arith, f (omega arith)))
turns-within s zero count (byte ∷ bytes) = turn-within (turn s byte bytes) count (operand_length byte) byte bytes (most-twelve s _ (item s byte bytes)) (turns-within (turn s byte bytes).after (operand_length byte) (suc count) bytes)

pub every_line : EveryLine
every_line log =
    let (l, f) = turns-within fresh 0 0 (take log_limit log) in
    let cut = length-take log_limit log in
    record { each = line-ends 0 (played log); bytes = rw length-map (omega arith); most = rw length-map (omega arith); long = omega (arith, f (omega arith)) }
