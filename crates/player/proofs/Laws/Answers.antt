-- What a run answers and the lines of it, in a buffer of any length.
use Rattle.model.proofs.Logic.{List, [], ◌++◌, ◌+◌, ◌<◌, ◌∙◌, ◌∷◌, ◌≡◌, ◌≤◌, add-one, ap, append_assoc, append-nil, arith, dec_lt, drop, get_or, length, length-map, length-take, refl, suc, sym, take, take_all, take-append_seam, take-suc, zero, ℕ}
use Rattle.std.proofs.Common.{min}
use lib.Seq.{drop-nil}
use Rattle.player.specs.{Played.State, Played.Turn, Played.answers_of, Played.turns, Players.Plays, Players.state_of, Printed.line, Printed.lines_from, declared.commands.Player.Player}
use Rattle.text.specs.{Written.Puts, Written.written}

-- the answers of the first turns are the first answers
answers-first : (n : ℕ) (ts : List Turn) → answers_of (take n ts) ≡ take n (answers_of ts)
answers-first zero ts = refl
answers-first (suc n) [] = refl
answers-first (suc n) (t ∷ ts) = ap (λ (xs : List ℕ). t.answer ∷ xs) (answers-first n ts)

-- what does not fit is left out
written-first : (xs out : List ℕ) → written (take (length out) xs) out ≡ written xs out
written-first xs [] = sym (drop-nil (length xs))
written-first [] (o ∷ out) = refl
written-first (x ∷ xs) (o ∷ out) = ap (λ (ys : List ℕ). x ∷ ys) (written-first xs out)

-- a player that played from a state
pub plays-puts :
    (s : State) (log out : List ℕ) (p : Player) {r : Player} {out' : List ℕ} → state_of p ≡ s → Plays p log out r out' → Puts (answers_of (turns s log)) out 0 out' r.answered
plays-puts s log out p e (q, w) =
    let ts = turns (state_of p) log in
    let same : answers_of ts ≡ answers_of (turns s log) = ap (λ (x : State). answers_of (turns x log)) e in
    let size = ap (λ (x : Player). x.answered) q ∙ length-take (length out) ts in (
      w ∙ ap (λ (xs : List ℕ). written xs out) (answers-first (length out) ts) ∙ written-first (answers_of ts) out ∙ ap (λ (xs : List ℕ). written xs out) same,
      omega (arith, size, length-map ts (λ (t : Turn). t.answer), ap length same),
    )

-- a part that stops at the end of the list
pub part_min : {r : ℕ} (n : ℕ) (xs : List ℕ) → r ≡ min n (length xs) → take r xs ≡ take n xs
part_min {r} n xs e = go (dec_lt n (length xs))
  where
    go : Dec (n < length xs) → take r xs ≡ take n xs
    go (yes l) = let same : r ≡ n = omega arith in ap (λ (k : ℕ). take k xs) same
    go (no l) = take_all r xs (omega arith) ∙ sym (take_all n xs (omega arith))

-- what was written whole stands at the front
pub written_back : (xs out : List ℕ) {out' : List ℕ} {n : ℕ} → length xs ≤ length out → Puts xs out 0 out' n → take n out' ≡ xs
written_back xs out {out'} {n} l (w, e) =
    let size : n ≡ length xs = omega arith in
    let whole : out' ≡ xs ++ drop (length xs) out = w ∙ ap (λ (ys : List ℕ). ys ++ drop (length xs) out) (take_all (length out) xs l) in
    ap (take n) whole ∙ ap (λ (k : ℕ). take k (xs ++ drop (length xs) out)) size ∙ take-append_seam xs (drop (length xs) out)

-- ---- lines

-- lines behind lines
pub lines-append : (k : ℕ) (xs ys : List ℕ) → lines_from k (xs ++ ys) ≡ lines_from k xs ++ lines_from (k + length xs) ys
unfolding lines_from
lines-append k [] ys = let e : k ≡ k + 0 = omega arith in ap (λ (n : ℕ). lines_from n ys) e
lines-append k (x ∷ xs) ys =
    let e : suc k + length xs ≡ k + suc (length xs) = omega arith in
    ap (λ (zs : List ℕ). line k x ++ zs) (lines-append (suc k) xs ys)
    ∙ sym (append_assoc (line k x) (lines_from (suc k) xs) (lines_from (suc k + length xs) ys))
    ∙ ap (λ (n : ℕ). (line k x ++ lines_from (suc k) xs) ++ lines_from n ys) e

-- one line more
line-alone : (k a : ℕ) → lines_from k (a ∷ []) ≡ line k a
unfolding lines_from
line-alone k a = append-nil (line k a)

pub lines_next : (xs : List ℕ) (i : ℕ) → i < length xs → lines_from 0 (take (i + 1) xs) ≡ lines_from 0 (take i xs) ++ line i (get_or xs i 0)
lines_next xs i l =
    let size : 0 + length (take i xs) ≡ i = omega (arith, length-take i xs) in
    ap (lines_from 0) (ap (λ (n : ℕ). take n xs) (add-one i) ∙ take-suc xs i 0 l)
    ∙ lines-append 0 (take i xs) (get_or xs i 0 ∷ [])
    ∙ ap (λ (n : ℕ). lines_from 0 (take i xs) ++ lines_from n (get_or xs i 0 ∷ [])) size
    ∙ ap (λ (ys : List ℕ). lines_from 0 (take i xs) ++ ys) (line-alone i (get_or xs i 0))
