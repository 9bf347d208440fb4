-- The answers of a run written one behind the other: what holds at the head of the player's loop.
use Rattle.model.proofs.Logic.{List, [], ◌++◌, ◌+◌, ◌-◌, ◌<◌, ◌∙◌, ◌∷◌, ◌≡◌, ◌≤◌, add-one, ap, append-nil, append_snoc, arith, drop, drop-cons, get_or, length, length-append, length-map, map-append, refl, set, set-append_seam, suc, sym, take, take_all, true, ℕ}
use lib.Seq.{take-nil}
use Rattle.kernel.specs.{declared.Kernel.Kernel}
use Rattle.model.specs.{declared.PortList.PortList}
use Rattle.player.specs.{Log.operand_length, Played.Item, Played.State, Played.Turn, Played.answers_of, Played.is_last, Played.state_after, Played.turns, Players.last_detail, Players.player_after, declared.commands.Player.Player}
use Rattle.player.proofs.{Laws.Runs.here, Laws.Runs.turns-last, Laws.Runs.turns-on, Laws.Turns.Steps}
use Rattle.text.specs.{Written.written}

-- ---- one turn more

after-snoc : (s : State) (ts : List Turn) (t : Turn) → state_after s (ts ++ (t ∷ [])) ≡ t.after
unfolding state_after
after-snoc s [] t = refl
after-snoc s (u ∷ us) t = after-snoc u.after us t

detail-snoc : (ts : List Turn) (t : Turn) → last_detail (ts ++ (t ∷ [])) ≡ t.detail
unfolding last_detail
detail-snoc [] t = refl
detail-snoc (u ∷ []) t = refl
detail-snoc (u ∷ v ∷ vs) t = detail-snoc (v ∷ vs) t

length-snoc : {A : Type 0} (xs : List A) (x : A) → length (xs ++ (x ∷ [])) ≡ length xs + 1
length-snoc xs x = length-append xs (x ∷ [])

-- a byte behind those written
pub written_next : (xs out : List ℕ) (a : ℕ) → length xs < length out → set (written xs out) (length xs) a ≡ written (xs ++ (a ∷ [])) out
written_next xs out a l =
    let n = length xs in
    let more = xs ++ (a ∷ []) in
    let size : length more ≡ n + 1 = length-snoc xs a in
    let before : written xs out ≡ xs ++ get_or out n 0 ∷ drop (suc n) out =
    ap (λ (ys : List ℕ). ys ++ drop n out) (take_all (length out) xs (omega arith)) ∙ ap (λ (ys : List ℕ). xs ++ ys) (drop-cons out n 0 l) in
    let after : written more out ≡ xs ++ a ∷ drop (suc n) out =
    ap (λ (ys : List ℕ). ys ++ drop (length more) out) (take_all (length out) more (omega (arith, size)))
    ∙ ap (λ (m : ℕ). more ++ drop m out) (size ∙ add-one n) ∙ append_snoc xs a (drop (suc n) out) in
    ap (λ (ys : List ℕ). set ys n a) before ∙ set-append_seam xs (get_or out n 0) (drop (suc n) out) a ∙ sym after

-- ---- the loop

abbrev pub state : Kernel → PortList → PortList → ℕ → State
state k ds ps at = record { kernel = k; dependencies = ds; provisions = ps; at = at }

-- the turns so far, from the state s₀ with this buffer, and those that are left (`rest`) of all that there is room for
pub record Playing (s₀ : State) (all : List Turn) (out₀ : List ℕ) (rest : List Turn) (s : State) (out : List ℕ) (answered detail : ℕ) : Type 0 where
  pub done : List Turn
  pub state : state_after s₀ done ≡ s
  pub counted : answered ≡ length done
  pub told : detail ≡ last_detail done
  pub wrote : out ≡ written (answers_of done) out₀
  pub left : take (length out₀) all ≡ done ++ take (length out₀ - answered) rest

pub playing_start : (s₀ : State) (all : List Turn) (out₀ : List ℕ) → Playing s₀ all out₀ all s₀ out₀ 0 0
unfolding state_after last_detail
playing_start s₀ all out₀ =
    let size : length out₀ ≡ length out₀ - 0 = omega arith in
    record { done = []; state = refl; counted = refl; told = refl; wrote = sym (ap (λ (xs : List ℕ). xs ++ out₀) (take-nil (length out₀))); left = ap (λ (n : ℕ). take n all) size }

module _ {s₀ s : State} {all rest : List Turn} {out₀ out : List ℕ} {answered detail : ℕ} (P : Playing s₀ all out₀ rest s out answered detail) where
  -- a turn of which the answer is stored
  pub playing-next :
      answered < length out₀ → (t : Turn) (more : List Turn) → rest ≡ t ∷ more → {s' : State} {out' : List ℕ} {n' detail' : ℕ} →
      t.after ≡ s' → out' ≡ set out answered t.answer → n' ≡ answered + 1 → detail' ≡ t.detail → Playing s₀ all out₀ more s' out' n' detail'
  playing-next room t more e {s'} {out'} {n'} {detail'} q w n d =
      let xs = P.done in
      let size : length (answers_of xs) ≡ length xs = length-map xs (λ (u : Turn). u.answer) in
      let fits : length (answers_of xs) < length out₀ = omega (arith, size, P.counted) in
      let stored : out' ≡ written (answers_of (xs ++ (t ∷ []))) out₀ =
      w ∙ ap (λ (ys : List ℕ). set ys answered t.answer) P.wrote ∙ ap (λ (m : ℕ). set (written (answers_of xs) out₀) m t.answer) (P.counted ∙ sym size)
      ∙ written_next (answers_of xs) out₀ t.answer fits ∙ ap (λ (ys : List ℕ). written ys out₀) (sym (map-append (λ (u : Turn). u.answer) xs (t ∷ []))) in
      let one : length out₀ - answered ≡ suc (length out₀ - n') = omega (arith, n) in
      let split : take (length out₀ - answered) rest ≡ t ∷ take (length out₀ - n') more = ap (take (length out₀ - answered)) e ∙ ap (λ (m : ℕ). take m (t ∷ more)) one in
      record {
        done = xs ++ (t ∷ []);
        state = after-snoc s₀ xs t ∙ q;
        counted = n ∙ ap (λ (m : ℕ). m + 1) P.counted ∙ sym (length-snoc xs t);
        told = d ∙ sym (detail-snoc xs t);
        wrote = stored;
        left = P.left ∙ ap (λ (ts : List Turn). xs ++ ts) split ∙ sym (append_snoc xs t (take (length out₀ - n') more));
      }

  -- the player that the loop leaves, and the buffer
  abbrev left-player : Player
  left-player = record { kernel = s.kernel; dependencies = s.dependencies; provisions = s.provisions; at = s.at; answered = answered; detail = detail }

  abbrev Over : Type 0
  Over = let ts = take (length out₀) all in
      (left-player ≡ player_after s₀ ts) × (out ≡ written (answers_of ts) out₀)

  over : take (length out₀ - answered) rest ≡ [] → Over
  over z =
      let whole : P.done ≡ take (length out₀) all = sym (P.left ∙ ap (λ (ts : List Turn). P.done ++ ts) z ∙ append-nil P.done) in
      let e = sym P.state in
      let player : left-player ≡ player_after s₀ P.done =
      λ i. record { kernel = (e i).kernel; dependencies = (e i).dependencies; provisions = (e i).provisions; at = (e i).at; answered = P.counted i; detail = P.told i } in
      (player ∙ ap (player_after s₀) whole, P.wrote ∙ ap (λ (ts : List Turn). written (answers_of ts) out₀) whole)

  -- nothing is left
  pub playing_over : rest ≡ [] → Over
  playing_over e = over (ap (take (length out₀ - answered)) e ∙ take-nil (length out₀ - answered))

  -- or there is no room for it
  pub playing_full : length out₀ ≤ answered → Over
  playing_full l = let none : length out₀ - answered ≡ 0 = omega arith in over (ap (λ (n : ℕ). take n rest) none)

-- the loop's turn, by what its arm gives
pub playing-steps :
    {s₀ s : State} {all : List Turn} {out₀ out : List ℕ} {answered detail : ℕ} (log : List ℕ) → Playing s₀ all out₀ (turns s log) s out answered detail →
    s.at < length log → answered < length out₀ → {k : Kernel} {ds ps : PortList} {d a at : ℕ} → Steps s (get_or log s.at 0) (drop (suc s.at) log) k ds ps d a →
    at ≡ s.at + suc (operand_length (get_or log s.at 0)) → Playing s₀ all out₀ (turns (state k ds ps at) log) (state k ds ps at) (set out answered a) (answered + 1) d
playing-steps {s = s} {out = out} {answered = answered} log P h room {k} {ds} {ps} {d} {a} {at} S e =
    let after : (here s log).after ≡ state k ds ps at = S.after ∙ ap (state k ds ps) (sym e) in
    let more = turns-on s log h S.goes (state k ds ps at) after e in
    playing-next P room (here s log) (turns (state k ds ps at) log) more after (ap (set out answered) (sym S.answered)) refl (sym S.detailed)

-- a turn that ends the run
pub playing-last :
    {s₀ s : State} {all : List Turn} {out₀ out : List ℕ} {answered detail : ℕ} (log : List ℕ) → Playing s₀ all out₀ (turns s log) s out answered detail →
    s.at < length log → answered < length out₀ → {i : Item} {a : ℕ} → here s log ≡ record { item = i; answer = a; detail = 0; after = s } → is_last i ≡ true →
    Playing s₀ all out₀ [] s (set out answered a) (answered + 1) 0
playing-last {s = s} {out = out} {answered = answered} log P h room e f =
    let last = turns-last s log h (ap (λ (t : Turn). is_last t.item) e ∙ f) in
    let stored = ap (λ (t : Turn). set out answered t.answer) (sym e) in
    playing-next P room (here s log) [] last (ap (λ (t : Turn). t.after) e) stored refl (ap (λ (t : Turn). t.detail) (sym e))
