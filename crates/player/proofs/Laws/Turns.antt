-- A turn of the player's loop: what each kind of arm gives is the turn of the bytes that it read.
use Rattle.std.proofs.Common.{Err, Ok, Result, is_ok}
use Rattle.model.proofs.Logic.{Bool, List, ◌-◌, ◌<◌, ◌∙◌, ◌≡◌, ◌≤◌, ap, arith, cond, false, get_or, le-ltb, length, lt-ltb, ltb, ltb-false, refl, suc, sym, take, true, zero, ℕ}
use Rattle.kernel.specs.{Fields.layout_of, Outcomes.CompactionReturns, Outcomes.Handed, Outcomes.InsertReturns, Outcomes.Returns, Outcomes.command, declared.Kernel.Kernel, declared.Outcome.Outcome}
use Rattle.model.specs.{Answers.answer_number, Answers.compaction_answer, Answers.insert_answer, Commands.Command, Commands.Step, Commands.report, Commands.step, Kernels.asked, Kernels.commanded, Layouts.sound_kernel, Layouts.tables_of, Refusals.Reply, Tables.Tables, declared.Error.Error, declared.Port.Port, declared.PortList.PortList}
use Rattle.model.proofs.{Laws.Booleans.or_f_l, Laws.Booleans.or_f_r, Laws.Refusals.step-cases}
use Rattle.player.specs.{Log.operand_length, Played.Item, Played.State, Played.Turn, Played.addition, Played.detail_of, Played.emptied, Played.is_last, Played.is_unknown, Played.item, Played.meanings, Played.on, Played.taken, Played.turn, Played.with_port, Players.detail_in}
use Rattle.sizes.specs.{Sizes.sizes}

-- ---- what a command replies besides its answer

-- a number that is the detail of what a command reports when it is accepted
abbrev pub Tells : (Reply → ℕ) → Command → Type 0
Tells f c = (T : Tables) → f (report T c) ≡ detail_of (report T c)

-- and 0 of a refusal, is that of what it replies
told : (f : Reply → ℕ) (k : Kernel) (c : Command) → ((e : Error) → f (Reply.refused e) ≡ 0) → Tells f c → f (command k c).reply ≡ detail_of (command k c).reply
unfolding commanded asked
told f k c z h = go (sound_kernel sizes (layout_of k))
  where
    Same : Reply → Type 0
    Same r = f r ≡ detail_of r

    T : Tables
    T = tables_of (layout_of k)

    go : (b : Bool) → Same (cond b (step sizes T c).reply (Reply.refused Error.Damaged))
    go true = step-cases (λ (x : Step). Same x.reply) sizes T c (λ e p. z e) (λ p. h T)
    go false = z Error.Damaged

-- of a command that replies nothing else, of an insert, which replies the identity, and of a compaction, which replies how many records went
module _ (k : Kernel) (c : Command) where
  none_told : Tells (λ r. 0) c → 0 ≡ detail_of (command k c).reply
  none_told g = told (λ r. 0) k c (λ e. refl) g

  issued-told : Tells (λ r. detail_in (insert_answer r)) c → {o : Outcome ℕ} → InsertReturns k c o → detail_in o.answer ≡ detail_of (command k c).reply
  issued-told g R = ap (λ (u : Outcome ℕ). detail_in u.answer) R.0 ∙ told (λ r. detail_in (insert_answer r)) k c (λ e. refl) g

  removed-told : Tells (λ r. detail_in (compaction_answer r)) c → {o : Outcome ℕ} → CompactionReturns k c o → detail_in o.answer ≡ detail_of (command k c).reply
  removed-told g R = ap (λ (u : Outcome ℕ). detail_in u.answer) R.0 ∙ told (λ r. detail_in (compaction_answer r)) k c (λ e. refl) g

-- what is refused has a number
refused_number : {A : Type 0} (r : Result A Error) → is_ok r ≡ false → answer_number r ≡ 0 → ⊥
refused_number (Ok x) e z = cc
refused_number (Err Error.Unknown) e z = omega arith
refused_number (Err Error.InvalidState) e z = omega arith
refused_number (Err Error.Retired) e z = omega arith
refused_number (Err Error.MissingDependency) e z = omega arith
refused_number (Err Error.Conflict) e z = omega arith
refused_number (Err Error.Changed) e z = omega arith
refused_number (Err Error.Relied) e z = omega arith
refused_number (Err Error.Children) e z = omega arith
refused_number (Err Error.Capacity) e z = omega arith
refused_number (Err Error.Damaged) e z = omega arith

-- and its kernel is the one that was handed in
pub refused-kept : {A : Type 0} {k : Kernel} (o : Outcome A) → ((answer_number o.answer ≡ 0 → ⊥) → o.kernel ≡ k) → is_ok o.answer ≡ false → k ≡ o.kernel
refused-kept o kept e = sym (kept (refused_number o.answer e))

-- ---- the last of the sixteen bytes

-- none of the numbers from 1 to n
abbrev pub NoneOf : ℕ → ℕ → Type 0
NoneOf zero b = Unit {0}
NoneOf (suc n) b = NoneOf n b × (b ≡ suc n → ⊥)

above : (n b : ℕ) → 1 ≤ b → NoneOf n b → suc n ≤ b
above zero b l u = l
above (suc n) b l (u, f) = let h = above n b l u in omega arith

-- a command byte that is none of the first fifteen
pub sixteenth : (b : ℕ) → is_unknown b ≡ false → NoneOf 15 b → b ≡ 16
sixteenth b u r =
    let low : 1 ≤ b = ltb-false b 1 (or_f_l (ltb b 1) (ltb 16 b) u) in
    let high : b ≤ 16 = ltb-false 16 b (or_f_r (ltb b 1) (ltb 16 b) u) in
    let h = above 15 b low r in
    omega arith

module _ (s : State) (byte : ℕ) (rest : List ℕ) where
  -- the turn of these bytes leaves this kernel and these lists, with this detail and answer, and the run goes on
  pub record Steps (k : Kernel) (ds ps : PortList) (detail answer : ℕ) : Type 0 where
    pub goes : is_last (turn s byte rest).item ≡ false
    pub after : (turn s byte rest).after ≡ on s (suc (operand_length byte)) k ds ps
    pub detailed : (turn s byte rest).detail ≡ detail
    pub answered : (turn s byte rest).answer ≡ answer

  -- ---- the item

  pub unknown-item : is_unknown byte ≡ true → item s byte rest ≡ Item.unknown
  unfolding item
  unknown-item u = rw u

  module _ (u : is_unknown byte ≡ false) where
    pub cut-item : length rest < operand_length byte → item s byte rest ≡ Item.cut
    unfolding item
    cut-item l = let e = lt-ltb _ _ l in rw (u, e)

    -- whole operands: the meaning of the byte, whose number is n
    pub whole_item :
        operand_length byte ≤ length rest → {operands : List ℕ} → take (operand_length byte) rest ≡ operands → (n : ℕ) → byte ≡ n →
        item s byte rest ≡ get_or (meanings s operands) (n - 1) Item.unknown
    unfolding item
    whole_item l {operands} o n e =
        let w = le-ltb (length rest) (operand_length byte) l in
        rw (u, w) (ap (λ (os : List ℕ). get_or (meanings s os) (byte - 1) Item.unknown) o ∙ ap (λ (b : ℕ). get_or (meanings s operands) (b - 1) Item.unknown) e)

  -- ---- the ends

  pub unknown-turn : is_unknown byte ≡ true → turn s byte rest ≡ record { item = Item.unknown; answer = 11; detail = 0; after = s }
  unfolding taken
  unknown-turn u = ap (taken s (suc (operand_length byte))) (unknown-item u)

  pub cut-turn : is_unknown byte ≡ false → length rest < operand_length byte → turn s byte rest ≡ record { item = Item.cut; answer = 12; detail = 0; after = s }
  unfolding taken
  cut-turn u l = ap (taken s (suc (operand_length byte))) (cut-item u l)

  -- ---- the arms

  module _ {k : Kernel} {ds ps : PortList} {detail answer : ℕ} where
    stepping :
        {i : Item} → item s byte rest ≡ i → let t = taken s (suc (operand_length byte)) i in
        is_last t.item ≡ false → on s (suc (operand_length byte)) k ds ps ≡ t.after → detail ≡ t.detail → answer ≡ t.answer → Steps k ds ps detail answer
    stepping e g f d a =
        let t = ap (taken s (suc (operand_length byte))) e in
        record {
          goes = ap (λ (u : Turn). is_last u.item) t ∙ g;
          after = ap (λ (u : Turn). u.after) t ∙ sym f;
          detailed = ap (λ (u : Turn). u.detail) t ∙ sym d;
          answered = ap (λ (u : Turn). u.answer) t ∙ sym a;
        }

    -- a port for one of the lists
    pub dependency-steps :
        (p : Port) → item s byte rest ≡ Item.dependency p → k ≡ s.kernel → ds ≡ with_port s.dependencies p → ps ≡ s.provisions → detail ≡ 0 → answer ≡ addition s.dependencies →
        Steps k ds ps detail answer
    unfolding taken
    dependency-steps p e q x y d a = stepping e refl (λ i. on s (suc (operand_length byte)) (q i) (x i) (y i)) d a

    pub provision-steps :
        (p : Port) → item s byte rest ≡ Item.provision p → k ≡ s.kernel → ds ≡ s.dependencies → ps ≡ with_port s.provisions p → detail ≡ 0 → answer ≡ addition s.provisions →
        Steps k ds ps detail answer
    unfolding taken
    provision-steps p e q x y d a = stepping e refl (λ i. on s (suc (operand_length byte)) (q i) (x i) (y i)) d a

    -- a command, by what its contract promises of the kernel and of the answer's number; the detail is told of what it can reply
    module _ (c : Command) {m : Kernel} {n : ℕ} (H : Handed s.kernel c m n) (q : k ≡ m) (a : answer ≡ n) where
      plain-steps : detail ≡ detail_of (command s.kernel c).reply → item s byte rest ≡ Item.plain c → ds ≡ s.dependencies → ps ≡ s.provisions → Steps k ds ps detail answer
      unfolding taken
      plain-steps d e x y = let kernel = q ∙ H.0 in stepping e refl (λ i. on s (suc (operand_length byte)) (kernel i) (x i) (y i)) d (a ∙ H.1)

      -- one with the pending lists
      listing-steps :
          detail ≡ detail_of (command s.kernel c).reply → item s byte rest ≡ Item.listing c → ds ≡ emptied s.dependencies → ps ≡ emptied s.provisions →
          Steps k ds ps detail answer
      unfolding taken
      listing-steps d e x y = let kernel = q ∙ H.0 in stepping e refl (λ i. on s (suc (operand_length byte)) (kernel i) (x i) (y i)) d (a ∙ H.1)

    -- one that is done or refused
    module _ (c : Command) (g : Tells (λ r. 0) c) {o : Outcome (Unit {0})} (R : Returns s.kernel c o) (a : answer ≡ answer_number o.answer) (d : detail ≡ 0) where
      pub plain_done : item s byte rest ≡ Item.plain c → k ≡ o.kernel → ds ≡ s.dependencies → ps ≡ s.provisions → Steps k ds ps detail answer
      plain_done e q x y = plain-steps c R.1 q a (d ∙ none_told s.kernel c g) e x y

      pub listing-done : item s byte rest ≡ Item.listing c → k ≡ o.kernel → ds ≡ emptied s.dependencies → ps ≡ emptied s.provisions → Steps k ds ps detail answer
      listing-done e q x y = listing-steps c R.1 q a (d ∙ none_told s.kernel c g) e x y

    -- an insert
    module _ (c : Command) (g : Tells (λ r. detail_in (insert_answer r)) c) {o : Outcome ℕ} (R : InsertReturns s.kernel c o)
        (a : answer ≡ answer_number o.answer) (d : detail ≡ detail_in o.answer) where
      pub insert-done : item s byte rest ≡ Item.listing c → k ≡ o.kernel → ds ≡ emptied s.dependencies → ps ≡ emptied s.provisions → Steps k ds ps detail answer
      insert-done e q x y = listing-steps c R.1 q a (d ∙ issued-told s.kernel c g R) e x y

    -- a compaction
    module _ (c : Command) (g : Tells (λ r. detail_in (compaction_answer r)) c) {o : Outcome ℕ} (R : CompactionReturns s.kernel c o)
        (a : answer ≡ answer_number o.answer) (d : detail ≡ detail_in o.answer) where
      pub compaction-done : item s byte rest ≡ Item.plain c → k ≡ o.kernel → ds ≡ s.dependencies → ps ≡ s.provisions → Steps k ds ps detail answer
      compaction-done e q x y = plain-steps c R.1 q a (d ∙ removed-told s.kernel c g R) e x y
