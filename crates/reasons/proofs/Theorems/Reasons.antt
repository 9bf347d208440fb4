-- Of every log, from every state: the answer that is played is the one that is explained.
use Rattle.std.specs.Prelude.{Err, Ok}
use Rattle.model.proofs.Logic.{Bool, List, [], ◌∙◌, ◌∷◌, ◌≡◌, ap, cond, false, get_or, refl, suc, sym, true, zero, ℕ}
use Rattle.explain.specs.{Explanations.explanation_of}
use Rattle.kernel.specs.{Fields.layout_of, Outcomes.command, declared.Kernel.Kernel}
use Rattle.model.specs.{Commands.Command, Explanation.reply_by, Refusals.Reply, Refusals.accepted, Refusals.reply_number, declared.PortList.PortList, Explanation.Explanation}
use Rattle.model.proofs.{Laws.Booleans.clash, Theorems.Explanation.every_refusal_explained}
use Rattle.player.specs.{Log.operand_length, Played.Item, Played.State, Played.Turn, Played.addition, Played.answers_of, Played.is_full, Played.is_last, Played.item, Played.taken, Played.turn, Played.turns_from}
use Rattle.reasons.specs.{Reasons.EveryAnswerExplained, Reasons.addition_said, Reasons.said_in, Reasons.said_number, Reasons.said_of, declared.said.LogExplanation.LogExplanation}
use Rattle.reasons.proofs.{Laws.Reasons.taken_item}
use Rattle.sizes.specs.{Sizes.sizes}

-- ---- one command

-- an accepted reply has the number 0
accepted-number : (r : Reply) → accepted r ≡ true → reply_number r ≡ 0
accepted-number Reply.done h = refl
accepted-number (Reply.issued id) h = refl
accepted-number (Reply.removed n) h = refl
accepted-number (Reply.refused e) h = clash true refl (sym h)

command-said : (k : Kernel) (c : Command) → reply_number (reply_by (explanation_of k c)) ≡ reply_number (command k c).reply
command-said k c = go (explanation_of k c) refl
  where
    go : (x : Explanation) → explanation_of k c ≡ x → reply_number (reply_by x) ≡ reply_number (command k c).reply
    go (Ok _) e = sym (accepted-number (command k c).reply ((every_refusal_explained sizes (layout_of k) c).accepts.0 e))
    go (Err r) e = ap reply_number (sym ((every_refusal_explained sizes (layout_of k) c).refuses r e))

-- a port for a list
addition-said : (l : PortList) → said_number (addition_said l) ≡ addition l
unfolding addition
addition-said l = go (is_full l)
  where
    go : (b : Bool) → said_number (cond b (LogExplanation.Full l.count) (LogExplanation.Command (Ok tt))) ≡ cond b 9 0
    go true = refl
    go false = refl

item-said : (s : State) (n : ℕ) (i : Item) → said_number (said_of s i) ≡ (taken s n i).answer
unfolding taken
item-said s n (Item.dependency p) = addition-said s.dependencies
item-said s n (Item.provision p) = addition-said s.provisions
item-said s n (Item.plain c) = command-said s.kernel c
item-said s n (Item.listing c) = command-said s.kernel c
item-said s n Item.unknown = refl
item-said s n Item.cut = refl

-- ---- a run

-- the n-th of these turns
abbrev Same : State → List Turn → ℕ → Type 0
Same s ts n = said_number (said_in s ts n) ≡ get_or (answers_of ts) n 0

turns-said : (s : State) (n k : ℕ) (bytes : List ℕ) → Same s (turns_from s k bytes) n
unfolding turns_from said_in
turns-said s n k [] = refl
turns-said s zero zero (byte ∷ bytes) =
    let i = item s byte bytes in
    let m = suc (operand_length byte) in
    ap (λ (x : Item). said_number (said_of s x)) (taken_item s m i) ∙ item-said s m i
turns-said s (suc n) zero (byte ∷ bytes) = go (is_last (turn s byte bytes).item) (turns-said (turn s byte bytes).after n (operand_length byte) bytes)
  where
    go :
        (b : Bool) → Same (turn s byte bytes).after (turns_from (turn s byte bytes).after (operand_length byte) bytes) n →
        Same (turn s byte bytes).after (cond b [] (turns_from (turn s byte bytes).after (operand_length byte) bytes)) n
    go true h = refl
    go false h = h
turns-said s zero (suc k) (byte ∷ bytes) = turns-said s zero k bytes
turns-said s (suc n) (suc k) (byte ∷ bytes) = turns-said s (suc n) k bytes

pub every_answer_explained : EveryAnswerExplained
every_answer_explained s log n = turns-said s n 0 _
