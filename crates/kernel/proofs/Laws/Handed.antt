-- What a command answers, in numbers; and what one promises in place, of a kernel that it hands back.
use Rattle.std.proofs.Common.{Err, Ok, OnErr, Result}
use Rattle.model.proofs.Logic.{◌∙◌, ◌≡◌, ap, refl}
use Rattle.kernel.specs.{Outcomes.CompactionDoes, Outcomes.CompactionReturns, Outcomes.Does, Outcomes.DoesBy, Outcomes.InsertDoes, Outcomes.InsertReturns, Outcomes.Returns, Outcomes.ReturnsBy, declared.Kernel.Kernel, declared.Outcome.Outcome}
use Rattle.model.specs.{Answers.Answer, Answers.CompactionAnswer, Answers.InsertAnswer, Answers.answer, Answers.answer_number, Answers.compaction_answer, Answers.insert_answer, Commands.Command, Refusals.Reply, Refusals.reply_number, declared.Error.Error}

pub answer_numbered : (r : Reply) → answer_number (answer r) ≡ reply_number r
answer_numbered Reply.done = refl
answer_numbered (Reply.issued id) = refl
answer_numbered (Reply.removed n) = refl
answer_numbered (Reply.refused e) = refl

pub insert_numbered : (r : Reply) → answer_number (insert_answer r) ≡ reply_number r
insert_numbered Reply.done = refl
insert_numbered (Reply.issued id) = refl
insert_numbered (Reply.removed n) = refl
insert_numbered (Reply.refused e) = refl

pub compaction_numbered : (r : Reply) → answer_number (compaction_answer r) ≡ reply_number r
compaction_numbered Reply.done = refl
compaction_numbered (Reply.issued id) = refl
compaction_numbered (Reply.removed n) = refl
compaction_numbered (Reply.refused e) = refl

-- the operand where it is refused, since what is done has the number 0
kept : {A : Type 0} {k m : Kernel} (a : Result A Error) → OnErr a (m ≡ k) → (answer_number a ≡ 0 → ⊥) → m ≡ k
kept (Ok x) u z = absurd (z refl)
kept (Err e) u z = u

-- of a command that replies nothing else, of an insert and of a compaction
module _ {A : Type 0} (by : Reply → Result A Error) (numbered : (r : Reply) → answer_number (by r) ≡ reply_number r) (k : Kernel) (c : Command) where
  returned-by : {m : Kernel} {a : Result A Error} → DoesBy by k c m a → OnErr a (m ≡ k) → ReturnsBy by k c (record { kernel = m; answer = a })
  returned-by {a = a} d u = (d, (ap (λ (o : Outcome A). o.kernel) d, ap (λ (o : Outcome A). answer_number o.answer) d ∙ numbered _, kept a u))

pub returned : (k : Kernel) (c : Command) {m : Kernel} {a : Answer} → Does k c m a → OnErr a (m ≡ k) → Returns k c (record { kernel = m; answer = a })
returned k c d u = returned-by answer answer_numbered k c d u

pub insert-returned : (k : Kernel) (c : Command) {m : Kernel} {a : InsertAnswer} → InsertDoes k c m a → OnErr a (m ≡ k) → InsertReturns k c (record { kernel = m; answer = a })
insert-returned k c d u = returned-by insert_answer insert_numbered k c d u

pub compaction-returned : (k : Kernel) (c : Command) {m : Kernel} {a : CompactionAnswer} → CompactionDoes k c m a → OnErr a (m ≡ k) → CompactionReturns k c (record { kernel = m; answer = a })
compaction-returned k c d u = returned-by compaction_answer compaction_numbered k c d u
