-- The answers of the code, `Result` and `Option` of the language: what each of their cases says in the rules' words and numbers.
use Rattle.std.proofs.Math.Option as maybe
use Rattle.std.specs.Prelude.{ℕ, Err, None, Ok, Option, Result, Some}
use Rattle.model.specs.declared.Error.{Error}
use Rattle.model.specs.Refusals.{Reply, Tests, first, number, or_else}

-- what a command or a check answers: done, or a refusal
abbrev pub Answer : Type 0
Answer = Result (Unit {0}) Error

-- what insert answers: done with the new identity, or a refusal
abbrev pub InsertAnswer : Type 0
InsertAnswer = Result ℕ Error

-- what a compaction answers: done with how many records went, or a refusal
abbrev pub CompactionAnswer : Type 0
CompactionAnswer = Result ℕ Error

-- a command or a check: done, or the refusal
abbrev pub answer : Reply → Answer
answer Reply.done = Ok tt
answer (Reply.issued id) = Ok tt
answer (Reply.removed n) = Ok tt
answer (Reply.refused e) = Err e

-- the refusal of the first test that applies, or done
abbrev pub checked : Tests → Answer
checked ts = answer (or_else (first ts) Reply.done)

-- insert: done with the identity, or the refusal; it replies nothing else
abbrev pub insert_answer : Reply → InsertAnswer
insert_answer Reply.done = Ok 0
insert_answer (Reply.issued id) = Ok id
insert_answer (Reply.removed n) = Ok 0
insert_answer (Reply.refused e) = Err e

-- the compactions: done with how many records went, or the refusal; they reply nothing else
abbrev pub compaction_answer : Reply → CompactionAnswer
compaction_answer Reply.done = Ok 0
compaction_answer (Reply.issued id) = Ok 0
compaction_answer (Reply.removed n) = Ok n
compaction_answer (Reply.refused e) = Err e

-- what may be there, in the code's `Option`
abbrev pub as_option : {A : Type 0} → maybe.Option A → Option A
as_option maybe.none = None
as_option (maybe.some x) = Some x

-- in numbers: 0 for done, else the refusal's
abbrev pub answer_number : {A : Type 0} → Result A Error → ℕ
answer_number (Ok _) = 0
answer_number (Err e) = number e
