-- Refusals: the rules' numbers, what a command replies, and tests in order of which the first that applies refuses.
use Rattle.std.specs.Prelude.{Bool, cond, false, true, List, [], ◌∷◌, ℕ}
use Rattle.std.proofs.Math.Option.{Option, none, some}
use Rattle.model.specs.declared.Error.{Error}

-- the rules' number of each refusal
abbrev pub number : Error → ℕ
number Error.Unknown = 1
number Error.InvalidState = 2
number Error.Retired = 3
number Error.MissingDependency = 4
number Error.Conflict = 5
number Error.Changed = 6
number Error.Relied = 7
number Error.Children = 8
number Error.Capacity = 9
number Error.Damaged = 10

-- what a command or a check says: done, done with insert's identity or with the count that a compaction removed, or a refusal
pub data Reply : Type 0 where
  done : Reply
  issued : ℕ → Reply
  removed : ℕ → Reply
  refused : Error → Reply

-- any reply but a refusal
abbrev pub accepted : Reply → Bool
accepted Reply.done = true
accepted (Reply.issued id) = true
accepted (Reply.removed n) = true
accepted (Reply.refused e) = false

-- its number: 0 but for a refusal
abbrev pub reply_number : Reply → ℕ
reply_number Reply.done = 0
reply_number (Reply.issued id) = 0
reply_number (Reply.removed n) = 0
reply_number (Reply.refused e) = number e

-- a row of the rules' table: tests, each with its refusal, in order
abbrev pub Tests : Type 0
Tests = List (Bool × Error)

-- the refusal of the first test that applies
unfoldable pub first : Tests → Option Error
first [] = none
first (t ∷ ts) = cond t.0 (some t.1) (first ts)

-- that refusal, or what else is replied
abbrev pub or_else : Option Error → Reply → Reply
or_else none r = r
or_else (some e) r = Reply.refused e
