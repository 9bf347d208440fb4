-- What the commands hand back: the kernel and the answer of `commanded`, in the code's structs and enums.
use Rattle.std.specs.Prelude.{◌≤◌, false, MatchResult, ◌≡◌, ℕ, Result}
use Rattle.kernel.specs.declared.Kernel.{Kernel}
use Rattle.kernel.specs.declared.Outcome.{Outcome}
use Rattle.model.specs.declared.Error.{Error}
use Rattle.model.specs.declared.records.Node.{Node}
use Rattle.kernel.specs.Fields.{is_sound, kernel_of, layout_of}
use Rattle.layouts.specs.Rows.{row_answer}
use Rattle.layouts.specs.Sound.{SoundKernel}
use Rattle.model.specs.Answers.{Answer, CompactionAnswer, InsertAnswer, answer, answer_number, compaction_answer, insert_answer}
use Rattle.model.specs.Commands.{Command}
use Rattle.model.specs.Kernels.{Commanded, commanded}
use Rattle.model.specs.Layouts.{tables_of}
use Rattle.model.specs.Refusals.{Reply, Tests, reply_number}
use Rattle.model.specs.Tables.{Tables, node_at}
use Rattle.sizes.specs.Sizes.{DECLARATIONS, IDENTITIES, LINKS, sizes}

-- a command on a kernel value
abbrev pub command : Kernel → Command → Commanded
command k c = commanded sizes (layout_of k) c

-- what is commanded, in the code's types; `by` says what the reply is there
abbrev pub outcome : {A : Type 0} → (Reply → Result A Error) → Commanded → Outcome A
outcome by x = record { kernel = kernel_of x.kernel; answer = by x.reply }

-- ---- what the commands promise

-- the kernel and the answer's number that a command hands back: those of `commanded`, and the operand itself where it is refused
abbrev pub Handed : Kernel → Command → Kernel → ℕ → Type 0
Handed k c m n = (m ≡ kernel_of (command k c).kernel) × (n ≡ reply_number (command k c).reply) × ((n ≡ 0 → ⊥) → m ≡ k)

abbrev pub ReturnsBy : {A : Type 0} → (Reply → Result A Error) → Kernel → Command → Outcome A → Type 0
ReturnsBy by k c r = (r ≡ outcome by (command k c)) × Handed k c r.kernel (answer_number r.answer)

abbrev pub Returns : Kernel → Command → Outcome (Unit {0}) → Type 0
Returns = ReturnsBy answer

-- with insert's identity
abbrev pub InsertReturns : Kernel → Command → Outcome ℕ → Type 0
InsertReturns = ReturnsBy insert_answer

-- with the count that a compaction removed
abbrev pub CompactionReturns : Kernel → Command → Outcome ℕ → Type 0
CompactionReturns = ReturnsBy compaction_answer

-- the same of a command on the kernel in place: the kernel that it leaves, and what it answers
abbrev pub DoesBy : {A : Type 0} → (Reply → Result A Error) → Kernel → Command → Kernel → Result A Error → Type 0
DoesBy by k c m a = record { kernel = m; answer = a } ≡ outcome by (command k c)

abbrev pub Does : Kernel → Command → Kernel → Answer → Type 0
Does = DoesBy answer

abbrev pub InsertDoes : Kernel → Command → Kernel → InsertAnswer → Type 0
InsertDoes = DoesBy insert_answer

abbrev pub CompactionDoes : Kernel → Command → Kernel → CompactionAnswer → Type 0
CompactionDoes = DoesBy compaction_answer

-- ---- what the kernel's inner functions promise

-- what a row of tests answers of a kernel value
abbrev pub answer_of : Kernel → (Tables → Tests) → Answer
answer_of k f = row_answer sizes (layout_of k) f

-- past the entry test: a sound kernel, whose counts are within the sizes, and the identity's node; and where the test refuses
pub record Entered (k : Kernel) (id : ℕ) (n : Node) : Type 0 where
  pub sound : SoundKernel sizes (layout_of k)
  pub nodes : k.node_count ≤ IDENTITIES
  pub declarations : k.declaration_count ≤ DECLARATIONS
  pub links : k.link_count ≤ LINKS
  pub is-node : n ≡ node_at (tables_of (layout_of k)).nodes id

pub record Unsound (k : Kernel) (e : Error) : Type 0 where
  pub sound : is_sound k ≡ false
  pub is-damaged : e ≡ Error.Damaged

-- what a call that names an identity starts with: a sound kernel and the identity's node, or the refusal of one that is not sound
abbrev pub Enters : Kernel → ℕ → Result Node Error → Type 0
Enters k id r = MatchResult r (Entered k id) (Unsound k)
