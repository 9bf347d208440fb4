-- A log played: what its bytes say, what each command answers on a kernel with the two pending lists, and the answers of the whole.
use Rattle.std.specs.Prelude.{ℕ, zero, suc, ◌+◌, ◌-◌, Bool, true, false, cond, ◌||◌, List, [], ◌∷◌, ◌++◌, map, length, get_or, take, drop, nat_le, nat_lt, slice_index_or, slice_set}
use Rattle.kernel.specs.declared.Kernel.{Kernel}
use Rattle.model.specs.declared.Port.{Port}
use Rattle.model.specs.declared.PortList.{PortList}
use Rattle.kernel.specs.Fields.{kernel_of}
use Rattle.kernel.specs.Outcomes.{command}
use Rattle.model.specs.Commands.{Command}
use Rattle.model.specs.Interface.{port_list}
use Rattle.model.specs.Kernels.{Commanded, empty_kernel}
use Rattle.model.specs.Refusals.{Reply, reply_number}
use Rattle.model.specs.Sizes.{list_limit}
use Rattle.player.specs.Log.{log_limit, operand_length, parent_of, port_at}
use Rattle.sizes.specs.Sizes.{sizes}

-- ---- the state

-- the kernel, the two pending lists, and how many bytes of the log are played
pub record State : Type 0 where
  pub kernel : Kernel
  pub dependencies : PortList
  pub provisions : PortList
  pub at : ℕ

-- before the first byte
abbrev pub fresh : State
fresh = record { kernel = kernel_of (empty_kernel sizes); dependencies = port_list []; provisions = port_list []; at = 0 }

-- ---- an item of a log

-- a port for one of the lists; a command; one with the pending lists, which empties both; a byte outside 01 to 10; a command whose operands are cut
pub data Item : Type 0 where
  dependency : Port → Item
  provision : Port → Item
  plain : Command → Item
  listing : Command → Item
  unknown : Item
  cut : Item

-- what the bytes 01 to 10 say with these operands, in order
abbrev pub meanings : State → List ℕ → List Item
meanings s operands =
    let id = get_or operands 0 0 in
    Item.dependency (port_at operands 0)
    ∷ Item.provision (port_at operands 0)
    ∷ Item.listing (Command.insert (parent_of id) s.dependencies s.provisions)
    ∷ Item.plain (Command.begin id)
    ∷ Item.plain (Command.finish id)
    ∷ Item.plain (Command.leave id)
    ∷ Item.plain (Command.leave_if_changed id)
    ∷ Item.plain (Command.retire id)
    ∷ Item.plain (Command.begin_cleanup id)
    ∷ Item.plain (Command.finish_cleanup id)
    ∷ Item.plain (Command.remove id)
    ∷ Item.plain Command.compact_bindings
    ∷ Item.plain Command.compact_declarations
    ∷ Item.plain (Command.declare_provision id (port_at operands 1))
    ∷ Item.plain (Command.release_provision id (port_at operands 1))
    ∷ Item.listing (Command.configure_pending_dependencies id s.dependencies)
    ∷ []

abbrev pub is_unknown : ℕ → Bool
is_unknown byte = nat_lt byte 1 || nat_lt 16 byte

-- of a byte and those behind it: first whether it is a command, then whether its operands are all there
unfoldable pub item : State → ℕ → List ℕ → Item
item s byte rest =
    cond (is_unknown byte) Item.unknown
    (cond (nat_lt (length rest) (operand_length byte)) Item.cut
    (slice_index_or (meanings s (take (operand_length byte) rest)) (byte - 1) Item.unknown))

-- ---- a turn

-- an item, its answer, what an accepted insert issued or a compaction removed (else 0), and the state behind it
pub record Turn : Type 0 where
  pub item : Item
  pub answer : ℕ
  pub detail : ℕ
  pub after : State

-- a list of 32 is full
abbrev pub is_full : PortList → Bool
is_full l = nat_le list_limit l.count

-- the port behind the others; a 33rd is not added
unfoldable pub with_port : PortList → Port → PortList
with_port l p = cond (is_full l) l (record { ports = slice_set l.ports l.count p; count = l.count + 1 })

-- and gets 9
unfoldable pub addition : PortList → ℕ
addition l = cond (is_full l) 9 0

-- nothing below the count
abbrev pub emptied : PortList → PortList
emptied l = record { ports = l.ports; count = 0 }

-- a command's identity or count
abbrev pub detail_of : Reply → ℕ
detail_of Reply.done = 0
detail_of (Reply.issued id) = id
detail_of (Reply.removed n) = n
detail_of (Reply.refused e) = 0

-- the kernel and the lists, n bytes further
abbrev pub on : State → ℕ → Kernel → PortList → PortList → State
on s n k ds ps = record { kernel = k; dependencies = ds; provisions = ps; at = s.at + n }

-- a command, and the lists that it leaves
abbrev pub command_turn : State → ℕ → Item → Commanded → PortList → PortList → Turn
command_turn s n i x ds ps = record { item = i; answer = reply_number x.reply; detail = detail_of x.reply; after = on s n (kernel_of x.kernel) ds ps }

-- an item of n bytes; 11 and 12 leave everything as it was
unfoldable pub taken : State → ℕ → Item → Turn
taken s n (Item.dependency p) = record { item = Item.dependency p; answer = addition s.dependencies; detail = 0; after = on s n s.kernel (with_port s.dependencies p) s.provisions }
taken s n (Item.provision p) = record { item = Item.provision p; answer = addition s.provisions; detail = 0; after = on s n s.kernel s.dependencies (with_port s.provisions p) }
taken s n (Item.plain c) = command_turn s n (Item.plain c) (command s.kernel c) s.dependencies s.provisions
taken s n (Item.listing c) = command_turn s n (Item.listing c) (command s.kernel c) (emptied s.dependencies) (emptied s.provisions)
taken s n Item.unknown = record { item = Item.unknown; answer = 11; detail = 0; after = s }
taken s n Item.cut = record { item = Item.cut; answer = 12; detail = 0; after = s }

abbrev pub turn : State → ℕ → List ℕ → Turn
turn s byte rest = taken s (suc (operand_length byte)) (item s byte rest)

-- 11 and 12 end the run
abbrev pub is_last : Item → Bool
is_last (Item.dependency p) = false
is_last (Item.provision p) = false
is_last (Item.plain c) = false
is_last (Item.listing c) = false
is_last Item.unknown = true
is_last Item.cut = true

-- ---- a run

-- the turns of these bytes, of which n are operands and passed over
unfoldable pub turns_from : State → ℕ → List ℕ → List Turn
turns_from s n [] = []
turns_from s zero (byte ∷ bytes) = let t = turn s byte bytes in t ∷ cond (is_last t.item) [] (turns_from t.after (operand_length byte) bytes)
turns_from s (suc n) (byte ∷ bytes) = turns_from s n bytes

-- of a log, on from the state's place
abbrev pub turns : State → List ℕ → List Turn
turns s log = turns_from s 0 (drop s.at log)

abbrev pub answers_of : List Turn → List ℕ
answers_of ts = map (λ t. t.answer) ts

-- the answers of a log's first 65,536 bytes, from the empty kernel
abbrev pub played : List ℕ → List ℕ
played log = answers_of (turns fresh (take log_limit log))

-- ---- what a run leaves

unfoldable pub state_after : State → List Turn → State
state_after s [] = s
state_after s (t ∷ ts) = state_after t.after ts

-- the commands of the kernel in these turns
abbrev pub commands_in : Item → List Command
commands_in (Item.dependency p) = []
commands_in (Item.provision p) = []
commands_in (Item.plain c) = c ∷ []
commands_in (Item.listing c) = c ∷ []
commands_in Item.unknown = []
commands_in Item.cut = []

unfoldable pub decoded : List Turn → List Command
decoded [] = []
decoded (t ∷ ts) = commands_in t.item ++ decoded ts
