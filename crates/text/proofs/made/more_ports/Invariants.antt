use Rattle.model.proofs.Logic.{◌-◌, ◌<◌, ◌≡◌, ◌≤◌, get_or, length, ℕ}
use Rattle.model.specs.{Records.blank_port, Sizes.list_limit, declared.PortList.PortList}
use Rattle.text.proofs.made.more_ports.Given as goal
use Rattle.text.specs.Made.{port_for, stepped}

-- the entries from the count to place i are stored
pub record Stored (list : PortList) (first realm step : ℕ) (more : PortList) (key i : ℕ) : Type 0 where
  pub next : key ≡ stepped first step (i - list.count)
  pub counted : more.count ≡ list.count
  pub sized : length more.ports ≡ list_limit
  pub kept : (j : ℕ) → j < list.count → get_or more.ports j blank_port ≡ get_or list.ports j blank_port
  pub added : (j : ℕ) → list.count ≤ j → j < i → get_or more.ports j blank_port ≡ port_for (stepped first step (j - list.count)) realm

abbrev pub invariant-loop-i : goal.invariant-loop-i
invariant-loop-i l = Stored l.fn.list l.fn.key l.fn.realm l.fn.step l.list l.key l.i
