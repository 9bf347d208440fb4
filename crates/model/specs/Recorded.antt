-- The tables as the original records them: a link without the generation that it stores. Exactness speaks of these.
use Rattle.std.specs.Prelude.{◌≡◌, Bool, List, map, ℕ}
use Rattle.model.specs.declared.Binding.{Binding}
use Rattle.model.specs.declared.records.Declaration.{Declaration}
use Rattle.model.specs.declared.records.Link.{Link}
use Rattle.model.specs.declared.records.Node.{Node}
use Rattle.model.specs.Commands.{Command, step}
use Rattle.model.specs.Observers.{binding_records}
use Rattle.model.specs.Records.{binding_in, consumer_in}
use Rattle.model.specs.Resolution.{committed}
use Rattle.model.specs.Sizes.{Sizes}
use Rattle.model.specs.Tables.{Tables}

pub record LinkRecord : Type 0 where
  pub consumer : ℕ
  pub binding : Binding
  pub live : Bool

abbrev pub record_in : Link → LinkRecord
record_in l = record { consumer = consumer_in l; binding = binding_in l; live = l.live }

pub record Recorded : Type 0 where
  pub nodes : List Node
  pub declarations : List Declaration
  pub links : List LinkRecord

abbrev pub recorded : Tables → Recorded
recorded T = record { nodes = T.nodes; declarations = T.declarations; links = map record_in T.links }

-- of tables that differ in their links' generations alone: every command gets the same reply and leaves the same records, and binding_records and committed answer the same;
-- the original's other observers and both checks read nodes and declarations, which are the same tables
pub record GenerationsUnread (S : Sizes) (T U : Tables) : Type 0 where
  pub replies : (c : Command) → (step S T c).reply ≡ (step S U c).reply
  pub tables : (c : Command) → recorded (step S T c).tables ≡ recorded (step S U c).tables
  pub counts : binding_records T ≡ binding_records U
  pub commitments : (id : ℕ) → committed T.links id ≡ committed U.links id
