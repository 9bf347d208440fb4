-- The compactions keep soundness.
use Rattle.model.proofs.Logic.{le_trans}
use Rattle.model.proofs.{Laws.Facts.Sound, Laws.Lists.in_keep, Laws.Lists.keep-in, Laws.Lists.length-keep, Laws.Order.ordered-keep, Laws.Update.safe_links, Laws.Update.sub_declarations}
use Rattle.model.specs.{Compaction.bindings_compacted, Compaction.declarations_compacted, Lists.keep, Records.is_live, Records.owner_in, Sizes.Sizes, Tables.Tables, Tables.present}

module _ (S : Sizes) (T : Tables) (k : Sound S T) where
  pub bindings_compacted-sound : Sound S (bindings_compacted T)
  bindings_compacted-sound = record {
    sizes = record { nodes = k.sizes.nodes; declarations = k.sizes.declarations; links = le_trans (length-keep _ T.links) k.sizes.links };
    safe = safe_links T (keep is_live T.links) k.safe (ordered-keep _ T.links k.safe.order) (λ l m v. k.safe.live l (in_keep _ T.links m).0 v);
    covered = λ d m q a b. let c = k.covered d m q a b in record { link = c.link; among = keep-in _ c.among c.is_live; is_live = c.is_live; of_consumer = c.of_consumer; of_port = c.of_port };
    stored = record { dead = λ l m v. k.stored.dead l (in_keep _ T.links m).0 v; absent = k.stored.absent; episodes = λ l m v. k.stored.episodes l (in_keep _ T.links m).0 v };
  }

  pub declarations_compacted-sound : Sound S (declarations_compacted T)
  declarations_compacted-sound = sub_declarations k (λ d. present T.nodes (owner_in d)) (λ l m v. ((k.safe.live l m v).consumer-present, (k.safe.live l m v).provider_present))
