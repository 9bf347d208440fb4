-- Compaction: compact_bindings keeps live links, compact_declarations keeps declarations of present owners; order is kept.
use Rattle.std.specs.Prelude.{◌-◌, ℕ, length}
use Rattle.model.specs.Lists.{keep}
use Rattle.model.specs.Records.{is_live, owner_in}
use Rattle.model.specs.Tables.{Tables, present, with_declarations, with_links}

abbrev pub bindings_compacted : Tables → Tables
bindings_compacted T = with_links T (keep is_live T.links)

abbrev pub declarations_compacted : Tables → Tables
declarations_compacted T = with_declarations T (keep (λ d. present T.nodes (owner_in d)) T.declarations)

-- removed: the count before less the count after
abbrev pub bindings_removed : Tables → ℕ
bindings_removed T = length T.links - length (bindings_compacted T).links

abbrev pub declarations_removed : Tables → ℕ
declarations_removed T = length T.declarations - length (declarations_compacted T).declarations
