-- Declarations for ports, behind those of an array.
use Rattle.std.specs.Prelude.{Bool, ◌&&◌, not, List, ◌++◌, map, ◌≡◌, ℕ, length, take}
use Rattle.model.specs.{Interface.distinct, Lists.any, Lists.keep, Lists.padded, Resolution.offers, Records.blank_declaration, Records.declaration_of, declared.Port.Port, declared.records.Declaration.Declaration}
use Rattle.kernel.specs.declared.Kernel.{Kernel}
use Rattle.loops.specs.InPlace.{compacted}
use Rattle.sizes.specs.Sizes.{DECLARATIONS}

-- an array that is blank past its count
abbrev pub BlankPast : ℕ → List Declaration → Type 0
BlankPast count ds = ds ≡ padded DECLARATIONS blank_declaration (take count ds)

-- the declarations below the count, then those for the ports, then blanks
abbrev pub appended : ℕ → ℕ → Bool → List Declaration → List Port → List Declaration
appended count owner provides ds ports = padded DECLARATIONS blank_declaration (take count ds ++ map (declaration_of owner provides) ports)

-- a list repeats a port, or one that is here provides a listed provision
unfoldable pub clash : (ℕ → Bool) → List Declaration → List Port → List Port → Bool
clash here ds wanted offered = not ((distinct offered && not (any (λ p. any (offers here p) ds) offered)) && distinct wanted)

-- a kernel with the declarations that pass a test, and blanks behind them
abbrev pub declarations_kept : (Declaration → Bool) → Kernel → Kernel
declarations_kept p k = record { nodes = k.nodes; node_count = k.node_count; declarations = compacted p blank_declaration k.declaration_count k.declarations; declaration_count = length (keep p (take k.declaration_count k.declarations)); links = k.links; link_count = k.link_count }
