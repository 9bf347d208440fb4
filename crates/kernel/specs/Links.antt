-- The links that begin appends.
use Rattle.std.specs.Prelude.{List, ◌++◌, ◌≡◌, ◌<◌, get_or, length, map, take, ℕ}
use Rattle.model.specs.{Lifecycle.begun_link, Lists.padded, Records.blank_binding, Records.blank_link, declared.Binding.Binding, declared.records.Link.Link, declared.records.Node.Node}
use Rattle.sizes.specs.Sizes.{IDENTITIES, LINKS}

-- the links below the count and behind them the live links of these bindings, with the generations of these nodes
abbrev pub linked_to : List Node → ℕ → ℕ → List Link → List Binding → List Link
linked_to ns id count ls bs = padded LINKS blank_link (take count ls ++ map (begun_link ns id) bs)

-- each provider is an identity within the size
abbrev pub ProvidersWithin : List Binding → Type 0
ProvidersWithin bs = (i : ℕ) → i < length bs → (get_or bs i blank_binding).provider < IDENTITIES

-- an array that is blank past its count
abbrev pub LinksBlankPast : ℕ → List Link → Type 0
LinksBlankPast count ls = ls ≡ padded LINKS blank_link (take count ls)
