-- How many nodes, declarations and links a kernel holds: the contracts' side of src/lib.rt.
use Rattle.std.specs.Prelude.{◌*◌, ℕ}
use Rattle.model.specs.Sizes.{Sizes, controller}

abbrev pub sizes : Sizes
sizes = controller

abbrev pub IDENTITIES : ℕ
IDENTITIES = sizes.identities

abbrev pub DECLARATIONS : ℕ
DECLARATIONS = sizes.declarations

abbrev pub LINKS : ℕ
LINKS = sizes.links

-- the longest drain: three commands for each identity
abbrev pub STEPS : ℕ
STEPS = 3 * IDENTITIES
