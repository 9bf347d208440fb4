-- The fixed sizes of the rules: of a kernel's tables, of an operand list, of a generation.
use Rattle.std.specs.Prelude.{ℕ}

-- how many nodes, declarations and links a kernel holds
pub record Sizes : Type 0 where
  pub identities : ℕ
  pub declarations : ℕ
  pub links : ℕ

-- the kernel of the rules
abbrev pub controller : Sizes
controller = record { identities = 64; declarations = 256; links = 512 }

-- the longest port list, the same for every kernel
abbrev pub list_limit : ℕ
list_limit = 32

-- the largest generation, 2^64 - 1
abbrev pub last_generation : ℕ
last_generation = 18446744073709551615
