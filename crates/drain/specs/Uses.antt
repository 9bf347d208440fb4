-- The live links: counted by provider, those whose consumer waits; and chained by consumer. In a chain c stands for link c - 1, and 0 for none.
use Rattle.std.specs.Prelude.{◌≡◌, Bool, ◌&&◌, cond, false, List, ◌+◌, ◌<◌, ◌≤◌, ℕ, ltb, get_or, length, set}
use Rattle.drain.specs.declared.uses.Uses.{Uses}
use Rattle.drain.specs.Order.{uses}
use Rattle.loops.specs.Chains.{latest}
use Rattle.model.specs.declared.records.Link.{Link}
use Rattle.model.specs.Lists.{keep}
use Rattle.model.specs.Records.{blank_link, consumer_in, provider_in}
use Rattle.sizes.specs.Sizes.{IDENTITIES, LINKS}

-- ---- counted by provider

abbrev pub Counted : List Bool → List Link → List ℕ → Type 0
Counted waiting ls relied = (p : ℕ) → p < IDENTITIES → get_or relied p 0 ≡ length (keep (uses waiting p) ls)

-- ---- chained by consumer

-- a live link from one identity to another
abbrev pub is_use : Link → Bool
is_use l = l.live && ltb (consumer_in l) IDENTITIES && ltb (provider_in l) IDENTITIES

-- in whose chain a link stands: its consumer's, or that of no identity
unfoldable pub chain_of : List Link → ℕ → ℕ
chain_of ls i = let l = get_or ls i blank_link in cond (is_use l) (consumer_in l) IDENTITIES

pub record Chains (ls : List Link) (first next : List ℕ) : Type 0 where
  pub starts : (c : ℕ) → c < IDENTITIES → get_or first c 0 ≡ latest (chain_of ls) c (length ls)
  pub leads : (i : ℕ) → i < length ls → chain_of ls i < IDENTITIES → get_or next i 0 ≡ latest (chain_of ls) (chain_of ls i) i

-- ---- both, of links that the arrays hold

pub record Tracks (ls : List Link) (u : Uses) : Type 0 where
  pub fits : length ls ≤ LINKS
  pub size : length u.waiting ≡ IDENTITIES
  pub relied_size : length u.relied ≡ IDENTITIES
  pub counted : Counted u.waiting ls u.relied
  pub chains : Chains ls u.first u.next

-- one component waits no more; below r none became free that was not
pub record Freed (ls : List Link) (u v : Uses) (id r : ℕ) : Type 0 where
  pub tracks : Tracks ls v
  pub waiting : v.waiting ≡ set u.waiting id false
  pub next : r ≤ id + 1
  pub none_below : (j : ℕ) → j < r → get_or v.relied j 0 ≡ 0 → get_or u.relied j 0 ≡ 0
