-- Chains: the entries of a table by bucket, one of 64. An entry leads to the last one before it in its bucket; c stands for entry c - 1, and 0 for none.
use Rattle.std.specs.Prelude.{◌≡◌, cond, List, ◌%◌, ◌*◌, ◌+◌, ◌/◌, ◌<◌, ◌≤◌, suc, zero, ℕ, eqb, get_or, length}
use Rattle.model.specs.declared.records.Declaration.{Declaration}
use Rattle.model.specs.Records.{blank_declaration, declared_port, owner_in}

-- how many chains there are, the same for kernels of every size
abbrev pub BUCKETS : ℕ
BUCKETS = 64

-- the bucket of an owner and a port: residues of a prime, spread by a multiplication (Knuth), so that keys with a common factor other than that prime fall into many buckets
unfoldable pub bucket_of : ℕ → ℕ → ℕ → ℕ
bucket_of owner key realm = (owner % 64 * 5 + (key % 65521 + realm % 65521 * 7)) * 40503 % 65536 / 1024

-- the bucket of a declaration's port, whoever owns it; and of its owner and port
abbrev pub port_bucket : Declaration → ℕ
port_bucket d = bucket_of 0 (declared_port d).key (declared_port d).realm

abbrev pub owner_bucket : Declaration → ℕ
owner_bucket d = bucket_of (owner_in d) (declared_port d).key (declared_port d).realm

-- the last of the first n entries in bucket b
unfoldable pub latest : (ℕ → ℕ) → ℕ → ℕ → ℕ
latest bucket b zero = 0
latest bucket b (suc n) = cond (eqb (bucket n) b) (suc n) (latest bucket b n)

-- the bucket of entry k of a table
abbrev pub bucket_at : (Declaration → ℕ) → List Declaration → ℕ → ℕ
bucket_at bucket ds k = bucket (get_or ds k blank_declaration)

-- the first n declarations of a table are chained
pub record Chained (bucket : Declaration → ℕ) (ds : List Declaration) (n : ℕ) (first next : List ℕ) : Type 0 where
  pub fits : length ds ≤ length next
  pub buckets : length first ≡ BUCKETS
  pub starts : (b : ℕ) → b < BUCKETS → get_or first b 0 ≡ latest (bucket_at bucket ds) b n
  pub leads : (i : ℕ) → i < n → get_or next i 0 ≡ latest (bucket_at bucket ds) (bucket_at bucket ds i) i
