-- Compaction within a table, over any record, test of what is kept, and blank: the scan after its first i records, freed places blanked, and what is left.
use Rattle.std.specs.Prelude.{Bool, cond, List, [], ◌++◌, ◌∷◌, ◌+◌, suc, zero, ℕ, ltb, drop, get_or, length, set, take}
use Rattle.model.specs.Lists.{keep, padded}

-- the table; how many records were kept, which is the first place not filled; the places that records were moved from and stored to, in the order of the stores
pub record Scan (A : Type 0) : Type 0 where
  pub table : List A
  pub kept : ℕ
  pub sources : List ℕ
  pub written : List ℕ

-- record x of place i is stored at the first place not filled
abbrev pub moved : {A : Type 0} → ℕ → A → Scan A → Scan A
moved i x s = record { table = set s.table s.kept x; kept = suc s.kept; sources = s.sources ++ (i ∷ []); written = s.written ++ (s.kept ∷ []) }

-- the record at the first place not filled stays there
abbrev pub stayed : {A : Type 0} → Scan A → Scan A
stayed s = record { table = s.table; kept = suc s.kept; sources = s.sources; written = s.written }

module _ {A : Type 0} (p : A → Bool) (d : A) where
  -- the record at place i is read: one that passes is kept, and moved if a record was dropped before it
  unfoldable pub turn : ℕ → Scan A → Scan A
  turn i s = cond (p (get_or s.table i d)) (cond (ltb s.kept i) (moved i (get_or s.table i d) s) (stayed s)) s

  -- the first i records of a table were read
  unfoldable pub scanned : List A → ℕ → Scan A
  scanned xs zero = record { table = xs; kept = 0; sources = []; written = [] }
  scanned xs (suc i) = turn i (scanned xs i)

  -- the table in the end: of the records below the count those that pass, in order, then blanks; past the count as it was
  unfoldable pub compacted : ℕ → List A → List A
  compacted count xs = padded (length (take count xs)) d (keep p (take count xs)) ++ drop count xs

  -- what is made of the table in the end and of how many records were kept
  abbrev pub compaction : {R : Type 0} → (List A → ℕ → R) → ℕ → List A → R
  compaction make count xs = make (compacted count xs) (length (keep p (take count xs)))

-- m places from place n on were blanked, one by one
unfoldable pub blanked : {A : Type 0} → A → ℕ → ℕ → List A → List A
blanked d n zero xs = xs
blanked d n (suc m) xs = set (blanked d n m xs) (n + m) d

-- how many records stand before the first that does not pass
unfoldable pub front : {A : Type 0} → (A → Bool) → List A → ℕ
front p [] = 0
front p (x ∷ xs) = cond (p x) (suc (front p xs)) 0

-- m places from place n on
unfoldable pub interval : ℕ → ℕ → List ℕ
interval n zero = []
interval n (suc m) = n ∷ interval (suc n) m
