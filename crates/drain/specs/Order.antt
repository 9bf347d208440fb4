-- The order of cleaning, told from a column of what waits and the links as they stand at first. On sound tables it is `cleaned_in` (proofs/Laws/Tables.antt).
use Rattle.std.specs.Prelude.{Bool, ◌&&◌, false, not, List, [], ◌∷◌, suc, zero, ℕ, eqb, get_or, length, set}
use Rattle.std.proofs.Math.Option.{Option, none, some}
use Rattle.model.specs.declared.records.Link.{Link}
use Rattle.model.specs.Drain.{lowest}
use Rattle.model.specs.Lists.{any, keep}
use Rattle.model.specs.Records.{consumer_in, provider_in}

abbrev pub waits : List Bool → ℕ → Bool
waits waiting id = get_or waiting id false

-- a live link with this provider, of a consumer that waits
unfoldable pub uses : List Bool → ℕ → Link → Bool
uses waiting p l = l.live && waits waiting (consumer_in l) && eqb (provider_in l) p

-- it waits, and none that waits relies on it
unfoldable pub ready : List Bool → List Link → ℕ → Bool
ready waiting ls id = waits waiting id && not (any (uses waiting id) ls)

-- how many wait
abbrev pub held : List Bool → ℕ
held waiting = length (keep (λ b. b) waiting)

abbrev pub next_ready : List Bool → List Link → Option ℕ
next_ready waiting ls = lowest (ready waiting ls) (length waiting) 0

-- again and again the lowest that is ready, which then waits no more
unfoldable pub order_from : ℕ → List Bool → List Link → List ℕ
order_from zero waiting ls = []
order_from (suc n) waiting ls = elim (next_ready waiting ls) [ none ↦ [] | some id ↦ id ∷ order_from n (set waiting id false) ls ]

abbrev pub order_of : List Bool → List Link → List ℕ
order_of waiting ls = order_from (held waiting) waiting ls
