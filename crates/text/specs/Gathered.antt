-- Output that is gathered in a buffer: when it is written before more is put.
use Rattle.std.specs.Prelude.{◌≡◌, ℕ, ◌-◌, ◌<◌, ◌≤◌, Bool, ◌&&◌, ◌||◌, cond, List, length, nat_lt, slice_index, ◌==◌}
use Rattle.text.specs.Written.{Puts}

-- over 60,000 bytes are gathered, and they end a line
abbrev pub is_full : List ℕ → ℕ → Bool
is_full out at = nat_lt 60000 at && (slice_index out (at - 1) == 10)

-- so many bytes are put behind what is gathered; from the start on where that is written first, since it is full or they have no room behind it
abbrev pub next_place : List ℕ → ℕ → ℕ → ℕ
next_place out at n = cond (is_full out at || nat_lt (length out - at) n) 0 at

-- bytes that are put whole; those for which the buffer is too short are written too, and then nothing is gathered
abbrev pub Gathers : List ℕ → List ℕ → ℕ → List ℕ → ℕ → Type 0
Gathers bytes out at out' at' = (length bytes ≤ length out → Puts bytes out (next_place out at (length bytes)) out' at') × (length out < length bytes → at' ≡ 0)
