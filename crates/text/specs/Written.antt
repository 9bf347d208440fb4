-- Text in a buffer: a number's digits, and bytes written from a place on, of which those past the end are left out.
use Rattle.std.specs.Prelude.{◌≡◌, ℕ, zero, suc, ◌+◌, ◌/◌, ◌%◌, min, cond, List, [], ◌∷◌, ◌++◌, length, take, drop, nat_lt}

-- a digit's byte
abbrev pub digit_byte : ℕ → ℕ
digit_byte d = 48 + d

-- the decimal digits of a number that has at most this many
unfoldable pub digits_of : ℕ → ℕ → List ℕ
digits_of zero n = []
digits_of (suc most) n = cond (nat_lt n 10) (digit_byte n ∷ []) (digits_of most (n / 10) ++ (digit_byte (n % 10) ∷ []))

-- a number of eight bytes has at most twenty
abbrev pub decimal : ℕ → List ℕ
decimal n = digits_of 20 n

-- bytes at the front of a buffer, as many as fit; the rest of the buffer stays
abbrev pub written : List ℕ → List ℕ → List ℕ
written bytes out = take (length out) bytes ++ drop (length bytes) out

-- and from a place on
abbrev pub written_at : ℕ → List ℕ → List ℕ → List ℕ
written_at at bytes out = take at out ++ written bytes (drop at out)

-- what a function that writes these bytes promises: the buffer, and the place behind them
abbrev pub Puts : List ℕ → List ℕ → ℕ → List ℕ → ℕ → Type 0
Puts bytes out at out' at' = (out' ≡ written_at at bytes out) × (at' ≡ min (at + length bytes) (length out))
