-- A row of names, and a word as a number.
use Rattle.std.specs.Prelude.{ℕ, suc, ◌+◌, ◌-◌, ◌*◌, Bool, cond, ◌&&◌, ltb, List, [], ◌∷◌, length, ◌==◌, nat_lt}
use Rattle.model.specs.Lists.{all}

-- how many names a row has, a space after each
unfoldable pub names_in : List ℕ → ℕ
names_in [] = 0
names_in (byte ∷ bytes) = cond (byte == 32) (suc (names_in bytes)) (names_in bytes)

-- the largest number of eight bytes
abbrev pub most : ℕ
most = 18446744073709551615

-- the value of a digit, 10 of another byte
abbrev pub digit_of : ℕ → ℕ
digit_of byte = cond (nat_lt byte 48) 10 (cond (nat_lt 57 byte) 10 (byte - 48))

-- a number with these digits after it
unfoldable pub with_digits : ℕ → List ℕ → ℕ
with_digits n [] = n
with_digits n (byte ∷ bytes) = with_digits (n * 10 + digit_of byte) bytes

-- digits alone, and at least one
abbrev pub is_number : List ℕ → Bool
is_number word = nat_lt 0 (length word) && all (λ byte. ltb (digit_of byte) 10) word
