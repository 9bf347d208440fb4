-- Lists under a Boolean test: what the definitions are made of.
use Rattle.std.specs.Prelude.{Bool, ◌&&◌, ◌||◌, cond, false, not, true, List, [], ◌++◌, ◌∷◌, ◌-◌, suc, ℕ, length, replicate}
use Rattle.std.proofs.Math.Option.{Option, none, some}
-- every entry; some entry; the entries that pass, in order: the standard library's
pub use Rattle.std.specs.List.{list_all as all, list_any as any, filter as keep}

infixr 29 ◌⇒◌
-- the second, where the first
abbrev pub ◌⇒◌ : Bool → Bool → Bool
a ⇒ b = not a || b

-- b and each of the tests after it
abbrev pub and_each : Bool → List Bool → Bool
and_each b [] = b
and_each b (c ∷ cs) = and_each (b && c) cs

-- each of a list of tests
abbrev pub conj : List Bool → Bool
conj [] = true
conj (b ∷ bs) = and_each b bs

abbrev pub is_none : {A : Type 0} → Option A → Bool
is_none none = true
is_none (some a) = false

module _ {A : Type 0} where
  -- the first entry that passes
  unfoldable pub find : (A → Bool) → List A → Option A
  find p [] = none
  find p (x ∷ xs) = cond (p x) (some x) (find p xs)

  -- the first entry that passes, with its place, counted from i
  unfoldable pub find_at : (A → Bool) → ℕ → List A → Option (ℕ × A)
  find_at p i [] = none
  find_at p i (x ∷ xs) = cond (p x) (some (i, x)) (find_at p (suc i) xs)

  -- every entry with its place, counted from i
  unfoldable pub all_at : (ℕ → A → Bool) → ℕ → List A → Bool
  all_at f i [] = true
  all_at f i (x ∷ xs) = f i x && all_at f (suc i) xs

  -- the places, counted from i, of the entries that pass
  unfoldable pub places : (A → Bool) → ℕ → List A → List ℕ
  places p i [] = []
  places p i (x ∷ xs) = cond (p x) (i ∷ places p (suc i) xs) (places p (suc i) xs)

  -- every entry with itself and with each later one
  unfoldable pub onward : (A → A → Bool) → List A → Bool
  onward f [] = true
  onward f (x ∷ xs) = all (f x) (x ∷ xs) && onward f xs

  -- an array of n places: the entries, then blanks
  unfoldable pub padded : ℕ → A → List A → List A
  padded n d xs = xs ++ replicate (n - length xs) d
