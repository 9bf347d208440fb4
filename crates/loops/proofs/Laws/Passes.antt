-- One pass that asks two or three things of each entry asks each of every entry; what is asked of a node, by its parent; and a loop that asks it.
use Rattle.model.proofs.Logic.{Bool, List, [], ◌&&◌, ◌+◌, ◌<◌, ◌∙◌, ◌∷◌, ◌≡◌, ◌≤◌, add-one, and-true, ap, drop, false, get_or, length, ltb, not, refl, suc, sym, true, ℕ}
use Rattle.model.specs.{Lists.◌⇒◌, Lists.all, Lists.all_at, Records.is_consistent, Records.parent_in, Soundness.absent_ok, Soundness.node_ok, Soundness.parent_ok, Soundness.smaller, Tables.present, declared.Parent.Parent, declared.records.Node.Node}
use Rattle.loops.proofs.{Laws.Scan.rest-done, Laws.Scan.rest-next}
use Rattle.loops.specs.{Passes.node_passes, Passes.parent_passes}

regroup : (a b c d : Bool) → (a && b) && (c && d) ≡ (a && c) && (b && d)
regroup false b c d = refl
regroup true true true d = refl
regroup true true false d = refl
regroup true false true d = refl
regroup true false false d = refl

pub all_both : {A : Type 0} (p q r : A → Bool) → ((x : A) → r x ≡ p x && q x) → (xs : List A) → all r xs ≡ all p xs && all q xs
all_both p q r h [] = refl
all_both p q r h (x ∷ xs) = rw (h x, all_both p q r h xs) (regroup (p x) (q x) (all p xs) (all q xs))

pub all_three : {A : Type 0} (p q r : A → Bool) (xs : List A) → all (λ x. p x && q x && r x) xs ≡ all p xs && all q xs && all r xs
all_three p q r xs = all_both (λ x. p x && q x) r _ (λ x. refl) xs ∙ ap (λ (b : Bool). b && all r xs) (all_both p q _ (λ x. refl) xs)

pub all_at-both : {A : Type 0} (p q : ℕ → A → Bool) (i : ℕ) (xs : List A) → all_at (λ j x. p j x && q j x) i xs ≡ all_at p i xs && all_at q i xs
unfolding all_at
all_at-both p q i [] = refl
all_at-both p q i (x ∷ xs) = rw (all_at-both p q (suc i) xs) (regroup (p i x) (q i x) (all_at p (suc i) xs) (all_at q (suc i) xs))

-- ---- a node

-- its two points ask one thing of its parent
pub node_asks : (ns : List Node) (i : ℕ) (n : Node) → node_passes ns i n ≡ is_consistent n && parent_passes ns i n.present (parent_in n)
unfolding node_ok absent_ok parent_ok
node_asks ns i n = go (is_consistent n) n.present (parent_in n)
  where
    go : (c b : Bool) (q : Parent) → (c && (b ⇒ parent_ok ns i q)) && (not b ⇒ smaller i q) ≡ c && parent_passes ns i b q
    go false b q = refl
    go true true Parent.None = refl
    go true false Parent.None = refl
    go true true (Parent.Of p) = and-true (ltb p i && present ns p)
    go true false (Parent.Of p) = sym (and-true (ltb p i))

-- ---- a loop over the entries with their places: what is left answers as the whole does

module _ {A : Type 0} (f : ℕ → A → Bool) (xs : List A) (i : ℕ) where
  pub all_at_next : (d : A) → i < length xs → f i (get_or xs i d) ≡ true → all_at f (i + 1) (drop (i + 1) xs) ≡ all_at f i (drop i xs)
  unfolding all_at
  all_at_next d l t = rw (rest-next d i xs l, add-one i, all_at, t)

  pub all_at_hit : (d : A) → i < length xs → f i (get_or xs i d) ≡ false → all_at f i (drop i xs) ≡ false
  unfolding all_at
  all_at_hit d l t = rw (rest-next d i xs l, all_at, t)

  pub all_at_end : length xs ≤ i → all_at f i (drop i xs) ≡ true
  unfolding all_at
  all_at_end l = rw (rest-done i xs l, all_at)
