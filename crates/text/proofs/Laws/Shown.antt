-- Members written with a space between: the first, one more, all.
use Rattle.std.proofs.Common.{◌≡◌, ◌+◌, ◌-◌, ◌<◌, ◌≤◌, ◌++◌, ◌∷◌, ◌∙◌, [], List, Option, Some, None, ap, arith, drop, get_or, length, refl, suc, sym, take, ℕ}
use Rattle.std.proofs.Math.Seq.{take-suc}
use Rattle.std.proofs.Output.{then_text_assoc}
use Rattle.std.specs.Fmt.{option_append}
use Rattle.model.proofs.Logic.{add-one, append-nil, take_all}
use Rattle.text.specs.Shown.{list_text, spaced}

then_nothing : (o : Option (List ℕ)) → option_append o (Some []) ≡ o
then_nothing None = refl
then_nothing (Some a) = ap (λ (l : List ℕ). Some l) (append-nil a)

nothing_then : (o : Option (List ℕ)) → option_append (Some []) o ≡ o
nothing_then None = refl
nothing_then (Some a) = refl

spaced_more : {T : Type 0} (text : T → Option (List ℕ)) (xs : List T) (y : T) →
    spaced text (xs ++ (y ∷ [])) ≡ option_append (spaced text xs) (option_append (Some (32 ∷ [])) (text y))
spaced_more text [] y = then_nothing _ ∙ sym (nothing_then _)
spaced_more text (x ∷ xs) y = ap (option_append (option_append (Some (32 ∷ [])) (text x))) (spaced_more text xs y) ∙ sym (then_text_assoc _ _ _)

rest : {T : Type 0} (y : T) (xs : List T) → take (length (y ∷ xs) - 1) (drop 1 (y ∷ xs)) ≡ xs
rest y xs = let e : length (y ∷ xs) - 1 ≡ length xs = omega arith in rw (e, take_all (length xs) xs (omega arith))

module _ {T : Type 0} (text : T → Option (List ℕ)) where
  pub list_first : (xs : List T) (x : T) → 1 ≤ length xs → x ≡ get_or xs 0 x → list_text text (take 1 xs) ≡ text x
  list_first [] x l e = absurd (omega arith)
  list_first (y ∷ xs) x l e = then_nothing (text y) ∙ ap text (sym e)

  pub list_more : (xs : List T) (i : ℕ) (x : T) → i < length (take (length xs - 1) (drop 1 xs)) → x ≡ get_or (take (length xs - 1) (drop 1 xs)) i x →
      list_text text (take (i + 1 + 1) xs) ≡ option_append (list_text text (take (i + 1) xs)) (option_append (Some (32 ∷ [])) (text x))
  list_more [] i x l e = absurd (omega arith)
  list_more (y ∷ xs) i x l e = go (rw (rest y xs) at l) (rw (rest y xs) at e)
    where
      go : i < length xs → x ≡ get_or xs i x →
          list_text text (take (i + 1 + 1) (y ∷ xs)) ≡ option_append (list_text text (take (i + 1) (y ∷ xs))) (option_append (Some (32 ∷ [])) (text x))
      go m f =
          let s : take (suc i) xs ≡ take i xs ++ (x ∷ []) = take-suc xs i x m ∙ ap (λ (z : T). take i xs ++ (z ∷ [])) (sym f) in
          rw (add-one (i + 1), add-one i, s, spaced_more text (take i xs) x) (sym (then_text_assoc (text y) _ _))

  pub list_whole : (xs : List T) (i : ℕ) → length (take (length xs - 1) (drop 1 xs)) ≤ i → list_text text (take (i + 1) xs) ≡ list_text text xs
  list_whole [] i l = rw (add-one i) refl
  list_whole (y ∷ xs) i l = rw (add-one i, take_all i xs (rw (rest y xs) at l)) refl
