-- The order of live links, kept by what a command does to the link table.
use Rattle.model.proofs.Logic.{Bool, List, List-as-Memᴰ, List·Memᴰ·append-cases, List·Memᴰ·head, List·Memᴰ·tail, [], ◌&&◌, ◌++◌, ◌∷◌, ◌≡◌, ◌⊎◌, cond, eq-eqb, eqb, eqb-true, false, inl, inr, map, not, refl, true}
use Rattle.model.specs.{Lists.all, Lists.keep, Lists.onward, Records.consumer_in, Records.provider_in, Soundness.apart, Soundness.ordered, declared.records.Link.Link}
use Rattle.model.proofs.{Laws.Booleans.and_i, Laws.Booleans.and_l, Laws.Booleans.and_r, Laws.Booleans.clash, Laws.Booleans.not_t, Laws.Lists.all_in, Laws.Lists.all_keep, Laws.Lists.in_all, Laws.Lists.in_map}

pub apart_of : (l m : Link) → (l.live ≡ true → m.live ≡ true → provider_in l ≡ consumer_in m → ⊥) → apart l m ≡ true
unfolding apart
apart_of l m f = go _ refl
  where
    go : (b : Bool) → l.live && m.live && eqb (provider_in l) (consumer_in m) ≡ b → not b ≡ true
    go true e = let a : l.live && m.live ≡ true = and_l (l.live && m.live) _ e in absurd (f (and_l l.live m.live a) (and_r l.live m.live a) (eqb-true _ _ (and_r (l.live && m.live) _ e)))
    go false e = refl

pub of_apart : (l m : Link) → apart l m ≡ true → l.live ≡ true → m.live ≡ true → provider_in l ≡ consumer_in m → ⊥
unfolding apart
of_apart l m h a b e = clash {A = ⊥} _ (and_i (l.live && m.live) _ (and_i l.live m.live a b) (eq-eqb _ _ e)) (not_t _ h)

-- any two, in either order
pub ordered-all : (ls : List Link) → ((l m : Link) → List-as-Memᴰ l ls → List-as-Memᴰ m ls → apart l m ≡ true) → ordered ls ≡ true
unfolding onward
ordered-all [] f = refl
ordered-all (l ∷ ls) f = and_i (all (apart l) (l ∷ ls)) (ordered ls) (in_all (apart l) (l ∷ ls) (λ m n. f l m (List·Memᴰ·head refl) n)) (ordered-all ls (λ a b m n. f a b (List·Memᴰ·tail m) (List·Memᴰ·tail n)))

pub ordered-append : (ls ms : List Link) → ordered ls ≡ true → ordered ms ≡ true → ((l m : Link) → List-as-Memᴰ l ls → List-as-Memᴰ m ms → apart l m ≡ true) → ordered (ls ++ ms) ≡ true
unfolding onward
ordered-append [] ms p q f = q
ordered-append (l ∷ ls) ms p q f =
    let rest = ordered-append ls ms (and_r (all (apart l) (l ∷ ls)) (ordered ls) p) q (λ a b m n. f a b (List·Memᴰ·tail m) n) in
    and_i (all (apart l) (l ∷ (ls ++ ms))) (ordered (ls ++ ms)) (in_all (apart l) (l ∷ (ls ++ ms)) (λ m n. go m (List·Memᴰ·append-cases (l ∷ ls) n))) rest
  where
    go : (m : Link) → List-as-Memᴰ m (l ∷ ls) ⊎ List-as-Memᴰ m ms → apart l m ≡ true
    go m (inl n) = all_in (apart l) n (and_l (all (apart l) (l ∷ ls)) (ordered ls) p)
    go m (inr n) = f l m (List·Memᴰ·head refl) n

-- a change that leaves consumer and provider, and makes no link live
pub ordered-map : (f : Link → Link) → ((l m : Link) → apart l m ≡ true → apart (f l) (f m) ≡ true) → (ls : List Link) → ordered ls ≡ true → ordered (map f ls) ≡ true
unfolding onward
ordered-map f g [] h = refl
ordered-map f g (l ∷ ls) h =
    let before = and_l (all (apart l) (l ∷ ls)) (ordered ls) h in
    let now = in_all (apart (f l)) (map f (l ∷ ls)) (λ m n. let (a, b, e) = in_map f (l ∷ ls) n in rw e (g l a (all_in (apart l) b before))) in
    and_i (all (apart (f l)) (f l ∷ map f ls)) (ordered (map f ls)) now (ordered-map f g ls (and_r (all (apart l) (l ∷ ls)) (ordered ls) h))

-- some of the links
pub ordered-keep : (p : Link → Bool) (ls : List Link) → ordered ls ≡ true → ordered (keep p ls) ≡ true
unfolding onward
ordered-keep p [] h = refl
ordered-keep p (l ∷ ls) h = go (p l) (ordered-keep p ls (and_r (all (apart l) (l ∷ ls)) (ordered ls) h))
  where
    now : all (apart l) (l ∷ ls) ≡ true
    now = and_l (all (apart l) (l ∷ ls)) (ordered ls) h

    go : (b : Bool) → ordered (keep p ls) ≡ true → ordered (cond b (l ∷ keep p ls) (keep p ls)) ≡ true
    go true ih = and_i _ _ (and_i (apart l l) (all (apart l) (keep p ls)) (and_l (apart l l) (all (apart l) ls) now) (all_keep p (apart l) ls (and_r (apart l l) (all (apart l) ls) now))) ih
    go false ih = ih
