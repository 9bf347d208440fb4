-- The drain's key fact: of the installed components, if there is one, one is no live link's provider. So it can be cleaned, if they are all Unloading and not restoring.
use Rattle.model.proofs.Logic.{List, List-as-Memᴰ, List·Memᴰ·cases-cons, List·Memᴰ·head, List·Memᴰ·tail, [], ◌||◌, ◌∷◌, ◌≡◌, ◌⊎◌, eqb-true, false, inl, inr, or-false, refl, true, ℕ}
use Rattle.model.specs.{Lifecycle.begin_cleanup_tests, Lifecycle.relies, Lists.all, Lists.any, Lists.onward, Records.consumer_in, Records.is_live, Records.is_unloading, Records.provider_in, Sizes.Sizes, Soundness.apart, Soundness.ordered, Soundness.sound, Tables.Tables, Tables.installed, Tables.node_at, Tables.present, declared.records.Link.Link, declared.records.Node.Node}
use Rattle.model.proofs.{Laws.Booleans.and_i, Laws.Booleans.and_l, Laws.Booleans.and_r, Laws.Booleans.cases, Laws.Booleans.clash, Laws.Facts.Safe, Laws.Facts.facts, Laws.Lists.all_in, Laws.Lists.any-in, Laws.Lists.none_in, Laws.Order.of_apart, Laws.Refusals.Passed}

-- no live link has this provider
abbrev pub Free : List Link → ℕ → Type 0
Free ls id = (l : Link) → List-as-Memᴰ l ls → l.live ≡ true → provider_in l ≡ id → ⊥

-- the last live link: no live link's provider is its consumer
record Last (ls : List Link) : Type 0 where
  link : Link
  among : List-as-Memᴰ link ls
  is_live : link.live ≡ true
  free : Free ls (consumer_in link)

last-live : (ls : List Link) → ordered ls ≡ true → any is_live ls ≡ true → Last ls
unfolding onward
last-live [] h v = clash false v refl
last-live (l ∷ ls) h v = go (cases (any is_live ls)) (λ x. last-live ls (and_r (all (apart l) (l ∷ ls)) (ordered ls) h) x)
  where
    now : (m : Link) → List-as-Memᴰ m (l ∷ ls) → apart l m ≡ true
    now m n = all_in (apart l) n (and_l (all (apart l) (l ∷ ls)) (ordered ls) h)

    later : (t : Last ls) → (m : Link) → (m ≡ l) ⊎ List-as-Memᴰ m ls → m.live ≡ true → provider_in m ≡ consumer_in t.link → ⊥
    later t m (inl e) x y = of_apart l t.link (now t.link (List·Memᴰ·tail t.among)) (rw e at x) t.is_live (rw e at y)
    later t m (inr n) x y = t.free m n x y

    only : any is_live ls ≡ false → (m : Link) → (m ≡ l) ⊎ List-as-Memᴰ m ls → m.live ≡ true → provider_in m ≡ consumer_in l → ⊥
    only z m (inl e) x y = of_apart l l (now l (List·Memᴰ·head refl)) (rw e at x) (rw e at x) (rw e at y)
    only z m (inr n) x y = clash {A = ⊥} _ x (none_in is_live n z)

    here : l.live || any is_live ls ≡ true
    here = v

    go : (any is_live ls ≡ true) ⊎ (any is_live ls ≡ false) → (any is_live ls ≡ true → Last ls) → Last (l ∷ ls)
    go (inl x) f = let t : Last ls = f x in record { link = t.link; among = List·Memᴰ·tail t.among; is_live = t.is_live; free = λ m n. later t m (List·Memᴰ·cases-cons n) }
    go (inr x) f = record { link = l; among = List·Memᴰ·head refl; is_live = rw (x, or-false l.live) at here; free = λ m n. only x m (List·Memᴰ·cases-cons n) }

-- every installed component is Unloading and not restoring
abbrev pub Readied : List Node → Type 0
Readied ns = (i : ℕ) → installed ns i ≡ true → (is_unloading (node_at ns i).phase ≡ true) × ((node_at ns i).restoring ≡ false)

module _ (S : Sizes) (T : Tables) (h : sound S T ≡ true) where
  -- the consumer of the last live link; any installed component, if no link is live
  pub one_free : (i : ℕ) → installed T.nodes i ≡ true → (j : ℕ) × (installed T.nodes j ≡ true) × Free T.links j
  one_free i x = go (cases (any is_live T.links))
    where
      k : Safe T
      k = (facts S T h).safe

      go : (any is_live T.links ≡ true) ⊎ (any is_live T.links ≡ false) → (j : ℕ) × (installed T.nodes j ≡ true) × Free T.links j
      go (inl e) =
          let t : Last T.links = last-live T.links k.order e in
          let o = k.live t.link t.among t.is_live in
          let c = consumer_in t.link in
          (c, and_i (present T.nodes c) _ o.consumer-present o.consumer-installed, t.free)
      go (inr e) = (i, x, λ m n v y. clash {A = ⊥} _ v (none_in is_live n e))

  unrelied : (j : ℕ) → Free T.links j → any (relies j) T.links ≡ false
  unfolding relies
  unrelied j g = go (cases (any (relies j) T.links))
    where
      go : (any (relies j) T.links ≡ true) ⊎ (any (relies j) T.links ≡ false) → any (relies j) T.links ≡ false
      go (inl e) = let (m, n, y) = any-in (relies j) T.links e in absurd (g m n (and_l m.live _ y) (eqb-true _ _ (and_r m.live _ y)))
      go (inr e) = e

  -- so one can be cleaned, if there is one
  pub one_cleanable : Readied T.nodes → (i : ℕ) → installed T.nodes i ≡ true → (j : ℕ) × Passed (begin_cleanup_tests T j)
  one_cleanable q i x =
      let (j, y, g) = one_free i x in
      let p : present T.nodes j ≡ true = and_l (present T.nodes j) _ y in
      (j, (rw p, (rw ((q j y).0, (q j y).1), (unrelied j g, tt))))
