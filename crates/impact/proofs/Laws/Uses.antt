-- The columns that one pass over the links makes: of each identity whether a live link of it passes a test. Once for every test.
use borrow.Author.Count.{below_more}
use Rattle.model.proofs.Logic.{Bool, List, ◌&&◌, ◌+◌, ◌<◌, ◌||◌, ◌∙◌, ◌≡◌, ◌≤◌, ◌⊎◌, add-one, ap, arith, eq-eqb, eqb, eqb-false, eqb-true, ext_get_or, false, get_or, get_or-replicate, get_or-set_other, get_or-set_same, inl, inr, length, length-replicate, length-set, ltb, ltb-false, ltb-true, ne_eqb, refl, replicate, set, suc, sym, take, take_all, true, ℕ}
use Rattle.model.specs.{Impact.linked, Impact.reliant_tests, Lists.conj, Records.blank_link, Records.blank_node, Records.consumer_in, Resolution.is_live_link_of, declared.records.Link.Link, declared.records.Node.Node}
use Rattle.model.proofs.{Laws.Booleans.and_l, Laws.Booleans.and_r, Laws.Booleans.cases}
use Rattle.loops.proofs.{Laws.Chains.any-more, Laws.Columns.length-rows, Laws.Columns.row_at}
use Rattle.impact.specs.{Uses.hit_of, Uses.linked_column, declared.links.Uses.Uses}
use Rattle.sizes.specs.{Sizes.IDENTITIES}

-- before link i: each identity's entry tells of the links before it
pub record Seen (p : Link → Bool) (ls : List Link) (i : ℕ) (col : List Bool) : Type 0 where
  pub full : length col ≡ IDENTITIES
  pub holds : (c : ℕ) → c < IDENTITIES → get_or col c false ≡ linked p (take i ls) c

pub seen_start : {p : Link → Bool} {ls : List Link} {col : List Bool} → col ≡ replicate IDENTITIES false → Seen p ls 0 col
unfolding linked
seen_start e = rw e record { full = length-replicate IDENTITIES false; holds = λ c l. get_or-replicate IDENTITIES c false false l }

module _ {p : Link → Bool} {ls : List Link} {i : ℕ} {col : List Bool} (h : Seen p ls i col) where
  abbrev link : Link
  link = get_or ls i blank_link

  -- one link more
  more : (c : ℕ) → i < length ls → linked p (take (suc i) ls) c ≡ (is_live_link_of c link && p link) || linked p (take i ls) c
  unfolding linked
  more c l = any-more (λ (m : Link). is_live_link_of c m && p m) ls i blank_link l

  -- of an identity that is not its consumer, or of a dead link, it tells nothing
  more_no : (c : ℕ) → i < length ls → link.live && eqb (consumer_in link) c ≡ false → linked p (take (suc i) ls) c ≡ linked p (take i ls) c
  unfolding is_live_link_of
  more_no c l t = more c l ∙ rw t

  more_yes : (c : ℕ) → i < length ls → link.live && eqb (consumer_in link) c ≡ true → linked p (take (suc i) ls) c ≡ p link || linked p (take i ls) c
  unfolding is_live_link_of
  more_yes c l t = more c l ∙ rw t

  -- a live link: its consumer's entry is written
  pub seen_live :
      {c : ℕ} {v : Bool} {col' : List Bool} → i < length ls → link.live && ltb c IDENTITIES ≡ true → c ≡ consumer_in link → col' ≡ set col c v → v ≡ get_or col c false || p link → Seen p ls (i + 1) col'
  seen_live {c} {v} l t e s w = rw (s, add-one i) record { full = length-set col c v ∙ h.full; holds = λ x lx. go x lx (cases (eqb x c)) }
    where
      lc : c < IDENTITIES
      lc = ltb-true c IDENTITIES (and_r link.live _ t)

      swap : (a b : Bool) → a || b ≡ b || a
      swap true true = refl
      swap true false = refl
      swap false true = refl
      swap false false = refl

      go : (x : ℕ) → x < IDENTITIES → (eqb x c ≡ true) ⊎ (eqb x c ≡ false) → get_or (set col c v) x false ≡ linked p (take (suc i) ls) x
      go x lx (inl q) =
          let g : x ≡ c = eqb-true x c q in
          let own : link.live && eqb (consumer_in link) x ≡ true = rw (and_l link.live _ t) (eq-eqb (consumer_in link) x (sym (g ∙ e))) in
          let old : get_or col c false ≡ linked p (take i ls) x = rw g (h.holds c lc) in
          rw g (get_or-set_same col c v false (omega (arith, h.full))) ∙ w ∙ swap (get_or col c false) (p link) ∙ ap (λ (b : Bool). p link || b) old ∙ sym (more_yes x l own)
      go x lx (inr q) =
          let g : (x ≡ c → ⊥) = eqb-false x c q in
          let other : link.live && eqb (consumer_in link) x ≡ false = rw (and_l link.live _ t) (ne_eqb (consumer_in link) x (λ z. g (sym (e ∙ z)))) in
          get_or-set_other col c x v false g ∙ h.holds x lx ∙ sym (more_no x l other)

  -- a dead link, or one whose consumer is no identity: the column stays
  pub seen_other : {c : ℕ} → i < length ls → c ≡ consumer_in link → link.live && ltb c IDENTITIES ≡ false → Seen p ls (i + 1) col
  seen_other {c} l e t = rw (add-one i) record { full = h.full; holds = λ x lx. h.holds x lx ∙ sym (more_no x l (other link.live t x lx)) }
    where
      other : (b : Bool) → b && ltb c IDENTITIES ≡ false → (x : ℕ) → x < IDENTITIES → b && eqb (consumer_in link) x ≡ false
      other true f x lx = ne_eqb (consumer_in link) x (λ z. omega (arith, ltb-false c IDENTITIES f))
      other false f x lx = refl

  -- all links read
  pub seen_end : length ls ≤ i → col ≡ linked_column p ls
  seen_end l = ext_get_or false col (linked_column p ls) (h.full ∙ sym (length-rows 0 IDENTITIES (linked p ls)))
      (λ c lc. h.holds c (omega (arith, h.full)) ∙ ap (λ (ms : List Link). linked p ms c) (take_all i ls l) ∙ sym (row_at IDENTITIES c (linked p ls) false (omega (arith, h.full))))

-- ---- the column of who is hit, filled up to place i

abbrev pub hit_at : List Node → Uses → ℕ → Bool
hit_at ns u j = conj (reliant_tests (get_or ns j blank_node) (get_or u.relying j false) (get_or u.unserved j false))

pub record Hitting (ns : List Node) (u : Uses) (i : ℕ) (hit : List Bool) : Type 0 where
  pub full : length hit ≡ IDENTITIES
  pub holds : (j : ℕ) → j < i → get_or hit j false ≡ hit_at ns u j

module _ {ns : List Node} {u : Uses} {i : ℕ} {hit : List Bool} (h : Hitting ns u i hit) where
  pub hit_next : {v : Bool} → i < IDENTITIES → v ≡ hit_at ns u i → Hitting ns u (i + 1) (set hit i v)
  hit_next {v} l e =
      let others = λ (j : ℕ) (k : j < i). get_or-set_other hit i j v false (omega arith) ∙ h.holds j k in
      record { full = length-set hit i v ∙ h.full; holds = below_more (λ j. get_or (set hit i v) j false ≡ hit_at ns u j) i others (get_or-set_same hit i v false (omega (arith, h.full)) ∙ e) }

  pub hit_end : IDENTITIES ≤ i → hit ≡ hit_of ns u
  hit_end l =
      let f = hit_at ns u in
      ext_get_or false hit (hit_of ns u) (h.full ∙ sym (length-rows 0 IDENTITIES f)) (λ j k. h.holds j (omega (arith, h.full)) ∙ sym (row_at IDENTITIES j f false (omega (arith, h.full))))
