-- What tests say: conjunctions, negations, implications, and lists of tests by place.
use Rattle.model.proofs.Logic.{Bool, List, [], ◌&&◌, ◌||◌, ◌∙◌, ◌∷◌, ◌≡◌, ◌⊎◌, false, inl, inr, not, refl, sym, true, true≢false}
use Rattle.model.specs.{Lists.◌⇒◌, Lists.and_each, Lists.conj}

pub and_l : (a b : Bool) → a && b ≡ true → a ≡ true
and_l true b h = refl
and_l false b h = h

pub and_r : (a b : Bool) → a && b ≡ true → b ≡ true
and_r true b h = h
and_r false b h = absurd (true≢false (sym h))

pub and_i : (a b : Bool) → a ≡ true → b ≡ true → a && b ≡ true
and_i a b p q = rw (p, q)

pub or_f_l : (a b : Bool) → a || b ≡ false → a ≡ false
or_f_l true b h = h
or_f_l false b h = refl

pub or_f_r : (a b : Bool) → a || b ≡ false → b ≡ false
or_f_r true b h = absurd (true≢false h)
or_f_r false b h = h

pub not_t : (a : Bool) → not a ≡ true → a ≡ false
not_t true h = sym h
not_t false h = refl

pub not_f : (a : Bool) → not a ≡ false → a ≡ true
not_f true h = refl
not_f false h = sym h

pub f_not : (a : Bool) → a ≡ false → not a ≡ true
f_not a h = rw h

pub clash : {A : Type 0} (a : Bool) → a ≡ true → a ≡ false → A
clash a p q = absurd (true≢false (sym p ∙ q))

-- each Boolean is one of two
pub cases : (a : Bool) → (a ≡ true) ⊎ (a ≡ false)
cases true = inl refl
cases false = inr refl

pub imp_e : (a b : Bool) → (a ⇒ b) ≡ true → a ≡ true → b ≡ true
imp_e true b h p = h
imp_e false b h p = absurd (true≢false (sym p))

pub imp_i : (a b : Bool) → (a ≡ true → b ≡ true) → (a ⇒ b) ≡ true
imp_i true b f = f refl
imp_i false b f = refl

abbrev pub Each : List Bool → Type 0
Each [] = Unit {0}
Each (b ∷ bs) = (b ≡ true) × Each bs

each_and : (b : Bool) (bs : List Bool) → and_each b bs ≡ true → (b ≡ true) × Each bs
each_and b [] h = (h, tt)
each_and b (c ∷ cs) h = let (x, y) = each_and (b && c) cs h in (and_l b c x, (and_r b c x, y))

-- what a list of tests says, by place
pub each : (bs : List Bool) → conj bs ≡ true → Each bs
each [] h = tt
each (b ∷ bs) h = each_and b bs h

and_each_lem : (b : Bool) (bs : List Bool) → b ≡ true → Each bs → and_each b bs ≡ true
and_each_lem b [] h e = h
and_each_lem b (c ∷ cs) h e = and_each_lem (b && c) cs (and_i b c h e.0) e.1

pub of_each : (bs : List Bool) → Each bs → conj bs ≡ true
of_each [] h = refl
of_each (b ∷ bs) h = and_each_lem b bs h.0 h.1

pub both-or : (a b : Bool) → not a || b ≡ true → a && not b ≡ false
both-or true b h = rw h
both-or false b h = refl

-- ---- a test that says what two say

pub record Both (r a b : Bool) : Type 0 where
  pub says : r ≡ a && b

pub both-not : (a b : Bool) → Both (not (a || b)) (not a) (not b)
both-not true b = record { says = refl }
both-not false b = record { says = refl }

and_swap : (a b c d : Bool) → (a && b) && (c && d) ≡ (a && c) && (b && d)
and_swap true true c d = refl
and_swap true false true d = refl
and_swap true false false d = refl
and_swap false b c d = refl

pub both-and : {r t a b c d : Bool} → Both r a b → Both t c d → Both (r && t) (a && c) (b && d)
both-and {a} {b} {c} {d} h k = record { says = rw (h.says, k.says) (and_swap a b c d) }
