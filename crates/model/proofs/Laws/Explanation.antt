-- A row's explanation at a test that applies; and where something is named, the test applies.
use Rattle.std.specs.Prelude.{Err}
use Rattle.model.proofs.Logic.{Bool, List, [], ◌&&◌, ◌++◌, ◌||◌, ◌∙◌, ◌∷◌, ◌≡◌, ap, cond, false, length, not, or-false, refl, suc, sym, true, ℕ, ⊎_elim}
use Rattle.model.specs.{Explanation.child_named, Explanation.clash_from, Explanation.clash_named, Explanation.clash_of, Explanation.explain, Explanation.is_witness, Explanation.link_at, Explanation.link_named, Explanation.or_next, Explanation.repeat_at, Explanation.repeat_named, Explanation.witness, Interface.distinct, Interface.taken, Lists.any, Lists.find_at, Records.is_child_of, Records.owner_in, Records.same_port, Resolution.look_up, Resolution.offers, Resolution.resolve, Tables.Tables, Tables.present, Tables.providing, declared.Port.Port, declared.Resolution.Resolution, declared.explanation.ListKind.ListKind, declared.explanation.Refusal.Refusal, declared.explanation.Witness.Witness, declared.records.Declaration.Declaration, declared.records.Link.Link, declared.records.Node.Node}
use Rattle.model.proofs.{Laws.Booleans.cases, Laws.Facts.same_port_lem}

-- ---- a test that applies

pub explain-stop : (b : Bool) (r : Refusal) (ts : List (Bool × Refusal)) → b ≡ true → explain ((b, r) ∷ ts) ≡ Err r
unfolding explain
explain-stop b r ts h = rw h

-- ---- something is named where the test applies

either_named : (v w : Witness) → is_witness (or_next v w) ≡ is_witness v || is_witness w
either_named Witness.Nothing w = refl
either_named (Witness.Component id) w = refl
either_named (Witness.Dependency u) w = refl
either_named (Witness.Link l) w = refl
either_named (Witness.Child id) w = refl
either_named (Witness.Clash b) w = refl
either_named (Witness.Repeated r) w = refl
either_named (Witness.Number m) w = refl

-- by an entry's place, if that names something
found : {A : Type 0} (f : ℕ → A → Witness) → ((i : ℕ) (x : A) → is_witness (f i x) ≡ true) → (p : A → Bool) (i : ℕ) (xs : List A) → any p xs ≡ is_witness (witness f (find_at p i xs))
unfolding find_at
found f g p i [] = refl
found f g p i (x ∷ xs) = ⊎_elim (λ e. rw e (sym (g i x))) (λ e. rw e (found f g p (suc i) xs)) (cases (p x))

pub link-found : (p : Link → Bool) (ls : List Link) → any p ls ≡ is_witness (link_named p ls)
link-found p ls = found link_at (λ i l. refl) p 0 ls

pub child_found : (id : ℕ) (ns : List Node) → any (is_child_of id) ns ≡ is_witness (child_named id ns)
child_found id ns = found (λ i n. Witness.Child i) (λ i n. refl) (is_child_of id) 0 ns

-- whatever tells who is present and who is Active
looked_found : (here active : ℕ → Bool) (p : Port) (ds : List Declaration) → any (offers here p) ds ≡ is_witness (clash_of p (look_up here active ds p))
unfolding look_up
looked_found here active p [] = refl
looked_found here active p (d ∷ ds) = ⊎_elim (λ e. rw e (owner (active (owner_in d)))) (λ e. rw e (looked_found here active p ds)) (cases (offers here p d))
  where
    owner : (b : Bool) → true ≡ is_witness (clash_of p (cond b (Resolution.Provider (owner_in d)) (Resolution.NotActive (owner_in d))))
    owner true = refl
    owner false = refl

pub taken-found : (T : Tables) (p : Port) → taken T p ≡ is_witness (clash_of p (resolve T p))
unfolding taken
taken-found T p = looked_found (present T.nodes) (providing T.nodes) p T.declarations

-- ---- clashes and repeats

same_sym : (p q : Port) → same_port p q ≡ same_port q p
same_sym p q = ⊎_elim (λ a. rw (same_port_lem p q a)) (λ a. ⊎_elim (λ b. rw (same_port_lem q p b)) (λ b. a ∙ sym b) (cases (same_port q p))) (cases (same_port p q))

-- it repeats one of the ports that were read
abbrev was_read : List Port → Port → Bool
was_read es p = any (same_port p) es

none_read : (ps : List Port) → any (was_read []) ps ≡ false
none_read [] = refl
none_read (p ∷ ps) = none_read ps

any_append : {A : Type 0} (p : A → Bool) (xs ys : List A) → any p (xs ++ ys) ≡ any p xs || any p ys
any_append p [] ys = refl
any_append p (x ∷ xs) ys = ⊎_elim (λ e. rw e) (λ e. rw e (any_append p xs ys)) (cases (p x))

-- one more is read
one_more_read : (es : List Port) (p : Port) (qs : List Port) → any (was_read (es ++ (p ∷ []))) qs ≡ any (was_read es) qs || any (same_port p) qs
one_more_read es p [] = refl
one_more_read es p (q ∷ qs) = rw (any_append (same_port q) es (p ∷ []), same_sym q p, one_more_read es p qs) (go (was_read es q) (same_port p q) (any (was_read es) qs))
  where
    go : (a b c : Bool) → (a || (b || false)) || (c || any (same_port p) qs) ≡ (a || c) || (b || any (same_port p) qs)
    go true b c = refl
    go false true true = refl
    go false true false = refl
    go false false c = refl

-- the scan names something exactly if a port repeats one that was read or a later one, or has an owner
clash_from_found : (s : ListKind) (f : Port → Resolution) (es ps : List Port) → any (was_read es) ps || not (distinct ps) || any (λ p. is_witness (clash_of p (f p))) ps ≡ is_witness (clash_from s f es ps)
unfolding clash_from distinct
clash_from_found s f es [] = refl
clash_from_found s f es (p ∷ ps) =
    let read = found (repeat_at s (length es)) (λ i q. refl) (same_port p) 0 es in
    let rest = clash_from_found s f (es ++ (p ∷ [])) ps in
    let same = go (was_read es p) (is_witness (clash_of p (f p))) (any (was_read es) ps) (any (same_port p) ps) (distinct ps) (any (λ q. is_witness (clash_of q (f q))) ps) in
    rw (either_named (witness (repeat_at s (length es)) (find_at (same_port p) 0 es)) _, either_named (clash_of p (f p)) _, ← read, ← rest, one_more_read es p ps) same
  where
    go : (a o e m d t : Bool) → ((a || e) || not (not m && d)) || (o || t) ≡ a || (o || (((e || m) || not d) || t))
    go true o e m d t = refl
    go false true true m d t = refl
    go false true false true d t = refl
    go false true false false true t = refl
    go false true false false false t = refl
    go false false true m d t = refl
    go false false false true d t = refl
    go false false false false true t = refl
    go false false false false false t = refl

-- from the first port
clash_start : (s : ListKind) (f : Port → Resolution) (ps : List Port) → not (distinct ps) || any (λ p. is_witness (clash_of p (f p))) ps ≡ is_witness (clash_from s f [] ps)
clash_start s f ps = ap (λ (b : Bool). b || not (distinct ps) || any (λ p. is_witness (clash_of p (f p))) ps) (sym (none_read ps)) ∙ clash_from_found s f [] ps

pub repeat_found : (ds : List Port) → not (distinct ds) ≡ is_witness (repeat_named ds)
repeat_found ds = rw (← clash_start ListKind.Dependencies (λ p. Resolution.NoOwner) ds, none_read ds) (sym (or-false (not (distinct ds))))

-- of the provisions alone
pub offer_found : (T : Tables) (ps : List Port) → not (distinct ps) || any (taken T) ps ≡ is_witness (clash_from ListKind.Provisions (resolve T) [] ps)
offer_found T ps = (λ i. not (distinct ps) || any (λ p. taken-found T p i) ps) ∙ clash_start ListKind.Provisions (resolve T) ps

pub clash_found : (T : Tables) (ds ps : List Port) → not (distinct ds) || not (distinct ps) || any (taken T) ps ≡ is_witness (clash_named T ds ps)
clash_found T ds ps =
    rw (either_named (clash_from ListKind.Provisions (resolve T) [] ps) (repeat_named ds), ← offer_found T ps, ← repeat_found ds) (go (not (distinct ds)) (not (distinct ps)) (any (taken T) ps))
  where
    go : (a b c : Bool) → (a || b) || c ≡ (b || c) || a
    go true true c = refl
    go true false true = refl
    go true false false = refl
    go false true c = refl
    go false false true = refl
    go false false false = refl
