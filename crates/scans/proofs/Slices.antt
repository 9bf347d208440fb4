-- Loops over a slice: what is left of it answers as the whole does. One more entry, a hit, and the end, for each kind of loop.
use Rattle.std.specs.Prelude.{min}
use Rattle.model.proofs.Logic.{Bool, List, [], ◌++◌, ◌+◌, ◌<◌, ◌∙◌, ◌∷◌, ◌≡◌, ◌≤◌, add-one, ap, append-nil, arith, drop, false, get_or, length, length-set, length-take, map, map-append, none, refl, set, some, sym, take, take-suc, take-suc-set, take_all, true, ℕ}
use Rattle.model.specs.{Lists.any, Lists.find, Lists.keep, Records.binding_of, Records.owner_in, Resolution.Target, Resolution.bind_ports, Resolution.dependency_ports, Resolution.is_dependency_of, Resolution.joined, Resolution.look_up, Resolution.offers, Resolution.owned, declared.Binding.Binding, declared.Port.Port, declared.Resolution.Resolution, declared.records.Declaration.Declaration}
use Rattle.loops.proofs.{Laws.Resolving.after, Laws.Resolving.after-joined, Laws.Scan.rest-done, Laws.Scan.rest-next}

-- ---- a column filled up to place i with h of each entry

pub record Filling {A B : Type 0} (h : A → B) (xs : List A) (i : ℕ) (col : List B) : Type 0 where
  pub full : length col ≡ length xs
  pub holds : take i col ≡ map h (take i xs)

pub fill_start : {A B : Type 0} {h : A → B} {xs : List A} {col : List B} → length col ≡ length xs → Filling h xs 0 col
fill_start e = record { full = e; holds = refl }

pub fill_next : {A B : Type 0} {h : A → B} {xs : List A} {i : ℕ} {col : List B} {v : B} (d : A) → Filling h xs i col → i < length xs → v ≡ h (get_or xs i d) → Filling h xs (i + 1) (set col i v)
fill_next {h = h} {xs} {i} {col} {v} d f l t =
    record { full = length-set col i v ∙ f.full; holds = rw (add-one i, take-suc-set col i v (omega (arith, f.full)), take-suc xs i d l, map-append h (take i xs) (get_or xs i d ∷ []), f.holds, t) }

pub fill_end : {A B : Type 0} {h : A → B} {xs : List A} {i : ℕ} {col : List B} → Filling h xs i col → length xs ≤ i → col ≡ map h xs
fill_end {h = h} {xs} {i} {col} f l = sym (take_all i col (omega (arith, f.full))) ∙ f.holds ∙ ap (map h) (take_all i xs l)

-- ---- look_up

module _ (here active : ℕ → Bool) (ds : List Declaration) (i : ℕ) (p : Port) (d : Declaration) where
  pub look_next : i < length ds → offers here p (get_or ds i d) ≡ false → look_up here active (drop (i + 1) ds) p ≡ look_up here active (drop i ds) p
  unfolding look_up
  look_next l t = rw (rest-next d i ds l, look_up, t)

  pub look_hit : i < length ds → offers here p (get_or ds i d) ≡ true → (o : ℕ) → o ≡ owner_in (get_or ds i d) → look_up here active (drop i ds) p ≡ owned active o
  unfolding look_up
  look_hit l t o e = rw (rest-next d i ds l, look_up, t, e)

pub look_end : (here active : ℕ → Bool) (ds : List Declaration) (i : ℕ) (p : Port) → length ds ≤ i → look_up here active (drop i ds) p ≡ Resolution.NoOwner
unfolding look_up
look_end here active ds i p l = rw (rest-done i ds l, look_up)

-- ---- find

module _ {A : Type 0} (q : A → Bool) (xs : List A) (i : ℕ) where
  pub find_next : (d : A) → i < length xs → q (get_or xs i d) ≡ false → find q (drop (i + 1) xs) ≡ find q (drop i xs)
  unfolding find
  find_next d l t = rw (rest-next d i xs l, find, t)

  pub find_hit : (d : A) → i < length xs → q (get_or xs i d) ≡ true → find q (drop i xs) ≡ some (get_or xs i d)
  unfolding find
  find_hit d l t = rw (rest-next d i xs l, find, t)

  pub find_end : length xs ≤ i → find q (drop i xs) ≡ none
  unfolding find
  find_end l = rw (rest-done i xs l, find)

-- ---- keep

module _ {A : Type 0} (q : A → Bool) (xs : List A) (i : ℕ) where
  pub keep_take : (d : A) → i < length xs → q (get_or xs i d) ≡ true → keep q (drop i xs) ≡ get_or xs i d ∷ keep q (drop (i + 1) xs)
  keep_take d l t = rw (rest-next d i xs l, t)

  pub keep_skip : (d : A) → i < length xs → q (get_or xs i d) ≡ false → keep q (drop i xs) ≡ keep q (drop (i + 1) xs)
  keep_skip d l t = rw (rest-next d i xs l, t)

  pub keep_end : length xs ≤ i → keep q (drop i xs) ≡ []
  keep_end l = rw (rest-done i xs l)

-- ---- bind_ports: the bindings so far and those of the entries that are left

abbrev pub bound : (Port → Resolution) → ℕ → List Declaration → ℕ → List Binding → Target
bound r id ds i acc = after acc (bind_ports r (dependency_ports (drop i ds) id))

module _ (r : Port → Resolution) (id : ℕ) (ds : List Declaration) (i : ℕ) where
  pub bound_end : length ds ≤ i → (acc : List Binding) → bound r id ds i acc ≡ Target.bound acc
  unfolding dependency_ports bind_ports
  bound_end l acc = rw (rest-done i ds l, bind_ports, append-nil acc)

  module _ (d : Declaration) (l : i < length ds) where
    abbrev x : Declaration
    x = get_or ds i d

    pub bound_skip : is_dependency_of id x ≡ false → (acc : List Binding) → bound r id ds i acc ≡ bound r id ds (i + 1) acc
    unfolding dependency_ports
    bound_skip t acc = rw (rest-next d i ds l, t)

    pub bound_take : (o : ℕ) → is_dependency_of id x ≡ true → r x.port ≡ Resolution.Provider o → (acc : List Binding) → bound r id ds i acc ≡ bound r id ds (i + 1) (acc ++ (binding_of x.port o ∷ []))
    unfolding dependency_ports bind_ports
    bound_take o t q acc = rw (rest-next d i ds l, t, bind_ports, q) (after-joined acc x.port o _)

    pub bound_missing : (w : Resolution) → is_dependency_of id x ≡ true → r x.port ≡ w → ((o : ℕ) → w ≡ Resolution.Provider o → ⊥) → (acc : List Binding) → bound r id ds i acc ≡ Target.missing (record { port = x.port; found = w })
    unfolding dependency_ports bind_ports joined
    bound_missing (Resolution.Provider o) t q n acc = absurd (n o refl)
    bound_missing (Resolution.NotActive o) t q n acc = rw (rest-next d i ds l, t, bind_ports, q)
    bound_missing Resolution.NoOwner t q n acc = rw (rest-next d i ds l, t, bind_ports, q)

-- the first k entries of a list, where it has no more
pub all_read : {A : Type 0} (q : A → Bool) (xs : List A) (k : ℕ) → any q (take k xs) ≡ false → length xs ≤ k → any q xs ≡ false
all_read q xs k a l = rw (take_all k xs l) at a

-- the first entries of a list, at most n: no more than n, and all of a list that has no more
module _ {A : Type 0} (n m : ℕ) (xs : List A) (e : m ≡ min n (length xs)) where
  pub first_read : length xs ≤ n → xs ≡ take m xs
  first_read l = sym (take_all m xs (omega (arith, e)))

  pub first_within : length (take m xs) ≤ n
  first_within = omega (arith, e, length-take m xs)
