-- The scan of a list for a repeat or a clash: what is left to scan, behind the ports that were read, names what the whole names.
use Rattle.std.proofs.Common.{Bool, List, None, Option, Some, [], add-one, ap, cond, drop, false, get_or, refl, sym, true, ◌++◌, ◌+◌, ◌<◌, ◌∙◌, ◌≡◌, ◌≤◌, ◌∷◌, length, suc, take, ℕ}
use Rattle.std.proofs.Math.Seq.{take-suc}
use Rattle.std.specs.Option.{is_some, option_or}
use Rattle.explain.specs.{Explanations.found_if, Explanations.witnessed}
use Rattle.loops.proofs.{Laws.Scan.rest-done, Laws.Scan.rest-next}
use Rattle.model.proofs.Logic.{⊎_elim}
use Rattle.model.proofs.{Laws.Booleans.cases, Laws.Explanation.clash_found, Laws.Explanation.repeat_found, Laws.Explanation.taken-found}
use Rattle.model.specs.{Explanation.clash_from, Explanation.clash_named, Explanation.clash_of, Explanation.is_witness, Explanation.or_next, Explanation.repeat_at, Explanation.repeat_named, Explanation.witness, Lists.any, Lists.find_at, Records.binding_of, Records.owner_in, Records.same_port, Resolution.look_up, Resolution.offers, Resolution.resolve, Tables.Tables, declared.Port.Port, declared.Resolution.Resolution, declared.explanation.ListKind.ListKind, declared.explanation.Witness.Witness, declared.records.Declaration.Declaration}
use Rattle.scans.proofs.Slices.{look_end, look_hit, look_next}

-- where a declaration offers the port, its owner, Active or not
pub owner_hit :
    (here active : ℕ → Bool) (ds : List Declaration) (i : ℕ) (p : Port) (d : Declaration) → i < length ds → offers here p (get_or ds i d) ≡ true →
    look_up here active (drop i ds) p ≡ look_up here active ds p → witnessed (clash_of p (look_up here active ds p)) ≡ Some (Witness.Clash (binding_of p (owner_in (get_or ds i d))))
owner_hit here active ds i p d l t e = rw (← e, look_hit here active ds i p d l t (owner_in (get_or ds i d)) refl) (go (active (owner_in (get_or ds i d))))
  where
    go : (b : Bool) → let o = owner_in (get_or ds i d) in witnessed (clash_of p (cond b (Resolution.Provider o) (Resolution.NotActive o))) ≡ Some (Witness.Clash (binding_of p o))
    go true = refl
    go false = refl

-- ---- one of two

witnessed_or : (v w : Witness) → witnessed (or_next v w) ≡ option_or (witnessed v) (witnessed w)
witnessed_or Witness.Nothing w = refl
witnessed_or (Witness.Component id) w = refl
witnessed_or (Witness.Dependency u) w = refl
witnessed_or (Witness.Link l) w = refl
witnessed_or (Witness.Child id) w = refl
witnessed_or (Witness.Clash b) w = refl
witnessed_or (Witness.Repeated r) w = refl
witnessed_or (Witness.Number m) w = refl

or_none : (a b : Option Witness) → is_some a ≡ false → option_or a b ≡ b
or_none None b h = refl
or_none (Some v) b h = cc

or_some : (a b : Option Witness) → is_some a ≡ true → option_or a b ≡ a
or_some None b h = cc
or_some (Some v) b h = refl

-- a search names what it finds
found_witnessed : {A : Type 0} (f : ℕ → A → Witness) → ((i : ℕ) (x : A) → is_witness (f i x) ≡ true) → (p : A → Bool) (i : ℕ) (xs : List A) →
    found_if (any p xs) (witness f (find_at p i xs)) ≡ witnessed (witness f (find_at p i xs))
unfolding find_at
found_witnessed f g p i [] = refl
found_witnessed f g p i (x ∷ xs) = ⊎_elim (λ e. rw e (ap (λ (b : Bool). found_if b (f i x)) (sym (g i x)))) (λ e. rw e (found_witnessed f g p (suc i) xs)) (cases (p x))

-- ---- port by port

module _ (s : ListKind) (f : Port → Resolution) (ps : List Port) where
  -- what the scan names from place i on, behind the ports that were read
  unfoldable pub left : ℕ → Option Witness
  left i = witnessed (clash_from s f (take i ps) (drop i ps))

  -- what it names of the port there: an earlier one, or its owner
  abbrev repeat : ℕ → Port → Option Witness
  repeat i p = found_if (any (same_port p) (take i ps)) (witness (repeat_at s (length (take i ps))) (find_at (same_port p) 0 (take i ps)))

  next : (i : ℕ) (d : Port) → i < length ps → let p = get_or ps i d in left i ≡ option_or (repeat i p) (option_or (witnessed (clash_of p (f p))) (left (i + 1)))
  unfolding left clash_from
  next i d l =
      let es = take i ps in
      let p = get_or ps i d in
      let a = witness (repeat_at s (length es)) (find_at (same_port p) 0 es) in
      let b = clash_of p (f p) in
      let rest = clash_from s f (es ++ (p ∷ [])) (drop (i + 1) ps) in
      let more : es ++ (p ∷ []) ≡ take (i + 1) ps = rw (add-one i) (sym (take-suc ps i d l)) in
      ap (λ (xs : List Port). witnessed (clash_from s f es xs)) (rest-next d i ps l)
      ∙ witnessed_or a (or_next b rest)
      ∙ ap (option_or (witnessed a)) (witnessed_or b rest)
      ∙ ap (λ (o : Option Witness). option_or o (option_or (witnessed b) (witnessed rest))) (sym (found_witnessed (repeat_at s (length es)) (λ j q. refl) (same_port p) 0 es))
      ∙ ap (λ (xs : List Port). option_or (repeat i p) (option_or (witnessed b) (witnessed (clash_from s f xs (drop (i + 1) ps))))) more

  module _ {r : Option Witness} (i : ℕ) (d : Port) (l : i < length ps) (e : r ≡ repeat i (get_or ps i d)) where
    pub left_repeat : is_some r ≡ true → r ≡ left i
    left_repeat h = e ∙ sym (next i d l ∙ or_some (repeat i (get_or ps i d)) _ (rw e at h))

    module _ (h : is_some r ≡ false) where
      past : left i ≡ option_or (witnessed (clash_of (get_or ps i d) (f (get_or ps i d)))) (left (i + 1))
      past = next i d l ∙ or_none (repeat i (get_or ps i d)) _ (rw e at h)

      pub left_owner : {o : Option Witness} → o ≡ witnessed (clash_of (get_or ps i d) (f (get_or ps i d))) → is_some o ≡ true → o ≡ left i
      left_owner g t = g ∙ sym (past ∙ or_some _ (left (i + 1)) (rw g at t))

      pub left_next : {o : Option Witness} → o ≡ witnessed (clash_of (get_or ps i d) (f (get_or ps i d))) → is_some o ≡ false → left (i + 1) ≡ left i
      left_next g t = sym (past ∙ or_none _ (left (i + 1)) (rw g at t))

  pub left_end : (i : ℕ) → length ps ≤ i → None ≡ left i
  unfolding left clash_from
  left_end i l = rw (rest-done i ps l, clash_from)

  pub left_whole : left 0 ≡ witnessed (clash_from s f [] ps)
  unfolding left
  left_whole = refl

-- the provisions, then the dependencies
pub clash_witnessed : (T : Tables) (ds ps : List Port) → option_or (witnessed (clash_from ListKind.Provisions (resolve T) [] ps)) (witnessed (repeat_named ds)) ≡ witnessed (clash_named T ds ps)
clash_witnessed T ds ps = sym (witnessed_or (clash_from ListKind.Provisions (resolve T) [] ps) (repeat_named ds))

pub ruleset owners = (look_next, owner_hit, look_end)

pub ruleset scanning = (left_repeat, left_owner, left_next, left_end, left_whole)

-- a row's test applies where something is named
pub ruleset naming = (clash_found, repeat_found, taken-found)
