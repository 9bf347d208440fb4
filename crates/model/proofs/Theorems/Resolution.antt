-- On sound tables resolve answers just what holds: of its three answers one holds, and no other. What target names, and when.
use Rattle.std.specs.Prelude.{Some}
use Rattle.model.proofs.Logic.{Bool, List, List-as-Memᴰ, ◌↔◌, ◌∙◌, ◌≡◌, ◌⊎◌, ap, arith, cond, false, inl, inr, none, refl, subst, sym, true, ℕ}
use Rattle.model.specs.{Iteration.target_of, Kernels.asked, Layouts.Layout, Layouts.sound_kernel, Layouts.tables_of, Lifecycle.phase_at, Points.Among, Points.At, Records.binding_in, Records.consumer_in, Records.dependency, Records.provider_in, Records.provision, Resolution.Owner, Resolution.Owns, Resolution.Provides, Resolution.Says, Resolution.Target, Resolution.bind_ports, Resolution.dependency_ports, Resolution.missing_of, Resolution.offers, Resolution.resolve, Resolution.target, Resolution.target_list, Sizes.Sizes, Soundness.sound, Tables.Tables, Tables.node_at, Tables.not_inactive, Tables.present, Tables.providing, declared.Phase.Phase, declared.Port.Port, declared.Resolution.Resolution, declared.Unresolved.Unresolved, declared.records.Node.Node}
use Rattle.model.proofs.{Laws.Booleans.and_i, Laws.Booleans.cases, Laws.Booleans.clash, Laws.Facts.Linked, Laws.Facts.LiveOk, Laws.Facts.facts, Laws.Facts.port-same, Laws.Lists.at_in, Laws.Lists.in_at, Laws.Lists.never, Laws.Lists.none_in, Laws.Nodes.present-lt, Laws.Phases.active-is, Laws.Resolution.FirstUnresolved, Laws.Resolution.LookedUp, Laws.Resolution.bind_missing, Laws.Resolution.bind_something, Laws.Resolution.looked_up_lem, Laws.Resolution.missing-bind, Laws.Resolution.target-bound, Laws.Resolution.target_none, Laws.Resolution.wants_in, Theorems.Points.at-node, Theorems.Points.node_at_lem, Theorems.Points.to_present}

-- ---- resolve

abbrev Active : Phase → Type 0
Active f = f ≡ Phase.Active

abbrev Other : Phase → Type 0
Other f = f ≡ Phase.Active → ⊥

module _ (S : Sizes) (T : Tables) (h : sound S T ≡ true) (p : Port) where
  anyone : (F : Phase → Type 0) (o : ℕ) → Owner F T p o → Owns T p o
  anyone F o w = (w.0, w.1, w.2, tt, w.4)

  module _ (o : ℕ) (w : Owns T p o) where
    owner_present : present T.nodes o ≡ true
    owner_present = to_present T o (w.0, w.1, w.2)

    offered : List-as-Memᴰ (provision o p) T.declarations
    offered = at_in T.declarations w.4.0 (provision o p) w.4.1

    offers-it : offers (present T.nodes) p (provision o p) ≡ true
    unfolding offers
    offers-it = and_i _ _ (port-same p) owner_present

  -- at most one present owner provides a port
  pub owner_unique : (o q : ℕ) → Owns T p o → Owns T p q → o ≡ q
  owner_unique o q w z = (facts S T h).safe.unique (provision o p) (provision q p) (offered o w) (offered q z) refl refl (owner_present o w) (owner_present q z) refl

  -- what it answers holds
  pub resolve-says : Says T p (resolve T p)
  resolve-says = go (resolve T p) (looked_up_lem (present T.nodes) (providing T.nodes) p T.declarations)
    where
      owner : (F : Phase → Type 0) (o : ℕ) → List-as-Memᴰ (provision o p) T.declarations → present T.nodes o ≡ true → F (phase_at T o) → Owner F T p o
      owner F o m t f = (node_at T.nodes o, node_at_lem T.nodes o (present-lt _ _ t), t, f, in_at m)

      go : (r : Resolution) → LookedUp (present T.nodes) (providing T.nodes) T.declarations p r → Says T p r
      go (Resolution.Provider o) (m, t, a) = owner Active o m t (active-is (phase_at T o) (rw t at a))
      go (Resolution.NotActive o) (m, t, a) = owner Other o m t (λ e. clash {A = ⊥} true refl (rw (t, e) at a))
      go Resolution.NoOwner e = λ o w. clash {A = ⊥} _ (offers-it o w) (none_in (offers (present T.nodes) p) (offered o w) e)

  one_phase : (o q : ℕ) → Provides T p o → Owner Other T p q → ⊥
  one_phase o q w z =
      let same : w.0 ≡ z.0 = sym (at-node T.nodes o w.0 w.1) ∙ ap (node_at T.nodes) (owner_unique o q (anyone Active o w) (anyone Other q z)) ∙ at-node T.nodes q z.0 z.1 in
      z.3 (sym (ap (λ (n : Node). n.phase) same) ∙ w.3)

  -- no two answers hold
  pub says-once : (r s : Resolution) → Says T p r → Says T p s → r ≡ s
  says-once (Resolution.Provider o) (Resolution.Provider q) w z = ap Resolution.Provider (owner_unique o q (anyone Active o w) (anyone Active q z))
  says-once (Resolution.Provider o) (Resolution.NotActive q) w z = absurd (one_phase o q w z)
  says-once (Resolution.Provider o) Resolution.NoOwner w z = absurd (z o (anyone Active o w))
  says-once (Resolution.NotActive o) (Resolution.Provider q) w z = absurd (one_phase q o z w)
  says-once (Resolution.NotActive o) (Resolution.NotActive q) w z = ap Resolution.NotActive (owner_unique o q (anyone Other o w) (anyone Other q z))
  says-once (Resolution.NotActive o) Resolution.NoOwner w z = absurd (z o (anyone Other o w))
  says-once Resolution.NoOwner (Resolution.Provider q) w z = absurd (w q (anyone Active q z))
  says-once Resolution.NoOwner (Resolution.NotActive q) w z = absurd (w q (anyone Other q z))
  says-once Resolution.NoOwner Resolution.NoOwner w z = refl

  -- so it answers r exactly if that holds
  pub resolve-exactly : (r : Resolution) → (resolve T p ≡ r) ↔ Says T p r
  resolve-exactly r = (λ e. subst (Says T p) e resolve-says, λ w. says-once (resolve T p) r resolve-says w)

  -- a retired Active provider is found as any other
  pub retired-found : (o : ℕ) (n : Node) → At T.nodes o n → n.present ≡ true → n.retired ≡ true → n.phase ≡ Phase.Active → Among T.declarations (provision o p) → resolve T p ≡ Resolution.Provider o
  retired-found o n a t q f m = (resolve-exactly (Resolution.Provider o)).1 (n, a, t, f, m)

-- ---- target

nothing-missing : {u : Unresolved} → Target.nothing ≡ Target.missing u → ⊥
nothing-missing e = let z : ◌≡◌ {A = ℕ} 0 1 = cc in omega arith

pub named-is : (t : Target) (u : Unresolved) → missing_of t ≡ Some u → t ≡ Target.missing u
named-is (Target.bound bs) u e = let z : ◌≡◌ {A = ℕ} 0 1 = cc in absurd (omega arith)
named-is (Target.missing v) u e = let z : v ≡ u = cc in ap Target.missing z
named-is Target.nothing u e = let z : ◌≡◌ {A = ℕ} 0 1 = cc in absurd (omega arith)

-- the first dependency, in declaration order, that did not resolve, and why
pub record Names (T : Tables) (id : ℕ) (u : Unresolved) : Type 0 where
  pub there : present T.nodes id ≡ true
  pub kept : (node_at T.nodes id).retired ≡ false
  pub declared : Among T.declarations (dependency id u.port)
  pub first : FirstUnresolved (resolve T) (dependency_ports T.declarations id) u

module _ (T : Tables) (id : ℕ) where
  abbrev ports : List Port
  ports = dependency_ports T.declarations id

  abbrev retired : Bool
  retired = (node_at T.nodes id).retired

  -- what target is, of a component that is present and not retired and of any other
  abbrev Cases : Type 0
  Cases = ((present T.nodes id ≡ true) × (retired ≡ false) × (target T id ≡ bind_ports (resolve T) ports)) ⊎ (target T id ≡ Target.nothing)

  target-cases : Cases
  target-cases = go (cases (present T.nodes id)) (cases retired)
    where
      go : (present T.nodes id ≡ true) ⊎ (present T.nodes id ≡ false) → (retired ≡ true) ⊎ (retired ≡ false) → Cases
      go (inr t) r = inr (target_none T id (rw t))
      go (inl t) (inl r) = inr (target_none T id (rw (t, r)))
      go (inl t) (inr r) = inl (t, r, target-bound T id (rw (t, r)))

  -- it names u exactly if u is that
  pub target-names : (u : Unresolved) → (target T id ≡ Target.missing u) ↔ Names T id u
  target-names u = (forth target-cases, back)
    where
      forth : Cases → target T id ≡ Target.missing u → Names T id u
      forth (inr e) m = absurd (nothing-missing (sym e ∙ m))
      forth (inl (t, r, e)) m =
          let f = bind_missing (resolve T) ports u (sym e ∙ m) in
          record { there = t; kept = r; declared = in_at (wants_in T.declarations id u.port (at_in ports f.place u.port f.stands)); first = f }

      back : Names T id u → target T id ≡ Target.missing u
      back n = target-bound T id (rw (n.there, n.kept)) ∙ missing-bind (resolve T) ports u n.first

  -- and names one exactly if the component is present and not retired and there is no target
  pub names_when : ((u : Unresolved) × (missing_of (target T id) ≡ Some u)) ↔ ((present T.nodes id ≡ true) × (retired ≡ false) × (target_list (target T id) ≡ none))
  names_when = (λ (u, e). forth u (named-is (target T id) u e), λ (t, r, e). back (target T id) refl (target-bound T id (rw (t, r))) e)
    where
      forth : (u : Unresolved) → target T id ≡ Target.missing u → (present T.nodes id ≡ true) × (retired ≡ false) × (target_list (target T id) ≡ none)
      forth u m = let n : Names T id u = (target-names u).0 m in (n.there, n.kept, ap target_list m)

      back : (t : Target) → target T id ≡ t → target T id ≡ bind_ports (resolve T) ports → target_list (target T id) ≡ none → (u : Unresolved) × (missing_of (target T id) ≡ Some u)
      back (Target.bound bs) e b n = never bs (sym n ∙ ap target_list e)
      back (Target.missing u) e b n = (u, ap missing_of e)
      back Target.nothing e b n = absurd (bind_something (resolve T) ports (sym b ∙ e))

-- an installed component never waits for a port that nobody provides: its links keep their providers
pub installed-waits : (S : Sizes) (T : Tables) → sound S T ≡ true → (id : ℕ) (u : Unresolved) → Names T id u → not_inactive T.nodes id ≡ true → u.found ≡ Resolution.NoOwner → ⊥
installed-waits S T h id u n i e =
    let p = u.port in
    let linked : Linked T.links id p = (facts S T h).covered (dependency id p) (at_in T.declarations n.declared.0 _ n.declared.1) refl n.there i in
    let l = linked.link in
    let ok : LiveOk T.nodes T.declarations (consumer_in l) (binding_in l) = (facts S T h).safe.live l linked.among linked.is_live in
    let o = provider_in l in
    let offered : List-as-Memᴰ (provision o p) T.declarations = subst (λ (q : Port). List-as-Memᴰ (provision o q) T.declarations) linked.of_port ok.offered in
    (resolve-exactly S T h p Resolution.NoOwner).0 (n.first.reason ∙ e) o (node_at T.nodes o, node_at_lem T.nodes o (present-lt _ _ ok.provider_present), ok.provider_present, tt, in_at offered)

-- on kernels: an unsound one names none
module _ (S : Sizes) (k : Layout) (id : ℕ) where
  abbrev T : Tables
  T = tables_of k

  pub kernel-names : (u : Unresolved) → (target_of S k id ≡ Target.missing u) ↔ ((sound_kernel S k ≡ true) × Names T id u)
  unfolding asked
  kernel-names u = go (sound_kernel S k)
    where
      go : (b : Bool) → (cond b (target T id) Target.nothing ≡ Target.missing u) ↔ ((b ≡ true) × Names T id u)
      go true = (λ e. (refl, (target-names T id u).0 e), λ (s, n). (target-names T id u).1 n)
      go false = (λ e. absurd (nothing-missing e), λ (s, n). clash true refl (sym s))

  pub kernel-names-when :
      ((u : Unresolved) × (missing_of (target_of S k id) ≡ Some u))
      ↔ ((sound_kernel S k ≡ true) × (present T.nodes id ≡ true) × ((node_at T.nodes id).retired ≡ false) × (target_list (target_of S k id) ≡ none))
  unfolding asked
  kernel-names-when = go (sound_kernel S k)
    where
      go :
          (b : Bool)
          → ((u : Unresolved) × (missing_of (cond b (target T id) Target.nothing) ≡ Some u))
          ↔ ((b ≡ true) × (present T.nodes id ≡ true) × ((node_at T.nodes id).retired ≡ false) × (target_list (cond b (target T id) Target.nothing) ≡ none))
      go true = (λ w. let (t, r, e) = (names_when T id).0 w in (refl, t, r, e), λ (s, t, r, e). (names_when T id).1 (t, r, e))
      go false = (λ (u, e). absurd (nothing-missing (named-is Target.nothing u e)), λ w. clash true refl (sym w.0))
