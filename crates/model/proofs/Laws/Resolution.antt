-- What resolve and target found, as facts.
use Rattle.model.proofs.Logic.{Bool, List, List-as-Memᴰ, List·Memᴰ·cases-cons, List·Memᴰ·head, List·Memᴰ·not-nil, List·Memᴰ·tail, Memᴰ·cast, [], ◌&&◌, ◌<◌, ◌||◌, ◌∙◌, ◌∷◌, ◌≡◌, ◌⊎◌, ap, arith, cond, eq-eqb, eqb-true, false, inl, inr, map, not, refl, some, subst, suc, sym, true, zero, ℕ}
use Rattle.model.specs.{Lists.any, Lists.keep, Points.At, Records.binding_of, Records.declared_port, Records.dependency, Records.is_active, Records.owner_in, Records.port_of, Records.provision, Records.same_port, Resolution.Target, Resolution.before, Resolution.bind_ports, Resolution.dependency_ports, Resolution.is_dependency_of, Resolution.joined, Resolution.look_up, Resolution.offers, Resolution.owned, Resolution.resolve, Resolution.target, Resolution.target_list, Tables.Tables, Tables.node_at, Tables.present, Tables.providing, declared.Binding.Binding, declared.Port.Port, declared.Resolution.Resolution, declared.Unresolved.Unresolved, declared.records.Declaration.Declaration, declared.records.Node.Node}
use Rattle.model.proofs.{Laws.Booleans.and_l, Laws.Booleans.and_r, Laws.Booleans.both-or, Laws.Booleans.cases, Laws.Booleans.not_f, Laws.Booleans.not_t, Laws.Booleans.or_f_l, Laws.Booleans.or_f_r, Laws.Facts.same_port_lem, Laws.Lists.in_keep, Laws.Lists.in_map, Laws.Lists.keep-in, Laws.Lists.map-in, Laws.Lists.never, Laws.Records.declaration_is}

pub record Resolved (ns : List Node) (ds : List Declaration) (p : Port) (o : ℕ) : Type 0 where
  pub offered : List-as-Memᴰ (provision o p) ds
  pub there : present ns o ≡ true
  pub is-active : is_active (node_at ns o).phase ≡ true

offers-provision : (f : ℕ → Bool) (p : Port) (d : Declaration) → offers f p d ≡ true → (provision (owner_in d) p ≡ d) × (f (owner_in d) ≡ true)
unfolding offers
offers-provision f p d h =
    let b : d.provides && same_port (declared_port d) p ≡ true = and_l (d.provides && same_port (declared_port d) p) _ h in
    let x : d.provides ≡ true = and_l d.provides _ b in
    let y : declared_port d ≡ p = same_port_lem _ _ (and_r d.provides _ b) in
    (sym (declaration_is refl y x), and_r (d.provides && same_port (declared_port d) p) _ h)

-- what the lookup's answer says, whatever tells who is present and who is Active
abbrev pub LookedUp : (ℕ → Bool) → (ℕ → Bool) → List Declaration → Port → Resolution → Type 0
LookedUp here active ds p (Resolution.Provider o) = List-as-Memᴰ (provision o p) ds × (here o ≡ true) × (active o ≡ true)
LookedUp here active ds p (Resolution.NotActive o) = List-as-Memᴰ (provision o p) ds × (here o ≡ true) × (active o ≡ false)
LookedUp here active ds p Resolution.NoOwner = any (offers here p) ds ≡ false

module _ (here active : ℕ → Bool) (p : Port) where
  owned-says : (ds : List Declaration) (o : ℕ) → List-as-Memᴰ (provision o p) ds → here o ≡ true → LookedUp here active ds p (owned active o)
  owned-says ds o m h = go (active o) refl
    where
      go : (b : Bool) → active o ≡ b → LookedUp here active ds p (cond b (Resolution.Provider o) (Resolution.NotActive o))
      go true e = (m, h, e)
      go false e = (m, h, e)

  later : (d : Declaration) (ds : List Declaration) (r : Resolution) → offers here p d ≡ false → LookedUp here active ds p r → LookedUp here active (d ∷ ds) p r
  later d ds (Resolution.Provider o) e (m, w, a) = (List·Memᴰ·tail m, w, a)
  later d ds (Resolution.NotActive o) e (m, w, a) = (List·Memᴰ·tail m, w, a)
  later d ds Resolution.NoOwner e w = rw (e, w)

  pub looked_up_lem : (ds : List Declaration) → LookedUp here active ds p (look_up here active ds p)
  unfolding look_up
  looked_up_lem [] = refl
  looked_up_lem (d ∷ ds) = go (offers here p d) refl (looked_up_lem ds)
    where
      go : (b : Bool) → offers here p d ≡ b → LookedUp here active ds p (look_up here active ds p) → LookedUp here active (d ∷ ds) p (cond b (owned active (owner_in d)) (look_up here active ds p))
      go true e w = let (x, y) = offers-provision here p d e in owned-says (d ∷ ds) (owner_in d) (List·Memᴰ·head x) y
      go false e w = later d ds (look_up here active ds p) e w

pub resolved : (T : Tables) (p : Port) (o : ℕ) → resolve T p ≡ Resolution.Provider o → Resolved T.nodes T.declarations p o
resolved T p o h =
    let (m, t, a) = subst (LookedUp (present T.nodes) (providing T.nodes) T.declarations p) h (looked_up_lem (present T.nodes) (providing T.nodes) p T.declarations) in
    record { offered = m; there = t; is-active = and_r (present T.nodes o) _ a }

pub record Joined (p : Port) (r : Resolution) (rest : Target) (bs : List Binding) : Type 0 where
  pub provider : ℕ
  pub others : List Binding
  pub is-provider : r ≡ Resolution.Provider provider
  pub are_others : target_list rest ≡ some others
  pub whole : bs ≡ binding_of p provider ∷ others

pub joined-some : (p : Port) (r : Resolution) (rest : Target) (bs : List Binding) → target_list (joined p r rest) ≡ some bs → Joined p r rest bs
unfolding joined
joined-some p (Resolution.NotActive o) rest bs h = never bs h
joined-some p Resolution.NoOwner rest bs h = never bs h
joined-some p (Resolution.Provider o) (Target.missing u) bs h = never bs h
joined-some p (Resolution.Provider o) Target.nothing bs h = never bs h
joined-some p (Resolution.Provider o) (Target.bound cs) bs h = record { provider = o; others = cs; is-provider = refl; are_others = refl; whole = cc }

pub bound-ports : (f : Port → Resolution) (ps : List Port) (bs : List Binding) → target_list (bind_ports f ps) ≡ some bs → map port_of bs ≡ ps
unfolding bind_ports
bound-ports f [] bs h = let e : bs ≡ [] = cc in rw e
bound-ports f (p ∷ ps) bs h =
    let j : Joined p (f p) (bind_ports f ps) bs = joined-some p (f p) (bind_ports f ps) bs h in
    rw j.whole (ap (λ (qs : List Port). p ∷ qs) (bound-ports f ps j.others j.are_others))

pub bound-in : (f : Port → Resolution) (ps : List Port) (bs : List Binding) → target_list (bind_ports f ps) ≡ some bs → (b : Binding) → List-as-Memᴰ b bs → f (port_of b) ≡ Resolution.Provider b.provider
unfolding bind_ports
bound-in f [] bs h b m = let e : bs ≡ [] = cc in absurd (List·Memᴰ·not-nil (rw e at m))
bound-in f (p ∷ ps) bs h b m = go (List·Memᴰ·cases-cons (rw j.whole at m)) (bound-in f ps j.others j.are_others b)
  where
    j : Joined p (f p) (bind_ports f ps) bs
    j = joined-some p (f p) (bind_ports f ps) bs h

    go : (b ≡ binding_of p j.provider) ⊎ List-as-Memᴰ b j.others → (List-as-Memᴰ b j.others → f (port_of b) ≡ Resolution.Provider b.provider) → f (port_of b) ≡ Resolution.Provider b.provider
    go (inl e) g = rw e j.is-provider
    go (inr n) g = g n

-- ---- a port that has no provider

-- u is the first port without one, and what its lookup answered
pub record FirstUnresolved (f : Port → Resolution) (ps : List Port) (u : Unresolved) : Type 0 where
  pub place : ℕ
  pub stands : At ps place u.port
  pub reason : f u.port ≡ u.found
  pub unprovided : (o : ℕ) → u.found ≡ Resolution.Provider o → ⊥
  pub earlier : (i : ℕ) (q : Port) → i < place → At ps i q → (o : ℕ) × (f q ≡ Resolution.Provider o)

before-missing : (b : Binding) (t : Target) (u : Unresolved) → before b t ≡ Target.missing u → t ≡ Target.missing u
before-missing b (Target.bound bs) u e = let z : ◌≡◌ {A = ℕ} 0 1 = cc in absurd (omega arith)
before-missing b (Target.missing v) u e = e
before-missing b Target.nothing u e = e

module _ (f : Port → Resolution) where
  at_first : (p : Port) (ps : List Port) (u v : Unresolved) → f p ≡ v.found → ((o : ℕ) → v.found ≡ Resolution.Provider o → ⊥) → v.port ≡ p → Target.missing v ≡ Target.missing u → FirstUnresolved f (p ∷ ps) u
  at_first p ps u v r n a e = let z : v ≡ u = cc in rw (← z) (record { place = 0; stands = (omega arith, sym a); reason = rw a r; unprovided = n; earlier = λ i q l s. absurd (omega arith) })

  pub bind_missing : (ps : List Port) (u : Unresolved) → bind_ports f ps ≡ Target.missing u → FirstUnresolved f ps u
  unfolding bind_ports joined
  bind_missing [] u e = let z : ◌≡◌ {A = ℕ} 0 1 = cc in absurd (omega arith)
  bind_missing (p ∷ ps) u e = go (f p) refl (λ m. bind_missing ps u m) e
    where
      behind : (o : ℕ) → f p ≡ Resolution.Provider o → FirstUnresolved f ps u → FirstUnresolved f (p ∷ ps) u
      behind o r w = record { place = suc w.place; stands = (omega (arith, w.stands.0), w.stands.1); reason = w.reason; unprovided = w.unprovided; earlier = sooner }
        where
          sooner : (i : ℕ) (q : Port) → i < suc w.place → At (p ∷ ps) i q → (o : ℕ) × (f q ≡ Resolution.Provider o)
          sooner zero q l a = (o, rw (← a.1) r)
          sooner (suc i) q l a = w.earlier i q (omega arith) (omega (arith, a.0), a.1)

      go : (r : Resolution) → f p ≡ r → (bind_ports f ps ≡ Target.missing u → FirstUnresolved f ps u) → joined p r (bind_ports f ps) ≡ Target.missing u → FirstUnresolved f (p ∷ ps) u
      go (Resolution.Provider o) r g m = behind o r (g (before-missing (binding_of p o) (bind_ports f ps) u m))
      go (Resolution.NotActive o) r g m = at_first p ps u (record { port = p; found = Resolution.NotActive o }) r (λ q x. let z : ◌≡◌ {A = ℕ} 0 1 = cc in omega arith) refl m
      go Resolution.NoOwner r g m = at_first p ps u (record { port = p; found = Resolution.NoOwner }) r (λ q x. let z : ◌≡◌ {A = ℕ} 0 1 = cc in omega arith) refl m

  pub missing-bind : (ps : List Port) (u : Unresolved) → FirstUnresolved f ps u → bind_ports f ps ≡ Target.missing u
  unfolding bind_ports joined
  missing-bind [] u w = absurd (omega (arith, w.stands.0))
  missing-bind (p ∷ ps) u w = go w.place refl (λ v. missing-bind ps u v)
    where
      stops : (r : Resolution) → f p ≡ r → ((o : ℕ) → r ≡ Resolution.Provider o → ⊥) → joined p (f p) (bind_ports f ps) ≡ Target.missing (record { port = p; found = r })
      stops (Resolution.Provider o) e n = absurd (n o refl)
      stops (Resolution.NotActive o) e n = rw e
      stops Resolution.NoOwner e n = rw e

      go : (i : ℕ) → w.place ≡ i → (FirstUnresolved f ps u → bind_ports f ps ≡ Target.missing u) → joined p (f p) (bind_ports f ps) ≡ Target.missing u
      go zero e g =
          let a : p ≡ u.port = rw e at w.stands.1 in
          stops u.found (rw (← a) at w.reason) w.unprovided ∙ ap (λ (q : Port). Target.missing (record { port = q; found = u.found })) a
      go (suc i) e g =
          let (o, r) = w.earlier 0 p (omega arith) (omega arith, refl) in
          let rest = g (record {
            place = i;
            stands = (omega (arith, w.stands.0), rw e at w.stands.1);
            reason = w.reason;
            unprovided = w.unprovided;
            earlier = λ j q l a. w.earlier (suc j) q (omega arith) (omega (arith, a.0), a.1);
          }) in
          rw (r, rest)

  -- the ports are bound or one is missing
  pub bind_something : (ps : List Port) → bind_ports f ps ≡ Target.nothing → ⊥
  unfolding bind_ports joined
  bind_something [] e = let z : ◌≡◌ {A = ℕ} 0 1 = cc in omega arith
  bind_something (p ∷ ps) e = go (f p) (bind_ports f ps) (λ m. bind_something ps m) e
    where
      go : (r : Resolution) (t : Target) → (t ≡ Target.nothing → ⊥) → joined p r t ≡ Target.nothing → ⊥
      go (Resolution.Provider o) (Target.bound bs) g m = let z : ◌≡◌ {A = ℕ} 0 1 = cc in omega arith
      go (Resolution.Provider o) (Target.missing u) g m = let z : ◌≡◌ {A = ℕ} 0 1 = cc in omega arith
      go (Resolution.Provider o) Target.nothing g m = g refl
      go (Resolution.NotActive o) t g m = let z : ◌≡◌ {A = ℕ} 0 1 = cc in omega arith
      go Resolution.NoOwner t g m = let z : ◌≡◌ {A = ℕ} 0 1 = cc in omega arith

-- ---- dependencies

pub wants_in : (ds : List Declaration) (id : ℕ) (p : Port) → List-as-Memᴰ p (dependency_ports ds id) → List-as-Memᴰ (dependency id p) ds
unfolding dependency_ports is_dependency_of
wants_in ds id p m =
    let (d, n, e) = in_map declared_port (keep (is_dependency_of id) ds) m in
    let (i, q) = in_keep (is_dependency_of id) ds n in
    let x : owner_in d ≡ id = eqb-true _ _ (and_r (not d.provides) _ q) in
    let y : d.provides ≡ false = not_t _ (and_l (not d.provides) _ q) in
    Memᴰ·cast (sym (declaration_is x (sym e) y)) i

pub in_wants : (ds : List Declaration) (id : ℕ) (p : Port) → List-as-Memᴰ (dependency id p) ds → List-as-Memᴰ p (dependency_ports ds id)
unfolding dependency_ports is_dependency_of
in_wants ds id p m = map-in declared_port (keep-in (is_dependency_of id) m (eq-eqb id id refl))

pub record Targeted (T : Tables) (id : ℕ) (bs : List Binding) : Type 0 where
  pub there : present T.nodes id ≡ true
  pub kept : (node_at T.nodes id).retired ≡ false
  pub is_bound : target_list (bind_ports (resolve T) (dependency_ports T.declarations id)) ≡ some bs

pub targeted : (T : Tables) (id : ℕ) (bs : List Binding) → target_list (target T id) ≡ some bs → Targeted T id bs
unfolding target
targeted T id bs h = go (cases (present T.nodes id && not (node_at T.nodes id).retired))
  where
    go : (present T.nodes id && not (node_at T.nodes id).retired ≡ true) ⊎ (present T.nodes id && not (node_at T.nodes id).retired ≡ false) → Targeted T id bs
    go (inl e) = record { there = and_l (present T.nodes id) _ e; kept = not_t _ (and_r (present T.nodes id) _ e); is_bound = rw e at h }
    go (inr e) = never bs (rw e at h)

-- what a target's binding has
module _ (T : Tables) (id : ℕ) (bs : List Binding) (t : Targeted T id bs) where
  pub target-resolved : (b : Binding) → List-as-Memᴰ b bs → Resolved T.nodes T.declarations (port_of b) b.provider
  target-resolved b m = resolved T _ _ (bound-in _ _ bs t.is_bound b m)

  pub target-needed : (b : Binding) → List-as-Memᴰ b bs → List-as-Memᴰ (dependency id (port_of b)) T.declarations
  target-needed b m = wants_in T.declarations id (port_of b) (rw (bound-ports _ _ bs t.is_bound) at (map-in port_of m))

  pub target-covers : (p : Port) → List-as-Memᴰ (dependency id p) T.declarations → (b : Binding) × List-as-Memᴰ b bs × (p ≡ port_of b)
  target-covers p m = in_map port_of bs (rw (bound-ports _ _ bs t.is_bound) (in_wants T.declarations id p m))

-- no target of a retired or absent component; of another, what its ports bind to
module _ (T : Tables) (id : ℕ) where
  pub target_none : not (present T.nodes id) || (node_at T.nodes id).retired ≡ true → target T id ≡ Target.nothing
  unfolding target
  target_none h = rw (both-or (present T.nodes id) (node_at T.nodes id).retired h)

  pub target-bound : not (present T.nodes id) || (node_at T.nodes id).retired ≡ false → target T id ≡ bind_ports (resolve T) (dependency_ports T.declarations id)
  unfolding target
  target-bound h = rw (not_f (present T.nodes id) (or_f_l (not (present T.nodes id)) _ h), or_f_r (not (present T.nodes id)) (node_at T.nodes id).retired h)
