-- What a leave makes of resolve and target, of all tables: whoever found the leaving component finds it not Active, and has no target.
use Rattle.model.proofs.Logic.{Bool, List, List-as-Memᴰ, Option, [], ◌&&◌, ◌||◌, ◌∙◌, ◌∷◌, ◌≡◌, and-false, ap, cond, eq-eqb, eqb, false, ne_eqb, none, not, refl, some, sym, true, ℕ, ℕ_discrete}
use Rattle.model.specs.{Lifecycle.leave_tests, Lifecycle.left, Lists.any, Records.binding_of, Records.is_providing, Records.owner_in, Records.with_phase, Resolution.Target, Resolution.bind_ports, Resolution.dependency_ports, Resolution.joined, Resolution.look_up, Resolution.offers, Resolution.owned, Resolution.resolve, Resolution.target, Resolution.target_list, Tables.Tables, Tables.node_at, Tables.present, Tables.providing, declared.Binding.Binding, declared.Phase.Phase, declared.Port.Port, declared.Resolution.Resolution, declared.records.Declaration.Declaration}
use Rattle.model.proofs.{Laws.Booleans.not_f, Laws.Lists.in_any, Laws.Nodes.at_other, Laws.Nodes.at_same, Laws.Nodes.present-lt, Laws.Refusals.Passed}

-- a lookup's answer as it is once id has left
abbrev unprovided : ℕ → Resolution → Resolution
unprovided id (Resolution.Provider o) = cond (eqb o id) (Resolution.NotActive o) (Resolution.Provider o)
unprovided id (Resolution.NotActive o) = Resolution.NotActive o
unprovided id Resolution.NoOwner = Resolution.NoOwner

-- a binding with this provider
unfoldable pub bound_to : ℕ → Binding → Bool
bound_to id b = eqb b.provider id

pub binds_to : {id : ℕ} {bs : List Binding} {b : Binding} → List-as-Memᴰ b bs → b.provider ≡ id → any (bound_to id) bs ≡ true
unfolding bound_to
binds_to {id} m e = in_any (bound_to id) m (eq-eqb _ _ e)

-- a target as it is once id has left: none if it binds to id
unfoldable pub after_leave : ℕ → Option (List Binding) → Option (List Binding)
after_leave id none = none
after_leave id (some bs) = cond (any (bound_to id) bs) none (some bs)

module _ (here here' active active' : ℕ → Bool) (id : ℕ) (same : (o : ℕ) → here' o ≡ here o) (gone : active' id ≡ false) (others : (o : ℕ) → (o ≡ id → ⊥) → active' o ≡ active o) where
  owned-left : (o : ℕ) → owned active' o ≡ unprovided id (owned active o)
  owned-left o = go (ℕ_discrete o id)
    where
      stays : (b : Bool) → eqb o id ≡ false → cond b (Resolution.Provider o) (Resolution.NotActive o) ≡ unprovided id (cond b (Resolution.Provider o) (Resolution.NotActive o))
      stays true e = rw e
      stays false e = refl

      goes : (b : Bool) → eqb o id ≡ true → Resolution.NotActive o ≡ unprovided id (cond b (Resolution.Provider o) (Resolution.NotActive o))
      goes true e = rw e
      goes false e = refl

      go : Dec (o ≡ id) → owned active' o ≡ unprovided id (owned active o)
      go (yes e) = rw (ap active' e ∙ gone) (goes (active o) (eq-eqb o id e))
      go (no d) = rw (others o d) (stays (active o) (ne_eqb o id d))

  look_up-left : (ds : List Declaration) (p : Port) → look_up here' active' ds p ≡ unprovided id (look_up here active ds p)
  unfolding look_up offers
  look_up-left [] p = refl
  look_up-left (d ∷ ds) p = rw (same (owner_in d)) (go (offers here p d) (look_up-left ds p))
    where
      go :
          (b : Bool) → look_up here' active' ds p ≡ unprovided id (look_up here active ds p)
          → cond b (owned active' (owner_in d)) (look_up here' active' ds p) ≡ unprovided id (cond b (owned active (owner_in d)) (look_up here active ds p))
      go true e = owned-left (owner_in d)
      go false e = e

-- the list of a target whose first port is this
abbrev joined_list : Port → Resolution → Option (List Binding) → Option (List Binding)
joined_list p (Resolution.Provider o) none = none
joined_list p (Resolution.Provider o) (some bs) = some (binding_of p o ∷ bs)
joined_list p (Resolution.NotActive o) bs = none
joined_list p Resolution.NoOwner bs = none

joined-list : (p : Port) (r : Resolution) (t : Target) → target_list (joined p r t) ≡ joined_list p r (target_list t)
unfolding joined
joined-list p (Resolution.Provider o) (Target.bound bs) = refl
joined-list p (Resolution.Provider o) (Target.missing u) = refl
joined-list p (Resolution.Provider o) Target.nothing = refl
joined-list p (Resolution.NotActive o) t = refl
joined-list p Resolution.NoOwner t = refl

joined-left : (id : ℕ) (p : Port) (r : Resolution) (t : Option (List Binding)) → joined_list p (unprovided id r) (after_leave id t) ≡ after_leave id (joined_list p r t)
unfolding after_leave bound_to
joined-left id p (Resolution.NotActive o) t = refl
joined-left id p Resolution.NoOwner t = refl
joined-left id p (Resolution.Provider o) none = go (eqb o id)
  where
    go : (b : Bool) → joined_list p (cond b (Resolution.NotActive o) (Resolution.Provider o)) none ≡ none
    go true = refl
    go false = refl
joined-left id p (Resolution.Provider o) (some bs) = go (eqb o id) (any (bound_to id) bs)
  where
    go : (a b : Bool) → joined_list p (cond a (Resolution.NotActive o) (Resolution.Provider o)) (cond b none (some bs)) ≡ cond (a || b) none (some (binding_of p o ∷ bs))
    go true b = refl
    go false true = refl
    go false false = refl

bind_left : (f g : Port → Resolution) (id : ℕ) → ((p : Port) → g p ≡ unprovided id (f p)) → (ps : List Port) → target_list (bind_ports g ps) ≡ after_leave id (target_list (bind_ports f ps))
unfolding bind_ports
bind_left f g id h [] = unfold after_leave in refl
bind_left f g id h (p ∷ ps) =
    joined-list p (g p) (bind_ports g ps) ∙ (λ i. joined_list p (h p i) (bind_left f g id h ps i)) ∙ joined-left id p (f p) (target_list (bind_ports f ps))
    ∙ ap (after_leave id) (sym (joined-list p (f p) (bind_ports f ps)))

-- ---- where leave's tests are passed

module _ (T : Tables) (id : ℕ) (q : Passed (leave_tests T id)) where
  pub leaver_present : present T.nodes id ≡ true
  leaver_present = not_f _ q.0

  -- another's node is the same
  pub node_kept : (j : ℕ) → (j ≡ id → ⊥) → node_at (left T id).nodes j ≡ node_at T.nodes j
  node_kept j d = at_other T.nodes id j _ d

  -- its own is Unloading
  node-left : node_at (left T id).nodes id ≡ with_phase Phase.Unloading (node_at T.nodes id)
  node-left = at_same T.nodes id (with_phase Phase.Unloading (node_at T.nodes id)) (present-lt _ _ leaver_present)

  resolve_left : (p : Port) → resolve (left T id) p ≡ unprovided id (resolve T p)
  resolve_left p = look_up-left (present T.nodes) (present (left T id).nodes) (providing T.nodes) (providing (left T id).nodes) id same gone others T.declarations p
    where
      same : (o : ℕ) → present (left T id).nodes o ≡ present T.nodes o
      same o = go (ℕ_discrete o id)
        where
          go : Dec (o ≡ id) → present (left T id).nodes o ≡ present T.nodes o
          go (yes e) = rw (e, node-left, present)
          go (no d) = rw (node_kept o d, present)

      gone : providing (left T id).nodes id ≡ false
      gone = ap is_providing node-left ∙ and-false (present T.nodes id)

      others : (o : ℕ) → (o ≡ id → ⊥) → providing (left T id).nodes o ≡ providing T.nodes o
      others o d = ap is_providing (node_kept o d)

  -- another's target is as it was, or there is none if it bound to the leaving one
  pub target_left : (j : ℕ) → (j ≡ id → ⊥) → target_list (target (left T id) j) ≡ after_leave id (target_list (target T j))
  unfolding target
  target_left j d = rw (node_kept j d, present) (go (present T.nodes j && not (node_at T.nodes j).retired))
    where
      ports : List Port
      ports = dependency_ports T.declarations j

      go : (b : Bool) → target_list (cond b (bind_ports (resolve (left T id)) ports) Target.nothing) ≡ after_leave id (target_list (cond b (bind_ports (resolve T) ports) Target.nothing))
      go true = bind_left (resolve T) (resolve (left T id)) id resolve_left ports
      go false = unfold after_leave in refl
