-- The list: ascending; who is on it and who is not, in the request's words and in what leave_if_changed and check_iteration answer; the live link of each that is.
use Rattle.model.proofs.Logic.{Bool, List, List-as-Memᴰ, Option, ◌↔◌, ◌∙◌, ◌≡◌, ◌≤◌, ap, cond, eq-eqb, eqb-true, false, length, ne_eqb, none, refl, some, subst, sym, true, ℕ}
use Rattle.model.specs.{Impact.affected, Impact.hit_tests, Impact.is_hit, Lifecycle.leave_tests, Lifecycle.left, Lifecycle.phase_at, Lifecycle.relies, Lists.any, Lists.is_none, Lists.keep, Observers.ids, Records.binding_in, Records.consumer_in, Records.dependency, Records.is_running, Records.port_in, Records.port_of, Records.provider_in, Records.provision, Resolution.target, Resolution.target_list, Sizes.Sizes, Soundness.sound, Tables.Tables, Tables.present, declared.Binding.Binding, declared.Port.Port, declared.records.Link.Link}
use Rattle.model.proofs.{Laws.Ascending.Ascending, Laws.Ascending.ascending-few, Laws.Ascending.ascending_keep, Laws.Booleans.Each, Laws.Booleans.and_i, Laws.Booleans.clash, Laws.Booleans.each, Laws.Booleans.f_not, Laws.Booleans.not_f, Laws.Booleans.not_t, Laws.Booleans.of_each, Laws.Facts.Linked, Laws.Facts.LiveOk, Laws.Facts.facts, Laws.Lists.any-in, Laws.Lists.in_keep, Laws.Lists.is_some, Laws.Lists.keep-in, Laws.Lists.never, Laws.Phases.running-installed, Laws.Refusals.Passed, Laws.Resolution.Resolved, Laws.Resolution.Targeted, Laws.Resolution.target-needed, Laws.Resolution.target-resolved, Laws.Resolution.targeted, Theorems.Impact.Target.after_leave, Theorems.Impact.Target.bound_to, Theorems.Impact.Target.target_left, Theorems.Upstream.Identities.ids-ascend, Theorems.Upstream.Identities.ids-present}

pub is-none : {A : Type 0} (o : Option A) → is_none o ≡ true → o ≡ none
is-none none h = refl
is-none (some a) h = clash true refl (sym h)

pub not_none : {A : Type 0} (o : Option A) → (o ≡ none → ⊥) → is_none o ≡ false
not_none none h = absurd (h refl)
not_none (some a) h = refl

pub is-there : {A : Type 0} (o : Option A) → is_none o ≡ false → o ≡ none → ⊥
is-there o h e = clash {A = ⊥} (is_none o) (rw e) h

-- ---- ascending, each identity once: of all tables

pub affected-ascend : (T : Tables) (id : ℕ) → Ascending 0 (affected T id)
unfolding affected
affected-ascend T id = ascending_keep (is_hit T id) 0 (ids T) (ids-ascend T)

-- ---- who is on the list: of all tables

-- another component, present and Loading or Active, that has a target
pub record Targets (T : Tables) (id j : ℕ) : Type 0 where
  pub there : present T.nodes j ≡ true
  pub other : j ≡ id → ⊥
  pub runs : is_running (phase_at T j) ≡ true
  pub has : target_list (target T j) ≡ none → ⊥

module _ (T : Tables) (id j : ℕ) where
  -- another that runs, with a target now and none afterwards
  pub affected-is : List-as-Memᴰ j (affected T id) ↔ (Targets T id j × (target_list (target (left T id) j) ≡ none))
  unfolding affected is_hit
  affected-is = (
    λ m.
        let (i, h) = in_keep (is_hit T id) (ids T) m in
        let e : Each (hit_tests T id j) = each (hit_tests T id j) h in
        let other : j ≡ id → ⊥ = λ x. clash {A = ⊥} _ (eq-eqb j id x) (not_t _ e.0) in
        (record { there = (ids-present T j).0 i; other = other; runs = e.1.0; has = is-there _ (not_t _ e.1.1.0) }, is-none _ (not_f _ (not_t _ e.1.1.1.0))),
    λ (t, e). keep-in (is_hit T id) ((ids-present T j).1 t.there) (of_each (hit_tests T id j) (f_not _ (ne_eqb j id t.other), (t.runs, (f_not _ (not_none _ t.has), (rw e, tt))))),
  )

  -- the leaving one never is
  pub never-itself : j ≡ id → List-as-Memᴰ j (affected T id) → ⊥
  never-itself e m = (affected-is.0 m).0.other e

-- ---- where leave's tests are passed

module _ (T : Tables) (id : ℕ) (q : Passed (leave_tests T id)) (j : ℕ) where
  -- who is on it binds to the leaving one
  pub hit-binds : (bs : List Binding) → target_list (target T j) ≡ some bs → List-as-Memᴰ j (affected T id) → (b : Binding) × List-as-Memᴰ b bs × (b.provider ≡ id)
  unfolding after_leave bound_to
  hit-binds bs e m = go (any (bound_to id) bs) refl
    where
      gone : after_leave id (some bs) ≡ none
      gone = let (t, n) = (affected-is T id j).0 m in ap (after_leave id) (sym e) ∙ sym (target_left T id q j t.other) ∙ n

      go : (c : Bool) → any (bound_to id) bs ≡ c → (b : Binding) × List-as-Memᴰ b bs × (b.provider ≡ id)
      go true x = let (b, n, y) = any-in (bound_to id) bs x in (b, n, eqb-true _ _ y)
      go false x = never bs (sym (rw x at gone))

  -- and another that runs and binds to it is on it
  pub binds_hit : Targets T id j → (bs : List Binding) → target_list (target T j) ≡ some bs → any (bound_to id) bs ≡ true → List-as-Memᴰ j (affected T id)
  unfolding after_leave
  binds_hit t bs e x = (affected-is T id j).1 (t, target_left T id q j t.other ∙ ap (after_leave id) e ∙ rw x)

  -- off the list: the same bindings, or none both times
  pub unaffected_same : (j ≡ id → ⊥) → present T.nodes j ≡ true → is_running (phase_at T j) ≡ true → (List-as-Memᴰ j (affected T id) → ⊥) → target_list (target (left T id) j) ≡ target_list (target T j)
  unfolding after_leave
  unaffected_same d i r f = target_left T id q j d ∙ go (target_list (target T j)) refl
    where
      go : (t : Option (List Binding)) → target_list (target T j) ≡ t → after_leave id t ≡ t
      go none e = refl
      go (some bs) e = at-any (any (bound_to id) bs) refl
        where
          has : target_list (target T j) ≡ none → ⊥
          has n = never bs (sym n ∙ e)

          at-any : (b : Bool) → any (bound_to id) bs ≡ b → cond b none (some bs) ≡ some bs
          at-any true x = absurd (f (binds_hit (record { there = i; other = d; runs = r; has = has }) bs e x))
          at-any false x = refl

-- on sound tables who else offers a live link's port, and is present, is its provider
pub one_provider :
    (S : Sizes) (T : Tables) → sound S T ≡ true → (l : Link) → List-as-Memᴰ l T.links → l.live ≡ true
    → (o : ℕ) → List-as-Memᴰ (provision o (port_in l)) T.declarations → present T.nodes o ≡ true → o ≡ provider_in l
one_provider S T h l m v o n t =
    let w : LiveOk T.nodes T.declarations (consumer_in l) (binding_in l) = (facts S T h).safe.live l m v in
    (facts S T h).safe.unique (provision o (port_in l)) (provision (provider_in l) (port_in l)) n w.offered refl refl t w.provider_present refl

-- ---- on sound tables: each has a live link with the leaving one as provider, so there are no more of them than of such links
-- (each dependency of a component that runs has a live link, and a port has one present owner)

module _ (S : Sizes) (T : Tables) (h : sound S T ≡ true) (id : ℕ) (q : Passed (leave_tests T id)) where
  pub affected-relies : (j : ℕ) → List-as-Memᴰ j (affected T id) → (l : Link) × List-as-Memᴰ l (keep (relies id) T.links) × (consumer_in l ≡ j)
  unfolding relies
  affected-relies j m =
      let t : Targets T id j = ((affected-is T id j).0 m).0 in
      let (bs, e) = is_some (target_list (target T j)) (not_none _ t.has) in
      let w : Targeted T j bs = targeted T j bs e in
      let (b, n, x) = hit-binds T id q j bs e m in
      let c : Linked T.links j (port_of b) = (facts S T h).covered (dependency j (port_of b)) (target-needed T j bs w b n) refl t.there (running-installed (phase_at T j) t.runs) in
      let r : Resolved T.nodes T.declarations (port_of b) b.provider = target-resolved T j bs w b n in
      let offered : List-as-Memᴰ (provision b.provider (port_in c.link)) T.declarations = subst (λ (p : Port). List-as-Memᴰ (provision b.provider p) T.declarations) (sym c.of_port) r.offered in
      let u : b.provider ≡ provider_in c.link = one_provider S T h c.link c.among c.is_live b.provider offered r.there in
      (c.link, keep-in (relies id) c.among (and_i c.link.live _ c.is_live (eq-eqb _ _ (sym u ∙ x))), c.of_consumer)

  pub affected-few : length (affected T id) ≤ length (keep (relies id) T.links)
  affected-few = ascending-few (λ (l : Link). consumer_in l) 0 (affected T id) (affected-ascend T id) (keep (relies id) T.links) affected-relies
