-- update_node keeps soundness without point 6; points 7 to 9 of a new node of which it may assume what `assumed` says.
use Rattle.model.proofs.Logic.{Bool, List, List-as-Memᴰ, List·Memᴰ·head, List·Memᴰ·tail, Option, [], ◌&&◌, ◌||◌, ◌∙◌, ◌∷◌, ◌≡◌, ◌⊎◌, ap, eq-eqb, eqb, eqb-true, false, inl, inr, ne_eqb, none, not, refl, some, true, ℕ}
use Rattle.model.specs.{Commands.settle, Commands.update_node, Lifecycle.relies, Lifecycle.retired_tests, Lifecycle.unloading_tests, Lists.any, Records.absent_node, Records.consistency_tests, Records.consumer_in, Records.has_parent, Records.is_child_of, Records.is_consistent, Records.is_inactive, Records.is_unloading, Records.parent_in, Records.provider_in, Records.restoring_node, Refusals.Reply, Refusals.first, Sizes.Sizes, Soundness.absent_ok, Soundness.fits, Soundness.safety_wf, Soundness.stored_wf, Tables.Tables, Tables.node_at, Tables.not_inactive, Tables.present, Tables.with_node, UpdateNode.assumed, UpdateNode.blocks, UpdateNode.idle, UpdateNode.update_tests, declared.Error.Error, declared.Parent.Parent, declared.records.Link.Link, declared.records.Node.Node}
use Rattle.model.proofs.{Laws.Booleans.Each, Laws.Booleans.and_i, Laws.Booleans.and_l, Laws.Booleans.and_r, Laws.Booleans.cases, Laws.Booleans.clash, Laws.Booleans.each, Laws.Booleans.f_not, Laws.Booleans.imp_e, Laws.Booleans.imp_i, Laws.Booleans.not_f, Laws.Booleans.not_t, Laws.Booleans.of_each, Laws.Booleans.or_f_l, Laws.Booleans.or_f_r, Laws.Facts.AbsentOk, Laws.Facts.Safe, Laws.Facts.fits-of, Laws.Facts.of_fits, Laws.Facts.of_safe, Laws.Facts.of_stored, Laws.Facts.safe_of, Laws.Facts.stored_of, Laws.Lists.in_any, Laws.Lists.none_in, Laws.Nodes.node_in, Laws.Nodes.present-lt, Laws.Phases.unloading_installed, Laws.Refusals.Passed, Laws.Refusals.of_passed, Laws.Refusals.passed, Laws.Refusals.skip, Laws.Update.KeepsEpisode, Laws.Update.Update, Laws.Update.fits-update, Laws.Update.safe_update, Laws.Update.stored-update}

-- a live link that does not block the new node's consumer, or its provider
module _ (id : ℕ) (n : Node) (l : Link) (v : l.live ≡ true) (h : blocks id n l ≡ false) where
  free : eqb (consumer_in l) id && idle n || eqb (provider_in l) id && (idle n || n.restoring) ≡ false
  unfolding blocks
  free = rw v at h

  pub unblocked_consumer : consumer_in l ≡ id → (n.present ≡ true) × (not (is_inactive n.phase) ≡ true)
  unblocked_consumer e =
      let x : idle n ≡ false = rw (eq-eqb _ _ e) at (or_f_l (eqb (consumer_in l) id && idle n) _ free) in
      (not_f _ (or_f_l (not n.present) _ x), f_not _ (or_f_r (not n.present) _ x))

  pub unblocked_provider : provider_in l ≡ id → (n.present ≡ true) × (not (is_inactive n.phase) ≡ true) × (n.restoring ≡ false)
  unblocked_provider e =
      let x : idle n || n.restoring ≡ false = rw (eq-eqb _ _ e) at (or_f_r (eqb (consumer_in l) id && idle n) _ free) in
      let y : idle n ≡ false = or_f_l (idle n) _ x in
      (not_f _ (or_f_l (not n.present) _ y), f_not _ (or_f_r (not n.present) _ y), or_f_r (idle n) _ x)

-- no present node has this parent
pub no_child : (T : Tables) (id i : ℕ) → any (is_child_of id) T.nodes ≡ false → present T.nodes i ≡ true → parent_in (node_at T.nodes i) ≡ Parent.Of id → ⊥
no_child T id i c a e =
    let child = and_i (node_at T.nodes i).present (has_parent id (parent_in (node_at T.nodes i))) a (rw e (eq-eqb id id refl)) in
    clash {A = ⊥} _ child (none_in (is_child_of id) (node_in T.nodes i (present-lt _ _ a)) c)

pub update_passed : (T : Tables) (id : ℕ) (n : Node) → Passed (update_tests T id n) → Update T id n
update_passed T id n p =
    let e : Each (consistency_tests n) = each (consistency_tests n) (not_f _ p.1.0) in
    record {
      there = not_f _ p.0;
      parent-ok = λ a. not_f _ (rw a at p.1.1.0);
      absent-inactive = λ a. imp_e (not n.present) (is_inactive n.phase) e.0 (f_not n.present a);
      restoring-present = imp_e n.restoring n.present e.1.1.0;
      restoring-unloading = imp_e n.restoring (is_unloading n.phase) e.1.1.1.0;
      children = λ i a f. go i a f (cases n.present);
      consumes = λ l m v f. unblocked_consumer id n l v (none_in (blocks id n) m p.1.1.1.1.0) f;
      provides = λ l m v f. unblocked_provider id n l v (none_in (blocks id n) m p.1.1.1.1.0) f;
    }
  where
    go : (i : ℕ) → present T.nodes i ≡ true → parent_in (node_at T.nodes i) ≡ Parent.Of id → (n.present ≡ true) ⊎ (n.present ≡ false) → n.present ≡ true
    go i a f (inl x) = x
    go i a f (inr x) = absurd (no_child T id i (rw x at p.1.1.1.0) a f)

pub update_node-safe : (T : Tables) (id : ℕ) (n : Node) → safety_wf T ≡ true → safety_wf (update_node T id n).tables ≡ true
unfolding update_node settle
update_node-safe T id n h = go (first (update_tests T id n)) refl
  where
    go : (o : Option Error) → first (update_tests T id n) ≡ o → safety_wf (settle o T (record { tables = with_node T id n; reply = Reply.done })).tables ≡ true
    go none e = of_safe (with_node T id n) (safe_update T id n (safe_of T h) (update_passed T id n (passed _ e)))
    go (some x) e = h

-- and the three points of what is stored
pub update_node-stored : (T : Tables) (id : ℕ) (n : Node) → assumed T id n ≡ true → stored_wf T ≡ true → stored_wf (update_node T id n).tables ≡ true
unfolding update_node settle absent_ok relies
update_node-stored T id n a h = go (first (update_tests T id n)) refl
  where
    smaller-parent : AbsentOk id n
    smaller-parent v = imp_e (not n.present) _ (and_l (absent_ok id n) _ a) (f_not _ v)

    keeps : KeepsEpisode T.nodes T.links id n
    keeps l m v e = eqb-true _ _ (imp_e (any (relies id) T.links) _ (and_r (absent_ok id n) _ a) (in_any (relies id) m (rw (v, eq-eqb _ _ e))))

    go : (o : Option Error) → first (update_tests T id n) ≡ o → stored_wf (settle o T (record { tables = with_node T id n; reply = Reply.done })).tables ≡ true
    go none e =
        let t : present T.nodes id ≡ true = not_f _ (passed (update_tests T id n) e).0 in
        of_stored (with_node T id n) (stored-update T.nodes T.links id n (present-lt _ _ t) (stored_of T h) smaller-parent keeps)
    go (some x) e = h

pub update_node-fits : (S : Sizes) (T : Tables) (id : ℕ) (n : Node) → fits S T ≡ true → fits S (update_node T id n).tables ≡ true
unfolding update_node settle
update_node-fits S T id n h = go (first (update_tests T id n))
  where
    go : (o : Option Error) → fits S (settle o T (record { tables = with_node T id n; reply = Reply.done })).tables ≡ true
    go none = of_fits S (with_node T id n) (fits-update S T id n (fits-of S T h))
    go (some x) = h

-- ---- what the lifecycle commands get from it on sound tables

-- a live link of the tables does not block a node that may be written
unblocked : (T : Tables) (id : ℕ) (n : Node) → Update T id n → (l : Link) → List-as-Memᴰ l T.links → blocks id n l ≡ false
unfolding blocks
unblocked T id n u l m = go l.live refl (eqb (consumer_in l) id) refl (eqb (provider_in l) id) refl
  where
    ready : (n.present ≡ true) × (not (is_inactive n.phase) ≡ true) → idle n ≡ false
    ready (a, b) = rw (a, not_t (is_inactive n.phase) b)

    go : (v : Bool) → l.live ≡ v → (c : Bool) → eqb (consumer_in l) id ≡ c → (p : Bool) → eqb (provider_in l) id ≡ p → v && (c && idle n || p && (idle n || n.restoring)) ≡ false
    go false e c f p g = refl
    go true e false f false g = refl
    go true e true f false g = rw (ready (u.consumes l m e (eqb-true _ _ f)))
    go true e false f true g = let (a, b, r) = u.provides l m e (eqb-true _ _ g) in rw (ready (a, b), r)
    go true e true f true g = let (a, b, r) = u.provides l m e (eqb-true _ _ g) in rw (ready (a, b), r)

none_any : {A : Type 0} (p : A → Bool) (xs : List A) → ((x : A) → List-as-Memᴰ x xs → p x ≡ false) → any p xs ≡ false
none_any p [] f = refl
none_any p (x ∷ xs) f = rw (f x (List·Memᴰ·head refl), none_any p xs (λ y m. f y (List·Memᴰ·tail m)))

-- the tests before those of children and links
consistent_of : (T : Tables) (id : ℕ) (n : Node) → Update T id n → (n.present ≡ false → n.restoring ≡ false) → is_consistent n ≡ true
consistent_of T id n u k =
    let inactive = imp_i (not n.present) (is_inactive n.phase) (λ a. u.absent-inactive (not_t _ a)) in
    let kept = imp_i (not n.present) (not n.restoring) (λ a. f_not _ (k (not_t _ a))) in
    let there = imp_i n.restoring n.present u.restoring-present in
    let unloading = imp_i n.restoring (is_unloading n.phase) u.restoring-unloading in
    of_each (consistency_tests n) (inactive, (kept, (there, (unloading, tt))))

-- a present node that may be written passes every test
pub update_accepts : (T : Tables) (id : ℕ) (n : Node) → Update T id n → n.present ≡ true → first (update_tests T id n) ≡ none
update_accepts T id n u p =
    let none = none_any (blocks id n) T.links (unblocked T id n u) in
    of_passed (update_tests T id n) (rw u.there, (rw (consistent_of T id n u (λ a. clash _ p a)), (rw (p, u.parent-ok p), (rw p, (none, tt)))))

-- ---- what is left of its row where a command has tested its node on sound tables

-- begin_cleanup: a node that starts restoring is refused by a live link that relies on it, and by nothing else
module _ (T : Tables) (id : ℕ) (k : Safe T) (p : Passed (unloading_tests (node_at T.nodes id))) where
  there : present T.nodes id ≡ true
  there = not_f _ p.0

  unloads : is_unloading (node_at T.nodes id).phase ≡ true
  unloads = and_l (is_unloading (node_at T.nodes id).phase) (not (node_at T.nodes id).restoring) (not_f _ p.1.0)

  not-idle : idle (restoring_node (node_at T.nodes id)) ≡ false
  not-idle = rw (there, not_t (is_inactive (node_at T.nodes id).phase) (unloading_installed (node_at T.nodes id).phase unloads))

  restoring-consistent : is_consistent (restoring_node (node_at T.nodes id)) ≡ true
  restoring-consistent = rw (there, unloads)

  restoring-blocks : (l : Link) → blocks id (restoring_node (node_at T.nodes id)) l ≡ relies id l
  unfolding blocks relies
  restoring-blocks l = rw not-idle (ap (λ (b : Bool). l.live && b) (go (eqb (consumer_in l) id) (eqb (provider_in l) id)))
    where
      go : (a b : Bool) → a && false || b && true ≡ b
      go true true = refl
      go true false = refl
      go false true = refl
      go false false = refl

  pub update_to_restoring : first (update_tests T id (restoring_node (node_at T.nodes id))) ≡ first ((any (relies id) T.links, Error.Relied) ∷ [])
  update_to_restoring =
      skip _ _ _ (rw there)
      ∙ skip _ _ _ (rw restoring-consistent)
      ∙ skip _ _ _ (rw (there, (k.nodes id).parent-ok there))
      ∙ skip _ _ _ (rw there)
      ∙ ap (λ (f : Link → Bool). first ((any f T.links, Error.Relied) ∷ [])) (λ i l. restoring-blocks l i)

-- a last test that does not apply
drop-last : (b : Bool) (e x : Error) → first ((b, e) ∷ (false, x) ∷ []) ≡ first ((b, e) ∷ [])
unfolding first
drop-last b e x = refl

-- remove: an absent node is refused by a present child, and by nothing else
module _ (T : Tables) (id : ℕ) (k : Safe T) (p : Passed (retired_tests (node_at T.nodes id))) where
  was_there : present T.nodes id ≡ true
  was_there = not_f _ p.0

  was_inactive : is_inactive (node_at T.nodes id).phase ≡ true
  was_inactive = and_r (node_at T.nodes id).retired _ (not_f _ p.1.0)

  was_kept : (node_at T.nodes id).restoring ≡ false
  was_kept = go (cases (node_at T.nodes id).restoring)
    where
      go : ((node_at T.nodes id).restoring ≡ true) ⊎ ((node_at T.nodes id).restoring ≡ false) → (node_at T.nodes id).restoring ≡ false
      go (inl r) = clash _ was_inactive (not_t (is_inactive (node_at T.nodes id).phase) (unloading_installed (node_at T.nodes id).phase ((k.nodes id).restoring-unloading r)))
      go (inr r) = r

  -- no live link has it as an end
  no_end : (l : Link) → List-as-Memᴰ l T.links → blocks id (absent_node (node_at T.nodes id)) l ≡ false
  unfolding blocks
  no_end l m = go (cases l.live)
    where
      away : (i : ℕ) → not_inactive T.nodes i ≡ true → i ≡ id → ⊥
      away i h e = clash {A = ⊥} (is_inactive (node_at T.nodes id).phase) was_inactive (not_t (is_inactive (node_at T.nodes id).phase) (rw e at h))

      go : (l.live ≡ true) ⊎ (l.live ≡ false) → blocks id (absent_node (node_at T.nodes id)) l ≡ false
      go (inl v) = let o = k.live l m v in rw (v, ne_eqb (consumer_in l) id (away (consumer_in l) o.consumer-installed), ne_eqb (provider_in l) id (away (provider_in l) o.provider_installed))
      go (inr v) = rw v

  pub update_to_absent : first (update_tests T id (absent_node (node_at T.nodes id))) ≡ first ((any (is_child_of id) T.nodes, Error.Children) ∷ [])
  update_to_absent =
      let children = any (is_child_of id) T.nodes in
      let none = none_any (blocks id (absent_node (node_at T.nodes id))) T.links no_end in
      skip _ _ _ (rw was_there)
      ∙ skip _ _ _ (rw (was_inactive, was_kept))
      ∙ skip false Error.Unknown _ refl
      ∙ ap (λ (b : Bool). first ((children, Error.Children) ∷ (b, Error.Relied) ∷ [])) none
      ∙ drop-last children Error.Children Error.Relied
