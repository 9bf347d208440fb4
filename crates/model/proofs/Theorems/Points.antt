-- The test of soundness is the rules' nine points, both ways; and that of a kernel its counts, its blanks and these.
use Rattle.model.proofs.Logic.{Bool, List, List-as-Memᴰ, [], ◌&&◌, ◌<◌, ◌↔◌, ◌∙◌, ◌∷◌, ◌≡◌, ◌⊎◌, ap, arith, dec_lt, drop, false, get_or, inl, inr, length, lt-ltb, ltb, ltb-true, not, refl, suc, sym, true, zero, ℕ}
use Rattle.model.specs.{Layouts.Layout, Layouts.sound_kernel, Layouts.tables_of, Lifecycle.phase_at, Lists.all, Points.At, Points.BlankPast, Points.Installed, Points.Issued, Points.KernelPoints, Points.Points, Points.Present, Points.Restoring, Points.Within, Records.binding_in, Records.blank_declaration, Records.blank_link, Records.blank_node, Records.consumer_in, Records.is_blank_declaration, Records.is_blank_link, Records.is_blank_node, Records.is_inactive, Records.parent_in, Records.provider_in, Sizes.Sizes, Soundness.apart, Soundness.every_point, Soundness.fits, Soundness.parent_ok, Soundness.safety_wf, Soundness.smaller, Soundness.sound, Soundness.wf, Tables.Tables, Tables.node_at, Tables.not_inactive, Tables.present, declared.Parent.Parent, declared.Phase.Phase, declared.records.Link.Link, declared.records.Node.Node}
use Rattle.model.proofs.{Laws.Blanks.blank_declaration_lem, Laws.Blanks.blank_link_lem, Laws.Blanks.blank_node_lem, Laws.Booleans.and_i, Laws.Booleans.and_l, Laws.Booleans.and_r, Laws.Booleans.cases, Laws.Booleans.clash, Laws.Booleans.not_t, Laws.Facts.AbsentOk, Laws.Facts.Covered, Laws.Facts.Fits, Laws.Facts.LiveOk, Laws.Facts.NodeOk, Laws.Facts.Safe, Laws.Facts.Stored, Laws.Facts.blank_ok, Laws.Facts.covered_of, Laws.Facts.fits-of, Laws.Facts.of_covered, Laws.Facts.of_fits, Laws.Facts.of_safe, Laws.Facts.of_stored, Laws.Facts.safe_of, Laws.Facts.stored_of, Laws.Lists.at_in, Laws.Lists.at_onward, Laws.Lists.get_d_any, Laws.Lists.in_at, Laws.Lists.onward-at, Laws.Nodes.past-blank, Laws.Nodes.present-lt, Laws.Order.apart_of, Laws.Order.of_apart, Laws.Phases.inactive-is, Laws.Phases.unloading_is, Theorems.Layouts.Laid, Theorems.Layouts.laid_of, Theorems.Layouts.of_laid}

-- ---- nodes by place and by identity

pub at-node : (ns : List Node) (i : ℕ) (n : Node) → At ns i n → node_at ns i ≡ n
unfolding node_at
at-node ns i n a = get_d_any ns i blank_node n a.0 ∙ a.1

pub node_at_lem : (ns : List Node) (i : ℕ) → i < length ns → At ns i (node_at ns i)
unfolding node_at
node_at_lem ns i l = (l, get_d_any ns i (get_or ns i blank_node) blank_node l)

not-inactive : (f : Phase) → not (is_inactive f) ≡ true → f ≡ Phase.Inactive → ⊥
not-inactive f h e = clash {A = ⊥} (is_inactive f) (rw e) (not_t _ h)

of_not_inactive : (f : Phase) → (f ≡ Phase.Inactive → ⊥) → not (is_inactive f) ≡ true
of_not_inactive Phase.Inactive g = absurd (g refl)
of_not_inactive Phase.Loading g = refl
of_not_inactive Phase.Active g = refl
of_not_inactive Phase.Unloading g = refl

module _ (T : Tables) where
  pub to_present : (id : ℕ) → Present T id → present T.nodes id ≡ true
  to_present id (n, a, p) = rw (at-node T.nodes id n a, present) p

  of_present : (id : ℕ) → present T.nodes id ≡ true → Present T id
  of_present id h = (node_at T.nodes id, node_at_lem T.nodes id (present-lt _ _ h), h)

  to_installed : (id : ℕ) → Installed T id → not_inactive T.nodes id ≡ true
  to_installed id (n, a, p, g) = rw (at-node T.nodes id n a) (of_not_inactive n.phase g)

  of_installed : (id : ℕ) → present T.nodes id ≡ true → not_inactive T.nodes id ≡ true → Installed T id
  of_installed id h i = (node_at T.nodes id, node_at_lem T.nodes id (present-lt _ _ h), h, not-inactive (phase_at T id) i)

-- ---- from the test

module _ (T : Tables) (k : Safe T) (c : Covered T) (s : Stored T.nodes T.links) where
  node_ok_lem : (i : ℕ) (n : Node) → At T.nodes i n → NodeOk T.nodes i n
  node_ok_lem i n a = rw (at-node T.nodes i n a) at (k.nodes i)

  live_at : (i : ℕ) (l : Link) → At T.links i l → l.live ≡ true → LiveOk T.nodes T.declarations (consumer_in l) (binding_in l)
  live_at i l a v = k.live l (at_in T.links i l a) v

  parent-points : (i p : ℕ) (o : Parent) → parent_ok T.nodes i o ≡ true → o ≡ Parent.Of p → Present T p × (p < i)
  unfolding parent_ok
  parent-points i p o h e =
      let g : ltb p i && present T.nodes p ≡ true = rw e at h in
      (of_present T p (and_r (ltb p i) _ g), ltb-true _ _ (and_l (ltb p i) _ g))

  earlier : (i j : ℕ) (l m : Link) → At T.links i l → At T.links j m → l.live ≡ true → m.live ≡ true → provider_in l ≡ consumer_in m → Dec (j < i) → j < i
  earlier i j l m a b v w e (yes x) = x
  earlier i j l m a b v w e (no x) = absurd (of_apart l m (rw (a.1, b.1) at (onward-at apart T.links k.order i j l m (omega arith) b.0)) v w e)

  absent-parent : (i p : ℕ) (o : Parent) → smaller i o ≡ true → o ≡ Parent.Of p → p < i
  absent-parent i p o h e = ltb-true p i (rw e at h)

  points : Points T
  points = record {
    owners = λ i d a. k.owners d (at_in _ i d a);
    provisions = λ i j d e (a, p, x) (b, q, y) r. k.unique d e (at_in _ i d a) (at_in _ j e b) p q (to_present T _ x) (to_present T _ y) r;
    absent = λ i n a h. (inactive-is n.phase ((node_ok_lem i n a).absent-inactive h), (node_ok_lem i n a).absent-kept h);
    restoring = λ i n a h. ((node_ok_lem i n a).restoring-present h, unloading_is n.phase ((node_ok_lem i n a).restoring-unloading h));
    parents = λ i p n a h e. parent-points i p (parent_in n) ((node_ok_lem i n a).parent-ok h) e;
    ends = λ i l a v. let o = live_at i l a v in (of_installed T _ o.consumer-present o.consumer-installed, of_installed T _ o.provider_present o.provider_installed);
    providers = λ i l a v r. clash {A = ⊥} _ (rw (at-node T.nodes _ r.0 r.1) r.2) (live_at i l a v).provider_kept;
    declared = λ i l a v. (in_at (live_at i l a v).needed, in_at (live_at i l a v).offered);
    order = λ i j l m a b v w e. earlier i j l m a b v w e (dec_lt j i);
    covered = λ i d a p x. let o = c d (at_in _ i d a) p (to_present T _ (x.0, x.1, x.2)) (to_installed T _ x) in (o.link, in_at o.among, o.is_live, o.of_consumer, o.of_port);
    dead = λ i l a v. s.dead l (at_in _ i l a) v;
    absent-parents = λ i p n a h e. absent-parent i p (parent_in n) ((rw (at-node T.nodes i n a) at (s.absent i)) h) e;
    episodes = λ i l n a v b. s.episodes l (at_in _ i l a) v ∙ ap (λ (x : Node). x.generation) (at-node T.nodes (provider_in l) n b);
  }

-- ---- to the test

module _ (T : Tables) (k : Points T) where
  parent-ok : (i : ℕ) (o : Parent) → ((p : ℕ) → o ≡ Parent.Of p → Present T p × (p < i)) → parent_ok T.nodes i o ≡ true
  unfolding parent_ok
  parent-ok i Parent.None f = refl
  parent-ok i (Parent.Of p) f = and_i (ltb p i) _ (lt-ltb _ _ (f p refl).1) (to_present T p (f p refl).0)

  node : (i : ℕ) → Dec (i < length T.nodes) → NodeOk T.nodes i (node_at T.nodes i)
  node i (yes l) =
      let n : Node = node_at T.nodes i in
      let a : At T.nodes i (node_at T.nodes i) = node_at_lem T.nodes i l in
      record {
        absent-inactive = λ h. rw (k.absent i _ a h).0;
        absent-kept = λ h. (k.absent i _ a h).1;
        restoring-present = λ h. (k.restoring i _ a h).0;
        restoring-unloading = λ h. rw (k.restoring i _ a h).1;
        parent-ok = λ h. parent-ok i (parent_in n) (λ p e. k.parents i p _ a h e);
      }
  node i (no l) = rw (past-blank T.nodes i (omega arith)) (blank_ok T.nodes i)

  not-restoring-at : (id : ℕ) → present T.nodes id ≡ true → (Restoring T id → ⊥) → (b : Bool) → (node_at T.nodes id).restoring ≡ b → b ≡ false
  not-restoring-at id h g true e = absurd (g (node_at T.nodes id, node_at_lem T.nodes id (present-lt _ _ h), e))
  not-restoring-at id h g false e = refl

  live_facts : (l : Link) → List-as-Memᴰ l T.links → l.live ≡ true → LiveOk T.nodes T.declarations (consumer_in l) (binding_in l)
  live_facts l m v =
      let (i, a) = in_at m in
      let (x, y) = k.ends i l a v in
      let (d, e) = k.declared i l a v in
      let z : present T.nodes (provider_in l) ≡ true = to_present T _ (y.0, y.1, y.2) in
      record {
        consumer-present = to_present T _ (x.0, x.1, x.2);
        consumer-installed = to_installed T _ x;
        provider_present = z;
        provider_installed = to_installed T _ y;
        provider_kept = not-restoring-at _ z (k.providers i l a v) _ refl;
        needed = at_in _ d.0 _ d.1;
        offered = at_in _ e.0 _ e.1;
      }

  safe : Safe T
  safe = record {
    owners = λ d m. let (i, a) = in_at m in k.owners i d a;
    unique = λ d e m n p q x y r. let (i, a) = in_at m in let (j, b) = in_at n in k.provisions i j d e (a, p, of_present T _ x) (b, q, of_present T _ y) r;
    nodes = λ i. node i (dec_lt i (length T.nodes));
    live = live_facts;
    order = at_onward apart T.links (λ i j l m a b p. apart_of l m (λ v w e. omega (arith, k.order i j l m a b v w e)));
  }

  covers : Covered T
  covers d m p x y = let (i, a) = in_at m in let (l, b, v, e, f) = k.covered i d a p (of_installed T _ x y) in record { link = l; among = at_in _ b.0 l b.1; is_live = v; of_consumer = e; of_port = f }

  smaller-of : (i : ℕ) (o : Parent) → ((p : ℕ) → o ≡ Parent.Of p → p < i) → smaller i o ≡ true
  smaller-of i Parent.None f = refl
  smaller-of i (Parent.Of p) f = lt-ltb _ _ (f p refl)

  stored : Stored T.nodes T.links
  stored = record {
    dead = λ l m v. let (i, a) = in_at m in k.dead i l a v;
    absent = λ i. absent i (dec_lt i (length T.nodes));
    episodes = λ l m v. let (i, a) = in_at m in k.episodes i l _ a v (node_at_lem T.nodes (provider_in l) (present-lt _ _ (live_facts l m v).provider_present));
  }
    where
      absent : (i : ℕ) → Dec (i < length T.nodes) → AbsentOk i (node_at T.nodes i)
      absent i (yes l) = λ h. smaller-of i _ (λ p e. k.absent-parents i p _ (node_at_lem T.nodes i l) h e)
      absent i (no l) = rw (past-blank T.nodes i (omega arith)) (λ h. refl)

-- ---- both ways

pub every_point_lem : (T : Tables) → (every_point T ≡ true) ↔ Points T
unfolding every_point wf
every_point_lem T = (to, λ k. and_i (wf T) _ (and_i (safety_wf T) _ (of_safe T (safe T k)) (of_covered T (covers T k))) (of_stored T (stored T k)))
  where
    to : every_point T ≡ true → Points T
    to h =
        let w : wf T ≡ true = and_l (wf T) _ h in
        points T (safe_of T (and_l (safety_wf T) _ w)) (covered_of T (and_r (safety_wf T) _ w)) (stored_of T (and_r (wf T) _ h))

pub sound-points : (S : Sizes) (T : Tables) → (sound S T ≡ true) ↔ (Within S T × Points T)
unfolding sound
sound-points S T = (to, of)
  where
    to : sound S T ≡ true → Within S T × Points T
    to h = let f : Fits S T = fits-of S T (and_l (fits S T) _ h) in ((f.nodes, f.declarations, f.links), (every_point_lem T).0 (and_r (fits S T) _ h))

    of : Within S T × Points T → sound S T ≡ true
    of (w, k) = and_i (fits S T) _ (of_fits S T (record { nodes = w.0; declarations = w.1; links = w.2 })) ((every_point_lem T).1 k)

-- what points 7 and 8 add: nothing is stored that was not issued
pub stored-issued : (T : Tables) → Points T → Issued T
stored-issued T k = record { owners = k.owners; ends = λ i l a. ends i l a (cases l.live); parents = λ i p n a e. parents i p n a e (cases n.present) }
  where
    ends : (i : ℕ) (l : Link) → At T.links i l → (l.live ≡ true) ⊎ (l.live ≡ false) → (consumer_in l < length T.nodes) × (provider_in l < length T.nodes)
    ends i l a (inl v) = let (x, y) = k.ends i l a v in (x.1.0, y.1.0)
    ends i l a (inr v) = k.dead i l a v

    parents : (i p : ℕ) (n : Node) → At T.nodes i n → parent_in n ≡ Parent.Of p → (n.present ≡ true) ⊎ (n.present ≡ false) → p < i
    parents i p n a e (inl h) = (k.parents i p n a h e).1
    parents i p n a e (inr h) = k.absent-parents i p n a h e

-- ---- a kernel

module _ {A : Type 0} (same : A → Bool) (blank : A) where
  past-blanks : ((x : A) → same x ≡ true → x ≡ blank) → (c : ℕ) (xs : List A) → all same (drop c xs) ≡ true → BlankPast blank c xs
  past-blanks f c [] h i x a l = absurd (omega (arith, a.0))
  past-blanks f zero (y ∷ ys) h zero x a l = sym a.1 ∙ f y (and_l (same y) _ h)
  past-blanks f zero (y ∷ ys) h (suc i) x a l = past-blanks f zero ys (and_r (same y) _ h) i x (omega (arith, a.0), a.1) (omega arith)
  past-blanks f (suc c) (y ∷ ys) h zero x a l = absurd (omega arith)
  past-blanks f (suc c) (y ∷ ys) h (suc i) x a l = past-blanks f c ys h i x (omega (arith, a.0), a.1) (omega arith)

  blanks_past : same blank ≡ true → (c : ℕ) (xs : List A) → BlankPast blank c xs → all same (drop c xs) ≡ true
  blanks_past e zero [] f = refl
  blanks_past e zero (y ∷ ys) f = and_i (same y) _ (rw (f 0 y (omega arith, refl) (omega arith)) e) (blanks_past e zero ys (λ i x a l. f (suc i) x (omega (arith, a.0), a.1) (omega arith)))
  blanks_past e (suc c) [] f = refl
  blanks_past e (suc c) (y ∷ ys) f = blanks_past e c ys (λ i x a l. f (suc i) x (omega (arith, a.0), a.1) (omega arith))

pub kernel-points : (S : Sizes) (k : Layout) → (sound_kernel S k ≡ true) ↔ KernelPoints S k
kernel-points S k = (to, of)
  where
    to : sound_kernel S k ≡ true → KernelPoints S k
    to h = let l : Laid S k = laid_of S k h in record {
      nodes = l.nodes;
      declarations = l.declarations;
      links = l.links;
      blank_nodes = past-blanks is_blank_node blank_node blank_node_lem _ _ l.blank_nodes;
      blank_declarations = past-blanks is_blank_declaration blank_declaration blank_declaration_lem _ _ l.blank_declarations;
      blank_links = past-blanks is_blank_link blank_link blank_link_lem _ _ l.blank_links;
      points = (every_point_lem (tables_of k)).0 l.points;
    }

    of : KernelPoints S k → sound_kernel S k ≡ true
    of p = of_laid S k (record {
      nodes = p.nodes;
      declarations = p.declarations;
      links = p.links;
      blank_nodes = blanks_past is_blank_node blank_node refl _ _ p.blank_nodes;
      blank_declarations = blanks_past is_blank_declaration blank_declaration refl _ _ p.blank_declarations;
      blank_links = blanks_past is_blank_link blank_link refl _ _ p.blank_links;
      points = (every_point_lem (tables_of k)).1 p.points;
    })

-- and what a sound kernel's records below the counts store was issued
pub kernel-issued : (S : Sizes) (k : Layout) → sound_kernel S k ≡ true → Issued (tables_of k)
kernel-issued S k h = stored-issued (tables_of k) ((kernel-points S k).0 h).points
