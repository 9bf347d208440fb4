-- The explanation of every command: it names the refusal that the command replies, the first test that applies, and a real witness.
use Rattle.std.specs.Prelude.{Err, Ok}
use Rattle.model.proofs.Logic.{Bool, List, Option, [], ◌&&◌, ◌||◌, ◌↔◌, ◌∙◌, ◌∷◌, ◌≡◌, ◌⊎◌, ap, arith, cond, eq-eqb, eqb, eqb-true, false, inl, inr, leb-true, ltb-false, ltb-true, map, none, not, refl, some, subst, suc, sym, true, ℕ, ⊎_elim}
use Rattle.model.specs.{Commands.Command, Commands.tests, Explanation.Behind, Explanation.ChecksExplained, Explanation.ChildOf, Explanation.EveryRefusalExplained, Explanation.First, Explanation.InTheWay, Explanation.IsComponent, Explanation.NoneTaken, Explanation.Real, Explanation.RetiredNamed, Explanation.RowsTold, Explanation.Subject, Explanation.Suits, Explanation.UnchangedNamed, Explanation.Unmet, Explanation.child_named, Explanation.clash_from, Explanation.clash_named, Explanation.clash_of, Explanation.damaged, Explanation.explain, Explanation.explained, Explanation.explained_on, Explanation.is_witness, Explanation.lacking, Explanation.link_named, Explanation.long_list, Explanation.or_next, Explanation.parent_named, Explanation.repeat_named, Explanation.reply_by, Explanation.row, Explanation.subject, Insertion.check_insert, Insertion.parent_present, Insertion.parent_retired, Interface.distinct, Interface.listed, Interface.own, Interface.relies_on, Interface.taken, Interface.too_long, Kernels.Commanded, Kernels.asked, Kernels.commanded, Layouts.Layout, Layouts.sound_kernel, Layouts.tables_of, Lifecycle.check_iteration, Lifecycle.relies, Lists.any, Lists.find_at, Lists.is_none, Records.binding_of, Records.has_parent, Records.is_child_of, Records.parent_in, Records.port_in, Records.port_of, Records.provider_in, Refusals.Reply, Refusals.accepted, Refusals.first, Refusals.or_else, Resolution.Owns, Resolution.Says, Resolution.Target, Resolution.resolve, Resolution.target, Resolution.target_list, Sizes.Sizes, Soundness.sound, Tables.Tables, Tables.node_at, Tables.present, declared.Binding.Binding, declared.Error.Error, declared.Parent.Parent, declared.Port.Port, declared.PortList.PortList, declared.Resolution.Resolution, declared.Unresolved.Unresolved, Explanation.Explanation, declared.explanation.ListKind.ListKind, declared.explanation.Refusal.Refusal, declared.explanation.Witness.Witness, declared.records.Link.Link, declared.records.Node.Node, Records.same_port}
use Rattle.model.proofs.{Laws.Booleans.and_i, Laws.Booleans.and_l, Laws.Booleans.and_r, Laws.Booleans.cases, Laws.Booleans.clash, Laws.Booleans.not_f, Laws.Booleans.or_f_l, Laws.Booleans.or_f_r, Laws.Clashes.Free, Laws.Clashes.Scanned, Laws.Clashes.first-as, Laws.Clashes.first_head, Laws.Clashes.first_tail, Laws.Clashes.found_first, Laws.Clashes.scan_stops, Laws.Explanation.clash_found, Laws.Explanation.offer_found, Laws.Explanation.repeat_found, Laws.Facts.port-same, Laws.Facts.same_port_lem, Laws.Lists.never, Laws.Refusals.passed, Laws.Refusals.report-accepts, Laws.Resolution.target_none, Theorems.Impact.Hit.is-none, Theorems.Kernels.asked-sound, Theorems.Kernels.asked-unsound, Theorems.Kernels.commanded-accepted, Theorems.Kernels.commanded-refused, Theorems.Kernels.commanded-unsound, Theorems.Layouts.tables-sound, Theorems.Resolution.Names, Theorems.Resolution.named-is, Theorems.Resolution.names_when, Theorems.Resolution.resolve-exactly, Theorems.Resolution.resolve-says, Theorems.Resolution.target-names}

-- the rows explained are the rows of the commands
pub rows_told : RowsTold
rows_told S T (Command.insert q ds ps) = refl
rows_told S T (Command.declare_provision id p) = refl
rows_told S T (Command.release_provision id p) = refl
rows_told S T (Command.configure_pending_dependencies id l) = refl
rows_told S T (Command.begin id) = refl
rows_told S T (Command.finish id) = refl
rows_told S T (Command.leave id) = refl
rows_told S T (Command.leave_if_changed id) = refl
rows_told S T (Command.retire id) = refl
rows_told S T (Command.begin_cleanup id) = refl
rows_told S T (Command.finish_cleanup id) = refl
rows_told S T (Command.remove id) = refl
rows_told S T Command.compact_bindings = refl
rows_told S T Command.compact_declarations = refl

-- ---- the explanation and the reply

abbrev refusal_of : Explanation → Option Error
refusal_of (Ok _) = none
refusal_of (Err r) = some r.error

-- the refusal of the first test that applies
explain-first : (ts : List (Bool × Refusal)) → refusal_of (explain ts) ≡ first (map (λ (t : Bool × Refusal). (t.0, t.1.error)) ts)
unfolding explain first
explain-first [] = refl
explain-first (t ∷ ts) = ⊎_elim (λ e. rw e) (λ e. rw e (explain-first ts)) (cases t.0)

-- of a command, the refusal of its row
explained-first : (S : Sizes) (T : Tables) (c : Command) → refusal_of (explained S T c) ≡ first (tests S T c)
unfolding explained
explained-first S T c = explain-first (row S T c) ∙ ap first (rows_told S T c)

-- ---- the first test that applies, and its witness

-- R holds of each test's refusal and witness, if the test applies; P is known, and of a later test also that no earlier one applies
abbrev Backed : (Error → Witness → Type 0) → Type 0 → List (Bool × Refusal) → Type 0
Backed R P [] = Unit {0}
Backed R P (t ∷ ts) = (P → t.0 ≡ true → R t.1.error t.1.witness) × Backed R (P × (t.0 ≡ false)) ts

infixr 5 ◌also◌
-- of a test, and of those after it
◌also◌ : {A B : Type 0} → A → B → A × B
a also b = (a, b)

abbrev Applies : Bool × Refusal → Type 0
Applies t = t.0 ≡ true

module _ (R : Error → Witness → Type 0) (r : Refusal) where
  -- r is the refusal of the first test that applies, and R holds of it
  abbrev Told : List (Bool × Refusal) → Type 0
  Told ts = ((i : ℕ) × First Applies ts i (true, r)) × R r.error r.witness

  told : (P : Type 0) (ts : List (Bool × Refusal)) → P → Backed R P ts → explain ts ≡ Err r → Told ts
  unfolding explain
  told P [] p b h = let z : ◌≡◌ {A = ℕ} 0 1 = cc in absurd (omega arith)
  told P (t ∷ ts) p b h = ⊎_elim here (λ e. later e (told (P × (t.0 ≡ false)) ts (p, e) b.1 (rw e at h))) (cases t.0)
    where
      here : t.0 ≡ true → Told (t ∷ ts)
      here e =
          let x : t.1 ≡ r = cc (rw e at h) in
          let y : t ≡ (true, r) = λ i. (e i, x i) in
          ((0, rw y (first_head Applies (true, r) ts refl)), subst (λ (q : Refusal). R q.error q.witness) x (b.0 p e))

      later : t.0 ≡ false → Told ts → Told (t ∷ ts)
      later e ((i, f), w) = ((suc i, first_tail Applies t ts i (true, r) (λ a. clash {A = ⊥} _ a e) f), w)

-- only the component is named
abbrev Itself : ℕ → Error → Witness → Type 0
Itself id e w = w ≡ Witness.Component id

pub unchanged_named : UnchangedNamed
unfolding explained
unchanged_named S T id r h = (told (Itself id) r (Unit {0}) (row S T (Command.leave_if_changed id)) tt ((λ g a. refl) also (λ g a. refl) also (λ g a. refl) also tt) h).1

pub retired-named : RetiredNamed
unfolding explained
retired-named S T id r n h =
    (told (Itself id) r (Unit {0}) (row S T (Command.finish id)) tt ((λ g a. refl) also (λ g a. refl) also (λ ((_, there), _) a. rw (target_none T id (rw (there, n)))) also tt) h).1

-- ---- each witness is real, and of its refusal's kind

abbrev Backs : Sizes → Tables → Subject → Error → Witness → Type 0
Backs S T s e w = Real S T s w × Suits e w

module _ (S : Sizes) (T : Tables) (s : Subject) where
  link-backs : (p : Link → Bool) → ((l : Link) → (p l ≡ true) ↔ InTheWay s l) → any p T.links ≡ true → Backs S T s Error.Relied (link_named p T.links)
  link-backs p f h = let (i, l, e, q) = found_first p T.links h in rw e ((l, first-as (λ y. p y ≡ true) (InTheWay s) T.links i l f q, refl, refl), (_, refl))

  module _ (id : ℕ) (named : s.identity ≡ some id) where
    child_backs : any (is_child_of id) T.nodes ≡ true → Backs S T s Error.Children (child_named id T.nodes)
    child_backs h =
        let (i, n, q, f) = found_first (is_child_of id) T.nodes h in
        rw q ((n, first-as (λ y. is_child_of id y ≡ true) (ChildOf s) T.nodes i n (λ m. (to m, from m)) f), (i, refl))
      where
        parent_is : (q : Parent) → has_parent id q ≡ true → q ≡ Parent.Of id
        parent_is Parent.None x = clash true refl (sym x)
        parent_is (Parent.Of p) x = ap Parent.Of (eqb-true _ _ x)

        to : (n : Node) → is_child_of id n ≡ true → ChildOf s n
        to n x = (and_l n.present _ x, (id, named, parent_is (parent_in n) (and_r n.present _ x)))

        from : (n : Node) → ChildOf s n → is_child_of id n ≡ true
        from n (x, (k, q, y)) = let z : k ≡ id = cc in and_i n.present _ x (rw y (eq-eqb k id z))

    -- of a component that is present and not retired
    lacking-backs :
        not (present T.nodes id) ≡ false
        → (node_at T.nodes id).retired ≡ false
        → is_none (target_list (target T id)) ≡ true
        → Backs S T s Error.MissingDependency (lacking id (target T id))
    lacking-backs a b h =
        let (u, x) = (names_when T id).1 (not_f _ a, b, is-none (target_list (target T id)) h) in
        let y : target T id ≡ Target.missing u = named-is (target T id) u x in
        let n : Names T id u = (target-names T id u).0 y in
        let f = n.first in
        let unmet : Unmet T id u.port u.found = record {
          declared = n.declared;
          looked_up = f.reason;
          first = (f.place, (f.stands, λ o x. f.unprovided o (sym f.reason ∙ x), λ j q l a g. let (o, x) = f.earlier j q l a in g o x));
        } in
        rw y ((id, named, unmet), (u, refl))

-- ---- clashes and repeats

module _ (S : Sizes) (T : Tables) (h : sound S T ≡ true) where
  -- nobody owns a port whose lookup found no owner
  none_taken : (ps : List Port) (j : ℕ) → Free (resolve T) ps j → NoneTaken T ps j
  none_taken ps j g k q l a = (resolve-exactly S T h q Resolution.NoOwner).0 (g k q l a)

  -- the owner named owns the port
  clash_owns : (p : Port) (b : Binding) → clash_of p (resolve T p) ≡ Witness.Clash b → Owns T p b.provider
  clash_owns p b e = go (resolve T p) (resolve-says S T h p) e
    where
      owner : (o : ℕ) → Owns T p o → Witness.Clash (binding_of p o) ≡ Witness.Clash b → Owns T p b.provider
      owner o w x = let z : binding_of p o ≡ b = cc in subst (Owns T p) (ap (λ (b : Binding). b.provider) z) w

      go : (r : Resolution) → Says T p r → clash_of p r ≡ Witness.Clash b → Owns T p b.provider
      go (Resolution.Provider o) w x = owner o (w.0, w.1, w.2, tt, w.4) x
      go (Resolution.NotActive o) w x = owner o (w.0, w.1, w.2, tt, w.4) x
      go Resolution.NoOwner w x = let z : ◌≡◌ {A = ℕ} 0 1 = cc in absurd (omega arith)

  module _ (s : Subject) where
    abbrev needed : List Port
    needed = listed s.dependencies

    abbrev offered : List Port
    offered = listed s.provisions

    -- of the dependencies, if the provisions are in order
    repeat_backs : distinct offered ≡ true → any (taken T) offered ≡ false → is_witness (repeat_named needed) ≡ true → Backs S T s Error.Conflict (repeat_named needed)
    repeat_backs d t x = go (scan_stops ListKind.Dependencies (λ p. Resolution.NoOwner) needed)
      where
        go : Scanned ListKind.Dependencies (λ p. Resolution.NoOwner) needed (repeat_named needed) → Backs S T s Error.Conflict (repeat_named needed)
        go (inl e) = clash _ x (ap is_witness e)
        go (inr (inl (i, j, e, r, g))) = rw e ((r, (d, t)), inr (_, refl))
        go (inr (inr (b, j, e, a, n, g, c))) = let z : ◌≡◌ {A = ℕ} 0 1 = cc in absurd (omega arith)

    clash_backs : not (distinct needed) || not (distinct offered) || any (taken T) offered ≡ true → Backs S T s Error.Conflict (clash_named T needed offered)
    clash_backs x = go (scan_stops ListKind.Provisions (resolve T) offered)
      where
        go : Scanned ListKind.Provisions (resolve T) offered (clash_from ListKind.Provisions (resolve T) [] offered) → Backs S T s Error.Conflict (clash_named T needed offered)
        go (inl e) =
            let n : not (distinct offered) || any (taken T) offered ≡ false = offer_found T offered ∙ ap is_witness e in
            let d : not (distinct offered) ≡ false = or_f_l (not (distinct offered)) _ n in
            let t : any (taken T) offered ≡ false = or_f_r (not (distinct offered)) _ n in
            rw e (repeat_backs (not_f _ d) t (rw e at (sym (clash_found T needed offered) ∙ x)))
        go (inr (inl (i, j, e, r, g))) = rw e ((r, none_taken offered j g), inr (_, refl))
        go (inr (inr (b, j, e, a, n, g, c))) = rw e ((j, a, n, none_taken offered j g, clash_owns (port_of b) b c), inl (b, refl))

-- ---- the rows

module _ (S : Sizes) (T : Tables) where
  abbrev BacksIn : Command → Error → Witness → Type 0
  BacksIn c = Backs S T (subject c)

  -- of insert's parent, if there is one
  parent-backs : (q : Parent) (ds ps : PortList) → (q ≡ Parent.None → ⊥) → Real S T (subject (Command.insert q ds ps)) (parent_named q) × IsComponent (parent_named q)
  parent-backs Parent.None ds ps g = absurd (g refl)
  parent-backs (Parent.Of p) ds ps g = (refl, (p, refl))

  long-backs : (q : Parent) (ds ps : PortList) → too_long ds || too_long ps ≡ true → BacksIn (Command.insert q ds ps) Error.Capacity (long_list ds ps)
  long-backs q ds ps h = ⊎_elim (λ e. rw e ((refl, ltb-true _ _ e), (_, refl))) (λ e. rw e ((refl, ltb-true _ _ (rw e at h), ltb-false _ _ e), (_, refl))) (cases (too_long ds))

  changed-backs : (id : ℕ) → not (present T.nodes id) ≡ false → is_none (target_list (target T id)) ≡ true → BacksIn (Command.finish id) Error.Changed (lacking id (target T id))
  changed-backs id a h = ⊎_elim retired lacks (cases (node_at T.nodes id).retired)
    where
      retired : (node_at T.nodes id).retired ≡ true → BacksIn (Command.finish id) Error.Changed (lacking id (target T id))
      retired e = rw (target_none T id (rw (a, e))) (refl, inl (id, refl))

      lacks : (node_at T.nodes id).retired ≡ false → BacksIn (Command.finish id) Error.Changed (lacking id (target T id))
      lacks e = let (x, y) = lacking-backs S T (subject (Command.finish id)) id refl a e h in (x, inr y)

  relied_on_backs : (id : ℕ) (p : Port) → any (relies_on id p) T.links ≡ true → BacksIn (Command.release_provision id p) Error.Relied (link_named (relies_on id p) T.links)
  unfolding relies_on
  relied_on_backs id p h = link-backs S T (subject (Command.release_provision id p)) (relies_on id p) (λ l. (to l, from l)) h
    where
      to : (l : Link) → relies_on id p l ≡ true → InTheWay (subject (Command.release_provision id p)) l
      to l x =
          let y : l.live && eqb (provider_in l) id ≡ true = and_l (l.live && eqb (provider_in l) id) _ x in
          let z : port_in l ≡ p = same_port_lem _ _ (and_r (l.live && eqb (provider_in l) id) _ x) in
          (and_l l.live _ y, ap some (sym (eqb-true _ _ (and_r l.live _ y))), λ q e. cc)

      from : (l : Link) → InTheWay (subject (Command.release_provision id p)) l → relies_on id p l ≡ true
      from l (x, y, z) = let e : provider_in l ≡ id = cc in and_i (l.live && eqb (provider_in l) id) _ (and_i l.live _ x (eq-eqb _ _ e)) (subst (λ (q : Port). same_port (port_in l) q ≡ true) (z p refl) (port-same (port_in l)))

  relied_backs : (id : ℕ) → any (relies id) T.links ≡ true → BacksIn (Command.begin_cleanup id) Error.Relied (link_named (relies id) T.links)
  unfolding relies
  relied_backs id h = link-backs S T (subject (Command.begin_cleanup id)) (relies id) (λ l. (to l, from l)) h
    where
      to : (l : Link) → relies id l ≡ true → InTheWay (subject (Command.begin_cleanup id)) l
      to l x = (and_l l.live _ x, ap some (sym (eqb-true _ _ (and_r l.live _ x))), λ q e. never q e)

      from : (l : Link) → InTheWay (subject (Command.begin_cleanup id)) l → relies id l ≡ true
      from l (x, y, z) = let e : provider_in l ≡ id = cc in and_i l.live _ x (eq-eqb _ _ e)

  -- declare_provision's port is a list of one
  provided-backs : sound S T ≡ true → (id : ℕ) (p : Port) → taken T p ≡ true → BacksIn (Command.declare_provision id p) Error.Conflict (clash_of p (resolve T p))
  unfolding clash_from find_at distinct
  provided-backs s id p h = go (resolve T p) (clash_backs S T s (subject (Command.declare_provision id p)) (rw h))
    where
      go :
          (r : Resolution)
          → BacksIn (Command.declare_provision id p) Error.Conflict (or_next (or_next (clash_of p r) Witness.Nothing) Witness.Nothing)
          → BacksIn (Command.declare_provision id p) Error.Conflict (clash_of p r)
      go (Resolution.Provider o) b = b
      go (Resolution.NotActive o) b = b
      go Resolution.NoOwner b = b

  -- each row, test by test
  row-backed : sound S T ≡ true → (c : Command) → Backed (BacksIn c) (Unit {0}) (row S T c)
  unfolding parent_present parent_retired distinct
  row-backed s (Command.insert q ds ps) =
      (λ g. long-backs q ds ps)
      also (λ g h. ((refl, leb-true _ _ h), (_, refl)))
      also (λ g h. parent-backs q ds ps (λ e. clash {A = ⊥} _ h (rw e)))
      also (λ g h. parent-backs q ds ps (λ e. clash {A = ⊥} _ h (rw e)))
      also (λ g. clash_backs S T s (subject (Command.insert q ds ps)))
      also (λ g h. ((refl, ltb-true _ _ h), (_, refl)))
      also tt
  row-backed s (Command.declare_provision id p) =
      (λ g h. (refl, (id, refl)))
      also (λ g h. (refl, (id, refl)))
      also (λ g h. (refl, (id, refl)))
      also (λ g h. provided-backs s id p (and_r (not (own T id p)) _ h))
      also (λ g h. ((refl, leb-true _ _ (and_r (not (own T id p)) _ h)), (_, refl)))
      also tt
  row-backed s (Command.release_provision id p) = (λ g h. (refl, (id, refl))) also (λ g. relied_on_backs id p) also tt
  row-backed s (Command.configure_pending_dependencies id l) =
      (λ g h. ((refl, ltb-true _ _ h), (_, refl)))
      also (λ g h. (refl, (id, refl)))
      also (λ g h. (refl, (id, refl)))
      also (λ g h. (refl, (id, refl)))
      also (λ g h. ((refl, ltb-true _ _ h), (_, refl)))
      also (λ g h. repeat_backs S T s (subject (Command.configure_pending_dependencies id l)) refl refl (sym (repeat_found (listed l)) ∙ h))
      also tt
  row-backed s (Command.begin id) =
      (λ g h. (refl, (id, refl)))
      also (λ g h. (refl, (id, refl)))
      also (λ g h. (refl, (id, refl)))
      also (λ g h. ((id, refl, refl, eqb-true _ _ h), (_, refl)))
      also (λ ((((_, there), _), kept), _). lacking-backs S T (subject (Command.begin id)) id refl there kept)
      also (λ g h. ((refl, ltb-true _ _ h), (_, refl)))
      also tt
  row-backed s (Command.finish id) = (λ g h. (refl, (id, refl))) also (λ g h. (refl, (id, refl))) also (λ ((_, there), _). changed-backs id there) also tt
  row-backed s (Command.leave id) = (λ g h. (refl, (id, refl))) also (λ g h. (refl, (id, refl))) also tt
  row-backed s (Command.leave_if_changed id) = (λ g h. (refl, (id, refl))) also (λ g h. (refl, (id, refl))) also (λ g h. (refl, inl (id, refl))) also tt
  row-backed s (Command.retire id) = (λ g h. (refl, (id, refl))) also tt
  row-backed s (Command.begin_cleanup id) = (λ g h. (refl, (id, refl))) also (λ g h. (refl, (id, refl))) also (λ g. relied_backs id) also tt
  row-backed s (Command.finish_cleanup id) = (λ g h. (refl, (id, refl))) also (λ g h. (refl, (id, refl))) also tt
  row-backed s (Command.remove id) = (λ g h. (refl, (id, refl))) also (λ g h. (refl, (id, refl))) also (λ g. child_backs S T (subject (Command.remove id)) id refl) also tt
  row-backed s Command.compact_bindings = tt
  row-backed s Command.compact_declarations = tt

-- ---- on a kernel

module _ (S : Sizes) (k : Layout) (c : Command) where
  -- what the command replies, by an explanation
  abbrev Replies : Explanation → Type 0
  Replies (Ok _) = accepted (commanded S k c).reply ≡ true
  Replies (Err r) = (commanded S k c).reply ≡ Reply.refused r.error

  replies : Replies (explained_on S k c)
  replies = go (cases (sound_kernel S k))
    where
      tested : sound_kernel S k ≡ true → (x : Explanation) → refusal_of x ≡ first (tests S (tables_of k) c) → Replies x
      tested h (Ok _) e = ap (λ (o : Commanded). accepted o.reply) (commanded-accepted S k c h (passed _ (sym e))) ∙ report-accepts (tables_of k) c
      tested h (Err r) e = ap (λ (o : Commanded). o.reply) (commanded-refused S k c r.error h (sym e))

      go : (sound_kernel S k ≡ true) ⊎ (sound_kernel S k ≡ false) → Replies (explained_on S k c)
      go (inl h) = rw (asked-sound S k damaged (λ T. explained S T c) h) (tested h (explained S (tables_of k) c) (explained-first S (tables_of k) c))
      go (inr h) = rw (asked-unsound S k damaged (λ T. explained S T c) h) (ap (λ (o : Commanded). o.reply) (commanded-unsound S k c h))

  accepted-is : (x : Explanation) → Replies x → accepted (commanded S k c).reply ≡ true → x ≡ Ok tt
  accepted-is (Ok _) e h = refl
  accepted-is (Err r) e h = clash _ h (ap accepted e)

  behind : sound_kernel S k ≡ true → (r : Refusal) → explained_on S k c ≡ Err r → Behind S (tables_of k) c r
  unfolding explained
  behind h r e =
      let T = tables_of k in
      let x : explained S T c ≡ Err r = sym (asked-sound S k damaged (λ T. explained S T c) h) ∙ e in
      let (f, (w, v)) = told (Backs S T (subject c)) r (Unit {0}) (row S T c) tt (row-backed S T (tables-sound S k h) c) x in
      record { first = f; real = w; suits = v }

  reason : sound_kernel S k ≡ true → (r : Refusal) (u : Unresolved) → explained_on S k c ≡ Err r → r.witness ≡ Witness.Dependency u → Says (tables_of k) u.port u.found
  reason h r u e w =
      let (id, i, unmet) = subst (Real S (tables_of k) (subject c)) w (behind h r e).real in
      subst (Says (tables_of k) u.port) unmet.looked_up (resolve-says S (tables_of k) (tables-sound S k h) u.port)

pub every_refusal_explained : EveryRefusalExplained
every_refusal_explained S k c = record {
  accepts = (λ e. subst (Replies S k c) e (replies S k c), accepted-is S k c (explained_on S k c) (replies S k c));
  refuses = λ r e. subst (Replies S k c) e (replies S k c);
  behind = behind S k c;
  reason = reason S k c;
  unsound = asked-unsound S k damaged (λ T. explained S T c);
}

pub checks-explained : (S : Sizes) (k : Layout) → ChecksExplained S k
unfolding asked check_insert check_iteration
checks-explained S k = record { insertion = λ q ds ps. go (sound_kernel S k) (Command.insert q ds ps); iteration = λ id. go (sound_kernel S k) (Command.finish id) }
  where
    by : (x : Explanation) → or_else (refusal_of x) Reply.done ≡ reply_by x
    by (Ok _) = refl
    by (Err r) = refl

    go : (b : Bool) (c : Command) → cond b (or_else (first (tests S (tables_of k) c)) Reply.done) (Reply.refused Error.Damaged) ≡ reply_by (cond b (explained S (tables_of k) c) damaged)
    go true c = rw (← explained-first S (tables_of k) c) (by (explained S (tables_of k) c))
    go false c = refl
