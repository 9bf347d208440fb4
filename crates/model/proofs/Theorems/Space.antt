-- On a reached kernel a begin refused for link space is accepted after compact_bindings.
use Rattle.model.proofs.Logic.{Bool, List, List-as-Memᴰ, List·Memᴰ·head, List·Memᴰ·tail, Option, [], ◌&&◌, ◌++◌, ◌+◌, ◌<◌, ◌∙◌, ◌∷◌, ◌≡◌, ◌≤◌, ◌⊎◌, ap, arith, cond, eq-eqb, eqb, false, inl, inr, le-ltb, length, length-map, map, ne_eqb, none, not, refl, some, subst, suc, sym, true, ℕ, ℕ_discrete}
use Rattle.model.specs.{Commands.Command, Commands.Step, Commands.report, Commands.result, Commands.settle, Commands.step, Commands.tests, Compaction.bindings_compacted, Kernels.Commanded, Kernels.reached, Layouts.lay_out, Lifecycle.begin_node_tests, Lifecycle.begin_tests, Lifecycle.begun, Lifecycle.bindings, Lists.is_none, Lists.keep, Observers.episode_generation, Records.binding_in, Records.consumer_in, Records.declared_port, Records.is_live, Records.owner_in, Records.port_of, Refusals.Reply, Refusals.Tests, Refusals.first, Refusals.number, Resolution.committed, Resolution.dependency_ports, Resolution.is_dependency_of, Resolution.is_live_link_of, Resolution.target, Resolution.target_list, Sizes.Sizes, Sizes.last_generation, Soundness.sound, Space.SpaceAfterCompaction, Tables.Tables, Tables.empty, Tables.node_at, Tables.not_inactive, Tables.present, declared.Binding.Binding, declared.Error.Error, declared.records.Declaration.Declaration, declared.records.Link.Link}
use Rattle.model.proofs.{Laws.Booleans.cases, Laws.Booleans.not_f, Laws.Committed.committed-idle, Laws.Facts.Safe, Laws.Facts.Sound, Laws.Facts.facts, Laws.Lists.is_some, Laws.Nodes.present-lt, Laws.Refusals.Passed, Laws.Refusals.of_passed, Laws.Refusals.skip, Laws.Resolution.bound-ports, Laws.Resolution.targeted, Laws.Sums.plus, Laws.Sums.sum-at, Laws.Sums.sum-le, Laws.Sums.sum_mono, Laws.Sums.sum_same, Laws.Sums.sum-zero, Laws.Sums.sum_to, Theorems.Commands.empty-sound, Theorems.Commands.run, Theorems.Commands.run_sound, Theorems.Commands.step-sound, Theorems.IterationInvariant.empty-kept, Theorems.IterationInvariant.from-kept, Theorems.Kernels.asked_of, Theorems.Kernels.commanded-of, Theorems.Kernels.reached-is}

-- ---- the live links, and the dependencies, by component

live-sum : (n : ℕ) (ls : List Link) → ((l : Link) → List-as-Memᴰ l ls → l.live ≡ true → consumer_in l < n) → length (keep is_live ls) ≤ sum_to n (λ i. length (committed ls i))
unfolding committed is_live_link_of
live-sum n [] h = omega arith
live-sum n (l ∷ ls) h = go l.live refl (live-sum n ls (λ m k. h m (List·Memᴰ·tail k)))
  where
    -- how many live links a consumer has among the rest, and with the first where that is its
    held : ℕ → ℕ
    held i = length (committed ls i)

    with : ℕ → Bool → ℕ
    with i b = length (map binding_in (cond b (l ∷ keep (is_live_link_of i) ls) (keep (is_live_link_of i) ls)))

    more : (i : ℕ) (b : Bool) → with i b ≡ cond b 1 0 + held i
    more i true = omega arith
    more i false = omega arith

    go : (b : Bool) → l.live ≡ b → length (keep is_live ls) ≤ sum_to n held → length (cond b (l ∷ keep is_live ls) (keep is_live ls)) ≤ sum_to n (λ i. with i (b && eqb (consumer_in l) i))
    go true e ih =
        let same = sum_same n (λ i. with i (eqb (consumer_in l) i)) (plus (consumer_in l) 1 held) (λ i k. more i (eqb (consumer_in l) i)) in
        omega (arith, same, sum-at n (consumer_in l) 1 held (h l (List·Memᴰ·head refl) e))
    go false e ih = ih

ports-sum : (n : ℕ) (ds : List Declaration) → sum_to n (λ i. length (dependency_ports ds i)) ≤ length ds
unfolding dependency_ports is_dependency_of
ports-sum n [] = omega (arith, sum-zero n)
ports-sum n (d ∷ ds) = go d.provides (ports-sum n ds)
  where
    -- how many dependencies a component has among the rest, and with the first where that is its
    wanted : ℕ → ℕ
    wanted i = length (dependency_ports ds i)

    with : ℕ → Bool → ℕ
    with i b = length (map declared_port (cond b (d ∷ keep (is_dependency_of i) ds) (keep (is_dependency_of i) ds)))

    more : (i : ℕ) (b : Bool) → with i b ≡ cond b 1 0 + wanted i
    more i true = omega arith
    more i false = omega arith

    go : (b : Bool) → sum_to n wanted ≤ length ds → sum_to n (λ i. with i (not b && eqb (owner_in d) i)) ≤ suc (length ds)
    go true ih = omega (arith, ih)
    go false ih = omega (arith, sum_same n (λ i. with i (eqb (owner_in d) i)) (plus (owner_in d) 1 wanted) (λ i k. more i (eqb (owner_in d) i)), sum-le n (owner_in d) 1 wanted)

-- the ports of an installed component's live links are its dependency ports
abbrev PortsKept : Tables → Type 0
PortsKept T = (j : ℕ) → not_inactive T.nodes j ≡ true → map port_of (committed T.links j) ≡ dependency_ports T.declarations j

-- the live links and one idle component's dependencies are no more than the declarations
room :
    (T : Tables) (id : ℕ) → Safe T → PortsKept T
    → present T.nodes id ≡ true → not_inactive T.nodes id ≡ false
    → length (keep is_live T.links) + length (dependency_ports T.declarations id) ≤ length T.declarations
room T id k f t i =
    let live = live-sum n T.links (λ l m v. present-lt _ _ (k.live l m v).consumer-present) in
    let mine = sum-at n id (wanted id) held (present-lt _ _ t) in
    let others = sum_mono n (plus id (wanted id) held) wanted (λ j. at_j j (ℕ_discrete id j) (cases (not_inactive T.nodes j))) in
    omega (arith, live, ports-sum n T.declarations, mine, others)
  where
    n : ℕ
    n = length T.nodes

    held : ℕ → ℕ
    held j = length (committed T.links j)

    wanted : ℕ → ℕ
    wanted j = length (dependency_ports T.declarations j)

    none_of : (j : ℕ) → not_inactive T.nodes j ≡ false → length (committed T.links j) ≡ 0
    none_of j x = ap length (committed-idle T j k x)

    at_j : (j : ℕ) → Dec (id ≡ j) → (not_inactive T.nodes j ≡ true) ⊎ (not_inactive T.nodes j ≡ false) → cond (eqb id j) (wanted id) 0 + held j ≤ wanted j
    at_j j (yes e) x = rw (eq-eqb id j e, ← e) (omega (arith, none_of id i))
    at_j j (no d) (inl x) = rw (ne_eqb id j d) (omega (arith, sym (length-map (committed T.links j) port_of) ∙ ap length (f j x)))
    at_j j (no d) (inr x) = rw (ne_eqb id j d) (omega (arith, none_of j x))

-- ---- the theorem

-- a row whose refusal is not that of its first test passes that test
next : (b : Bool) (e x : Error) (ts : Tests) → (number e ≡ number x → ⊥) → first ((b, e) ∷ ts) ≡ some x → (b ≡ false) × (first ts ≡ some x)
unfolding first
next true e x ts d h = let y : e ≡ x = cc in absurd (d (ap number y))
next false e x ts d h = (refl, h)

-- the same, of a test that is known to pass
next_known : (b : Bool) (e x : Error) (ts : Tests) → b ≡ false → first ((b, e) ∷ ts) ≡ some x → first ts ≡ some x
next_known b e x ts f h = sym (skip b e ts f) ∙ h

-- begin's refusal
begin-refusal : (S : Sizes) (T : Tables) (id : ℕ) (e : Error) → (step S T (Command.begin id)).reply ≡ Reply.refused e → first (begin_tests S T id) ≡ some e
unfolding step settle
begin-refusal S T id e h = go (first (begin_tests S T id)) h
  where
    go : (o : Option Error) → (settle o T (record { tables = begun T id; reply = Reply.done })).reply ≡ Reply.refused e → o ≡ some e
    go none x = let z : ◌≡◌ {A = ℕ} 0 1 = cc in absurd (omega arith)
    go (some y) x = cc

-- begin gives 9, and not for its generation
abbrev NoSpace : Sizes → Tables → ℕ → Type 0
NoSpace S T id = ((step S T (Command.begin id)).reply ≡ Reply.refused Error.Capacity) × ((node_at T.nodes id).generation ≡ last_generation → ⊥)

-- every test of begin's row but the last
abbrev BeforeSpace : Tables → ℕ → Type 0
BeforeSpace T id = Passed (begin_node_tests (node_at T.nodes id) ++ ((is_none (target_list (target T id)), Error.MissingDependency) ∷ []))

before-space : (S : Sizes) (T : Tables) (id : ℕ) → NoSpace S T id → BeforeSpace T id
before-space S T id r =
    let f0 : first (begin_tests S T id) ≡ some Error.Capacity = begin-refusal S T id Error.Capacity r.0 in
    let (p1, f1) = next _ _ _ _ (λ e. omega arith) f0 in
    let (p2, f2) = next _ _ _ _ (λ e. omega arith) f1 in
    let (p3, f3) = next _ _ _ _ (λ e. omega arith) f2 in
    let p4 : eqb (node_at T.nodes id).generation last_generation ≡ false = ne_eqb _ _ r.1 in
    let f4 = next_known _ _ _ _ p4 f3 in
    let (p5, f5) = next _ _ _ _ (λ e. omega arith) f4 in
    (p1, (p2, (p3, (p4, (p5, tt)))))

-- they pass on the compacted tables too, and there the links have space
room_begin : (S : Sizes) (T : Tables) (id : ℕ) → S.declarations ≤ S.links → Sound S T → PortsKept T → BeforeSpace T id → Passed (begin_tests S (bindings_compacted T) id)
unfolding target
room_begin S T id w k f p =
    let (bs, e) = is_some (target_list (target T id)) p.1.1.1.1.0 in
    let n : length bs ≡ length (dependency_ports T.declarations id) = sym (length-map bs port_of) ∙ ap length (bound-ports _ _ bs (targeted T id bs e).is_bound) in
    let g : length (keep is_live T.links) + length bs ≤ S.links = omega (arith, n, k.sizes.declarations, room T id k.safe f (not_f _ p.0) p.1.0) in
    (p.0, (p.1.0, (p.1.1.0, (p.1.1.1.0, (p.1.1.1.1.0, (le-ltb _ _ (subst (λ (o : Option (List Binding)). length (keep is_live T.links) + length (bindings o) ≤ S.links) (sym e) g), tt))))))

accepted : (S : Sizes) (T : Tables) (c : Command) → Passed (tests S T c) → step S T c ≡ record { tables = result T c; reply = report T c }
unfolding step settle
accepted S T c p = rw (of_passed (tests S T c) p)

on-tables : (S : Sizes) → S.declarations ≤ S.links → (cs : List Command) (id : ℕ) → NoSpace S (run S cs) id →
    (step S (step S (run S cs) Command.compact_bindings).tables (Command.begin id)).reply ≡ Reply.done
on-tables S w cs id r =
    let T : Tables = run S cs in
    let c : (step S T Command.compact_bindings).tables ≡ bindings_compacted T = ap (λ (o : Step). o.tables) (accepted S T Command.compact_bindings tt) in
    let p : Passed (begin_tests S (bindings_compacted T) id) = room_begin S T id w (facts S T (run_sound S cs)) (λ j. (from-kept S empty j none cs (empty-sound S) (empty-kept j)).ports) (before-space S T id r) in
    rw c (ap (λ (o : Step). o.reply) (accepted S (bindings_compacted T) (Command.begin id) p))

-- a begin that gives 9 names a present component
capacity_known : (S : Sizes) (T : Tables) (id : ℕ) → (step S T (Command.begin id)).reply ≡ Reply.refused Error.Capacity → present T.nodes id ≡ true
capacity_known S T id h = not_f _ (next _ _ _ _ (λ e. omega arith) (begin-refusal S T id Error.Capacity h)).0

pub space_after_compaction : SpaceAfterCompaction
space_after_compaction S w cs id (r, g) =
    let T : Tables = run S cs in
    let h : sound S T ≡ true = run_sound S cs in
    let k : reached S cs ≡ lay_out S T = reached-is S cs in
    let a : (step S T (Command.begin id)).reply ≡ Reply.refused Error.Capacity = sym (ap (λ (o : Commanded). o.reply) (commanded-of S T h (Command.begin id))) ∙ (rw k at r) in
    let b : (node_at T.nodes id).generation ≡ last_generation → ⊥ = λ e. g (rw k (asked_of S T h none (λ U. episode_generation U id) ∙ rw (capacity_known S T id a, e))) in
    let U : Tables = (step S T Command.compact_bindings).tables in
    let v : sound S U ≡ true = step-sound S T Command.compact_bindings h in
    rw (k, commanded-of S T h Command.compact_bindings, commanded-of S U v (Command.begin id)) (on-tables S w cs id (a, b))
