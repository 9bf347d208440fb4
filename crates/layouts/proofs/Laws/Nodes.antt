-- The component that a call names, its node tested by a row.
use Rattle.std.specs.Prelude.{Err, Ok}
use Rattle.model.proofs.Logic.{Bool, List, [], ◌++◌, ◌∙◌, ◌∷◌, ◌≡◌, ◌≤◌, ap, eqb, false, get_or, not, refl, set, some, sym, true, ℕ}
use Rattle.model.specs.{Interface.unknown, Answers.checked, Layouts.Layout, Layouts.lay_out, Layouts.tables_of, Lifecycle.begin_node_tests, Records.blank_node, Records.is_inactive, Refusals.Tests, Refusals.first, Sizes.Sizes, Sizes.last_generation, Tables.node_at, Tables.present, Tables.with_links, Tables.with_node, Answers.Answer, declared.Error.Error, declared.records.Link.Link, declared.records.Node.Node}
use Rattle.layouts.proofs.{Laws.Anew.HoldsLinks, Laws.Anew.HoldsNodes, Laws.Anew.declarations-held, Laws.Anew.laid_as, Laws.Anew.links-held, Laws.Anew.links_to, Laws.Anew.node-set, Laws.Anew.nodes_to, Laws.Sound.SoundKernel, Laws.Sound.node-is, Laws.Sound.node-past}
use Rattle.model.proofs.{Laws.Refusals.Passed, Laws.Refusals.done-passed, Laws.Refusals.refused-among, Laws.Refusals.stop}

-- rows with the same first tests agree if their rests do where those pass
pub same_rest : (ts us vs : Tests) → (Passed ts → first us ≡ first vs) → first (ts ++ us) ≡ first (ts ++ vs)
unfolding first
same_rest [] us vs h = h tt
same_rest (t ∷ ts) us vs h = go t.0 refl (λ q. same_rest ts us vs q)
  where
    go : (b : Bool) → t.0 ≡ b → ((Passed ts → first us ≡ first vs) → first (ts ++ us) ≡ first (ts ++ vs)) → first ((t ∷ ts) ++ us) ≡ first ((t ∷ ts) ++ vs)
    go true e f = rw e
    go false e f = rw e (f (λ p. h (e, p)))

-- begin's tests of the node, passed, by name
pub record Beginnable (n : Node) : Type 0 where
  pub present : not n.present ≡ false
  pub inactive : not (is_inactive n.phase) ≡ false
  pub not-retired : n.retired ≡ false
  pub not_last : eqb n.generation last_generation ≡ false

-- the one line that reads the row by place
pub beginnable : (n : Node) → Passed (begin_node_tests n) → Beginnable n
beginnable n (a, (b, (c, (d, _)))) = record { present = a; inactive = b; not-retired = c; not_last = d }

-- a sound kernel, and a component whose node passed a row
pub record Tested (S : Sizes) (k : Layout) (ts : Node → Tests) (id : ℕ) : Type 0 where
  pub kernel : SoundKernel S k
  pub tests : Passed (ts (node_at (tables_of k).nodes id))

-- ---- where the code asks the array's node, past its own test of the identity

module _ {S : Sizes} {k : Layout} (K : SoundKernel S k) (id : ℕ) where
  pub past-unknown : (ts : Tests) → S.identities ≤ id → first (unknown (tables_of k) id ∷ ts) ≡ some Error.Unknown
  past-unknown ts l = stop _ _ ts (ap (λ (n : Node). not n.present) (node-past K id l))

  module _ (ts : Node → Tests) {a : Answer} (h : a ≡ checked (ts (get_or k.nodes id blank_node))) where
    asked-so : a ≡ checked (ts (node_at (tables_of k).nodes id))
    asked-so = h ∙ ap (λ (n : Node). checked (ts n)) (sym (node-is K id))

    pub node-refuses : (us : Tests) {x : Error} → a ≡ Err x → first (ts (node_at (tables_of k).nodes id) ++ us) ≡ some x
    node-refuses us r = refused-among (ts (node_at (tables_of k).nodes id)) us a _ asked-so r

    pub tested_array : a ≡ Ok tt → Tested S k ts id
    tested_array d = record { kernel = K; tests = done-passed (ts (node_at (tables_of k).nodes id)) a asked-so d }

-- ---- a node changed, and nothing else

module _ {S : Sizes} {k : Layout} (K : SoundKernel S k) (id : ℕ) (here : present (tables_of k).nodes id ≡ true)
    (g : Node → Node) {ns : List Node} (h : ns ≡ set k.nodes id (g (get_or k.nodes id blank_node))) where
  abbrev node : Node
  node = g (node_at (tables_of k).nodes id)

  changed-held : HoldsNodes S (set (tables_of k).nodes id node) ns k.node_count
  changed-held =
      let q : set k.nodes id node ≡ ns = ap (λ (x : Node). set k.nodes id (g x)) (node-is K id) ∙ sym h in
      record { entries = (node-set K id node here).entries ∙ q; counted = (node-set K id node here).counted }

  pub node-changed : lay_out S (with_node (tables_of k) id (g (node_at (tables_of k).nodes id))) ≡ nodes_to k ns k.node_count
  node-changed = laid_as S _ _ changed-held (declarations-held K) (links-held K)

  -- and the links
  pub node-and-links :
      (ls : List Link) {array : List Link} {n : ℕ} → HoldsLinks S ls array n →
      lay_out S (with_links (with_node (tables_of k) id (g (node_at (tables_of k).nodes id))) ls) ≡ links_to (nodes_to k ns k.node_count) array n
  node-and-links ls l = laid_as S _ _ changed-held (declarations-held K) l
