-- The stored records: each is its fields, and what is stored is read back.
use Rattle.model.proofs.Logic.{Bool, ◌<◌, ◌≡◌, arith, dec_lt, le-ltb, lt-ltb, refl, ℕ}
use Rattle.model.specs.{Records.binding_in, Records.byte_of, Records.consumer_in, Records.declared_port, Records.given_parent, Records.owner_in, Records.parent_in, Records.stored_parent, declared.Binding.Binding, declared.Parent.Parent, declared.Phase.Phase, declared.Port.Port, declared.records.Declaration.Declaration, declared.records.Link.Link, declared.records.Node.Node, declared.records.StoredParent.StoredParent}

pub port-is : {p q : Port} → p.key ≡ q.key → p.realm ≡ q.realm → p ≡ q
port-is k r = λ i. record { key = k i; realm = r i }

pub binding-is : {a b : Binding} → a.key ≡ b.key → a.realm ≡ b.realm → a.provider ≡ b.provider → a ≡ b
binding-is k r o = λ i. record { key = k i; realm = r i; provider = o i }

pub declaration_is : {d e : Declaration} → owner_in d ≡ owner_in e → declared_port d ≡ declared_port e → d.provides ≡ e.provides → d ≡ e
declaration_is o p b = λ i. record { owner = o i; port = p i; provides = b i }

pub link-is : {l m : Link} → consumer_in l ≡ consumer_in m → binding_in l ≡ binding_in m → l.generation ≡ m.generation → l.live ≡ m.live → l ≡ m
link-is c b g v = λ i. record { key = (b i).key; realm = (b i).realm; generation = g i; consumer = c i; provider = (b i).provider; live = v i }

-- ---- identities in one byte: what is stored is a number below 256, and that of an identity below 256 is the identity

pub byte_is : (id : ℕ) → (byte_of id < 256) × (id < 256 → byte_of id ≡ id)
byte_is id = go (dec_lt id 256)
  where
    go : Dec (id < 256) → (byte_of id < 256) × (id < 256 → byte_of id ≡ id)
    go (yes l) = (rw (lt-ltb id 256 l) l, λ _. rw (lt-ltb id 256 l))
    go (no l) = (rw (le-ltb id 256 (omega arith)) (omega arith), λ m. absurd (l m))

-- ---- parents

pub parent-read : (p : Parent) → given_parent (stored_parent p) ≡ p
parent-read Parent.None = refl
parent-read (Parent.Of p) = refl

same_stored : (p q : StoredParent) → given_parent p ≡ given_parent q → p ≡ q
same_stored StoredParent.None StoredParent.None e = refl
same_stored StoredParent.None (StoredParent.Of q) e = cc
same_stored (StoredParent.Of p) StoredParent.None e = cc
same_stored (StoredParent.Of p) (StoredParent.Of q) e = cc

pub node-is : {m n : Node} → m.present ≡ n.present → m.retired ≡ n.retired → m.phase ≡ n.phase → m.restoring ≡ n.restoring → parent_in m ≡ parent_in n → m.generation ≡ n.generation → m ≡ n
node-is {m} {n} a r f u p g = λ i. record { present = a i; retired = r i; phase = f i; restoring = u i; parent = same_stored m.parent n.parent p i; generation = g i }

-- a node with these three fields anew, and that every node is one
abbrev pub node_with : Bool → Phase → Bool → Node → Node
node_with p f r n = record { present = p; retired = n.retired; phase = f; restoring = r; parent = n.parent; generation = n.generation }

pub node-cases : (P : Node → Type 0) → ((p : Bool) (f : Phase) (r : Bool) (n : Node) → P (node_with p f r n)) → (n : Node) → P n
node-cases P f n = f n.present n.phase n.restoring n
