-- The blank tests pass on the blank records only, and on two records or-ed where they pass on both.
use Rattle.model.proofs.Logic.{◌&&◌, ◌||◌, ◌≡◌, and_le_r, arith, bit_or, eqb, eqb-true, ne_eqb, or_add_and, refl, suc, true, zero, ℕ}
use Rattle.model.specs.{Records.binding_in, Records.blank_binding, Records.blank_declaration, Records.blank_declaration_tests, Records.blank_link, Records.blank_link_tests, Records.blank_node, Records.blank_node_tests, Records.is_blank_declaration, Records.is_blank_link, Records.is_blank_node, Records.no_parent, Records.parent_in, declared.Parent.Parent, declared.records.Declaration.Declaration, declared.records.Link.Link, declared.records.Node.Node}
use Rattle.model.proofs.{Laws.Booleans.Both, Laws.Booleans.Each, Laws.Booleans.both-and, Laws.Booleans.both-not, Laws.Booleans.each, Laws.Booleans.not_t, Laws.Phases.inactive-is, Laws.Records.binding-is, Laws.Records.declaration_is, Laws.Records.link-is, Laws.Records.node-is, Laws.Records.port-is}

no_parent_is : (p : Parent) → no_parent p ≡ true → p ≡ Parent.None
no_parent_is Parent.None h = refl
no_parent_is (Parent.Of p) h = cc

pub blank_node_lem : (n : Node) → is_blank_node n ≡ true → n ≡ blank_node
blank_node_lem n h =
    let e : Each (blank_node_tests n) = each (blank_node_tests n) h in
    let p : parent_in n ≡ Parent.None = no_parent_is _ e.1.1.1.1.0 in
    node-is (not_t _ e.0) (not_t _ e.1.0) (inactive-is _ e.1.1.0) (not_t _ e.1.1.1.0) p (eqb-true _ _ e.1.1.1.1.1.0)

pub blank_declaration_lem : (d : Declaration) → is_blank_declaration d ≡ true → d ≡ blank_declaration
blank_declaration_lem d h =
    let e : Each (blank_declaration_tests d) = each (blank_declaration_tests d) h in
    declaration_is (eqb-true _ _ e.0) (port-is (eqb-true _ _ e.1.0) (eqb-true _ _ e.1.1.0)) (not_t _ e.1.1.1.0)

pub blank_link_lem : (l : Link) → is_blank_link l ≡ true → l ≡ blank_link
blank_link_lem l h =
    let e : Each (blank_link_tests l) = each (blank_link_tests l) h in
    let b : binding_in l ≡ blank_binding = binding-is (eqb-true _ _ e.0) (eqb-true _ _ e.1.0) (eqb-true _ _ e.1.1.1.1.0) in
    link-is (eqb-true _ _ e.1.1.1.0) b (eqb-true _ _ e.1.1.0) (not_t _ e.1.1.1.1.1.0)

-- ---- two records or-ed field by field

both_zero : (a b : ℕ) → Both (eqb (bit_or a b) 0) (eqb a 0) (eqb b 0)
both_zero zero b = record { says = refl }
both_zero (suc a) b = record { says = rw (ne_eqb (suc a) 0 (λ e. omega arith)) (ne_eqb (bit_or (suc a) b) 0 (λ e. omega (arith, or_add_and (suc a) b, and_le_r (suc a) b))) }

module _ (a b : Declaration) where
  abbrev either_declaration : Declaration
  either_declaration = record {
    owner = bit_or a.owner b.owner;
    port = record { key = bit_or a.port.key b.port.key; realm = bit_or a.port.realm b.port.realm };
    provides = a.provides || b.provides;
  }

  pub either_declaration_lem : is_blank_declaration either_declaration ≡ is_blank_declaration a && is_blank_declaration b
  either_declaration_lem =
      let port = both-and (both-and (both_zero a.owner b.owner) (both_zero a.port.key b.port.key)) (both_zero a.port.realm b.port.realm) in
      (both-and port (both-not a.provides b.provides)).says

module _ (a b : Link) where
  abbrev either_link : Link
  either_link = record {
    key = bit_or a.key b.key;
    realm = bit_or a.realm b.realm;
    generation = bit_or a.generation b.generation;
    consumer = bit_or a.consumer b.consumer;
    provider = bit_or a.provider b.provider;
    live = a.live || b.live;
  }

  pub either_link_lem : is_blank_link either_link ≡ is_blank_link a && is_blank_link b
  either_link_lem =
      let words = both-and (both-and (both_zero a.key b.key) (both_zero a.realm b.realm)) (both_zero a.generation b.generation) in
      (both-and (both-and (both-and words (both_zero a.consumer b.consumer)) (both_zero a.provider b.provider)) (both-not a.live b.live)).says
