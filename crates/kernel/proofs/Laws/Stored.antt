-- What is stored of an identity below the size is the identity: every one has a byte.
use Rattle.model.proofs.Logic.{◌<◌, ◌∙◌, ◌≡◌, ap, arith, ltb-true, refl, true, ℕ}
use Rattle.model.proofs.{Laws.Records.byte_is}
use Rattle.model.specs.{Records.binding_of, Records.byte_binding, Records.byte_of, Records.byte_parent, Records.live_link, Records.port_of, Soundness.smaller, declared.Binding.Binding, declared.Parent.Parent, declared.records.Link.Link}
use Rattle.sizes.specs.{Sizes.IDENTITIES}

pub stored_is : {id : ℕ} → id < IDENTITIES → byte_of id ≡ id
stored_is {id} l = (byte_is id).1 (omega arith)

pub stored-parent-is : (q : Parent) → smaller IDENTITIES q ≡ true → byte_parent q ≡ q
stored-parent-is Parent.None h = refl
stored-parent-is (Parent.Of p) h = ap (λ (i : ℕ). Parent.Of i) (stored_is (ltb-true p IDENTITIES h))

pub stored-link-is : {id g : ℕ} {b : Binding} {l : Link} → id < IDENTITIES → b.provider < IDENTITIES → l ≡ live_link (byte_of id) (byte_binding b) g → l ≡ live_link id b g
stored-link-is {id} {g} {b} c p e = e ∙ (λ k. live_link (stored_is c k) (binding_of (port_of b) (stored_is p k)) g)
