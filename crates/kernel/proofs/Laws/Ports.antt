-- An array that a loop writes the declarations of a list's ports into: those of one port more.
use Rattle.model.proofs.Logic.{Bool, List, ◌+◌, ◌<◌, ◌≡◌, ◌≤◌, arith, get_or, length, length-take-le, set, take, ℕ}
use Rattle.kernel.specs.{Ports.appended}
use Rattle.kernel.proofs.{Laws.Stored.stored_is}
use Rattle.loops.proofs.{Laws.Edit.appended-next}
use Rattle.model.specs.{Records.blank_declaration, Records.byte_of, Records.declaration_of, declared.Port.Port, declared.records.Declaration.Declaration}
use Rattle.sizes.specs.{Sizes.DECLARATIONS, Sizes.IDENTITIES}

module _ (count owner : ℕ) (provides : Bool) (ds : List Declaration) (ps : List Port) where
  pub appended_next :
      (i : ℕ) (out : List Declaration) (d : Declaration) (p : Port) → owner < IDENTITIES → count + length ps ≤ DECLARATIONS → length ds ≡ DECLARATIONS → out ≡ appended count owner provides ds (take i ps) → i < length ps →
      d ≡ declaration_of (byte_of owner) provides (get_or ps i p) → set out (count + i) d ≡ appended count owner provides ds (take (i + 1) ps)
  appended_next i out d p o room n h l e =
      let held : length (take count ds) ≡ count = length-take-le count ds (omega arith) in
      rw (e, stored_is o) (appended-next (declaration_of owner provides) DECLARATIONS count i blank_declaration out (take count ds) ps p held (omega arith) l h)
