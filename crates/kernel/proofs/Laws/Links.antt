-- An array that a loop writes a consumer's links into: that of one binding more.
use Rattle.std.proofs.lemmas.List.{get_or_default}
use Rattle.model.proofs.Logic.{List, ◌+◌, ◌<◌, ◌≡◌, ◌≤◌, ap, arith, get_or, length, length-take-le, set, take, ℕ}
use Rattle.kernel.specs.{Links.ProvidersWithin, Links.linked_to}
use Rattle.kernel.proofs.{Laws.Stored.stored-link-is}
use Rattle.loops.proofs.{Laws.Edit.appended-next}
use Rattle.model.specs.{Lifecycle.begun_link, Records.blank_binding, Records.blank_link, Records.byte_binding, Records.byte_of, Records.live_link, Tables.generation_at, declared.Binding.Binding, declared.records.Link.Link, declared.records.Node.Node}
use Rattle.sizes.specs.{Sizes.IDENTITIES, Sizes.LINKS}

module _ (bs : List Binding) (i : ℕ) (b : Binding) where
  pub provider_in : i < length bs → ProvidersWithin bs → (get_or bs i b).provider < IDENTITIES
  provider_in l q = let e = ap (λ (x : Binding). x.provider) (get_or_default bs i b blank_binding l) in let p = q i l in omega arith

  pub linked_next :
      (ns : List Node) (id count : ℕ) (ls out : List Link) (x : Link) → id < IDENTITIES → ProvidersWithin bs → count + length bs ≤ LINKS → length ls ≡ LINKS → out ≡ linked_to ns id count ls (take i bs) → i < length bs →
      x ≡ live_link (byte_of id) (byte_binding (get_or bs i b)) (generation_at ns (get_or bs i b).provider) → set out (count + i) x ≡ linked_to ns id count ls (take (i + 1) bs)
  linked_next ns id count ls out x o q room n h l e =
      let held : length (take count ls) ≡ count = length-take-le count ls (omega arith) in
      rw (stored-link-is o (provider_in l q) e) (appended-next (begun_link ns id) LINKS count i blank_link out (take count ls) bs b held (omega arith) l h)
