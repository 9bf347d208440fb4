-- What is kept of the records below a table's count, as a row's command says it and as an edit leaves it.
use Rattle.model.proofs.Logic.{Bool, List, ◌++◌, ◌≡◌, ap, drop-append_seam, length, refl, take, take-append_seam, ◌≤◌, ℕ}
use Rattle.edits.specs.{Kept.Retained}
use Rattle.kernel.specs.{Fields.layout_of, Ports.declarations_kept, declared.Kernel.Kernel}
use Rattle.layouts.proofs.{Laws.Anew.Compacted, Laws.Anew.all-kept, Laws.Anew.declarations-anew, Laws.Anew.declarations-held, Laws.Sound.SoundKernel, Laws.Sound.laid}
use Rattle.loops.proofs.{Laws.InPlace.kept-within}
use Rattle.loops.specs.{InPlace.compacted}
use Rattle.model.specs.{Layouts.lay_out, Layouts.tables_of, Lists.keep, Tables.with_declarations, declared.records.Declaration.Declaration}
use Rattle.sizes.specs.{Sizes.sizes}

pub kept_within : {A : Type 0} (p : A → Bool) (n : ℕ) (xs : List A) → length (keep p (take n xs)) ≤ n
kept_within p n xs = kept-within p xs n

pub retained_within :
    {A : Type 0} {p : A → Bool} {d b : A} {xs front out : List A} {end n : ℕ} (back : List A) →
    xs ≡ front ++ back → length front ≡ end → b ≡ d → Retained p b front out n → Compacted p d end xs (out ++ back) n
unfolding compacted
retained_within {front = front} back e l w r = record {
  entries = rw (e, ← l, take-append_seam front back, drop-append_seam front back, ← w) (ap (λ ys. ys ++ back) r.entries);
  counted = rw (e, ← l, take-append_seam front back) r.counted;
}

pub kept_declarations :
    {k : Kernel} → SoundKernel sizes (layout_of k) → (p : Declaration → Bool) →
    lay_out sizes (with_declarations (tables_of (layout_of k)) (keep p (tables_of (layout_of k)).declarations)) ≡ layout_of (declarations_kept p k)
kept_declarations K p = declarations-anew K _ (all-kept (record { entries = refl; counted = refl }) (declarations-held K) (laid K).declarations refl)
