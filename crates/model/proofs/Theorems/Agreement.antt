-- What target and committed return tells their lists: nothing is cut, and two answers agree exactly if the lists are equal.
use Rattle.model.proofs.Logic.{Bool, List, [], ◌↔◌, ◌∙◌, ◌≡◌, ◌≤◌, ap, arith, cond, ext_get_or, false, get_or, length, length-map, refl, some, sym, true, ℕ}
use Rattle.model.specs.{Iteration.Agree, Iteration.SameBinding, Iteration.committed_of, Iteration.target_of, Kernels.asked, Layouts.Layout, Layouts.sound_kernel, Layouts.tables_of, Lists.keep, Lists.padded, Records.binding_in, Records.blank_binding, Records.declared_port, Records.port_of, Resolution.Target, Resolution.committed, Resolution.dependency_ports, Resolution.is_dependency_of, Resolution.is_live_link_of, Resolution.target, Resolution.target_list, Sizes.Sizes, declared.Binding.Binding}
use Rattle.model.proofs.{Laws.Arrays.get_d_padded, Laws.Facts.facts, Laws.Lists.length-keep, Laws.Lists.never, Laws.Records.binding-is, Laws.Resolution.bound-ports, Laws.Resolution.targeted, Theorems.Layouts.tables-sound}

same_binding : (b c : Binding) → SameBinding b c → b ≡ c
same_binding b c (k, r, p) = binding-is k r p

pub agree_exactly : (n m : ℕ) (bs cs : List Binding) → Agree (padded n blank_binding bs) (length bs) (padded m blank_binding cs) (length cs) ↔ (bs ≡ cs)
agree_exactly n m bs cs = (to, of)
  where
    to : Agree (padded n blank_binding bs) (length bs) (padded m blank_binding cs) (length cs) → bs ≡ cs
    to (e, f) = ext_get_or blank_binding bs cs e (λ i l. sym (get_d_padded n blank_binding bs i) ∙ same_binding _ _ (f i l) ∙ get_d_padded m blank_binding cs i)

    place : (i : ℕ) → bs ≡ cs → get_or (padded n blank_binding bs) i blank_binding ≡ get_or (padded m blank_binding cs) i blank_binding
    place i e = get_d_padded n blank_binding bs i ∙ ap (λ (xs : List Binding). get_or xs i blank_binding) e ∙ sym (get_d_padded m blank_binding cs i)

    of : bs ≡ cs → Agree (padded n blank_binding bs) (length bs) (padded m blank_binding cs) (length cs)
    of e = (ap length e, λ i l. (ap (λ (b : Binding). b.key) (place i e), ap (λ (b : Binding). b.realm) (place i e), ap (λ (b : Binding). b.provider) (place i e)))

module _ (S : Sizes) (k : Layout) (id : ℕ) where
  pub committed-within : length (committed_of S k id) ≤ S.links
  unfolding asked committed
  committed-within = go (sound_kernel S k) refl
    where
      go : (b : Bool) → sound_kernel S k ≡ b → length (cond b (committed (tables_of k).links id) []) ≤ S.links
      go true h = omega (arith, length-map (keep (is_live_link_of id) (tables_of k).links) binding_in, length-keep (is_live_link_of id) (tables_of k).links, (facts S (tables_of k) (tables-sound S k h)).sizes.links)
      go false h = omega arith

  pub target-within : (bs : List Binding) → target_list (target_of S k id) ≡ some bs → length bs ≤ S.declarations
  unfolding asked dependency_ports
  target-within bs = go (sound_kernel S k) refl
    where
      go : (b : Bool) → sound_kernel S k ≡ b → target_list (cond b (target (tables_of k) id) Target.nothing) ≡ some bs → length bs ≤ S.declarations
      go true h e =
          let T = tables_of k in
          let n : length bs ≡ length (dependency_ports T.declarations id) = sym (length-map bs port_of) ∙ ap length (bound-ports _ _ bs (targeted T id bs e).is_bound) in
          omega (arith, n, length-map (keep (is_dependency_of id) T.declarations) declared_port, length-keep (is_dependency_of id) T.declarations, (facts S T (tables-sound S k h)).sizes.declarations)
      go false h e = never bs e
