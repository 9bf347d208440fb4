-- The generation that a live link stores is its provider's: now, on sound tables, and at the begin that made the link, after every list of commands.
use Rattle.model.proofs.Logic.{List, List-as-Memᴰ, Option, Option·map, [], ◌↔◌, ◌∙◌, ◌≡◌, ap, map, map-map, none, refl, some, subst, sym, true, ℕ}
use Rattle.model.specs.{Episodes.EpisodeRule, Episodes.EpisodesAt, Episodes.LiveLinkOf, Episodes.SaysEpisode, Episodes.last_generations, Episodes.link_generations, Episodes.provider_generations, Episodes.target_generations, Iteration.phase_of, Iteration.runs, Kernels.asked, Layouts.Layout, Layouts.lay_out, Layouts.sound_kernel, Layouts.tables_of, Lifecycle.begun_link, Lifecycle.phase_at, Lists.find, Observers.link_generation, Observers.phase, Records.binding_in, Records.is_running, Records.port_in, Records.port_of, Records.provider_in, Records.provision, Resolution.committed, Resolution.target, Resolution.target_list, Sizes.Sizes, Soundness.links_to, Soundness.sound, Tables.Tables, Tables.generation_at, declared.Binding.Binding, declared.Port.Port, declared.records.Link.Link}
use Rattle.model.proofs.{Laws.Booleans.clash, Laws.Committed.live-link_of, Laws.Committed.live_links_of, Laws.Facts.Safe, Laws.Facts.Sound, Laws.Facts.facts, Laws.Facts.links-to, Laws.Facts.of_links_to, Laws.Lists.at_in, Laws.Lists.find-in, Laws.Lists.in_at, Laws.Lists.in_keep, Laws.Lists.map_same, Laws.Lists.none_found, Theorems.Commands.run, Theorems.Commands.run_sound, Theorems.Iteration.observed, Theorems.IterationInvariant.IterationInvariant, Theorems.Kernels.asked_of, Theorems.Kernels.asked-sound, Theorems.Kernels.last-invariant, Theorems.Kernels.last-links, Theorems.Kernels.last_links, Theorems.Kernels.reached-is, Theorems.Layouts.tables-sound}

-- ---- now

-- two live links of one consumer and port have one provider: a port has one present owner
one_provider : (T : Tables) → Safe T → (l m : Link) → List-as-Memᴰ l T.links → List-as-Memᴰ m T.links → l.live ≡ true → m.live ≡ true → port_in l ≡ port_in m → provider_in l ≡ provider_in m
one_provider T k l m a b v w e =
    let x = k.live l a v in
    let y = k.live m b w in
    k.unique (provision (provider_in l) (port_in l)) (provision (provider_in m) (port_in m)) x.offered y.offered refl refl x.provider_present y.provider_present e

pub says-episode : (S : Sizes) (T : Tables) → sound S T ≡ true → (c : ℕ) (p : Port) → SaysEpisode T c p (link_generation T.links c p)
says-episode S T h c p = go (find (links_to c p) T.links) refl
  where
    k : Sound S T
    k = facts S T h

    go : (o : Option Link) → find (links_to c p) T.links ≡ o → SaysEpisode T c p (Option·map (λ l. l.generation) o)
    go none e = λ l (a, v, x, y). clash _ (of_links_to c p l v x y) (none_found (links_to c p) T.links e (at_in _ a.0 l a.1))
    go (some l) e =
        let (m, q) = find-in (links_to c p) T.links e in
        let (v, x, y) = links-to c p l q in
        let same : (n : Link) → LiveLinkOf T c p n → provider_in n ≡ provider_in l = λ n (a, w, r, s). one_provider T k.safe n l (at_in _ a.0 n a.1) m w v (s ∙ sym y) in
        let episode = k.stored.episodes l m v in (
          (l, (in_at m, v, x, y)),
          (
            provider_in l,
            record {
              present-generation = rw (k.safe.live l m v).provider_present (ap some (sym episode));
              providers = same;
              generations = λ n w. k.stored.episodes n (at_in _ w.0.0 n w.0.1) w.1 ∙ ap (generation_at T.nodes) (same n w) ∙ sym episode;
            },
          ),
        )

-- no two answers hold, so the one that holds is given
pub episode-once : (T : Tables) (c : ℕ) (p : Port) (a b : Option ℕ) → SaysEpisode T c p a → SaysEpisode T c p b → a ≡ b
episode-once T c p none none s t = refl
episode-once T c p none (some h) s t = absurd (s t.0.0 t.0.1)
episode-once T c p (some g) none s t = absurd (t s.0.0 s.0.1)
episode-once T c p (some g) (some h) s t = let (l, w) = s.0 in ap some (sym (s.1.1.generations l w) ∙ t.1.1.generations l w)

pub episode-exactly : (S : Sizes) (T : Tables) → sound S T ≡ true → (c : ℕ) (p : Port) (a : Option ℕ) → (link_generation T.links c p ≡ a) ↔ SaysEpisode T c p a
episode-exactly S T h c p a = let given = says-episode S T h c p in (λ e. subst (SaysEpisode T c p) e given, λ s. episode-once T c p _ a given s)

-- and of a sound kernel
pub kernel-episode : (S : Sizes) (k : Layout) → sound_kernel S k ≡ true → (c : ℕ) (p : Port) → SaysEpisode (tables_of k) c p (asked S k none (λ T. link_generation T.links c p))
kernel-episode S k h c p = rw (asked-sound S k none (λ T. link_generation T.links c p) h) (says-episode S (tables_of k) (tables-sound S k h) c p)

-- so the answer is any such link's
pub says-link : (T : Tables) (c : ℕ) (p : Port) (o : Option ℕ) → SaysEpisode T c p o → (l : Link) → LiveLinkOf T c p l → some l.generation ≡ o
says-link T c p none s l w = absurd (s l w)
says-link T c p (some g) s l w = ap some (s.1.1.generations l w)

-- ---- then

generations-read : (T : Tables) (id : ℕ) (o : Option (List Binding)) → Option·map (provider_generations T) o ≡ Option·map (map (λ (l : Link). l.generation)) (Option·map (map (begun_link T.nodes id)) o)
generations-read T id none = refl
generations-read T id (some bs) = ap some (sym (map-map (λ (l : Link). l.generation) (begun_link T.nodes id) bs))

module _ (S : Sizes) (T : Tables) (h : sound S T ≡ true) (id : ℕ) (a : Option (List Link)) (q : IterationInvariant T id a) where
  abbrev begun : Option (List ℕ)
  begun = Option·map (map (λ (l : Link). l.generation)) a

  running : runs (phase_of S (lay_out S T) id) ≡ true → is_running (phase_at T id) ≡ true
  running r = (observed T id is_running runs refl (λ x. refl) (rw (asked_of S T h none (λ U. phase U id)) at r)).1

  stored : is_running (phase_at T id) ≡ true → begun ≡ some (link_generations T.links id)
  unfolding link_generations
  stored r = ap (Option·map (map (λ (l : Link). l.generation))) (q.as_begun r)

  -- each live link's is what link_generation answers for its port
  answers : map (λ (l : Link). some l.generation) (live_links_of T.links id) ≡ map (λ (l : Link). link_generation T.links id (port_in l)) (live_links_of T.links id)
  answers = map_same (live_links_of T.links id) (λ l m.
      let (n, x) = in_keep _ T.links m in
      let (v, c) = live-link_of id l x in
      says-link T id (port_in l) _ (says-episode S T h id (port_in l)) l (in_at n, v, c, refl))

  seen : is_running (phase_at T id) ≡ true → Option·map (map some) begun ≡ some (map (λ (b : Binding). link_generation T.links id (port_of b)) (committed T.links id))
  unfolding committed
  seen r =
      let ls = live_links_of T.links id in
      ap (λ (o : Option (List Link)). Option·map (map some) (Option·map (map (λ (l : Link). l.generation)) o)) (q.as_begun r)
      ∙ ap some (map-map some (λ (l : Link). l.generation) ls ∙ answers ∙ sym (map-map (λ (b : Binding). link_generation T.links id (port_of b)) binding_in ls))

  pub episodes : EpisodesAt S (lay_out S T) id begun
  episodes = record {
    stored = λ r. rw (asked_of S T h [] (λ U. link_generations U.links id)) (stored (running r));
    observed = λ r. rw (asked_of S T h [] (λ U. committed U.links id)) (
        seen (running r)
        ∙ ap (λ (f : Binding → Option ℕ). some (map f (committed T.links id))) (λ i b. sym (asked_of S T h none (λ U. link_generation U.links id (port_of b))) i));
  }

pub episode-rule : EpisodeRule
episode-rule S cs id =
    let begun : last_generations S cs id ≡ Option·map (map (λ (l : Link). l.generation)) (last_links S cs id) =
    last-links S cs id _ (Option·map (map (λ (l : Link). l.generation))) refl (λ T h. asked_of S T h none (λ U. target_generations U id) ∙ generations-read T id (target_list (target T id))) in
    rw (reached-is S cs, begun) (episodes S (run S cs) (run_sound S cs) id (last_links S cs id) (last-invariant S cs id))
