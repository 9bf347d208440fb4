-- What a link's generation is, in the words of docs/RULES.md: that of its provider now, and at the begin that made the link.
use Rattle.std.specs.Prelude.{◌≡◌, true, List, [], map, ℕ}
use Rattle.std.proofs.Math.Option
use Rattle.std.proofs.Math.Option.{Option, none, some}
use Rattle.model.specs.declared.Binding.{Binding}
use Rattle.model.specs.declared.Port.{Port}
use Rattle.model.specs.declared.records.Link.{Link}
use Rattle.model.specs.Commands.{Command}
use Rattle.model.specs.Iteration.{committed_of, last_from, phase_of, runs}
use Rattle.model.specs.Kernels.{asked, empty_kernel, reached}
use Rattle.model.specs.Layouts.{Layout}
use Rattle.model.specs.Lists.{keep}
use Rattle.model.specs.Observers.{episode_generation, link_generation}
use Rattle.model.specs.Points.{Among}
use Rattle.model.specs.Records.{consumer_in, port_in, port_of, provider_in}
use Rattle.model.specs.Resolution.{is_live_link_of, target, target_list}
use Rattle.model.specs.Sizes.{Sizes}
use Rattle.model.specs.Tables.{Tables, generation_at}

-- ---- now: what link_generation answers

-- l is a live link of this consumer and port
abbrev pub LiveLinkOf : Tables → ℕ → Port → Link → Type 0
LiveLinkOf T c p l = Among T.links l × (l.live ≡ true) × (consumer_in l ≡ c) × (port_in l ≡ p)

-- g is the generation that o has now, and each live link of this consumer and port names o and stores g
pub record OneEpisode (T : Tables) (c : ℕ) (p : Port) (g o : ℕ) : Type 0 where
  pub present-generation : episode_generation T o ≡ some g
  pub providers : (l : Link) → LiveLinkOf T c p l → provider_in l ≡ o
  pub generations : (l : Link) → LiveLinkOf T c p l → l.generation ≡ g

-- what each answer says (Theorems/Episodes.antt: of sound tables link_generation gives an answer exactly if this holds of it)
abbrev pub SaysEpisode : Tables → ℕ → Port → Option ℕ → Type 0
SaysEpisode T c p none = (l : Link) → LiveLinkOf T c p l → ⊥
SaysEpisode T c p (some g) = ((l : Link) × LiveLinkOf T c p l) × ((o : ℕ) × OneEpisode T c p g o)

-- ---- then: what target's providers had at the last accepted begin, told from the calls

-- the generations of a consumer's live links, in link order
unfoldable pub link_generations : List Link → ℕ → List ℕ
link_generations ls id = map (λ l. l.generation) (keep (is_live_link_of id) ls)

-- the generations that the providers of these bindings have
abbrev pub provider_generations : Tables → List Binding → List ℕ
provider_generations T bs = map (λ b. generation_at T.nodes b.provider) bs

-- those of the target's providers, if there is a target
abbrev pub target_generations : Tables → ℕ → Option (List ℕ)
target_generations T id = Option.map (provider_generations T) (target_list (target T id))

-- on the kernel handed to the component's latest begin that was accepted, in a list from the empty kernel; none if there was no such begin
abbrev pub last_generations : Sizes → List Command → ℕ → Option (List ℕ)
last_generations S cs id = last_from S (λ k. asked S k none (λ T. target_generations T id)) (empty_kernel S) id cs none

-- of a Loading or Active component of a kernel, with what its target's providers had then: the generations of its live links, entry by entry and in order,
-- and link_generation's answers for the ports of its committed
pub record EpisodesAt (S : Sizes) (k : Layout) (id : ℕ) (begun : Option (List ℕ)) : Type 0 where
  pub stored : runs (phase_of S k id) ≡ true → begun ≡ some (asked S k [] (λ T. link_generations T.links id))
  pub observed : runs (phase_of S k id) ≡ true → Option.map (map some) begun ≡ some (map (λ b. asked S k none (λ T. link_generation T.links id (port_of b))) (committed_of S k id))

-- one claim about every list of commands
abbrev pub EpisodeRule : Type 0
EpisodeRule = (S : Sizes) (cs : List Command) (id : ℕ) → EpisodesAt S (reached S cs) id (last_generations S cs id)
