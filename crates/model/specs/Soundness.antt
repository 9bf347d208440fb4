-- Soundness of the tables: the rules' nine points, six of them wf of lib.rs, and the sizes.
use Rattle.std.specs.Prelude.{Bool, ◌&&◌, false, not, true, List, [], ◌∷◌, ℕ, eqb, leb, ltb, length}
use Rattle.std.specs.Bool.{beq}
use Rattle.model.specs.declared.records.Declaration.{Declaration}
use Rattle.model.specs.declared.records.Link.{Link}
use Rattle.model.specs.declared.records.Node.{Node}
use Rattle.model.specs.declared.Parent.{Parent}
use Rattle.model.specs.declared.Port.{Port}
use Rattle.model.specs.Lists.{◌⇒◌, all, all_at, any, conj, onward}
use Rattle.model.specs.Records.{consumer_in, declared_port, is_consistent, owner_in, parent_in, port_in, provider_in, same_port}
use Rattle.model.specs.Sizes.{Sizes}
use Rattle.model.specs.Tables.{Tables, generation_at, installed, present, serving}

-- ---- 1: every declaration's owner is below the node count

unfoldable pub has_owner : ℕ → Declaration → Bool
has_owner count d = ltb (owner_in d) count

-- ---- 2: two provisions of one port by present owners have the same owner

-- `here` tells which identities are present
abbrev pub rival_tests : (ℕ → Bool) → Declaration → Declaration → List Bool
rival_tests here d e = d.provides ∷ e.provides ∷ here (owner_in d) ∷ here (owner_in e) ∷ same_port (declared_port d) (declared_port e) ∷ []

unfoldable pub same_owner : (ℕ → Bool) → Declaration → Declaration → Bool
same_owner here d e = conj (rival_tests here d e) ⇒ eqb (owner_in d) (owner_in e)

-- ---- 3: a node is consistent, and a present one's parent, if any, is present and has a smaller identity

unfoldable pub parent_ok : List Node → ℕ → Parent → Bool
parent_ok ns id Parent.None = true
parent_ok ns id (Parent.Of p) = ltb p id && present ns p

unfoldable pub node_ok : List Node → ℕ → Node → Bool
node_ok ns id n = is_consistent n && (n.present ⇒ parent_ok ns id (parent_in n))

-- ---- 4: a live link's ends are present and not Inactive, its provider is not restoring, and both declared the port

unfoldable pub is_declaration : ℕ → Port → Bool → Declaration → Bool
is_declaration o p b d = eqb (owner_in d) o && same_port (declared_port d) p && beq d.provides b

abbrev pub declares : List Declaration → ℕ → Port → Bool → Bool
declares ds o p b = any (is_declaration o p b) ds

-- `installs` tells which identities are present and not Inactive, `serves` which of those are not restoring
abbrev pub link_tests : (ℕ → Bool) → (ℕ → Bool) → List Declaration → Link → List Bool
link_tests installs serves ds l = let c = consumer_in l in let o = provider_in l in let p = port_in l in installs c ∷ serves o ∷ declares ds c p false ∷ declares ds o p true ∷ []

unfoldable pub link_ok : (ℕ → Bool) → (ℕ → Bool) → List Declaration → Link → Bool
link_ok installs serves ds l = l.live ⇒ conj (link_tests installs serves ds l)

-- ---- 5: where a live link's provider is a live link's consumer, the latter link stands strictly earlier

-- of a link and one that is not earlier: the first's provider is not the second's consumer
unfoldable pub apart : Link → Link → Bool
apart l m = not (l.live && m.live && eqb (provider_in l) (consumer_in m))

abbrev pub ordered : List Link → Bool
ordered ls = onward apart ls

-- ---- 6: each dependency of a present node that isn't Inactive has a live link of that consumer with that port

unfoldable pub links_to : ℕ → Port → Link → Bool
links_to o p l = l.live && eqb (consumer_in l) o && same_port (port_in l) p

abbrev pub need_tests : (ℕ → Bool) → Declaration → List Bool
need_tests installs d = not d.provides ∷ installs (owner_in d) ∷ []

unfoldable pub is_covered : (ℕ → Bool) → List Link → Declaration → Bool
is_covered installs ls d = conj (need_tests installs d) ⇒ any (links_to (owner_in d) (declared_port d)) ls

-- ---- 7: a dead link's consumer and provider are below the node count

abbrev pub end_tests : ℕ → Link → List Bool
end_tests count l = ltb (consumer_in l) count ∷ ltb (provider_in l) count ∷ []

unfoldable pub dead_ok : ℕ → Link → Bool
dead_ok count l = not l.live ⇒ conj (end_tests count l)

-- ---- 8: an absent node's parent, if any, is smaller than the node

abbrev pub smaller : ℕ → Parent → Bool
smaller id Parent.None = true
smaller id (Parent.Of p) = ltb p id

unfoldable pub absent_ok : ℕ → Node → Bool
absent_ok id n = not n.present ⇒ smaller id (parent_in n)

-- ---- 9: a live link's generation is its provider's

-- `generation` tells that of each identity
unfoldable pub episode_ok : (ℕ → ℕ) → Link → Bool
episode_ok generation l = l.live ⇒ eqb l.generation (generation (provider_in l))

-- ---- the whole

-- the first five points, as lib.rs groups them
abbrev pub safety_tests : Tables → List Bool
safety_tests T =
    let ns = T.nodes in
    let ds = T.declarations in
    all (has_owner (length ns)) ds ∷ all (λ d. all (same_owner (present ns) d) ds) ds ∷ all_at (node_ok ns) 0 ns ∷ all (link_ok (installed ns) (serving ns) ds) T.links ∷ ordered T.links ∷ []

unfoldable pub safety_wf : Tables → Bool
safety_wf T = conj (safety_tests T)

unfoldable pub coverage : Tables → Bool
coverage T = all (is_covered (installed T.nodes) T.links) T.declarations

-- the six points of lib.rs
unfoldable pub wf : Tables → Bool
wf T = safety_wf T && coverage T

-- the last three: of what is stored otherwise than in lib.rs, identities in a byte and a link's generation
abbrev pub stored_tests : Tables → List Bool
stored_tests T = all (dead_ok (length T.nodes)) T.links ∷ all_at absent_ok 0 T.nodes ∷ all (episode_ok (generation_at T.nodes)) T.links ∷ []

unfoldable pub stored_wf : Tables → Bool
stored_wf T = conj (stored_tests T)

unfoldable pub every_point : Tables → Bool
every_point T = wf T && stored_wf T

abbrev pub size_tests : Sizes → Tables → List Bool
size_tests S T = leb (length T.nodes) S.identities ∷ leb (length T.declarations) S.declarations ∷ leb (length T.links) S.links ∷ []

unfoldable pub fits : Sizes → Tables → Bool
fits S T = conj (size_tests S T)

unfoldable pub sound : Sizes → Tables → Bool
sound S T = fits S T && every_point T
