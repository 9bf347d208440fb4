-- What the interface commands ask of the arrays, by their commands' rows, and the arrays that they leave.
use Rattle.model.proofs.Logic.{none, Bool, List, length-map, ◌+◌, ◌<◌, ◌∙◌, ◌≡◌, ◌≤◌, ap, false, length, map, refl, set, sym, take, true, ℕ}
use Rattle.kernel.specs.{Fields.layout_of, Ports.BlankPast, Ports.appended, Ports.declarations_kept, declared.Kernel.Kernel}
use Rattle.kernel.proofs.{Laws.Arrays.below, Laws.Arrays.declarations_counted, Laws.Arrays.declarations_read, Laws.Arrays.declarations_within, Laws.Arrays.sound_kernel, Laws.Edits.kept_within, Laws.Stored.stored_is}
use Rattle.layouts.proofs.{Laws.Anew.HoldsDeclarations, Laws.Anew.all-kept, Laws.Anew.declarations-anew, Laws.Anew.declarations-held, Laws.Anew.holds-padded, Laws.Anew.holds_more, Laws.Declarations.Configurable, Laws.Declarations.configured, Laws.Sound.laid, Laws.Sound.SoundKernel, Laws.Declarations.declared-before, Laws.Declarations.declared-now, Laws.Declarations.taken_is}
use Rattle.loops.specs.{Columns.flag}
use Rattle.model.proofs.{Laws.Refusals.passed}
use Rattle.model.specs.{Refusals.first, Interface.configure_tests, Interface.dependencies_configured, Interface.listed, Interface.remaining, Records.dependency, Interface.own, Interface.provision_declared, Interface.remains, Interface.taken, Layouts.lay_out, Layouts.tables_of, Lists.any, Records.byte_of, Records.provision, Resolution.offers, Sizes.list_limit, declared.Port.Port, declared.PortList.PortList, declared.records.Declaration.Declaration, declared.records.Node.Node}
use Rattle.sizes.specs.{Sizes.DECLARATIONS, Sizes.IDENTITIES, Sizes.sizes}

module _ {k : Kernel} (K : SoundKernel sizes (layout_of k)) where
  pub taken_too : (fs : List Bool) (p : Port) → fs ≡ map (λ (m : Node). m.present) k.nodes → any (offers (flag IDENTITIES fs) p) (take k.declaration_count k.declarations) ≡ taken (tables_of (layout_of k)) p
  taken_too fs p f = sym (taken_is K f p refl)

  pub declared_before : (id : ℕ) (p : Port) → own (tables_of (layout_of k)) id p ≡ true → lay_out sizes (provision_declared (tables_of (layout_of k)) id p) ≡ layout_of k
  declared_before id p h = declared-before K id p h

  pub declared_now :
      (id : ℕ) (p : Port) (x : Declaration) → own (tables_of (layout_of k)) id p ≡ false → k.declaration_count < DECLARATIONS → id < IDENTITIES → x ≡ provision (byte_of id) p →
      lay_out sizes (provision_declared (tables_of (layout_of k)) id p)
      ≡ layout_of (record { nodes = k.nodes; node_count = k.node_count; declarations = set k.declarations k.declaration_count x; declaration_count = k.declaration_count + 1; links = k.links; link_count = k.link_count })
  declared_now id p x h m b e = declared-now K id p h m (e ∙ ap (λ (i : ℕ). provision i p) (stored_is b))

-- ---- the dependencies of a component replaced: what remains, and the list behind it

module _ {k : Kernel} (K : SoundKernel sizes (layout_of k)) (id : ℕ) (l : PortList) (n : length l.ports ≡ list_limit) (p : first (configure_tests sizes (tables_of (layout_of k)) id l) ≡ none) where
  rest : HoldsDeclarations sizes (remaining (tables_of (layout_of k)) id) (declarations_kept (remains id) k).declarations (declarations_kept (remains id) k).declaration_count
  rest = all-kept (record { entries = refl; counted = refl }) (declarations-held K) (laid K).declarations refl

  can : Configurable sizes (layout_of k) id l × (length (remaining (tables_of (layout_of k)) id) + length (listed l) ≤ DECLARATIONS)
  can = configured K id n (passed _ p)

  pub list_short : l.count ≤ list_limit
  list_short = can.0.short.within

  pub configured_below : id < IDENTITIES
  configured_below = can.0.below

  pub rest_room : (declarations_kept (remains id) k).declaration_count + length (listed l) ≤ DECLARATIONS
  rest_room = rw rest.counted at can.1

  pub rest_blank : BlankPast (declarations_kept (remains id) k).declaration_count (declarations_kept (remains id) k).declarations
  rest_blank = holds-padded rest

  pub configured_leaves :
      {ds : List Declaration} → ds ≡ appended (declarations_kept (remains id) k).declaration_count id false (declarations_kept (remains id) k).declarations (listed l) →
      lay_out sizes (dependencies_configured (tables_of (layout_of k)) id l)
      ≡ layout_of (record { nodes = k.nodes; node_count = k.node_count; declarations = ds; declaration_count = (declarations_kept (remains id) k).declaration_count + length (listed l); links = k.links; link_count = k.link_count })
  configured_leaves e = declarations-anew K _ (holds_more rest (map (dependency id) (listed l)) e (length-map (listed l) (dependency id)))

-- ---- what each command's function cites

pub ruleset declare_laws = (declarations_read, declarations_counted, below, taken_too, declared_before, declared_now)

pub ruleset check_configure_laws = (declarations_read, kept_within)

pub ruleset configure_laws = (sound_kernel, declarations_within, list_short, configured_below)
