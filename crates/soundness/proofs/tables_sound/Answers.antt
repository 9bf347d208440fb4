use Rattle.model.proofs.Logic.{arith, sym, true, ◌∙◌, ◌≡◌}
use Rattle.model.specs.{Layouts.Layout, Layouts.tables_of}
use Rattle.sizes.specs.Sizes.{sizes}
use Rattle.soundness.proofs.Laws.EntryTest.{counts_fail, counts_pass, counts_within, declarations_fail, links_decide, nodes_fail, nodes_pass}
use Rattle.soundness.proofs.tables_sound.Goals as goal
use Rattle.soundness.proofs.tables_sound.Goals.{After-nodes_ok, else-nodes_ok, then-nodes_ok}

pub returns-then-n-gt-IDENTITIES : goal.returns-then-n-gt-IDENTITIES
returns-then-n-gt-IDENTITIES c = sym (counts_fail sizes _ (λ n d l. omega arith))

-- the counts pass, and what the scan of the nodes tells
module _ (c : After-nodes_ok) where
  abbrev k : Layout
  k = record { nodes = c.args.nodes.now; node_count = c.args.n; declarations = c.args.declarations.now; declaration_count = c.args.d; links = c.args.links.now; link_count = c.args.l }

  within : counts_pass sizes k ≡ true
  within = counts_within sizes k (omega arith) (omega arith) (omega arith)

  nodes : c.nodes_ok.result ≡ nodes_pass sizes k
  unfolding tables_of
  nodes = rw (c.split_at.ensures.front, c.split_at.ensures.back) at c.nodes_ok.ensures

pub returns-then-declarations_ok : goal.returns-then-declarations_ok
unfolding tables_of
returns-then-declarations_ok c =
    let u = (goal.at.returns-then-declarations_ok c).After-nodes_ok in
    let links = rw (c.split_at.ensures.front, c.of-chains.ensures, c.split_at-2.ensures.front, c.split_at-3.ensures.front, c.split_at-3.ensures.back) at c.links_ok.ensures in
    elim c.if-nodes_ok.branch [
      | then-nodes_ok w ↦
          let declarations = rw (c.split_at.ensures.front, c.of-chains.ensures, c.split_at-2.ensures.front, c.split_at-2.ensures.back) at w.declarations_ok.ensures in
          links_decide sizes (k u) (within u) (nodes u) w.if-nodes_ok.true declarations (sym w.value-is ∙ c.if-declarations_ok.true) links
      | else-nodes_ok w ↦ cc
    ]

pub returns-else-declarations_ok : goal.returns-else-declarations_ok
unfolding tables_of
returns-else-declarations_ok c =
    let u = (goal.at.returns-else-declarations_ok c).After-nodes_ok in
    elim c.if-nodes_ok.branch [
      | then-nodes_ok w ↦
          let declarations = rw (c.split_at.ensures.front, c.of-chains.ensures, c.split_at-2.ensures.front, c.split_at-2.ensures.back) at w.declarations_ok.ensures in
          c.if-declarations_ok.false ∙ declarations_fail sizes (k u) (within u) (nodes u) w.if-nodes_ok.true declarations (sym w.value-is ∙ c.if-declarations_ok.false)
      | else-nodes_ok w ↦ c.if-declarations_ok.false ∙ nodes_fail sizes (k u) (within u) (nodes u) w.if-nodes_ok.false
    ]
