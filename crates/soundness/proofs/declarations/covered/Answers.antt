use Rattle.model.proofs.Logic.{Bool, List, ◌&&◌, ◌<◌, ◌∙◌, ◌≡◌, ap, arith, false, get_or, length, not, sym, ℕ}
use Rattle.std.proofs.lemmas.List.Folds.{list_all_at, list_all_more}
use Rattle.model.specs.{Lists.any, Records.blank_declaration, Soundness.is_covered, Tables.installed, declared.records.Declaration.Declaration, declared.records.Link.Link, declared.records.Node.Node}
use Rattle.loops.proofs.Laws.Marking.{met_covered}
use Rattle.loops.specs.Marks.{meets}
use Rattle.soundness.proofs.declarations.covered.Goals as goal

-- what the test of a declaration tells: x is whether its owner is installed
tells :
    (ns : List Node) (ds : List Declaration) (met : List Bool) (ls : List Link) (i : ℕ) {x b : Bool} →
    let d = get_or ds i blank_declaration in
    ((k : ℕ) → k < length ds → get_or met k false ≡ any (meets (get_or ds k blank_declaration)) ls) → i < length ds → x ≡ installed ns d.owner → not d.provides && x && not (get_or met i false) ≡ b → is_covered (installed ns) ls d ≡ not b
tells ns ds met ls i h l e t =
    let d = get_or ds i blank_declaration in
    met_covered (installed ns) ls d (get_or met i false) (h i l) ∙ ap not (rw e at t)

pub returns-then-d-is_installed : goal.returns-then-d-is_installed
returns-then-d-is_installed c = λ ls h.
    let a = c.args in
    sym (list_all_at (is_covered (installed a.nodes.now) ls) a.declarations.now c.loop-i.i blank_declaration (omega arith) (tells a.nodes.now a.declarations.now a.met.now ls c.loop-i.i h (omega arith) (rw c.owner_in.ensures at c.is_installed.ensures) c.if-d-is_installed.true))

pub loop-i-preserved : goal.loop-i-preserved
loop-i-preserved c = λ ls h.
    let a = c.args in
    let here = tells a.nodes.now a.declarations.now a.met.now ls c.loop-i.i h (omega arith) (rw c.owner_in.ensures at c.is_installed.ensures) c.if-d-is_installed.false in
    list_all_more (is_covered (installed a.nodes.now) ls) a.declarations.now c.loop-i.i blank_declaration (omega arith) ∙ rw (c.loop-i.invariant ls h, here)
