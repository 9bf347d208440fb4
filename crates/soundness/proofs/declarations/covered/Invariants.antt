-- The declarations met are covered, whichever links meet the dependencies.
use Rattle.std.proofs.Common.{List, ◌<◌, ◌≡◌, false, get_or, length, take, true, ℕ}
use Rattle.model.specs.{Lists.all, Lists.any, Records.blank_declaration, Soundness.is_covered, Tables.installed, declared.records.Link.Link}
use Rattle.loops.specs.Marks.{meets}
use Rattle.soundness.proofs.declarations.covered.Given as goal

abbrev pub invariant-loop-i : goal.invariant-loop-i
invariant-loop-i l =
    (ls : List Link) → ((k : ℕ) → k < length l.declarations → get_or l.met k false ≡ any (meets (get_or l.declarations k blank_declaration)) ls) → all (is_covered (installed l.nodes) ls) (take l.i l.declarations) ≡ true
