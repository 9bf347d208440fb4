use Rattle.model.proofs.Logic.{not, arith, true, rules, Bool, ◌≡◌}
use Rattle.kernel.specs.{Ports.declarations_kept}
use Rattle.kernel.proofs.{Laws.Arrays.links_read, Laws.Edits.kept_declarations}
use Rattle.model.specs.{Commands.settle, Commands.step, Kernels.asked, Kernels.commanded, Refusals.first, Soundness.is_declaration, declared.records.Declaration.Declaration}
use Rattle.kernel.proofs.Kernel.release_provision_in.Goals as goal

pub returns-clause-does : goal.returns-clause-does
unfolding first asked commanded step settle
returns-clause-does c =
    let p : Declaration → Bool = λ d. not (is_declaration c.args.id c.args.port true d) in
    let e : c.keep_declarations.new.self ≡ declarations_kept p c.args.self.now = c.keep_declarations.ensures p (search rules) in
    grind (arith, links_read, kept_declarations)
