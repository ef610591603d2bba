use Rattle.template_compiled.specs.Compiled.{Compiled}
use Rattle.template_compiled.proofs.Listing.{are_named, found_among, names_ascend}
use Rattle.template_compiled.proofs.templates.CompiledTemplates.values.Goals as goal

pub returns-clause-ordered : goal.returns-clause-ordered
returns-clause-ordered c =
    let m = c.args.self.now.by_name in
    let ordered = c.values.ensures.ordered in
    names_ascend (λ (t : Compiled). t.name) m.entries (are_named (λ (t : Compiled). t.name) m ordered c.args.self.now.named) ordered

pub returns-clause-found : goal.returns-clause-found
returns-clause-found c =
    let m = c.args.self.now.by_name in
    found_among (λ (t : Compiled). t.name) m.entries (are_named (λ (t : Compiled). t.name) m c.values.ensures.ordered c.args.self.now.named)
