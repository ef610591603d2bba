use Rattle.std.proofs.Common.{map, ap, ◌∙◌}
use Rattle.std.proofs.lemmas.List.{map-set}
use Rattle.template_compiler_code.specs.View.{code_of}
use Rattle.template_compiler_code.proofs.listing.Instructions.replace.Goals as goal

pub returns-clause-replaced : goal.returns-clause-replaced
returns-clause-replaced c =
    ap (map code_of) c.put_at.ensures.replaced ∙ map-set code_of c.args.self.now.code.items c.args.index c.args.instruction
