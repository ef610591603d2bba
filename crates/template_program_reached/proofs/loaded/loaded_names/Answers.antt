use Rattle.std.proofs.lemmas.Result.{IfOk-weaker}
use Rattle.template_program_reached.specs.Views.{names_in}
use Rattle.template_program_reached.proofs.Names.{loading_is}
use Rattle.template_program_reached.proofs.loaded.loaded_names.Goals as goal

pub returns-in-Ok-clause-names : goal.returns-in-Ok-clause-names
returns-in-Ok-clause-names c =
    IfOk-weaker c.names_left.result _ _
    (λ names is. loading_is c.args.syntax c.args.source.now c.new.result.left c.in-Ok.tokens.left (names_in names.items)
    c.new.ensures.tokens c.in-Ok.ensures.tokens is) c.names_left.ensures.names
