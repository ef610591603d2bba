use Rattle.std.proofs.lemmas.Result.{IfOk-weaker}
use Rattle.template_program_words.proofs.Shapes.{app_of-subcommand}
use Rattle.template_program_words.proofs.options.program.Goals as goal

pub returns : goal.returns
returns c =
    let rendering = app_of-subcommand _ _ _ _ _ c.in_ok-subcommand.ensures c.in_ok-bare_program.ensures
    c.in_ok-render.ensures.app c.in_ok-render.ensures.local in
    let naming = app_of-subcommand _ _ _ _ _ c.in_ok-subcommand-2.ensures rendering
    c.in_ok-names.ensures.app c.in_ok-names.ensures.local in
    IfOk-weaker c.subcommand-3.result _ _ (λ command adds.
    app_of-subcommand _ _ _ _ _ adds naming c.in_ok-check.ensures.app c.in_ok-check.ensures.local) c.subcommand-3.ensures
