use Rattle.std.proofs.Common.{◌∙◌, rules, tests}
use Rattle.std.proofs.lemmas.Iterator.{YieldsList-from_slice}
use Rattle.std.proofs.lemmas.Iterator.Search.{any_from_yields_List}
use Rattle.template_program_run.specs.Held.{origin_in}
use Rattle.template_program_run.specs.Origins.{is_input}
use Rattle.template_program_run.specs.declared.origins.Origin.{Origin}
use Rattle.template_program_run.proofs.Piping.{any_seen}
use Rattle.template_program_run.proofs.origins.holds_input.Goals as goal

pub returns : goal.returns
returns c =
    any_from_yields_List (λ (o : Origin). is_input (origin_in o)) _ _ _ c.any.ensures.ran (YieldsList-from_slice c.args.origins.now cc)
    (λ x b q k. search (rules, tests))
    ∙ any_seen is_input origin_in c.args.origins.now
