use Rattle.std.proofs.Common.{◌∙◌, [], ◌∷◌, ◌++◌, ap}
use Rattle.template_program_run.proofs.Listing.{list_text}
use Rattle.template_program_run.proofs.names.json_line.Goals as goal

pub returns-clause-line : goal.returns-clause-line
returns-clause-line c =
    c.in_ok-push_str.ensures.bytes
    ∙ ap (λ text. text ++ 10 ∷ []) (list_text c.in_ok-texts.texts c.args.names.now.keys _ c.in_ok-texts.ensures.texts c.in_ok-line.ensures.text)
