use Rattle.std.proofs.Common.{codes, rules}
use Rattle.std.proofs.lemmas.Result.{IfOk-weaker}
use Rattle.clap.specs.Words.{new_app}
use Rattle.template_program_words.proofs.Shapes.{Describes, Describes-args}
use Rattle.template_program_words.proofs.options.check.Goals as goal

pub returns-clause-app : goal.returns-clause-app
returns-clause-app c =
    let bare : Describes c.about.result (new_app (codes "check")) = record { is = search rules; local = search rules } in
    let own = Describes-args _ _ _ _ _ c.in_ok-args.ensures bare
    c.in_ok-check_arguments.ensures.rules c.in_ok-check_arguments.ensures.local in
    let flagged = Describes-args _ _ _ _ _ c.in_ok-args-2.ensures own
    c.in_ok-syntax_flags.ensures.rules c.in_ok-syntax_flags.ensures.local in
    IfOk-weaker c.args-4.result _ _ (λ command adds.
    (Describes-args _ _ _ _ _ adds flagged c.in_ok-syntax_texts.ensures.rules c.in_ok-syntax_texts.ensures.local).is)
    c.args-4.ensures

pub returns-clause-local : goal.returns-clause-local
returns-clause-local c =
    let bare : Describes c.about.result (new_app (codes "check")) = record { is = search rules; local = search rules } in
    let own = Describes-args _ _ _ _ _ c.in_ok-args.ensures bare
    c.in_ok-check_arguments.ensures.rules c.in_ok-check_arguments.ensures.local in
    let flagged = Describes-args _ _ _ _ _ c.in_ok-args-2.ensures own
    c.in_ok-syntax_flags.ensures.rules c.in_ok-syntax_flags.ensures.local in
    IfOk-weaker c.args-4.result _ _ (λ command adds.
    (Describes-args _ _ _ _ _ adds flagged c.in_ok-syntax_texts.ensures.rules c.in_ok-syntax_texts.ensures.local).local)
    c.args-4.ensures
