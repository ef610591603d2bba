use Rattle.std.proofs.Common.{[], ◌∷◌, Ok, option_map, sym, ap, ◌∙◌}
use Rattle.template_values_errors.specs.declared.ErrorKind.TheVariants.{TemplateNotFound}
use Rattle.template_machine_meaning.specs.Includes.{include_plan}
use Rattle.template_machine_meaning.specs.Records.{known_of}
use Rattle.template_machine_going.specs.Told.{FaultsSo}
use Rattle.template_machine_loop.specs.Found.{IsRefused, found_of}
use Rattle.template_machine_loop.specs.Programs.{programs_in, standing_of, roots_of}
use Rattle.template_machine_loop.proofs.Choosing.{choices_stop, template_found, choice_stops, ignored, tried_nothing, none_found_of, named_here, none_left, standing_as}
use Rattle.template_machine_loop.proofs.Within.{err_on, refused_as}
use Rattle.template_machine_loop.proofs.includes.chosen.Goals as goal

pub returns-in_err-choices-clause-refused : goal.returns-in_err-choices-clause-refused
returns-in_err-choices-clause-refused g c =
    let s = programs_in g.T.Templates.standing g.T.Templates.joins g.T.Callbacks.callables c.args.program in
    err_on (λ stop. FaultsSo (IsRefused s (include_plan (known_of c.args.state.now) s.around c.args.state.now c.args.ignore_missing c.args.value) c.args.state.now) stop) _
    c.from_residual.result c.from_residual.ensures.1
    (choices_stop (g.T.Templates.standing c.args.program.templates.now) (g.T.Templates.joins c.args.program.templates.now) (g.T.Callbacks.callables c.args.program.templates.now) (roots_of c.args.program) c.args.program.rules c.args.state.now c.args.ignore_missing c.args.value _ c.in_err-choices.ensures)

pub returns-in_err-first-clause-refused : goal.returns-in_err-first-clause-refused
returns-in_err-first-clause-refused g c =
    let s = programs_in g.T.Templates.standing g.T.Templates.joins g.T.Callbacks.callables c.args.program in
    err_on (λ stop. FaultsSo (IsRefused s (include_plan (known_of c.args.state.now) s.around c.args.state.now c.args.ignore_missing c.args.value) c.args.state.now) stop) _
    c.from_residual-in_err-first.result c.from_residual-in_err-first.ensures.1
    (choice_stops (g.T.Templates.standing c.args.program.templates.now) (g.T.Templates.joins c.args.program.templates.now) (g.T.Callbacks.callables c.args.program.templates.now) (roots_of c.args.program) c.args.program.rules c.args.state.now c.args.ignore_missing c.args.value c.in_ok-choices.choices c.in_ok-choices.ensures c.here_name.result.now (c.here_name.ensures s.around) _ c.in_err-first.ensures.refused)

pub returns-in-Some-clause-found : goal.returns-in-Some-clause-found
returns-in-Some-clause-found g c =
    let s = programs_in g.T.Templates.standing g.T.Templates.joins g.T.Callbacks.callables c.args.program in
    template_found (g.T.Templates.standing c.args.program.templates.now) (g.T.Templates.joins c.args.program.templates.now) (g.T.Callbacks.callables c.args.program.templates.now) (roots_of c.args.program) c.args.program.rules c.args.state.now c.args.ignore_missing c.args.value c.in_ok-choices.choices c.in_ok-choices.ensures (standing_of c.in-Some.found)
    (named_here (g.T.Templates.standing c.args.program.templates.now) (g.T.Templates.joins c.args.program.templates.now) (g.T.Callbacks.callables c.args.program.templates.now) (roots_of c.args.program) c.args.program.rules c.args.state.now c.in_ok-choices.choices c.here_name.result.now (c.here_name.ensures s.around) _
    (c.in_ok-first.ensures.found ∙ ap (λ o. Ok (option_map (λ k. found_of (standing_of k)) o)) c.in-Some.is))
    (standing_as (g.T.Templates.standing c.args.program.templates.now) c.in_ok-first.first c.in-Some.found c.in-Some.is c.in_ok-first.ensures.stands)

pub returns-then-ignore_missing-clause-found : goal.returns-then-ignore_missing-clause-found
returns-then-ignore_missing-clause-found g c =
    let s = programs_in g.T.Templates.standing g.T.Templates.joins g.T.Callbacks.callables c.args.program in
    ignored (g.T.Templates.standing c.args.program.templates.now) (g.T.Templates.joins c.args.program.templates.now) (g.T.Callbacks.callables c.args.program.templates.now) (roots_of c.args.program) c.args.program.rules c.args.state.now c.args.ignore_missing c.args.value c.in_ok-choices.choices c.in_ok-choices.ensures
    (named_here (g.T.Templates.standing c.args.program.templates.now) (g.T.Templates.joins c.args.program.templates.now) (g.T.Callbacks.callables c.args.program.templates.now) (roots_of c.args.program) c.args.program.rules c.args.state.now c.in_ok-choices.choices c.here_name.result.now (c.here_name.ensures s.around) _
    (c.in_ok-first.ensures.found ∙ ap (λ o. Ok (option_map (λ k. found_of (standing_of k)) o)) (none_left c.in_ok-first.first c.in_default.not-Some)))
    c.if-ignore_missing.true

pub returns-then-is_empty-clause-found : goal.returns-then-is_empty-clause-found
returns-then-is_empty-clause-found g c =
    let s = programs_in g.T.Templates.standing g.T.Templates.joins g.T.Callbacks.callables c.args.program in
    tried_nothing (g.T.Templates.standing c.args.program.templates.now) (g.T.Templates.joins c.args.program.templates.now) (g.T.Callbacks.callables c.args.program.templates.now) (roots_of c.args.program) c.args.program.rules c.args.state.now c.args.ignore_missing c.args.value c.in_ok-choices.choices c.in_ok-choices.ensures
    (named_here (g.T.Templates.standing c.args.program.templates.now) (g.T.Templates.joins c.args.program.templates.now) (g.T.Callbacks.callables c.args.program.templates.now) (roots_of c.args.program) c.args.program.rules c.args.state.now c.in_ok-choices.choices c.here_name.result.now (c.here_name.ensures s.around) _
    (c.in_ok-first.ensures.found ∙ ap (λ o. Ok (option_map (λ k. found_of (standing_of k)) o)) (none_left c.in_ok-first.first c.in_default.not-Some)))
    (sym c.is_empty.ensures ∙ c.if-is_empty.true)

pub returns-clause-refused : goal.returns-clause-refused
returns-clause-refused g c =
    let s = programs_in g.T.Templates.standing g.T.Templates.joins g.T.Callbacks.callables c.args.program in
    refused_as s (include_plan (known_of c.args.state.now) s.around c.args.state.now c.args.ignore_missing c.args.value) c.args.state.now (TemplateNotFound ∷ []) c.new.result c.new.ensures
    (none_found_of (g.T.Templates.standing c.args.program.templates.now) (g.T.Templates.joins c.args.program.templates.now) (g.T.Callbacks.callables c.args.program.templates.now) (roots_of c.args.program) c.args.program.rules c.args.state.now c.args.ignore_missing c.args.value c.in_ok-choices.choices c.in_ok-choices.ensures
    (named_here (g.T.Templates.standing c.args.program.templates.now) (g.T.Templates.joins c.args.program.templates.now) (g.T.Callbacks.callables c.args.program.templates.now) (roots_of c.args.program) c.args.program.rules c.args.state.now c.in_ok-choices.choices c.here_name.result.now (c.here_name.ensures s.around) _
    (c.in_ok-first.ensures.found ∙ ap (λ o. Ok (option_map (λ k. found_of (standing_of k)) o)) (none_left c.in_ok-first.first c.in_default.not-Some)))
    c.if-ignore_missing.false (sym c.is_empty.ensures ∙ c.if-is_empty.false))
