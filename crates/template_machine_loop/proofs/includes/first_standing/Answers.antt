use Rattle.std.proofs.Common.{[], ◌∷◌, Err, sym, ap, ◌∙◌, ◌≡◌, arith}
use Rattle.std.specs.Cow.{cow_str_bytes}
use Rattle.template_values_errors.specs.declared.ErrorKind.TheVariants.{InvalidOperation}
use Rattle.template_machine_meaning.specs.Includes.{first_standing}
use Rattle.template_machine_going.specs.Told.{FaultsSo}
use Rattle.template_machine_loop.specs.Programs.{programs_in, standing_of, roots_of}
use Rattle.template_machine_loop.proofs.Choosing.{nameless, unjoined_or, chosen_there, passed_over, stands_named, err_as}
use Rattle.template_machine_loop.proofs.Within.{err_on}
use Rattle.template_machine_loop.proofs.includes.first_standing.Goals as goal

pub returns-in_default-as_str-clause-refused : goal.returns-in_default-as_str-clause-refused
returns-in_default-as_str-clause-refused g c =
    nameless (g.T.Templates.standing c.args.program.templates.now) (g.T.Templates.joins c.args.program.templates.now) (g.T.Callbacks.callables c.args.program.templates.now) (roots_of c.args.program) c.args.program.rules c.args.here.now c.args.choices.now c.loop-place.place c.in-Some.choice.now c.loop-place.invariant (sym c.in-Some.ensures) (sym c.in_default-as_str.ensures)
    ∙ err_as (InvalidOperation ∷ []) c.new.result c.new.ensures

pub returns-in_err-joined-clause-refused : goal.returns-in_err-joined-clause-refused
returns-in_err-joined-clause-refused g c =
    err_on (λ stop. FaultsSo (λ kinds. first_standing (programs_in g.T.Templates.standing g.T.Templates.joins g.T.Callbacks.callables c.args.program).around c.args.here.now c.args.choices.now ≡ Err kinds) stop) _ c.from_residual.result c.from_residual.ensures.1
    (unjoined_or (g.T.Templates.standing c.args.program.templates.now) (g.T.Templates.joins c.args.program.templates.now) (g.T.Callbacks.callables c.args.program.templates.now) (roots_of c.args.program) c.args.program.rules c.args.here.now c.args.choices.now c.loop-place.place c.in-Some.choice.now c.loop-place.invariant (sym c.in-Some.ensures) c.in-Some-as_str.name.now
    (sym c.in-Some-as_str.ensures) _ c.in_err-joined.ensures.refused)

pub returns-in-Some-get-clause-found : goal.returns-in-Some-get-clause-found
returns-in-Some-get-clause-found g c =
    chosen_there (g.T.Templates.standing c.args.program.templates.now) (g.T.Templates.joins c.args.program.templates.now) (g.T.Callbacks.callables c.args.program.templates.now) (roots_of c.args.program) c.args.program.rules c.args.here.now c.args.choices.now c.loop-place.place c.in-Some.choice.now c.loop-place.invariant (sym c.in-Some.ensures) c.in-Some-as_str.name.now
    (sym c.in-Some-as_str.ensures) (cow_str_bytes c.in_ok-joined.joined) c.in_ok-joined.ensures.joined (standing_of c.in-Some-get.found)
    (c.in-Some-get.ensures.found ∙ ap (g.T.Templates.standing c.args.program.templates.now) c.as_str-meant.ensures.value) (c.in-Some-get.ensures.named ∙ c.as_str-meant.ensures.value)

pub returns-in-Some-get-clause-stands : goal.returns-in-Some-get-clause-stands
returns-in-Some-get-clause-stands g c =
    stands_named (g.T.Templates.standing c.args.program.templates.now) (g.T.Templates.joins c.args.program.templates.now) (g.T.Callbacks.callables c.args.program.templates.now) (roots_of c.args.program) c.args.program.rules (standing_of c.in-Some-get.found) c.as_str-meant.result.now c.in-Some-get.ensures.found c.in-Some-get.ensures.named

pub loop-place-preserved : goal.loop-place-preserved
loop-place-preserved g c =
    passed_over (g.T.Templates.standing c.args.program.templates.now) (g.T.Templates.joins c.args.program.templates.now) (g.T.Callbacks.callables c.args.program.templates.now) (roots_of c.args.program) c.args.program.rules c.args.here.now c.args.choices.now c.loop-place.place c.in-Some.choice.now c.loop-place.invariant (sym c.in-Some.ensures) c.in-Some-as_str.name.now
    (sym c.in-Some-as_str.ensures) (cow_str_bytes c.in_ok-joined.joined) c.in_ok-joined.ensures.joined _
    (c.in_default-get.ensures.found ∙ ap (g.T.Templates.standing c.args.program.templates.now) c.as_str-meant.ensures.value) (omega arith)
