use Rattle.std.proofs.Common.{Err, Ok, inr}
use Rattle.template_machine_environment.specs.Extras.{user_answers}
use Rattle.template_machine_environment.specs.Reading.{brought_of, registry_of}
use Rattle.template_program_expression.proofs.Told.{beginning_written, line_written, nothing_written, told_of}
use Rattle.template_program_expression.proofs.evaluating.evaluate.Goals as goal

pub returns-in-Err-told-clause-evaluates : goal.returns-in-Err-told-clause-evaluates
returns-in-Err-told-clause-evaluates g c =
    let says = (user_answers g.E.Callable.Callable.answer g.E.Method.UnknownMethod.answer g.E.Formatter.Formatter.answer g.E.Join.PathJoin.answer) in
    let e = c.args.environment.now in
    let told = c.in-Err-told.ensures in
    let now = told_of says c.in-Ok.expression e c.args.as_json c.undefined_behavior-mode.result c.args.text.now c.args.context c.args.ids.now (Err c.in-Err-told.error)
    c.in-Ok.ensures.here c.in-Ok.ensures.source c.undefined_behavior-mode.ensures (told.finished, told.told, told.exhausted) in
    inr (
      c.in-Ok.ensures.accepted,
      nothing_written (brought_of says e) (registry_of e) c.args.as_json c.args.text.now c.args.context c.args.ids.now
          c.in-Err-told.error _ _ now,
    )

pub returns-in-Ok-write-clause-evaluates : goal.returns-in-Ok-write-clause-evaluates
returns-in-Ok-write-clause-evaluates g c =
    let says = (user_answers g.E.Callable.Callable.answer g.E.Method.UnknownMethod.answer g.E.Formatter.Formatter.answer g.E.Join.PathJoin.answer) in
    let e = c.args.environment.now in
    let told = c.in-Ok-told.ensures in
    let now = told_of says c.in-Ok.expression e c.args.as_json c.undefined_behavior-mode.result c.args.text.now c.args.context c.args.ids.now (Ok c.in-Ok-told.line)
    c.in-Ok.ensures.here c.in-Ok.ensures.source c.undefined_behavior-mode.ensures (told.finished, told.told, told.exhausted) in
    inr (
      c.in-Ok.ensures.accepted,
      line_written (brought_of says e) (registry_of e) c.args.as_json c.args.text.now c.args.context c.args.ids.now
          c.in-Ok-told.line c.as_str.result.now _ _ _ _ now c.as_str.ensures.value c.in-Ok-write.ensures.written c.in-Ok-write.ensures.failures,
    )

pub returns-clause-evaluates : goal.returns-clause-evaluates
returns-clause-evaluates g c =
    let says = (user_answers g.E.Callable.Callable.answer g.E.Method.UnknownMethod.answer g.E.Formatter.Formatter.answer g.E.Join.PathJoin.answer) in
    let e = c.args.environment.now in
    let told = c.in-Ok-told.ensures in
    let now = told_of says c.in-Ok.expression e c.args.as_json c.undefined_behavior-mode.result c.args.text.now c.args.context c.args.ids.now (Ok c.in-Ok-told.line)
    c.in-Ok.ensures.here c.in-Ok.ensures.source c.undefined_behavior-mode.ensures (told.finished, told.told, told.exhausted) in
    inr (
      c.in-Ok.ensures.accepted,
      beginning_written (brought_of says e) (registry_of e) c.args.as_json c.args.text.now c.args.context c.args.ids.now
          c.in-Ok-told.line c.as_str.result.now c.in-Err-write.error _ _ _ _ now c.as_str.ensures.value c.in-Err-write.ensures.written c.in-Err-write.ensures.failures,
    )
