use Rattle.std.proofs.Common.{subst}
use Rattle.template_compiled.specs.Compiled.{IsFaithful, standing_of}
use Rattle.template_compiled.specs.Plain.{text_kept}
use Rattle.template_machine_environment.specs.Extras.{user_answers}
use Rattle.template_machine_environment.specs.Reading.{setting_in}
use Rattle.template_machine_environment.specs.Views.{compiled_in, environment_of}
use Rattle.template_machine_environment.proofs.Plain.{plain_render}
use Rattle.template_machine_environment.proofs.laws.plain_renders.Goals as goal

pub returns : goal.returns
returns g c = λ plain id n context.
    let setting = setting_in (user_answers g.E.Callable.Callable.answer g.E.Method.UnknownMethod.answer g.E.Formatter.Formatter.answer g.E.Join.PathJoin.answer) (environment_of c.args.template.now) in
    let compiled = compiled_in c.args.template.now.compiled in
    let faithful = subst IsFaithful c.get.ensures c.instructions-code.ensures.faithful in
    let stands = c.plain_text.ensures compiled.source faithful.usable plain in
    plain_render setting id n (standing_of compiled) (text_kept compiled.source) context stands.tree
