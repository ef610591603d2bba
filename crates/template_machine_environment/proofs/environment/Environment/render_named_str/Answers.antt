use Rattle.std.proofs.Common.{ap, inr, string_bytes, subst}
use Rattle.template_machine_surroundings.specs.Rule.{IsEscapeOf}
use Rattle.template_compiled.specs.Sources.{Source}
use Rattle.template_machine_environment.specs.Extras.{user_answers}
use Rattle.template_machine_environment.specs.Reading.{brought_of, registry_of}
use Rattle.template_machine_environment.specs.Views.{compiled_in}
use Rattle.template_machine_environment.specs.declared.environment.Environment.{Environment}
use Rattle.template_machine_environment.proofs.Sourced.{isolates_source, renders_source}
use Rattle.template_machine_environment.proofs.environment.Environment.render_named_str.Goals as goal

pub returns-clause-renders : goal.returns-clause-renders
returns-clause-renders g c =
    let says = (user_answers g.E.Callable.Callable.answer g.E.Method.UnknownMethod.answer g.E.Formatter.Formatter.answer g.E.Join.PathJoin.answer) in
    let template = c.in_ok-template.template in
    let read = c.in_ok-template.ensures in
    let rendered = c.render.ensures in
    let rule = subst (λ (s : Source). IsEscapeOf s.escapes c.args.name.now (compiled_in template.compiled).escape) read.source read.escape in
    inr (
      read.accepted,
      renders_source (brought_of says template.environment.now) (brought_of says c.args.self.now)
          template.environment.now.registry c.args.self.now.registry (compiled_in template.compiled) c.args.name.now _
          c.args.context c.args.ids.now c.render.new.ids (λ text. string_bytes text) c.render.result
          (ap (λ (e : Environment _ _ _ _ _ _). brought_of says e) read.here) (ap registry_of read.here) read.named read.source rule
          (record {
            finished = rendered.finished;
            gives = rendered.text;
            counted = rendered.counted;
            exhausted = rendered.exhausted;
          }),
    )

pub returns-in_err-template-clause-isolated : goal.returns-in_err-template-clause-isolated
returns-in_err-template-clause-isolated g c =
    isolates_source c.isolation.ensures (brought_of (user_answers g.E.Callable.Callable.answer g.E.Method.UnknownMethod.answer g.E.Formatter.Formatter.answer g.E.Join.PathJoin.answer) c.args.self.now)
    c.args.self.now.registry _ c.args.context

pub returns-clause-isolated : goal.returns-clause-isolated
returns-clause-isolated g c =
    isolates_source c.isolation.ensures (brought_of (user_answers g.E.Callable.Callable.answer g.E.Method.UnknownMethod.answer g.E.Formatter.Formatter.answer g.E.Join.PathJoin.answer) c.args.self.now)
    c.args.self.now.registry _ c.args.context
