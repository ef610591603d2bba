use Rattle.std.proofs.Common.{◌||◌, ap, ◌∙◌}
use Rattle.std.specs.BTreeSet.{contains_text}
use Rattle.template_compiled.specs.Compiled.{Compiled, standing_of}
use Rattle.template_compiled.specs.Names.{uses}
use Rattle.template_machine_environment.specs.Extras.{user_answers}
use Rattle.template_machine_environment.specs.Reading.{brought_of, registry_of, setting_in}
use Rattle.template_machine_environment.specs.Views.{compiled_in, compiled_of, source_of}
use Rattle.template_machine_environment.proofs.Importing.{source_imports, standing_import}
use Rattle.template_machine_environment.proofs.Naming.{listed}
use Rattle.template_machine_environment.proofs.environment.Environment.context_names.Goals as goal

pub returns-clause-listed : goal.returns-clause-listed
returns-clause-listed g c = λ name.
    let given = c.in_ok-names.names in
    let brought = brought_of (user_answers g.E.Callable.Callable.answer g.E.Method.UnknownMethod.answer g.E.Formatter.Formatter.answer g.E.Join.PathJoin.answer) c.args.self.now in
    let own = c.in_ok-add_undeclared.ensures.added name ∙ ap (λ (k : Compiled). contains_text given name || uses k name) c.get.ensures in
    listed brought c.args.self.now.registry (compiled_in c.args.template.now.compiled) name (contains_text given name) _ _ (c.in_ok-names.ensures.given name) own
    (c.in_ok-add_undeclared-2.ensures.added name)

pub returns-clause-isolated : goal.returns-clause-isolated
returns-clause-isolated g c = λ asks x d agree id n fuel.
    let says = (user_answers g.E.Callable.Callable.answer g.E.Method.UnknownMethod.answer g.E.Formatter.Formatter.answer g.E.Join.PathJoin.answer) in
    let environment = c.args.self.now in
    let template = c.args.template.now in
    c.isolation.ensures (setting_in says environment) asks (standing_import (brought_of says environment) (registry_of environment)) id
    (standing_of (compiled_of template)) (source_imports (source_of template)) x d
    (λ name can_matter. agree name ((returns-clause-listed g c name).1 can_matter)) n fuel
