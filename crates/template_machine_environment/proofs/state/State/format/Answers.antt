-- the machine has the state's name, and what its environment was given and keeps to
use Rattle.std.proofs.Common.{◌≡◌, ◌∙◌, Err, String, string_bytes, subst}
use Rattle.std.specs.declared.alloc.Global.{Global}
use Rattle.template_machine_calls.specs.Formatted.{outside}
use Rattle.template_machine_calls.specs.Hosted.{around_under}
use Rattle.template_machine_calls.specs.Left.{Replied}
use Rattle.template_machine_meaning.specs.Keys.{Around}
use Rattle.template_machine_meaning.specs.Surroundings.{text_reply, written_reply}
use Rattle.template_machine_environment.specs.Extras.{user_answers}
use Rattle.template_machine_environment.specs.Reading.{callables_of}
use Rattle.template_machine_environment.specs.States.{around_in}
use Rattle.template_machine_environment.proofs.Told.{printed_stopped}
use Rattle.template_machine_environment.proofs.state.State.format.Goals as goal

pub returns-in-Ok : goal.returns-in-Ok
returns-in-Ok g c =
    let self = c.args.self.now in
    let environment = self.environment.now in
    let says = (user_answers g.E.Callable.Callable.answer g.E.Method.UnknownMethod.answer g.E.Formatter.Formatter.answer g.E.Join.PathJoin.answer) in
    let rules = c.rules-rules.ensures in
    let named = rules.name ∙ c.own_name.ensures in
    let there : Around = around_in says self in
    let around : around_under c.rules-rules.result (callables_of says environment) there ≡ there =
    λ i. record there { name = named i; limit = rules.limit i; undefined = rules.undefined i } in
    subst (λ (a : Around). written_reply a (outside self.machine) c.args.value.now ≡ text_reply (outside self.machine) (string_bytes c.in-Ok.text)) around (c.in-Ok.ensures there)

pub returns-in-Err : goal.returns-in-Err
returns-in-Err g c =
    let self = c.args.self.now in
    let environment = self.environment.now in
    let says = (user_answers g.E.Callable.Callable.answer g.E.Method.UnknownMethod.answer g.E.Formatter.Formatter.answer g.E.Join.PathJoin.answer) in
    let rules = c.rules-rules.ensures in
    let named = rules.name ∙ c.own_name.ensures in
    let there : Around = around_in says self in
    let around : around_under c.rules-rules.result (callables_of says environment) there ≡ there =
    λ i. record there { name = named i; limit = rules.limit i; undefined = rules.undefined i } in
    printed_stopped (written_reply there (outside self.machine) c.args.value.now) (outside self.machine) c.in-Err.stop c.into_error.result c.into_error.ensures
    (subst (λ (a : Around). Replied {X = String Global} (λ text after. text_reply after (string_bytes text)) (written_reply a (outside self.machine) c.args.value.now) (Err c.in-Err.stop) (outside self.machine))
    around (c.in-Err.ensures there))
