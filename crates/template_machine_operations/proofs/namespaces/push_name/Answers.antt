use Rattle.std.proofs.Common.{sym, ◌∙◌}
use Rattle.template_machine_operations.proofs.Naming.{name_put}
use Rattle.template_machine_operations.proofs.namespaces.push_name.Goals as goal

pub returns-clause-put : goal.returns-clause-put
returns-clause-put c =
    name_put c.args.entry.now.key c.args.entry.now.value c.args.names.now.items c.push.new.self.items c.in-Some.key c.in_ok-value.value
    (sym c.in-Some.is ∙ c.in_ok-key.ensures.made) c.in_ok-value.ensures.same c.in_ok-push.ensures.items
