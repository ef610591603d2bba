use Rattle.template_compiler_names_needed.proofs.Taking.{one_name}
use Rattle.template_compiler_names_needed.proofs.imported.put_name.Goals as goal

pub returns : goal.returns
returns c = one_name c.args.names.now.items c.push.new.self.items c.args.name c.in_ok-push.ensures.items
