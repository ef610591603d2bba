use Rattle.std.proofs.Common.{None}
use Rattle.std.proofs.lemmas.Map.Text.{btree_map_updates_text}
use Rattle.template_machine_environment.proofs.environment.Environment.remove_filter.Goals as goal

pub returns-clause-removed : goal.returns-clause-removed
returns-clause-removed g c =
    btree_map_updates_text c.args.name.now c.args.self.now.extensions.filters c.remove-removed.new.self None c.remove-removed.ensures.updates
