-- The list has what the map has.
use Rattle.std.proofs.Common.{◌∙◌, ap}
use Rattle.template_values_named.specs.Named.{local_at}
use Rattle.template_values_named.proofs.Naming.{found_in}
use Rattle.template_values_named.proofs.values.NamedValues.get.Goals as goal

pub returns : goal.returns
returns c = c.get.ensures.value ∙ found_in c.self.inside.values c.args.name.now ∙ ap (local_at c.args.name.now) c.self.view_is
