-- What goes from the map goes from the list.
use Rattle.std.proofs.Common.{◌∙◌, ap, None, cond, bytes_eq}
use Rattle.std.specs.Map.{remove_entry}
use Rattle.template_values_named.specs.Named.{local_at, pairs_named}
use Rattle.template_values_named.proofs.Naming.{found_after, found_in, removed_among}
use Rattle.template_values_named.proofs.values.NamedValues.remove.Goals as goal

pub returns-clause-removed : goal.returns-clause-removed
returns-clause-removed c =
    ap pairs_named c.remove.ensures.entries ∙ removed_among c.self.inside.values.entries c.args.name.now
    ∙ ap (remove_entry (bytes_eq c.args.name.now)) c.self.view_is

pub returns-clause-found : goal.returns-clause-found
returns-clause-found c = λ other.
    found_after c.args.name.now c.self.inside.values c.remove.new.self None c.remove.ensures.updates other
    ∙ ap (λ ls. cond (bytes_eq c.args.name.now other) None (local_at other ls)) c.self.view_is

pub returns-clause-had : goal.returns-clause-had
returns-clause-had c =
    c.remove.ensures.value ∙ found_in c.self.inside.values c.args.name.now ∙ ap (local_at c.args.name.now) c.self.view_is
