-- What is put into the map stands in the list.
use Rattle.std.proofs.Common.{◌∙◌, ap, Some, cond, bytes_eq, string_bytes}
use Rattle.template_values_named.specs.Named.{local_at, pairs_named, with_named}
use Rattle.template_values_named.proofs.Naming.{found_after, found_in, put_among}
use Rattle.template_values_named.proofs.values.NamedValues.insert_owned.Goals as goal

pub returns-clause-put : goal.returns-clause-put
returns-clause-put c =
    ap pairs_named c.in_ok-insert.ensures.entries ∙ put_among c.self.inside.values.entries c.args.name c.args.value
    ∙ ap (with_named (string_bytes c.args.name) c.args.value) c.self.view_is

pub returns-clause-found : goal.returns-clause-found
returns-clause-found c = λ other.
    found_after (string_bytes c.args.name) c.self.inside.values c.insert.new.self (Some c.args.value) c.in_ok-insert.ensures.updates other
    ∙ ap (λ ls. cond (bytes_eq (string_bytes c.args.name) other) (Some c.args.value) (local_at other ls)) c.self.view_is

pub returns-clause-replaced : goal.returns-clause-replaced
returns-clause-replaced c =
    c.in_ok-insert.ensures.old ∙ found_in c.self.inside.values (string_bytes c.args.name) ∙ ap (local_at (string_bytes c.args.name)) c.self.view_is
