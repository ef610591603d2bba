use Rattle.std.proofs.Common.{◌∙◌, sym, ap, string_bytes}
use Rattle.template_values_named.specs.Named.{PutsSome, pairs_named, with_named}
use Rattle.template_values_named.proofs.Naming.{all_next, on_err, some_put}
use Rattle.template_values_named.proofs.values.NamedValues.insert_all.Goals as goal

-- one more
pub loop-name-preserved : goal.loop-name-preserved
loop-name-preserved c =
    c.in_ok-put.ensures.put ∙ ap (with_named (string_bytes c.in-Some.name) c.in-Some.value) c.loop-name.invariant
    ∙ sym (all_next c.loop-name.yielded c.in-Some.name c.in-Some.value c.args.self.now)

-- those so far, where one more is refused
pub returns-in_err-put-clause-partial : goal.returns-in_err-put-clause-partial
returns-in_err-put-clause-partial c =
    on_err (PutsSome (pairs_named c.args.values.items) c.args.self.now c.put.new.self) c.from_residual.result
    (some_put c.args.values.items c.loop-name.yielded c.into_iter-name-iterator.result c.loop-name.name-iterator c.args.self.now c.put.new.self
    c.into_iter-name-iterator.ensures.into_iter_gives.0 c.loop-name.yielded_by (c.in_err-put.ensures.unchanged ∙ c.loop-name.invariant))
