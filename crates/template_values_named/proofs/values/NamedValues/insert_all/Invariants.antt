use Rattle.std.proofs.Common.{◌≡◌}
use Rattle.template_values_named.specs.Named.{with_all_named, pairs_named}
use Rattle.template_values_named.proofs.values.NamedValues.insert_all.Given as goal

-- those so far have their values
abbrev pub invariant-loop-name : goal.invariant-loop-name
invariant-loop-name l = l.self ≡ with_all_named (pairs_named l.yielded) l.fn.self
