use Rattle.template_compiler_names_closures.proofs.Alone.{begun}
use Rattle.template_compiler_names_closures.proofs.begin.begin.Goals as goal

pub returns-clause-found : goal.returns-clause-found
returns-clause-found c =
    (begun c.new-names.result c.store.new.self c.store-2.new.self c.new-names.ensures.found c.new-names.ensures.known c.in_ok-store.ensures c.in_ok-store-2.ensures).0

pub returns-clause-known : goal.returns-clause-known
returns-clause-known c =
    (begun c.new-names.result c.store.new.self c.store-2.new.self c.new-names.ensures.found c.new-names.ensures.known c.in_ok-store.ensures c.in_ok-store-2.ensures).1
