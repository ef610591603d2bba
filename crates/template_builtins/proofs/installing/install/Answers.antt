use Rattle.template_machine_environment.specs.Reading.{extras_of}
use Rattle.template_builtins_callables.specs.Builtins.{filter_named, test_named}
use Rattle.template_builtins.proofs.Added.{installed}
use Rattle.template_builtins.proofs.Partial.{anyhow, some_filters, some_tests}
use Rattle.template_builtins.proofs.installing.install.Goals as goal

pub returns-clause-installed : goal.returns-clause-installed
unfolding filter_named test_named
returns-clause-installed g c =
    installed g.E.Callable.From.from_gives g.E.Method.From.from_gives c.from.result (extras_of c.args.environment.now)
    (extras_of c.add_filters.new.environment) (extras_of c.add_tests.new.environment) (extras_of c.set_unknown_method_callback.new.self)
    c.in_ok-add_filters.ensures.added c.in_ok-add_filters.ensures.others c.in_ok-add_tests.ensures.added c.in_ok-add_tests.ensures.others
    (record { alloc = c.args.alloc }, c.from.ensures) c.set_unknown_method_callback.ensures.extras

pub returns-in_err-add_filters-clause-partial : goal.returns-in_err-add_filters-clause-partial
unfolding filter_named
returns-in_err-add_filters-clause-partial g c =
    anyhow c.from_residual.result (some_filters (extras_of c.args.environment.now) (extras_of c.add_filters.new.environment)
    c.in_err-add_filters.ensures.partial c.in_err-add_filters.ensures.others)

pub returns-in_err-add_tests-clause-partial : goal.returns-in_err-add_tests-clause-partial
unfolding filter_named test_named
returns-in_err-add_tests-clause-partial g c =
    anyhow c.from_residual-in_err-add_tests.result (some_tests g.E.Callable.From.from_gives (extras_of c.args.environment.now)
    (extras_of c.add_filters.new.environment) (extras_of c.add_tests.new.environment) c.in_ok-add_filters.ensures.added
    c.in_ok-add_filters.ensures.others c.in_err-add_tests.ensures.partial c.in_err-add_tests.ensures.others)
