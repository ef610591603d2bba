use Rattle.std.proofs.Common.{ap}
use Rattle.std.proofs.lemmas.Result.{on_err_weaker}
use Rattle.template_machine_environment.specs.Extras.{Extras}
use Rattle.template_machine_environment.specs.Reading.{IsUnchanged, extras_of}
use Rattle.template_builtins_callables.specs.declared.builtin.Kind.TheVariants as kinds
use Rattle.template_builtins.proofs.Partial.{keeps_where_refused}
use Rattle.template_builtins.proofs.installing.+add_tests.Goals as goal

pub returns-clause-partial : goal.returns-clause-partial
returns-clause-partial g t c =
    keeps_where_refused kinds.Test g.E.Callable.From.from_gives c.add_test.result c.args.table.now c.in-Some.row.now c.in-Some.rows.now
    (extras_of c.args.environment.now).tests (extras_of c.add_tests.new.environment).tests (extras_of c.add_test.new.self).tests
    c.in-Some.ensures.cases.0 c.in_ok-add_tests.ensures.added
    (on_err_weaker c.add_test.result (λ (u : IsUnchanged c.add_tests.new.environment c.add_test.new.self).
    ap (λ (x : Extras _ _ _ _ _). x.tests) u.extras) c.add_test.ensures.unchanged)
