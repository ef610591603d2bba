use Rattle.std.proofs.Common.{◌≡◌, ◌≤◌, ◌-◌, length, take, arith}
use Rattle.template_compiler_names_statements.specs.Stores.{backwards}
use Rattle.template_compiler_names_statements.proofs.Storing.{arguments_end, argument_ends}
use Rattle.template_compiler_names_statements.proofs.targets.bind_arguments.Goals as goal

pub loop-at-preserved : goal.loop-at-preserved
loop-at-preserved c =
    let xs = c.args.arguments.now in
    let ds = c.args.defaults.now in
    let inside : c.loop-at.at ≤ length xs = c.loop-at.invariant.within in
    let fits : c.loop-at.given ≤ length ds = c.loop-at.invariant.given in
    let fewer : c.saturating_sub-given.result ≡ c.loop-at.given - 1 = c.saturating_sub-given.ensures in
    let tested = c.loop-at-test.true in
    record {
      within = omega (arith, inside);
      given = omega (arith, fits, fewer);
      ends = argument_ends xs ds c.loop-at.at (c.loop-at.at - 1) c.loop-at.given c.saturating_sub-given.result c.index-arguments-at.result
          c.loop-at.names c.use_last.new.names c.bind_target.new.names (omega (arith, tested)) (omega (arith, inside, tested)) fits fewer
          c.index-arguments-at.is c.loop-at.invariant.ends c.in_ok-use_last.ensures c.in_ok-bind_target.ensures;
    }

pub returns : goal.returns
returns c =
    arguments_end c.args.arguments.now (backwards (take c.loop-at.given c.args.defaults.now)) c.loop-at.at c.loop-at.names
    (omega (arith, c.loop-at-test.false)) c.loop-at.invariant.ends
