use Rattle.std.proofs.Common.{None}
use Rattle.template_machine_environment.proofs.Brought.{none_there}
use Rattle.template_machine_environment.proofs.extensions.Extensions.new.Goals as goal

pub returns : goal.returns
returns g c = λ i. record {
  filters = λ name. none_there c.new.result c.new.ensures.empty name i;
  tests = λ name. none_there c.new-2.result c.new-2.ensures.empty name i;
  functions = c.new-3.ensures.items i;
  method = None;
  formatter = None;
  join = None;
  rule = None;
}
