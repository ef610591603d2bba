use Rattle.template_compiler_generator.proofs.Alike.{numbers_run_alike}
use Rattle.template_compiler_generator.proofs.call_numbers.numbers_run_alike.Goals as goal

pub returns : goal.returns
returns c = numbers_run_alike
