use Rattle.std.proofs.Common.{refl}
use Rattle.template_machine_environment.specs.Reading.{extras_of}
use Rattle.template_machine_environment.proofs.Brought.{on_refusal}
use Rattle.template_machine_environment.proofs.environment.Environment.add_test.Goals as goal

pub returns-clause-unchanged : goal.returns-clause-unchanged
returns-clause-unchanged g c =
    on_refusal c.put.result (λ stays. record {
      sources = λ name. refl;
      settings = refl;
      extras = λ i. record (extras_of c.args.self.now) { tests = λ name. stays name i };
    }) c.put.ensures.stays
