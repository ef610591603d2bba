use Rattle.template_machine_environment_histories.proofs.Deciding as laws
use Rattle.template_machine_environment_histories.proofs.last_change_decides.Goals as goal

pub returns : goal.returns
returns g c = record {
  last = laws.last_decides _ _;
  untouched = laws.untouched_stays _ _;
  one_of_them = laws.touches_or_not _;
}
