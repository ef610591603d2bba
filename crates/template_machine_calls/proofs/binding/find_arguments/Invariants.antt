-- The arguments that are found are those of the names so far.
use Rattle.template_machine_calls.specs.Binding.{keywords_in}
use Rattle.template_machine_calls.proofs.Handing.{SoFar}
use Rattle.template_machine_calls.proofs.binding.find_arguments.Given as goal

abbrev pub invariant-loop-i : goal.invariant-loop-i
invariant-loop-i l = SoFar l.names l.places (keywords_in l.keywords) l.i l.found.items
