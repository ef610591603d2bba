-- What is around a run that keeps to rules, and in which a user's own answers so.
use Rattle.template_callables.specs.Callables.{Callables}
use Rattle.template_machine_meaning.specs.Keys.{Around}
use Rattle.template_machine_meaning.specs.Surroundings.{Programs}
use Rattle.template_machine_calls.specs.declared.rules.Rules.{Rules}

abbrev pub around_under : Rules → Callables → Around → Around
around_under rules callables a = record a { name = rules.name.now; callables = callables; limit = rules.limit; undefined = rules.undefined }

abbrev pub hosted : Rules → Callables → Programs → Programs
hosted rules callables program = record program { around = around_under rules callables program.around }
